-- A node that is read is the one of the history.
use Rattle.std.specs.Prelude.{ℕ, ◌≤◌, ◌≡◌, Bool, false, List, ℤ, ltb, length, get_or, if◌then◌else◌}
use Rattle.std.proofs.Math.Decide.{dec_lt}
use Rattle.std.proofs.Common.{arith, sym, subst, ◌∙◌}
use Rattle.std.proofs.Math.Path.{refl, ap}
use Rattle.std.proofs.Math.Bool.{true}
use Rattle.std.proofs.Math.IntN.{pos}
use borrow.Author.Tests.{le-leb, lt-leb, le-ltb, lt-ltb, ltb-true}
use Rattle.graph.specs.State.{State, Graph, node_count, dual_of}
use Rattle.graph.specs.Sound.{is_removed}
use Rattle.graph.specs.Open.{Edge, graph_of}
use Rattle.graph.specs.Layout.{state_of}
use Rattle.graph.specs.laws.Members.{by-test, clash}
use Rattle.c_api.specs.Words.{Tells, answer_numbers}
use Rattle.c_api.specs.laws.Words.{tells_as}
use Rattle.calls.specs.Refuse.{bad_node}
use Rattle.dual_module_node.specs.Outcome.{NodeRead}
use Rattle.dual_module_node.specs.Outcome.{Defect, Blossom, Refused}
use Rattle.dual_module_node.specs.ReadNode.{node_told, read_node, ReadNodeCalled}
use Rattle.c_api_node.specs.Told.{read_node_numbers, ReadNodeTold}
use Rattle.table_theorem.specs.History.{History, entry_at, natural}
use Rattle.table_theorem.proofs.laws.History.{Matches}
use Rattle.table_theorem.proofs.laws.Runs.{end-matches}
use Rattle.table_claim.specs.Run.{scratch_fits, LentRun, run_sizes, lent_history, WithoutBlossoms}
use Rattle.table_claim.specs.Hosted.{HostRun, host_sizes, host_history, BlossomsRefused}
use Rattle.table_claim.specs.NodeRecorded.{recorded_node, SaysDefect}
use Rattle.table_claim.proofs.laws.Steps.{memory-fits, node-answered}
use Rattle.table_claim.proofs.laws.EveryRun.{last-whole, last-state, as_run}
use Rattle.table_claim.proofs.laws.Hosted.{lent_of}
use Rattle.table_claim.proofs.laws.Demand3.{history-made, refused-made}

-- a node is told, and its dual variable
unfoldable is_told : NodeRead → Bool
is_told (Defect v x p y) = true
is_told (Blossom m x p y) = true
is_told (Refused k) = false

unfoldable dual_told : NodeRead → ℕ
dual_told (Defect v x p y) = y
dual_told (Blossom m x p y) = y
dual_told (Refused k) = 0

-- of a state that matches its history
matching-read : (c : State) (h : History) → Matches c h → (n : ℕ) → read_node c n ≡ recorded_node h n
unfolding read_node node_told recorded_node bad_node is_removed natural
matching-read c h m n =
    elim (dec_lt n (node_count c)) [
      | yes b ↦
          let a = m.nodes.agrees n b in
          let l = lt-ltb n (length h) (omega (arith, b, m.nodes.count)) in
          rw (lt-leb (node_count c) n b, l, a.vertex, a.grow_state, m.outer n b, ← a.dual) refl
      | no b ↦ rw (le-leb (node_count c) n (omega arith), le-ltb n (length h) (omega (arith, b, m.nodes.count))) refl
    ]

module _ {v : ℕ} {edges : List Edge} {virtuals : List ℕ} (r : LentRun v edges virtuals) (h : WithoutBlossoms r) where
  last-matches : Matches (state_of r.last) (lent_history r)
  last-matches = subst (λ c. Matches c (lent_history r)) (sym (last-state r)) (end-matches (as_run r h))

  pub node-recorded : (t : List ℤ) (n : ℕ) (a : NodeRead) → ReadNodeCalled r.last t n a
      → a ≡ (if scratch_fits (run_sizes r) t then recorded_node (lent_history r) n else Refused 1)
  node-recorded t n a p =
      node-answered (scratch_fits (run_sizes r) t) (state_of r.last) n (memory-fits (last-whole r) t) p
      ∙ ap (λ x. if scratch_fits (run_sizes r) t then x else Refused 1)
      (matching-read (state_of r.last) (lent_history r) last-matches n)

  pub dual-recorded : (t : List ℤ) (n vertex x p y : ℕ) → ReadNodeCalled r.last t n (Defect vertex x p y)
      → pos y ≡ (entry_at (lent_history r) n).y
  unfolding recorded_node is_told dual_told natural
  dual-recorded t n vertex x p y q =
      let e = node-recorded t n (Defect vertex x p y) q in
      by-test (scratch_fits (run_sizes r) t)
      (λ f. by-test (ltb n (length (lent_history r)))
      (λ g.
      let b = ltb-true n (length (lent_history r)) g in
      let a = last-matches.nodes.agrees n (omega (arith, b, last-matches.nodes.count)) in
      let z : y ≡ natural (entry_at (lent_history r) n).y = ap dual_told (rw (f, g) at e) in
      let d : y ≡ dual_of (state_of r.last) n = rw (← a.dual) at z in
      ap pos d ∙ a.dual)
      (λ g. clash true refl (ap is_told (rw (f, g) at e))))
      (λ f. clash true refl (ap is_told (rw f at e)))

-- ---- exported calls

module _ {v : ℕ} {edges : List Edge} {virtuals : List ℕ} (r : HostRun v edges virtuals) (h : BlossomsRefused r)
    (t : List ℤ) (n : ℕ) {list list' : List ℕ} {k : ℕ} where
  pub told-recorded : ReadNodeTold r.last t n list list' k → 5 ≤ length list
      → Tells (read_node_numbers (if scratch_fits (host_sizes r) t then recorded_node (host_history r) n else Refused 1))
      list list' k
  told-recorded p room =
      let s = p.told room in
      let e = node-recorded (lent_of r) (refused-made r h) t n s.answer s.says in
      let f = ap (λ (x : History). if scratch_fits (host_sizes r) t then recorded_node x n else Refused 1) (history-made r) in
      tells_as s.tells (ap read_node_numbers (e ∙ f))

  by-case : (a : NodeRead) → ReadNodeCalled r.last t n a → Tells (read_node_numbers a) list list' k → get_or list' 0 0 ≡ 15
      → pos (get_or list' 4 0) ≡ (entry_at (host_history r) n).y
  unfolding read_node_numbers answer_numbers
  by-case (Defect vertex x p y) s u f =
      let d = dual-recorded (lent_of r) (refused-made r h) t n vertex x p y s in
      rw u.listed (d ∙ ap (λ (x : History). (entry_at x n).y) (history-made r))
  by-case (Blossom m x p y) s u f = absurd (omega (arith, rw u.listed at f))
  by-case (Refused j) s u f = absurd (omega (arith, rw u.listed at f))

  pub told-dual-recorded : ReadNodeTold r.last t n list list' k → SaysDefect list list'
      → pos (get_or list' 4 0) ≡ (entry_at (host_history r) n).y
  told-dual-recorded p d = let s = p.told d.room in by-case s.answer s.says s.tells d.first-is
