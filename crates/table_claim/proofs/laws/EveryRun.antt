-- The block that a list of lent calls leaves: its state, its soundness, what is read from it; and the history by what the host got.
use Rattle.std.specs.Prelude.{ℕ, ◌<◌, ◌≡◌, ◌↔◌, Bool, true, false, List, [], ◌∷◌, map, ℤ, pos, eqb}
use Rattle.std.proofs.Math.Path.{refl, ap}
use Rattle.std.proofs.Common.{sym, subst, ◌∙◌}
use Rattle.std.proofs.Math.ListN.{length, length-map}
use Rattle.graph.specs.Word.{to_nat}
use Rattle.graph.specs.Basic.{below}
use Rattle.graph.specs.State.{State, vertex_count, edge_count, up}
use Rattle.graph.specs.Open.{Edge, flag_in, graph_of, blank_state, opened, open_refusal}
use Rattle.graph.specs.Opening.{fits, opened_words, edges_from}
use Rattle.graph.specs.Layout.{state_of, sized, block_sound, memory_refusal, list_refusal}
use Rattle.graph.specs.Form.{Formed}
use Rattle.graph.specs.laws.Members.{by-test, clash, length-below}
use Rattle.graph.specs.laws.Opened.{accepted}
use Rattle.graph.specs.inner.Opened.{OpeningAccepted}
use Rattle.open_graph.specs.laws.OpenedBlock.{opened-length, opened-state, opened-formed, opened-block}
use Rattle.open_graph.specs.laws.Join.{numbers-plain}
use Rattle.memory_tests.specs.laws.Whole.{formed-sized, formed-sound}
use Rattle.answers.specs.Theorems.{same_answer}
use Rattle.answers.specs.Outcome.{Answer}
use Rattle.answers.specs.Outcome.{Done}
use Rattle.answers.specs.Answer.{says}
use Rattle.calls.specs.Refuse.{unless}
use Rattle.calls.specs.Calls.{growth_table, max_update_length}
use Rattle.dual_module.specs.Called.{LengthCalled}
use Rattle.dual_module_read.specs.Read.{ListRead, TableRead}
use Rattle.reachable.specs.Reachable.{after}
use Rattle.reachable.specs.Past.{PastInvariant}
use Rattle.reachable.specs.laws.past.Calls.{opened-past}
use Rattle.distance.specs.Table.{table_from_distances}
use Rattle.distance.specs.Feasible.{Feasible}
use Rattle.distance.specs.Nearest.{ReachesVirtual}
use Rattle.opened_graph.specs.OpenedGraph.{opened_graph, with_weights, SameVertices, PositiveWeights}
use Rattle.table_theorem.specs.Answers.{accepted as is_accepted, is_done}
use Rattle.table_theorem.specs.History.{History, dual_at, duals_of, recorded, history_from}
use Rattle.table_theorem.specs.Runs.{Run, end, SameNodes}
use Rattle.table_theorem.proofs.laws.Append.{history-append}
use Rattle.table_theorem.proofs.laws.Runs.{end-matches, end-table, end-feasible, tables-tell-duals}
use Rattle.table_claim.specs.Lent.{LentCall, lent_open, lent_defect, lent_blossom, lent_state, lent_prepare, lent_length, lent_grow, lent_table, lent_advance, lent_contacts, lent_vertex, lent_clear, lent_renew, lent_prepare_all, lent_group, lent_round, lent_remove, Returned, Exchange, lent_sheet, lent_node, lent_gap, lent_weights}
use Rattle.table_claim.specs.Run.{Sizes, scratch_fits, list_fits, calls_of, fed_one, fed, or_refused, returned, returned_from, answer_in, recorded_by, history_by, LentRun, run_sizes, run_start, run_calls, lent_history, WithoutBlossoms, trial_fits, group_fits, pairs_fit}
use Rattle.table_claim.proofs.laws.Steps.{Whole, whole-sound, memory-fits, list-fits, Follows, follows-whole, steps-follow, steps-return}

-- ---- lists

-- numbers that make the same words are the same
numbers-same : (xs ys : List ℕ) → map pos xs ≡ map pos ys → xs ≡ ys
numbers-same xs ys e = sym (numbers-plain xs) ∙ ap (map to_nat) e ∙ numbers-plain ys

-- a list that is read with the answer done was not refused
done-accepted : {b list list' filled : List ℤ} {k : ℕ} → ListRead b list list' filled k Done → list' ≡ filled
unfolding unless says is_accepted
done-accepted {k = k} p =
    by-test (eqb k 0)
    (λ e. rw e at p.listed)
    (λ e. clash true refl (ap is_accepted (rw e at (same_answer p.answer))))

-- ---- the history by what the host got

recorded-refused : {fits : Bool} → fits ≡ false → (a : Answer) → (is_accepted (or_refused fits a) ≡ false) × (is_done (or_refused fits a) ≡ false)
unfolding is_accepted is_done
recorded-refused e a = rw e (refl, refl)

-- a call that is answered as the definitions answer: it is recorded as they record it
one-recorded : (z : Sizes) (c : State) (h : History) (k : LentCall) → recorded_by c h k (answer_in (returned z c k)) ≡ history_from c h (fed_one z k)
unfolding recorded_by answer_in returned fed_one history_from recorded
one-recorded z c h (lent_open t v e n l edges virtuals) = refl
one-recorded z c h (lent_defect t v x) = by-test (scratch_fits z t) (λ e. rw e refl) (λ e. rw ((recorded-refused e _).0, e) refl)
one-recorded z c h (lent_blossom t x circle) = by-test (scratch_fits z t) (λ e. rw e refl) (λ e. rw e refl)
one-recorded z c h (lent_state t n x) = by-test (scratch_fits z t) (λ e. rw e refl) (λ e. rw ((recorded-refused e _).0, e) refl)
one-recorded z c h (lent_prepare t n d) = by-test (scratch_fits z t) (λ e. rw e refl) (λ e. rw e refl)
one-recorded z c h (lent_weights t pairs) = by-test (pairs_fit z t pairs) (λ e. rw e refl) (λ e. rw e refl)
one-recorded z c h (lent_remove t n) = by-test (scratch_fits z t) (λ e. rw e refl) (λ e. rw e refl)
one-recorded z c h (lent_node t n) = refl
one-recorded z c h (lent_gap t e) = refl
one-recorded z c h (lent_length t n d first) = by-test (scratch_fits z t) (λ e. rw e refl) (λ e. rw e refl)
one-recorded z c h (lent_grow t n l) = by-test (scratch_fits z t) (λ e. rw e refl) (λ e. rw ((recorded-refused e _).1, e) refl)
one-recorded z c h (lent_table t list) = by-test (list_fits z 2 t list) (λ e. rw e refl) (λ e. rw e refl)
one-recorded z c h (lent_advance t n) = by-test (scratch_fits z t) (λ e. rw e refl) (λ e. rw ((recorded-refused e _).1, e) refl)
one-recorded z c h (lent_contacts t list) = by-test (list_fits z 3 t list) (λ e. rw e refl) (λ e. rw e refl)
one-recorded z c h (lent_vertex t n) = by-test (scratch_fits z t) (λ e. rw e refl) (λ e. rw e refl)
one-recorded z c h (lent_clear t) = by-test (scratch_fits z t) (λ e. rw e refl) (λ e. rw ((recorded-refused e _).0, e) refl)
one-recorded z c h (lent_sheet t v e n l edges sheet virtuals) = refl
one-recorded z c h lent_renew = refl
one-recorded z c h (lent_prepare_all s t) = by-test (trial_fits z s t) (λ e. rw e refl) (λ e. rw e refl)
one-recorded z c h (lent_group s t entries) = by-test (group_fits z s t entries) (λ e. rw e refl) (λ e. rw e refl)
one-recorded z c h (lent_round s t l) = by-test (trial_fits z s t) (λ e. rw e refl) (λ e. rw ((recorded-refused e _).1, e) refl)

heads : {x y : Returned} {xs ys : List Returned} → ◌≡◌ {A = List Returned} (x ∷ xs) (y ∷ ys) → (x ≡ y) × (xs ≡ ys)
heads e = (cc, cc)

answers-history : (z : Sizes) (c : State) (h : History) (xs : List Exchange) → map (λ (x : Exchange). x.got) xs ≡ returned_from z c (calls_of xs)
    → history_by z c h xs ≡ history_from c h (fed z (calls_of xs))
unfolding returned_from history_by fed history_from
answers-history z c h [] e = refl
answers-history z c h (x ∷ xs) e =
    let p = heads e in
    rw (p.0, one-recorded z c h x.call, history-append c h (fed_one z x.call) (fed z (calls_of xs)))
    (answers-history z (after c (fed_one z x.call)) (history_from c h (fed_one z x.call)) xs p.1)

-- ---- the opening

module _ {v : ℕ} {edges : List Edge} {virtuals : List ℕ} (r : LentRun v edges virtuals) where
  -- the edges as they are opened
  abbrev given : List Edge
  given = edges_from r.edge_words

  abbrev pub fit : Bool
  fit = fits r.before r.scratch v r.edge_number r.node_limit r.store_limit

  pub opening-accepted : open_refusal v r.edge_number r.node_limit r.store_limit given virtuals fit ≡ 0
  opening-accepted = rw r.virtuals-are at (sym r.opening-is.0)

  passed : OpeningAccepted v r.edge_number r.node_limit r.store_limit given virtuals fit
  passed = accepted v r.edge_number r.node_limit r.store_limit given virtuals fit opening-accepted

  first-words : r.first ≡ map pos (opened_words v r.edge_number r.node_limit r.store_limit given virtuals)
  first-words =
      rw r.virtuals-are at r.opening-is.1
      ∙ opened-block v r.edge_number r.node_limit r.store_limit given virtuals fit r.before opening-accepted

  pub first-state : state_of r.first ≡ opened v r.node_limit r.store_limit given virtuals
  first-state = ap state_of first-words ∙ opened-state v r.edge_number r.node_limit r.store_limit given virtuals fit passed

  opened-edges : edge_count (run_start r) ≡ r.edge_number
  unfolding opened blank_state graph_of
  opened-edges = length-map given (λ (e : Edge). e.weight) ∙ passed.count

  opened-vertices : vertex_count (run_start r) ≡ v
  unfolding opened blank_state graph_of
  opened-vertices = length-map (below v) (flag_in virtuals) ∙ length-below v

  pub first-whole : Whole (run_sizes r) r.first
  first-whole = record {
    formed = subst Formed (sym first-words) (opened-formed v r.edge_number r.node_limit r.store_limit given virtuals fit passed);
    log = λ n. run_start r;
    good =
        subst (PastInvariant (λ n. run_start r)) (sym first-state)
        (opened-past v r.edge_number r.node_limit r.store_limit given virtuals fit opening-accepted);
    vertices-are = ap (λ (c : State). vertex_count c) first-state ∙ opened-vertices;
    edges_are = ap (λ (c : State). edge_count c) first-state ∙ opened-edges;
    nodes-are = ap (λ (c : State). c.node_limit) first-state ∙ unfold opened blank_state in refl;
    size = ap length first-words ∙ opened-length v r.edge_number r.node_limit r.store_limit given virtuals fit passed;
  }

  -- ---- the last block

  last-follows : Follows r.first (run_calls r) r.last
  last-follows = steps-follow first-whole r.steps

  pub last-whole : Whole (run_sizes r) r.last
  last-whole = follows-whole first-whole last-follows

  -- its state is the one that the definitions give
  pub last-state : state_of r.last ≡ after (run_start r) (run_calls r)
  last-state = last-follows.state ∙ ap (λ (c : State). after c (run_calls r)) first-state

  pub last-sized : sized r.last ≡ true
  last-sized = formed-sized r.last last-whole.formed

  pub last-sound : block_sound r.last ≡ true
  last-sound = formed-sound r.last last-whole.formed (whole-sound last-whole)

  -- what the host got
  pub last-returned : map (λ (x : Exchange). x.got) r.exchanges ≡ returned_from (run_sizes r) (run_start r) (calls_of r.exchanges)
  last-returned = steps-return first-whole r.steps ∙ ap (λ (c : State). returned_from (run_sizes r) c (calls_of r.exchanges)) first-state

  pub list-answer : (m : ℕ) (t list list' filled : List ℤ) (a : Answer) → ListRead r.last list list' filled (list_refusal r.last t (length list) m) a
      → a ≡ or_refused (list_fits (run_sizes r) m t list) Done
  unfolding unless says
  list-answer m t list list' filled a p =
      let k = list-fits last-whole t list m in
      by-test (list_fits (run_sizes r) m t list) (λ e. same_answer p.answer ∙ rw (k, e) refl) (λ e. same_answer p.answer ∙ rw (k, e) refl)

  -- so the history by the answers that it got is the one by the definitions' answers
  pub last-history : history_by (run_sizes r) (run_start r) [] r.exchanges ≡ lent_history r
  last-history = answers-history (run_sizes r) (run_start r) [] r.exchanges last-returned

  -- ---- without blossoms

  module _ (h : WithoutBlossoms r) where
    -- the run of the definitions
    abbrev pub as_run : Run v edges virtuals
    as_run =
        record {
          edge_number = r.edge_number;
          node_limit = r.node_limit;
          store_limit = r.store_limit;
          fits = fit;
          given = given;
          opening = opening-accepted;
          calls = run_calls r;
          without_blossoms = h;
          present = ap (λ (c : State). with_weights given c.graph.weight) (sym last-state) ∙ r.present;
        }

    -- a growing length that is told is that of the definitions
    pub last-length : (t b' t' : List ℤ) (n : ℕ) (a : Answer) → scratch_fits (run_sizes r) t ≡ true → LengthCalled r.last t n up true b' t' a
        → a ≡ (max_update_length (end as_run) n up true).answer
    unfolding unless
    last-length t b' t' n a fits p =
        let m : memory_refusal r.last t ≡ 0 = memory-fits last-whole t ∙ rw fits refl in
        rw m at (same_answer p.block.answer) ∙ ap (λ (c : State). (max_update_length c n up true).answer) last-state

    pub last-nodes : SameNodes (state_of r.last) (lent_history r)
    last-nodes = subst (λ c. SameNodes c (lent_history r)) (sym last-state) (end-matches as_run).nodes

    pub last-feasible : PositiveWeights edges → Feasible (opened_graph v edges virtuals) (duals_of v (lent_history r))
    last-feasible positive = end-feasible as_run positive

    table-words : (t list list' : List ℤ) → TableRead r.last t list list' Done → list' ≡ map pos (growth_table (end as_run))
    table-words t list list' p = done-accepted p ∙ ap (λ (c : State). map pos (growth_table c)) last-state

    pub last-table : PositiveWeights edges → (t list list' : List ℤ) → TableRead r.last t list list' Done
        → list' ≡ map pos (table_from_distances (opened_graph v edges virtuals) (duals_of v (lent_history r)))
    last-table positive t list list' p = table-words t list list' p ∙ ap (map pos) (end-table as_run positive)

-- ---- two runs on one graph

module _ {v : ℕ} {edges : List Edge} {virtuals others : List ℕ} (same : SameVertices v virtuals others)
    (positive : PositiveWeights edges) (reach : (a : ℕ) → a < v → ReachesVirtual (opened_graph v edges virtuals) a)
    (r : LentRun v edges virtuals) (s : LentRun v edges others) (hr : WithoutBlossoms r) (hs : WithoutBlossoms s) where
  pub tables-read-tell : (t list list' u other other' : List ℤ) → TableRead r.last t list list' Done → TableRead s.last u other other' Done
      → (list' ≡ other') ↔ ((a : ℕ) → a < v → dual_at (lent_history r) a ≡ dual_at (lent_history s) a)
  tables-read-tell t list list' u other other' p q =
      let tell = tables-tell-duals same positive (as_run r hr) (as_run s hs) reach in (
        λ e. tell.0
            (numbers-same (growth_table (end (as_run r hr))) (growth_table (end (as_run s hs)))
            (sym (table-words r hr t list list' p) ∙ e ∙ table-words s hs u other other' q)),
        λ f. table-words r hr t list list' p ∙ ap (map pos) (tell.1 f) ∙ sym (table-words s hs u other other' q),
      )
