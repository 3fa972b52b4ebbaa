-- A record that asks for a call: what the call on the part of the block that is opened leaves of the whole.
use Rattle.std.specs.Prelude.{ℕ, zero, suc, ◌-◌, ◌≤◌, ◌≡◌, Bool, true, List, [], ◌∷◌, ◌++◌, ℤ, pos, length, take, drop}
use Rattle.std.proofs.Common.{arith, sym, ap, ◌∙◌, take-append-drop, take_at, length-take-le}
use Rattle.std.proofs.Math.Path.{refl}
use Rattle.graph.specs.State.{State}
use Rattle.graph.specs.Open.{opened}
use Rattle.graph.specs.Layout.{block_length, scratch_length, scratch_size, state_of}
use Rattle.graph.specs.Form.{Formed}
use Rattle.graph.specs.Sound.{sound, sound_removed, state_sound}
use Rattle.graph.specs.laws.State.{and_left}
use Rattle.pass.specs.Scratch.{zero_scratch}
use Rattle.answers.specs.Outcome.{Answer}
use Rattle.calls.specs.Calls.{Call, growth_table, contacts, growths, touching, answered, respond}
use Rattle.reachable.specs.Reachable.{after, Reachable}
use Rattle.reachable.specs.Theorems.{reachable-sound}
use Rattle.records.specs.Record.{record_of}
use Rattle.records.specs.Lines.{line, words_of, lines_for}
use Rattle.records.specs.Write.{LinesPut}
use Rattle.records.specs.declared.setup.Setup.{Setup}
use Rattle.record_call.specs.laws.Asking.{call-kind}
use Rattle.record_call.specs.Call.{call_of, call_in, OfKind, Opened, Answers}
use Rattle.record_step.specs.Standing.{part_of, Runs, Asked}
use Rattle.records.specs.laws.Opening.{small_of}

-- ---- an opened block

-- one call more
pub reachable-next : {c : State} → Reachable c → (k : Call) → Reachable (respond c k).state
unfolding after
reachable-next {c} r k = record {
  vertices = r.vertices;
  edge_number = r.edge_number;
  nodes = r.nodes;
  store = r.store;
  edges = r.edges;
  virtuals = r.virtuals;
  fits = r.fits;
  accepted-opening = r.accepted-opening;
  calls = r.calls ++ (k ∷ []);
  is = ap (λ x. (respond x k).state) r.is ∙ sym (after_next (opened r.vertices r.nodes r.store r.edges r.virtuals) r.calls);
}
  where
    after_next : (s : State) (ks : List Call) → after s (ks ++ (k ∷ [])) ≡ (respond (after s ks) k).state
    after_next s [] = refl
    after_next s (j ∷ ks) = after_next (respond s j).state ks

take-zeros : (q n : ℕ) → q ≤ n → take q (zero_scratch n) ≡ zero_scratch q
unfolding zero_scratch
take-zeros zero n h = refl
take-zeros (suc q) zero h = absurd (omega arith)
take-zeros (suc q) (suc n) h = ap (λ l. pos 0 ∷ l) (take-zeros q n (omega arith))

module _ {s : Setup} {block : List ℤ} (r : Runs s block) (room : 4096 ≤ length block) (m : ℕ) (em : m ≡ block_length s.v s.e s.n s.l) where
  pub part_room : m ≤ length block
  part_room = let z = small_of s r.small in omega arith

  -- the part that a call takes is the part of the sizes
  part-is : take (m - 0) block ≡ part_of s block
  part-is = let z : m - 0 ≡ block_length s.v s.e s.n s.l = omega arith in ap (λ n. take n block) z

  pub part-formed : Formed (take (m - 0) block)
  part-formed = rw part-is r.formed

  pub part_sound : sound (state_of (take (m - 0) block)) ≡ true
  unfolding state_sound
  part_sound =
      let c = state_of (part_of s block) in
      rw part-is (and_left (sound c) (sound_removed c) (reachable-sound c r.reachable))

  -- with its scratch
  pub part-opened : (scratch : List ℤ) (q : ℕ) → q ≡ scratch_length s.v s.e → 576 ≤ length scratch → scratch ≡ zero_scratch (length scratch)
      → Opened (take (m - 0) block) (take (q - 0) scratch)
  part-opened scratch q eq long blank =
      let z = small_of s r.small in
      let w : scratch_size (state_of (part_of s block)) ≡ q - 0 = omega (arith, eq, r.vertices, r.edges) in
      rw part-is
      (record {
        formed = r.formed;
        reachable = r.reachable;
        scratch = rw w (ap (take (q - 0)) blank ∙ take-zeros (q - 0) (length scratch) (omega (arith, eq)));
      })

  module _ {body : List ℕ} {kind : ℕ} (p : OfKind body kind) (k : ℕ) {b c : List ℕ} {n i : ℕ} {full stopped : Bool} where
    -- calls that only read
    pub asked-table : kind ≡ 10 → LinesPut b n full c i stopped (lines_for k (growths (growth_table (state_of (take (m - 0) block)))))
        → LinesPut b n full c i stopped (lines_for k (respond (state_of (part_of s block)) (call_in body)).outcome) × Asked s block block (call_in body)
    unfolding record_of call_of respond
    asked-table e t = rw (call-kind 10 p e) (rw part-is at t, record { runs = r; state = refl })

    pub asked-contacts : kind ≡ 12 → LinesPut b n full c i stopped (lines_for k (touching (contacts (state_of (take (m - 0) block)))))
        → LinesPut b n full c i stopped (lines_for k (respond (state_of (part_of s block)) (call_in body)).outcome) × Asked s block block (call_in body)
    unfolding record_of call_of respond
    asked-contacts e t = rw (call-kind 12 p e) (rw part-is at t, record { runs = r; state = refl })

  -- the call on the part is a call on the block
  module _ {b : List ℤ} {a : Answer} {call : Call} (p : Answers (take (m - 0) block) b a call) where
    pub asked-block : Asked s block (b ++ drop (m - 0) block) call
    asked-block =
        let h : m - 0 ≤ length block = omega (arith, part_room) in
        let l : length b ≡ block_length s.v s.e s.n s.l = p.len ∙ length-take-le (m - 0) block h ∙ omega arith in
        let e : part_of s (b ++ drop (m - 0) block) ≡ b = take_at b (drop (m - 0) block) (block_length s.v s.e s.n s.l) l in
        let f : state_of b ≡ (respond (state_of (part_of s block)) call).state = rw part-is at p.state in
        record {
          runs = record {
            small = r.small;
            sizes = r.sizes;
            formed = rw e p.formed;
            reachable = rw (e, f) (reachable-next r.reachable call);
            vertices = rw e (p.vertices ∙ rw part-is r.vertices);
            edges = rw e (p.edges ∙ rw part-is r.edges);
          };
          state = ap state_of e ∙ f;
        }

    pub asked-lines : (k : ℕ) → line k (words_of a) ∷ [] ≡ lines_for k (respond (state_of (part_of s block)) call).outcome
    unfolding lines_for
    asked-lines k = let f : (respond (state_of (part_of s block)) call).outcome ≡ answered a = rw part-is at p.outcome in rw f

-- a part that is left as it was leaves all
pub part-kept : {t : List ℤ} (q : ℕ) (scratch : List ℤ) → t ≡ take q scratch → t ++ drop q scratch ≡ scratch
part-kept q scratch e = rw e (take-append-drop q scratch)
