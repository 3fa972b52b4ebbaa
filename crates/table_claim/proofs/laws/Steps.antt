-- What a list of steps leaves and returns: in a block in form the state that the definitions give for the calls that they were asked, and their answers.
use Rattle.std.specs.Prelude.{ℕ, ◌%◌, ◌≡◌, ◌⊎◌, Bool, List, [], ◌∷◌, map, ℤ, eqb, length, if◌then◌else◌}
use Rattle.std.proofs.Math.Path.{refl, sym}
use Rattle.std.proofs.Common.{ap, subst, ◌∙◌, inl, inr, ⊎_elim}
use Rattle.std.proofs.Math.Bool.{true, false}
use Rattle.graph.specs.State.{State, vertex_count, edge_count}
use Rattle.graph.specs.Word.{to_nat}
use Rattle.graph.specs.Layout.{v_of, e_of, n_of, state_of, sized, block_length, memory_fits, block_refusal, memory_refusal, list_refusal}
use Rattle.graph.specs.Form.{Formed, Laid}
use Rattle.graph.specs.Opening.{edges_from, virtuals_from, fits, OpenCalled}
use Rattle.open_graph.specs.laws.OpenedBlock.{refused-block}
use Rattle.memory_tests.specs.laws.Whole.{formed-sized, formed-sound, memory-by-length, list-by-length}
use Rattle.answers.specs.Theorems.{same_answer}
use Rattle.answers.specs.Outcome.{Answer}
use Rattle.answers.specs.Outcome.{Done}
use Rattle.answers.specs.Answer.{Reply, says}
use Rattle.calls.specs.Refuse.{unless}
use Rattle.calls.specs.Calls.{Call, InsertDefect, InsertBlossom, SetGrowState, Prepare, UpdateLength, Grow, ReadTable, Advance, Contacts, RepresentativeVertex, Clear, respond, response, contacts as contacts_of, representative_vertex, RenewActiveList, PrepareAll, GroupLength, Round, RemoveBlossom, LoadEdgeModifier}
use Rattle.dual_module.specs.Called.{Called}
use Rattle.dual_module_read.specs.Read.{ListRead}
use Rattle.reachable.specs.Reachable.{after}
use Rattle.graph.specs.Sound.{state_sound}
use Rattle.reachable.specs.Past.{PastInvariant}
use Rattle.reachable.specs.laws.state.Live.{invariant-sound}
use Rattle.reachable.specs.laws.past.Calls.{after-past}
use Rattle.reachable.specs.Opening.{after_log}
use Rattle.table_theorem.proofs.laws.Kept.{Wiring, calls-wired}
use Rattle.graph.specs.laws.Form.{formed-shape}
use Rattle.graph.specs.laws.Members.{by-test}
use Rattle.opened_graph.specs.OpenedGraph.{with_weights}
use Rattle.calls.specs.Erasures.{pairs_from}
use Rattle.dual_module_modifier.specs.Called.{pairs_refusal}
use Rattle.table_theorem.proofs.laws.Append.{after-append}
use Rattle.table_claim.specs.Lent.{LentCall, lent_open, Step, open-refused, insert-defect, insert-blossom, set-grow-state, prepare, max-update-length, grow, read_table, advance, contacts, representative-vertex, clear, Returned, opening, returns, Exchange, Steps, none, next, AnySteps, no_call, one-call, one-opening, lent_sheet, sheet-refused, opening_sheet, one-sheet, renew-active-list, prepare-all, group-length, round, remove-blossom, read-node, returns_node, edge-gap, returns_gap, load-edge-modifier}
use Rattle.table_claim.specs.Run.{Sizes, scratch_fits, list_fits, calls_of, if_fits, fed_one, fed, or_refused, returned, returned_from, SinceOpening, lent_run_from, Begins, with_open, with-sheet, trial_fits, group_fits, pairs_fit}
use Rattle.sheet.specs.Outcome.{Opened}
use Rattle.sheet.specs.Theorems.{refused-leaves-all, sheet-opens}
use Rattle.calls.specs.Group.{GroupMaxUpdateLength as Group}
use Rattle.calls.specs.Round.{prepare_all, group_length}
use Rattle.dual_module_round.specs.Called.{trial_refusal, group_trial_refusal, GroupOnTrial}
use Rattle.dual_module_node.specs.Outcome.{NodeRead}
use Rattle.dual_module_node.specs.Outcome.{Refused as node_refused}
use Rattle.dual_module_node.specs.ReadNode.{read_node, read_unless}
use Rattle.dual_module_gap.specs.Outcome.{GapAnswer}
use Rattle.dual_module_gap.specs.Outcome.{Refused as gap_refused}
use Rattle.dual_module_gap.specs.GapRead.{gap_told}
use Rattle.table_claim.proofs.laws.Rounds.{Ends, trial-ends, round-ends, group-answers, group-kept}

-- ---- lists of calls

-- ---- a block between two calls

-- in form, of these sizes, and its state keeps what every call keeps
pub record Whole (z : Sizes) (b : List ℤ) : Type 0 where
  pub formed : Formed b
  pub log : ℕ → State
  pub good : PastInvariant log (state_of b)
  pub vertices-are : vertex_count (state_of b) ≡ z.vertices
  pub edges_are : edge_count (state_of b) ≡ z.edges
  pub nodes-are : (state_of b).node_limit ≡ z.nodes
  pub size : length b ≡ block_length z.vertices z.edges z.nodes z.store

module _ {z : Sizes} {b : List ℤ} (w : Whole z b) where
  pub whole-sound : state_sound (state_of b) ≡ true
  whole-sound = invariant-sound w.good.invariant

  -- what is lent to a call is refused for its length alone
  pub memory-fits : (t : List ℤ) → memory_refusal b t ≡ (if scratch_fits z t then 0 else 1)
  memory-fits t = rw (w.vertices-are, w.edges_are) at (memory-by-length b t w.formed whole-sound)

  pub list-fits : (t list : List ℤ) (m : ℕ) → list_refusal b t (length list) m ≡ (if list_fits z m t list then 0 else 1)
  list-fits t list m = rw (w.vertices-are, w.edges_are) at (list-by-length b t (length list) m w.formed whole-sound)

  pub pairs-fit : (t pairs : List ℤ) → pairs_refusal b t (length pairs) ≡ (if pairs_fit z t pairs then 0 else 1)
  unfolding pairs_refusal
  pairs-fit t pairs = by-test (eqb (length pairs % 2) 0) (λ e. rw e (memory-fits t)) (λ e. rw e refl)

  edges-of : e_of b ≡ z.edges
  unfolding Laid
  edges-of = sym w.formed.laid.counted.edges ∙ w.edges_are

  vertices-of : v_of b ≡ z.vertices
  unfolding Laid
  vertices-of = sym w.formed.laid.counted.vertices ∙ w.vertices-are

  limit_is : n_of b ≡ z.nodes
  unfolding Laid
  limit_is = sym w.formed.laid.counted.node-limit ∙ w.nodes-are

  fits-alike : (t : List ℤ) → memory_fits b t ≡ scratch_fits z t
  unfolding memory_fits
  fits-alike t = rw (formed-sized b w.formed, vertices-of, edges-of) refl

  pub alone-fits : block_refusal (sized b) b ≡ 0
  unfolding block_refusal
  alone-fits = rw (formed-sized b w.formed, formed-sound b w.formed whole-sound) refl

  pub trial-fits : (s t : List ℤ) → trial_refusal b s t ≡ (if trial_fits z s t then 0 else 1)
  unfolding trial_refusal block_refusal
  trial-fits s t =
      let m : memory_fits b t ≡ scratch_fits z t = fits-alike t in
      rw (m, w.size, formed-sound b w.formed whole-sound) refl

  pub group-fits : (s t : List ℤ) (entries : List ℕ) → group_trial_refusal b s t (length entries) ≡ (if group_fits z s t entries then 0 else 1)
  unfolding group_trial_refusal block_refusal
  group-fits s t entries =
      rw (fits-alike t, w.size, limit_is, formed-sound b w.formed whole-sound) refl

-- ---- one step: the state

-- b' is in form and holds the state that the calls give from that of b
pub record Follows (b : List ℤ) (ks : List Call) (b' : List ℤ) : Type 0 where
  pub formed : Formed b'
  pub state : state_of b' ≡ after (state_of b) ks
  pub len : length b' ≡ length b

unchanged-follows : {z : Sizes} {b b' : List ℤ} → Whole z b → b' ≡ b → Follows b [] b'
unfolding after
unchanged-follows w e = record { formed = subst Formed (sym e) w.formed; state = ap state_of e; len = ap length e }

-- a call that only reads
reading-follows : {z : Sizes} {b : List ℤ} → Whole z b → (fits : Bool) (k : Call) → (respond (state_of b) k).state ≡ state_of b → Follows b (if_fits fits k) b
unfolding after
reading-follows w true k e = record { formed = w.formed; state = sym e; len = refl }
reading-follows w false k e = record { formed = w.formed; state = refl; len = refl }

module _ {b b' : List ℤ} {j : ℕ} {a : Answer} {writes : Bool} {r : Reply} where
  -- a call whose lent memory is refused for its length alone: it is asked of the definitions where the length is right
  called-follows : {z : Sizes} → Whole z b → (fits : Bool) → j ≡ (if fits then 0 else 1) → Called j b b' a writes r
      → (k : Call) → (respond (state_of b) k).state ≡ r.state → Follows b (if_fits fits k) b'
  unfolding unless after
  called-follows w true m p k e = record { formed = p.formed m; state = rw m at p.state ∙ sym e; len = p.len }
  called-follows w false m p k e = unchanged-follows w (p.unchanged (rw m refl))

  called-answered : (fits : Bool) → j ≡ (if fits then 0 else 1) → Called j b b' a writes r → a ≡ or_refused fits r.answer
  unfolding unless says
  called-answered true m p = rw m at (same_answer p.answer)
  called-answered false m p = rw m at (same_answer p.answer)

-- the same of a trial
ends-follows : {z : Sizes} {b b' : List ℤ} {a : Answer} {r : Reply} → Whole z b → (fits : Bool) → Ends b b' fits a r
    → (k : Call) → (respond (state_of b) k).state ≡ r.state → Follows b (if_fits fits k) b'
unfolding after
ends-follows w true p k e = record { formed = p.formed refl; state = p.state refl ∙ sym e; len = p.len }
ends-follows w false p k e = unchanged-follows w (p.unchanged refl)

group-follows : {z : Sizes} {b s t b' s' t' : List ℤ} {j : ℕ} {entries entries' : List ℕ} {g : Group} → Whole z b → (fits : Bool) → j ≡ (if fits then 0 else 1)
    → GroupOnTrial j b s t entries b' s' t' entries' g (group_length (state_of b)) → Follows b (if_fits fits GroupLength) b'
unfolding respond after
group-follows w true m p = record { formed = p.formed m; state = rw m at p.state; len = p.len }
group-follows w false m p = unchanged-follows w (group-kept m p)

pub step_follows : {z : Sizes} {b b' : List ℤ} {k : LentCall} {r : Returned} → Whole z b → Step b k r b' → Follows b (fed_one z k) b'
unfolding fed_one respond response representative_vertex says
step_follows {z} {b} w (open-refused {t} {edges} {virtuals} {b'} {v} {e} {n} {l} p h) =
    unchanged-follows w (p.1 ∙ refused-block v e n l (edges_from edges) (virtuals_from virtuals) (fits b t v e n l) b (λ q. h (p.0 ∙ q)))
step_follows {z} w (insert-defect {t} {v = v} {x = x} p) = called-follows w (scratch_fits z t) (memory-fits w t) p.block (InsertDefect v x) refl
step_follows {z} w (insert-blossom {t} {circle} {x = x} p) =
    called-follows w (scratch_fits z t) (memory-fits w t) p.block (InsertBlossom x (map to_nat circle)) refl
step_follows {z} w (set-grow-state {t} {n = n} {x = x} p) = called-follows w (scratch_fits z t) (memory-fits w t) p (SetGrowState n x) refl
step_follows {z} w (prepare {t} {n = n} {d = d} p) = called-follows w (scratch_fits z t) (memory-fits w t) p.block (Prepare n d) refl
step_follows {z} w (max-update-length {t} {n = n} {d = d} {first = first} p) =
    called-follows w (scratch_fits z t) (memory-fits w t) p.block (UpdateLength n d first) refl
step_follows {z} w (grow {t} {n = n} {l = l} p) = called-follows w (scratch_fits z t) (memory-fits w t) p.block (Grow n l) refl
step_follows {z} w (read_table {t} {list} p) = reading-follows w (list_fits z 2 t list) ReadTable refl
step_follows {z} w (advance {t} {n = n} p) = called-follows w (scratch_fits z t) (memory-fits w t) p.block (Advance n) refl
step_follows {z} w (contacts {t} {list} p q) = reading-follows w (list_fits z 3 t list) Contacts refl
step_follows {z} w (representative-vertex {t} {n} p) = reading-follows w (scratch_fits z t) (RepresentativeVertex n) refl
step_follows {z} w (clear {t} p) = called-follows w (scratch_fits z t) (memory-fits w t) p Clear refl
step_follows {z} w (sheet-refused p) = unchanged-follows w (refused-leaves-all p).1
step_follows {z} w (renew-active-list p) = called-follows w true (alone-fits w) p RenewActiveList refl
step_follows {z} w (remove-blossom {t} {n = n} p) = called-follows w (scratch_fits z t) (memory-fits w t) p.block (RemoveBlossom n) refl
step_follows {z} w (read-node p) = unchanged-follows w refl
step_follows {z} w (edge-gap p) = unchanged-follows w refl
step_follows {z} w (load-edge-modifier {t} {pairs} p) =
    called-follows w (pairs_fit z t pairs) (pairs-fit w t pairs) p (LoadEdgeModifier (pairs_from pairs)) refl
step_follows {z} w (prepare-all {s} {t} p) = ends-follows w (trial_fits z s t) (trial-ends (trial_fits z s t) (trial-fits w s t) p) PrepareAll refl
step_follows {z} w (group-length {s} {t} {entries = entries} p) = group-follows w (group_fits z s t entries) (group-fits w s t entries) p
step_follows {z} w (round {s} {t} {l = l} p) = ends-follows w (trial_fits z s t) (round-ends l (trial_fits z s t) w.formed (trial-fits w s t) p) (Round l) refl

-- ---- one step: what the host gets

read-answered : (fits : Bool) (c : State) {j : ℕ} {a : Answer} (r : Reply) → j ≡ (if fits then 0 else 1)
    → a ≡ (unless j c r).answer → a ≡ or_refused fits r.answer
unfolding unless says
read-answered true c r m e = rw m at e
read-answered false c r m e = rw m at e

pub node-answered : (fits : Bool) (c : State) (n : ℕ) {j : ℕ} {a : NodeRead} → j ≡ (if fits then 0 else 1)
    → a ≡ read_unless j c n → a ≡ (if fits then read_node c n else node_refused 1)
unfolding read_unless
node-answered true c n m e = rw m at e
node-answered false c n m e = rw m at e

list-answered : (fits : Bool) {b list list' filled : List ℤ} {j : ℕ} {a : Answer} → j ≡ (if fits then 0 else 1) → ListRead b list list' filled j a
    → (a ≡ or_refused fits Done) × (list' ≡ (if fits then filled else list))
unfolding unless says
list-answered true m p = (rw m at (same_answer p.answer), rw m at p.listed)
list-answered false m p = (rw m at (same_answer p.answer), rw m at p.listed)

counted-by : (fits : Bool) (n : ℕ) {j k : ℕ} → j ≡ (if fits then 0 else 1) → k ≡ (if eqb j 0 then n else 0) → k ≡ (if fits then n else 0)
counted-by true n m e = rw m at e
counted-by false n m e = rw m at e

gap-answered : (fits : Bool) (told : GapAnswer) {j : ℕ} {a : GapAnswer} → j ≡ (if fits then 0 else 1)
    → a ≡ (if eqb j 0 then told else gap_refused j) → a ≡ (if fits then told else gap_refused 1)
gap-answered true told m e = rw m at e
gap-answered false told m e = rw m at e

pub step-returns : {z : Sizes} {b b' : List ℤ} {k : LentCall} {r : Returned} → Whole z b → Step b k r b' → r ≡ returned z (state_of b) k
unfolding returned fits
step-returns {z} w (open-refused p h) = rw (p.0, w.size) refl
step-returns {z} w (insert-defect {t} p) = ap returns (called-answered (scratch_fits z t) (memory-fits w t) p.block)
step-returns {z} w (insert-blossom {t} p) = ap returns (called-answered (scratch_fits z t) (memory-fits w t) p.block)
step-returns {z} w (set-grow-state {t} p) = ap returns (called-answered (scratch_fits z t) (memory-fits w t) p)
step-returns {z} w (prepare {t} p) = ap returns (called-answered (scratch_fits z t) (memory-fits w t) p.block)
step-returns {z} w (max-update-length {t} p) = ap returns (called-answered (scratch_fits z t) (memory-fits w t) p.block)
step-returns {z} w (grow {t} p) = ap returns (called-answered (scratch_fits z t) (memory-fits w t) p.block)
step-returns {z} {b} w (read_table {t} {list} p) =
    let q = list-answered (list_fits z 2 t list) (list-fits w t list 2) p in
    rw (q.0, q.1) refl
step-returns {z} w (advance {t} p) = ap returns (called-answered (scratch_fits z t) (memory-fits w t) p.block)
step-returns {z} {b} w (contacts {t} {list} p k) =
    let q = list-answered (list_fits z 3 t list) (list-fits w t list 3) p in
    rw (q.0, q.1, counted-by (list_fits z 3 t list) (length (contacts_of (state_of b))) (list-fits w t list 3) k) refl
step-returns {z} {b} w (representative-vertex {t} {n} p) =
    ap returns (read-answered (scratch_fits z t) (state_of b) (representative_vertex (state_of b) n) (memory-fits w t) (same_answer p))
step-returns {z} w (clear {t} p) = ap returns (called-answered (scratch_fits z t) (memory-fits w t) p)
step-returns {z} w (sheet-refused p) = rw (p.leaves.answer, p.leaves.edges_are, w.size) refl
step-returns {z} w (renew-active-list p) = ap returns (called-answered true (alone-fits w) p)
step-returns {z} w (remove-blossom {t} p) = ap returns (called-answered (scratch_fits z t) (memory-fits w t) p.block)
step-returns {z} {b} w (read-node {t} {n} p) =
    ap returns_node (node-answered (scratch_fits z t) (state_of b) n (memory-fits w t) p)
step-returns {z} {b} w (edge-gap {t} {e} p) =
    ap returns_gap (gap-answered (scratch_fits z t) (gap_told (state_of b) e) (memory-fits w t) p)
step-returns {z} w (load-edge-modifier {t} {pairs} p) = ap returns (called-answered (pairs_fit z t pairs) (pairs-fit w t pairs) p)
step-returns {z} {b} w (prepare-all {s} {t} p) =
    ap returns (read-answered (trial_fits z s t) (state_of b) (prepare_all (state_of b)) (trial-fits w s t) (same_answer p.answer))
step-returns {z} {b} w (group-length {s} {t} {entries = entries} p) =
    let q = group-answers (group_fits z s t entries) (group-fits w s t entries) p in
    rw (q.0, q.1) refl
step-returns {z} {b} w (round {s} {t} {l = l} p) = ap returns (round-ends l (trial_fits z s t) w.formed (trial-fits w s t) p).answer

-- ---- a list of steps

pub follows-whole : {z : Sizes} {b b' : List ℤ} {ks : List Call} → Whole z b → Follows b ks b' → Whole z b'
follows-whole {z} {b} {b'} {ks} w f = record {
  formed = f.formed;
  log = after_log (state_of b) ks w.log;
  good = subst (PastInvariant (after_log (state_of b) ks w.log)) (sym f.state) (after-past (state_of b) w.good ks);
  vertices-are =
      ap (λ (c : State). vertex_count c) f.state ∙ ap (λ (x : Wiring). length x.virtual) (calls-wired (state_of b) ks)
      ∙ w.vertices-are;
  edges_are =
      sym (formed-shape b' f.formed).original ∙ ap (λ (c : State). length c.graph.original) f.state
      ∙ ap (λ (x : Wiring). length x.original) (calls-wired (state_of b) ks) ∙ (formed-shape b w.formed).original ∙ w.edges_are;
  nodes-are = ap (λ (c : State). c.node_limit) f.state ∙ ap (λ (x : Wiring). x.nodes) (calls-wired (state_of b) ks) ∙ w.nodes-are;
  size = f.len ∙ w.size;
}

pub steps-follow : {z : Sizes} {b b' : List ℤ} {xs : List Exchange} → Whole z b → Steps b xs b' → Follows b (fed z (calls_of xs)) b'
unfolding fed after
steps-follow w none = record { formed = w.formed; state = refl; len = refl }
steps-follow {z} {b} w (next {b₁ = b₁} {b₂ = b₂} {k = k} {xs = xs} s ss) =
    let f : Follows b (fed_one z k) b₁ = step_follows w s in
    let g : Follows b₁ (fed z (calls_of xs)) b₂ = steps-follow (follows-whole w f) ss in
    record {
      formed = g.formed;
      state = g.state ∙ ap (λ (c : State). after c (fed z (calls_of xs))) f.state ∙ sym (after-append (state_of b) (fed_one z k) (fed z (calls_of xs)));
      len = g.len ∙ f.len;
    }

pub steps-return : {z : Sizes} {b b' : List ℤ} {xs : List Exchange} → Whole z b → Steps b xs b'
    → map (λ (x : Exchange). x.got) xs ≡ returned_from z (state_of b) (calls_of xs)
unfolding returned_from
steps-return w none = refl
steps-return {z} {b} w (next {b₁ = b₁} {k = k} {xs = xs} s ss) =
    let f : Follows b (fed_one z k) b₁ = step_follows w s in
    let ih : map (λ (x : Exchange). x.got) xs ≡ returned_from z (after (state_of b) (fed_one z k)) (calls_of xs) =
    rw f.state at (steps-return (follows-whole w f) ss) in
    rw (step-returns w s, ih) refl

-- ---- since the last opening

-- the run that an accepted opening begins, as the last of the exchanges
since-it : (b t : List ℤ) (v e n l : ℕ) (edges virtuals : List ℤ) {b₁ b₂ : List ℤ} {xs : List Exchange}
    (p : OpenCalled b t v e n l edges virtuals b₁ 0) (q : Steps b₁ xs b₂)
    (x : Exchange) → Begins (lent_run_from b t v e n l edges virtuals p q refl) x → SinceOpening (x ∷ xs) b₂
since-it b t v e n l edges virtuals {b₂ = b₂} p q x h = record {
  v = v;
  edges = with_weights (edges_from edges) (state_of b₂).graph.weight;
  virtuals = virtuals_from virtuals;
  run = lent_run_from b t v e n l edges virtuals p q refl;
  earlier = [];
  begin = x;
  begins = h;
  all = refl;
  leads = refl;
}

-- one exchange more in front
earlier-too : (x : Exchange) {xs : List Exchange} {b : List ℤ} → SinceOpening xs b → SinceOpening (x ∷ xs) b
earlier-too x c = record {
  v = c.v;
  edges = c.edges;
  virtuals = c.virtuals;
  run = c.run;
  earlier = x ∷ c.earlier;
  begin = c.begin;
  begins = c.begins;
  all = ap (λ l. x ∷ l) c.all;
  leads = c.leads;
}

pub cut-at-opening : {b b' : List ℤ} {xs : List Exchange} → AnySteps b xs b' → Steps b xs b' ⊎ SinceOpening xs b'
cut-at-opening no_call = inl none
cut-at-opening (one-call {k = k} {r = r} s ss) = ⊎_elim (λ q. inl (next s q)) (λ c. inr (earlier-too (record { call = k; got = r }) c)) (cut-at-opening ss)
cut-at-opening {b} (one-opening {b₁ = b₁} {b₂ = b₂} {t = t} {edges = edges} {virtuals = virtuals} {v = v} {e = e} {n = n} {l = l} {xs = xs} p ss) =
    ⊎_elim
    (λ q. inr (since-it b t v e n l edges virtuals p q (record { call = lent_open t v e n l edges virtuals; got = opening 0 }) with_open))
    (λ c. inr (earlier-too (record { call = lent_open t v e n l edges virtuals; got = opening 0 }) c))
    (cut-at-opening ss)
cut-at-opening {b} (one-sheet {t = t} {edges = edges} {sheet = sheet} {virtuals = virtuals} {edges' = edges'} {v = v} {e = e} {n = n} {l = l} {k = k} p ss) =
    let x : Exchange = record { call = lent_sheet t v e n l edges sheet virtuals; got = opening_sheet (Opened k) edges' } in
    ⊎_elim (λ q. inr (since-it b t v e n l edges' virtuals (sheet-opens p) q x with-sheet)) (λ c. inr (earlier-too x c)) (cut-at-opening ss)
