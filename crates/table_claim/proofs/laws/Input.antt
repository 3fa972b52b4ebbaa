-- A run by the graph and the calls of its records.
use Rattle.std.specs.Prelude.{ℕ, zero, suc, ◌+◌, ◌≡◌, ◌⊎◌, true, false, ◌&&◌, List, [], ◌∷◌, ◌++◌, eqb, length, if◌then◌else◌}
use Rattle.std.proofs.Common.{arith, sym, ◌∙◌, inr, append-nil, append_assoc}
use Rattle.std.proofs.Math.Path.{refl, ap}
use Rattle.std.proofs.Math.Logic.{inl}
use Rattle.graph.specs.Basic.{all}
use Rattle.graph.specs.State.{State}
use Rattle.graph.specs.Open.{Edge}
use Rattle.graph.specs.laws.State.{and_left, and_right}
use Rattle.graph.specs.laws.Members.{by-test, clash}
use Rattle.calls.specs.Calls.{Call, respond}
use Rattle.reachable.specs.Reachable.{after}
use Rattle.records.specs.Record.{Record, sizes, an_edge, a_virtual, ask, ill_formed, Next, nothing, next, next_record}
use Rattle.records.specs.Run.{Gathered, Stage, fresh, gathering, running, ended, record_step, ends, with_edge, with_virtual, call_step, open_step, run_refusal, run_from, lines_in}
use Rattle.records.specs.laws.Lines.{run_none, run_end, run_step}
use Rattle.table_claim.specs.Input.{records_by, records_in, edges_of_records, virtuals_in, calls_in, gathered_with, graph_in, opened_from, gives, asks, in_order, opens, stage_from, lines_by, stands_behind, Refuses, In, earlier, printed, later}

-- ---- lines, record by record

records-end : (f : ℕ) (b : List ℕ) → next_record b ≡ nothing → records_by (suc f) b ≡ []
unfolding records_by
records-end f b e = rw (records_by, e)

records-step : (f : ℕ) (b : List ℕ) (r : Record) (rest : List ℕ) → next_record b ≡ next r rest → records_by (suc f) b ≡ r ∷ records_by f rest
unfolding records_by
records-step f b r rest e = rw (records_by, e)

run-records : (f k : ℕ) (s : Stage) (b : List ℕ) → run_from f k s b ≡ lines_by k s (records_by f b)
run-records zero k s b = run_none k s b ∙ (unfold lines_by records_by in refl)
run-records (suc f) k s b = go (next_record b) refl (λ k s b. run-records f k s b)
  where
    go : (x : Next) → next_record b ≡ x
        → ((k : ℕ) (s : Stage) (b : List ℕ) → run_from f k s b ≡ lines_by k s (records_by f b))
        → run_from (suc f) k s b ≡ lines_by k s (records_by (suc f) b)
    go nothing e ih = run_end f k s b e ∙ rw (records-end f b e) (unfold lines_by in refl)
    go (next r rest) e ih =
        run_step f k s b r rest e ∙ ap (λ l. (record_step k s r).lines ++ l) (ih (k + 1) (record_step k s r).stage rest)
        ∙ rw (records-step f b r rest e) (unfold lines_by in refl)

pub lines-by-records : (b : List ℕ) → lines_in b ≡ lines_by 1 fresh (records_in b)
unfolding lines_in records_in
lines-by-records b = run-records (length b) 1 fresh b

lines-append : (k : ℕ) (s : Stage) (p q : List Record) → lines_by k s (p ++ q) ≡ lines_by k s p ++ lines_by (length p + k) (stage_from k s p) q
unfolding lines_by stage_from
lines-append k s [] q = let z : 0 + k ≡ k = omega arith in rw z refl
lines-append k s (r ∷ p) q =
    let z : length (r ∷ p) + k ≡ length p + (k + 1) = omega arith in
    rw (lines-append (k + 1) (record_step k s r).stage p q, z) (sym (append_assoc (record_step k s r).lines (lines_by (k + 1) (record_step k s r).stage p) _))

-- all lines are those in front, those of the record, and those behind
pub lines-around : {b : List ℕ} {x : Record} (p : In b x) → lines_in b ≡ earlier p ++ (printed p ++ later p)
unfolding earlier printed later
lines-around {b} {x} p = lines-by-records b ∙ ap (lines_by 1 fresh) p.is ∙ lines-append 1 fresh p.before (x ∷ p.behind) ∙ (unfold lines_by in refl)

-- ---- where a run stands

stage-ended : (k : ℕ) (rs : List Record) → stage_from k ended rs ≡ ended
unfolding stage_from record_step
stage-ended k [] = refl
stage-ended k (r ∷ rs) = stage-ended (k + 1) rs

-- on an opened graph: the calls, or something that is no call
stage-running : (k : ℕ) (c : State) (rs : List Record) → stage_from k (running c) rs ≡ (if all asks rs then running (after c (calls_in rs)) else ended)
unfolding stage_from record_step call_step ends all asks calls_in after
stage-running k c [] = refl
stage-running k c (sizes v e n l ∷ rs) = stage-ended (k + 1) rs
stage-running k c (an_edge x ∷ rs) = stage-ended (k + 1) rs
stage-running k c (a_virtual x ∷ rs) = stage-ended (k + 1) rs
stage-running k c (ask a ∷ rs) = stage-running (k + 1) (respond c a).state rs
stage-running k c (ill_formed ∷ rs) = stage-ended (k + 1) rs

-- where only calls came nothing was given, and where only edges and virtual vertices came no call was made
asks-give-no-edge : (rs : List Record) → all asks rs ≡ true → edges_of_records rs ≡ []
unfolding all asks edges_of_records
asks-give-no-edge [] h = refl
asks-give-no-edge (sizes v e n l ∷ rs) h = clash false h refl
asks-give-no-edge (an_edge x ∷ rs) h = clash false h refl
asks-give-no-edge (a_virtual x ∷ rs) h = clash false h refl
asks-give-no-edge (ask a ∷ rs) h = asks-give-no-edge rs h
asks-give-no-edge (ill_formed ∷ rs) h = clash false h refl

asks-give-no-virtual : (rs : List Record) → all asks rs ≡ true → virtuals_in rs ≡ []
unfolding all asks virtuals_in
asks-give-no-virtual [] h = refl
asks-give-no-virtual (sizes v e n l ∷ rs) h = clash false h refl
asks-give-no-virtual (an_edge x ∷ rs) h = clash false h refl
asks-give-no-virtual (a_virtual x ∷ rs) h = clash false h refl
asks-give-no-virtual (ask a ∷ rs) h = asks-give-no-virtual rs h
asks-give-no-virtual (ill_formed ∷ rs) h = clash false h refl

no-call-given : (rs : List Record) → all gives rs ≡ true → calls_in rs ≡ []
unfolding all gives calls_in
no-call-given [] h = refl
no-call-given (sizes v e n l ∷ rs) h = clash false h refl
no-call-given (an_edge x ∷ rs) h = no-call-given rs h
no-call-given (a_virtual x ∷ rs) h = no-call-given rs h
no-call-given (ask a ∷ rs) h = clash false h refl
no-call-given (ill_formed ∷ rs) h = clash false h refl

given-in-order : (rs : List Record) → all gives rs ≡ true → in_order rs ≡ true
unfolding all gives in_order
given-in-order [] h = refl
given-in-order (sizes v e n l ∷ rs) h = clash false h refl
given-in-order (an_edge x ∷ rs) h = given-in-order rs h
given-in-order (a_virtual x ∷ rs) h = given-in-order rs h
given-in-order (ask a ∷ rs) h = clash false h refl
given-in-order (ill_formed ∷ rs) h = clash false h refl

-- what was gathered, and what the records add to it
more : Gathered → List Record → Gathered
more g rs = record { v = g.v; e = g.e; n = g.n; l = g.l; edges = g.edges ++ edges_of_records rs; virtuals = g.virtuals ++ virtuals_in rs }

-- the stage that `standsBehind` tells, from what was gathered
behind : Gathered → List Record → Stage
behind g rs =
    if all gives rs then gathering (more g rs)
    else if in_order rs && eqb (run_refusal (more g rs)) 0 then running (after (opened_from (more g rs)) (calls_in rs))
    else ended

more-nothing : (g : Gathered) (rs : List Record) → edges_of_records rs ≡ [] → virtuals_in rs ≡ [] → more g rs ≡ g
unfolding more
more-nothing g rs e f = rw (e, f, append-nil g.edges, append-nil g.virtuals)

more-edge : (g : Gathered) (x : Edge) (rs : List Record) → more (with_edge g x) rs ≡ more g (an_edge x ∷ rs)
unfolding more with_edge edges_of_records virtuals_in
more-edge g x rs = rw (append_assoc g.edges (x ∷ []) (edges_of_records rs))

more-virtual : (g : Gathered) (x : ℕ) (rs : List Record) → more (with_virtual g x) rs ≡ more g (a_virtual x ∷ rs)
unfolding more with_virtual edges_of_records virtuals_in
more-virtual g x rs = rw (append_assoc g.virtuals (x ∷ []) (virtuals_in rs))

-- the first call: what follows are calls, or the run ends
stage-opening : (j k : ℕ) (g : Gathered) (a : Call) (rs : List Record) → stage_from j (open_step k g a).stage rs ≡ behind g (ask a ∷ rs)
unfolding behind open_step call_step ends all gives in_order asks calls_in after
stage-opening j k g a rs =
    by-test (eqb (run_refusal g) 0)
    (λ z. by-test (all asks rs)
    (λ t. rw (
      more-nothing g (ask a ∷ rs) (unfold edges_of_records in (asks-give-no-edge rs t))
          (unfold virtuals_in in (asks-give-no-virtual rs t)),
      z,
      t,
      stage-running j (respond (opened_from g) a).state rs,
      t,
    )
    refl)
    (λ t. rw (z, stage-running j (respond (opened_from g) a).state rs, t) refl))
    (λ z. by-test (all asks rs)
    (λ t. rw (
      more-nothing g (ask a ∷ rs) (unfold edges_of_records in (asks-give-no-edge rs t))
          (unfold virtuals_in in (asks-give-no-virtual rs t)),
      z,
      t,
    )
    (stage-ended j rs))
    (λ t. rw (z, t) (stage-ended j rs)))

stage-gathering : (k : ℕ) (g : Gathered) (rs : List Record) → stage_from k (gathering g) rs ≡ behind g rs
unfolding stage_from record_step ends behind all gives in_order asks calls_in
stage-gathering k g [] = rw (more-nothing g [] (unfold edges_of_records in refl) (unfold virtuals_in in refl)) refl
stage-gathering k g (sizes v e n l ∷ rs) = stage-ended (k + 1) rs
stage-gathering k g (an_edge x ∷ rs) = stage-gathering (k + 1) (with_edge g x) rs ∙ rw (more-edge g x rs) refl
stage-gathering k g (a_virtual x ∷ rs) = stage-gathering (k + 1) (with_virtual g x) rs ∙ rw (more-virtual g x rs) refl
stage-gathering k g (ask a ∷ rs) = stage-opening (k + 1) k g a rs
stage-gathering k g (ill_formed ∷ rs) = stage-ended (k + 1) rs

-- The run stands where graph and calls of the records say.
pub stage_is : (k : ℕ) (rs : List Record) → stage_from k fresh rs ≡ stands_behind rs
unfolding stage_from record_step ends stands_behind
stage_is k [] = refl
stage_is k (sizes v e n l ∷ rs) =
    stage-gathering (k + 1) (record { v = v; e = e; n = n; l = l; edges = []; virtuals = [] }) rs
    ∙ (unfold behind more gathered_with in refl)
stage_is k (an_edge x ∷ rs) = stage-ended (k + 1) rs
stage_is k (a_virtual x ∷ rs) = stage-ended (k + 1) rs
stage_is k (ask a ∷ rs) = stage-ended (k + 1) rs
stage_is k (ill_formed ∷ rs) = stage-ended (k + 1) rs

-- ---- a call

-- a call behind the sizes and records that opened the graph
call-told : (k v e n l : ℕ) (rs : List Record) (a : Call) → in_order rs ≡ true → eqb (run_refusal (gathered_with v e n l rs)) 0 ≡ true
    → record_step k (stands_behind (sizes v e n l ∷ rs)) (ask a) ≡ call_step k (respond (after (opened_from (gathered_with v e n l rs)) (calls_in rs)) a)
unfolding stands_behind record_step open_step after
call-told k v e n l rs a o z =
    by-test (all gives rs)
    (λ t. rw (no-call-given rs t, t, z) refl)
    (λ t. rw (t, o, z) refl)

-- A call on the graph that the records before it opened is told what the definition answers behind exactly the calls before it.
pub call-is-told : (k : ℕ) (rs : List Record) (a : Call) → opens rs ≡ true
    → record_step k (stage_from 1 fresh rs) (ask a) ≡ call_step k (respond (after (opened_from (graph_in rs)) (calls_in rs)) a)
unfolding opens graph_in calls_in
call-is-told k [] a h = clash false h refl
call-is-told k (sizes v e n l ∷ rs) a h =
    let o : in_order rs ≡ true = and_left (in_order rs) (eqb (run_refusal (gathered_with v e n l rs)) 0) h in
    let z : eqb (run_refusal (gathered_with v e n l rs)) 0 ≡ true = and_right (in_order rs) (eqb (run_refusal (gathered_with v e n l rs)) 0) h in
    rw (stage_is 1 (sizes v e n l ∷ rs)) (call-told k v e n l rs a o z)
call-is-told k (an_edge x ∷ rs) a h = clash false h refl
call-is-told k (a_virtual x ∷ rs) a h = clash false h refl
call-is-told k (ask b ∷ rs) a h = clash false h refl
call-is-told k (ill_formed ∷ rs) a h = clash false h refl

-- elsewhere it has no line, or that of a refusal
call-refused : (k v e n l : ℕ) (rs : List Record) (a : Call) → in_order rs && eqb (run_refusal (gathered_with v e n l rs)) 0 ≡ false
    → ((record_step k (stands_behind (sizes v e n l ∷ rs)) (ask a)).lines ≡ []) ⊎ Refuses k (record_step k (stands_behind (sizes v e n l ∷ rs)) (ask a)).lines
unfolding stands_behind record_step open_step ends
call-refused k v e n l rs a h =
    by-test (all gives rs)
    (λ t.
    let z : eqb (run_refusal (gathered_with v e n l rs)) 0 ≡ false = rw (given-in-order rs t) at h in
    inr (record { code = run_refusal (gathered_with v e n l rs); is = rw (t, z) refl }))
    (λ t. inl (rw (t, h) refl))

pub call-is-refused : (k : ℕ) (rs : List Record) (a : Call) → opens rs ≡ false
    → ((record_step k (stage_from 1 fresh rs) (ask a)).lines ≡ [])
    ⊎ Refuses k (record_step k (stage_from 1 fresh rs) (ask a)).lines
call-is-refused k rs a h = rw (stage_is 1 rs) (at rs h)
  where
    at : (rs : List Record) → opens rs ≡ false
        → ((record_step k (stands_behind rs) (ask a)).lines ≡ []) ⊎ Refuses k (record_step k (stands_behind rs) (ask a)).lines
    at [] h = inr (record { code = 3; is = unfold stands_behind record_step ends in refl })
    at (sizes v e n l ∷ rs) h = call-refused k v e n l rs a (unfold opens in h)
    at (an_edge x ∷ rs) h = inl (unfold stands_behind record_step in refl)
    at (a_virtual x ∷ rs) h = inl (unfold stands_behind record_step in refl)
    at (ask b ∷ rs) h = inl (unfold stands_behind record_step in refl)
    at (ill_formed ∷ rs) h = inl (unfold stands_behind record_step in refl)
