-- A record has at most 128 lines, and all of them fit into the program's bytes.
use Rattle.std.specs.Prelude.{ℕ, ◌+◌, ◌*◌, ◌≤◌, ◌≡◌, refl, Bool, false, List, [], ◌∷◌, ℤ, eqb, length, take}
use Rattle.std.proofs.Common.{arith, ◌∙◌, eqb-true}
use Rattle.std.proofs.lemmas.List.{length-map}
use Rattle.graph.specs.Basic.{only, below}
use Rattle.graph.specs.State.{State, edge_count}
use Rattle.graph.specs.Layout.{state_of}
use Rattle.graph.specs.laws.Members.{by-test, length-below, length-only}
use Rattle.calls.specs.Calls.{Call, InsertDefect, InsertBlossom, SetGrowState, Prepare, UpdateLength, Grow, ReadTable, Advance, Contacts, RepresentativeVertex, Clear, RenewActiveList, PrepareAll, GroupLength, Round, RemoveBlossom, growth_table, response, respond, LoadEdgeModifier}
use Rattle.calls.specs.Contacts.{is_contact, contact_of, contacts}
use Rattle.records.specs.Record.{Record, sizes, an_edge, a_virtual, ask, ill_formed}
use Rattle.records.specs.Lines.{edge_lines, contact_line, lines_for, joined_lines}
use Rattle.records.specs.Run.{Stage, fresh, gathering, running, ended, record_step, ends, call_step, open_step, run_refusal}
use Rattle.records.specs.declared.setup.Setup.{Setup}
use Rattle.records.specs.Opening.{open_code}
use Rattle.record_step.specs.Standing.{part_of, Runs, Memory, Stands}
use Rattle.records.specs.Write.{LinesPut}
use Rattle.records.specs.laws.Write.{told-few}
use Rattle.records.specs.laws.Opening.{small_of, code-held}
use Rattle.records.specs.laws.Table.{growths-even}
use Rattle.record_step.specs.laws.Standing.{opened-is, opened-runs}

-- a line for every two growths
edge-lines-few : (k e : ℕ) (gs : List ℕ) → 2 * length (edge_lines k e gs) ≤ length gs
unfolding edge_lines
edge-lines-few k e [] = omega arith
edge-lines-few k e (l ∷ []) = omega arith
edge-lines-few k e (l ∷ r ∷ gs) = omega (arith, edge-lines-few k (e + 1) gs)

contacts-few : (c : State) → length (contacts c) ≤ edge_count c
unfolding contacts
contacts-few c =
    rw (length-map (only (is_contact c) (below (edge_count c))) (contact_of c))
    (omega (arith, length-only (is_contact c) (below (edge_count c)), length-below (edge_count c)))

-- of a call on 128 edges or fewer
outcome-few : (k : ℕ) (c : State) (a : Call) → length (growth_table c) ≤ 256 → edge_count c ≤ 128 → length (lines_for k (respond c a).outcome) ≤ 128
unfolding respond response lines_for
outcome-few k c (InsertDefect v x) g e = omega arith
outcome-few k c (InsertBlossom x circle) g e = omega arith
outcome-few k c (SetGrowState n x) g e = omega arith
outcome-few k c (Prepare n d) g e = omega arith
outcome-few k c (UpdateLength n d first) g e = omega arith
outcome-few k c (Grow n l) g e = omega arith
outcome-few k c ReadTable g e = omega (arith, edge-lines-few k 0 (growth_table c))
outcome-few k c (Advance n) g e = omega arith
outcome-few k c Contacts g e = rw (length-map (contacts c) (contact_line k)) (omega (arith, contacts-few c))
outcome-few k c (RepresentativeVertex n) g e = omega arith
outcome-few k c Clear g e = omega arith
outcome-few k c RenewActiveList g e = omega arith
outcome-few k c PrepareAll g e = omega arith
outcome-few k c GroupLength g e = omega arith
outcome-few k c (Round l) g e = omega arith
outcome-few k c (RemoveBlossom n) g e = omega arith
outcome-few k c (LoadEdgeModifier pairs) g e = omega arith

-- of a call on the opened graph
asked-few : (k : ℕ) (a : Call) {s : Setup} {block : List ℤ} → Runs s block → length (lines_for k (respond (state_of (part_of s block)) a).outcome) ≤ 128
asked-few k a {s} {block} r =
    let z = small_of s r.small in
    outcome-few k (state_of (part_of s block)) a (omega (arith, growths-even (part_of s block) r.formed, r.edges)) (omega (arith, r.edges))

-- of any record
pub turn-few : (k : ℕ) (m : Memory) (x : Record) (s : Stage) → Stands m s → 384 ≤ length m.edges → length (record_step k s x).lines ≤ 128
unfolding record_step Stands ends lines_for call_step open_step
turn-few k m x ended p h = omega arith
turn-few k m (sizes v e n l) fresh p h = omega arith
turn-few k m (an_edge x) fresh p h = omega arith
turn-few k m (a_virtual x) fresh p h = omega arith
turn-few k m (ask a) fresh p h = omega arith
turn-few k m ill_formed fresh p h = omega arith
turn-few k m (sizes v e n l) (gathering g) p h = omega arith
turn-few k m (an_edge x) (gathering g) p h = omega arith
turn-few k m (a_virtual x) (gathering g) p h = omega arith
turn-few k m (ask a) (gathering g) p h =
    by-test (eqb (run_refusal g) 0)
    (λ e.
    let code : open_code m.setup m.edges m.virtuals ≡ 0 = code-held m.setup m.edges m.virtuals g p.1 h ∙ eqb-true (run_refusal g) 0 e in
    rw (e, ← opened-is p.1 h code []) (asked-few k a (opened-runs [] (record { gathered = g; holding = p.1 }) h (refl, refl) code)))
    (λ e. rw e (omega arith))
turn-few k m ill_formed (gathering g) p h = omega arith
turn-few k m (sizes v e n l) (running c) p h = omega arith
turn-few k m (an_edge x) (running c) p h = omega arith
turn-few k m (a_virtual x) (running c) p h = omega arith
turn-few k m (ask a) (running c) p h = rw (← p.2) (asked-few k a p.1)
turn-few k m ill_formed (running c) p h = omega arith

-- ---- all lines of a record fit into 16,384 bytes

pub ends-tells : (k code : ℕ) {b c : List ℕ} {i : ℕ} {stopped : Bool} → 16384 ≤ length b
    → LinesPut b 0 false c i stopped (ends k code).lines → take i c ≡ joined_lines (ends k code).lines
unfolding ends lines_for
ends-tells k code room t = told-few (ends k code).lines t (omega arith)
