-- What preparation leaves: for shrinking no top of amount 0; for growing no side free that was held.
use Rattle.std.specs.Prelude.{ℕ, zero, suc, ◌+◌, ◌<◌, ◌≡◌, refl, false, List, [], ◌∷◌, eqb, length, get_or, set}
use Rattle.std.proofs.Common.{arith, sym, ◌∙◌, get_or-set_same, get_or-set_other}
use Rattle.std.proofs.Math.Decide.{ℕ_discrete as dec_eq, dec_lt}
use Rattle.std.proofs.Math.Logic.{by_cases}
use Rattle.std.proofs.Math.Seq.{set_out}
use Rattle.graph.specs.Basic.{fold}
use Rattle.graph.specs.State.{State, Overgrown, opposite, end_at, holder_at, grandson_at, sides_at, vertex_holder_at, vertex_count, boundary_of, overgrown_of, with_vertices, with_sides, with_nodes, with_holder, with_grandson, with_vertex_holder, with_vertex_grandson, held_side, held_vertex, with_boundary, with_overgrown, up, down}
use Rattle.graph.specs.laws.State.{if-both, fold-keeps}
use Rattle.graph.specs.inner.Kept.{SameButHolders}
use Rattle.graph.specs.laws.Members.{by-test}
use Rattle.pass.specs.Work.{Work, on_state, keep, note, push, call_another, start_pass, finish_pass}
use Rattle.pass.specs.Grow.{reaches, grow_step, take_side, take_vertex, take_step, grow_scanned, grow_pass}
use Rattle.pass.specs.Shrink.{empty_tops, below_tops, shrink_pass}
use Rattle.pass.specs.Prepare.{one_pass, prepare_from, prepare_node}
use Rattle.pass.proofs.laws.Passes.{shrink-pass-keeps}
use Rattle.pass.specs.inner.Ends.{EndsIn}
use Rattle.pass.proofs.laws.Prepare.{pass_state, one-passed, one_up, one_down, prepare-more, prepare-last, prepare-leaves}
use Rattle.pass.proofs.laws.Fits.{shrink-over}
use Rattle.pass.proofs.laws.GrowSound.{finish-overgrown}
use Rattle.pass.proofs.laws.Idle.{TopLeft}

-- ---- tops

top-stays : (o : Overgrown) (os : List Overgrown) → eqb o.amount 0 ≡ false → TopLeft (o ∷ os)
unfolding empty_tops below_tops
top-stays o os e = (rw e refl, rw e refl)

below_left : (st : List Overgrown) → TopLeft (below_tops st)
unfolding empty_tops below_tops
below_left [] = (refl, refl)
below_left (o ∷ os) =
    let ih : TopLeft (below_tops os) = unfold empty_tops below_tops in (below_left os) in
    by-test (eqb o.amount 0)
    (λ e. rw e ih)
    (λ e. rw e (top-stays o os e))

pub prepare-top-left : (c : State) (n : ℕ) → EndsIn c → length c.vertices.vertex_holder ≡ vertex_count c
    → n < length c.nodes.overgrown → TopLeft (overgrown_of (prepare_node c n down).state n)
prepare-top-left c n ends len b =
    prepare-leaves n down (λ (d : State). n < length d.nodes.overgrown) (λ (d : State). TopLeft (overgrown_of d n))
    (λ d h e. rw (one-passed d n down).overgrown h)
    (λ d h e. let k : SameButHolders d (shrink_pass d n).state = shrink-pass-keeps d n in
    rw (one_down d n down refl, finish-overgrown (shrink_pass d n) n (rw k.nodes h), shrink-over d n)
    (below_left (overgrown_of d n)))
    c ends len b

-- ---- sides

-- every side that is free in d was free in c
abbrev pub FreesNone : State → State → Type 0
FreesNone c d = (o : ℕ) → holder_at d o ≡ 0 → holder_at c o ≡ 0

set-held : (l : List ℕ) (i n o : ℕ) → get_or (set l i (n + 1)) o 0 ≡ 0 → get_or l o 0 ≡ 0
set-held l i n o h =
    by_cases (dec_eq o i)
    (λ e.
    by_cases (dec_lt i (length l))
    (λ b. let k : get_or (set l i (n + 1)) i 0 ≡ n + 1 = get_or-set_same l i (n + 1) 0 b in
    let h' : get_or (set l i (n + 1)) i 0 ≡ 0 = rw e at h in
    absurd (omega arith))
    (λ b. rw (set_out l i (n + 1) (omega arith)) at h))
    (λ e. sym (get_or-set_other l i o (n + 1) 0 e) ∙ h)

held_none : (c d : State) (s n g : ℕ) → FreesNone c d → FreesNone c (held_side d s n g)
unfolding held_side with_grandson with_holder with_sides
held_none c d s n g f o h = f o (set-held d.sides.holder s n o h)

vertex-none : (c d : State) (v n g : ℕ) → FreesNone c d → FreesNone c (held_vertex d v n g)
unfolding held_vertex with_vertex_grandson with_vertex_holder with_vertices
vertex-none c d v n g f o h = f o h

abbrev NoneFreed : State → Work → Type 0
NoneFreed c w = FreesNone c w.state

step-none : (c : State) (n : ℕ) (w : Work) (s : ℕ) → NoneFreed c w → NoneFreed c (grow_step n w s)
unfolding grow_step note on_state keep
step-none c n w s f = if-both (NoneFreed c) (reaches w.state s) (held_none c w.state (opposite s) n (grandson_at w.state s) f) f

side-none : (c : State) (n g : ℕ) (w : Work) (t : ℕ) → NoneFreed c w → NoneFreed c (take_side n g w t)
unfolding take_side call_another on_state keep
side-none c n g w t f = if-both (NoneFreed c) (eqb (holder_at w.state t) 0) (held_none c w.state t n g f) f

taken_none : (c : State) (n g : ℕ) (w : Work) (v : ℕ) → NoneFreed c w → NoneFreed c (take_vertex n g w v)
unfolding take_vertex push on_state
taken_none c n g w v f =
    let after : Work = fold (take_side n g) (on_state w (held_vertex w.state v n g)) (sides_at w.state v) in
    let k : NoneFreed c after =
    fold-keeps (take_side n g) (NoneFreed c) (side-none c n g) (on_state w (held_vertex w.state v n g))
    (sides_at w.state v) (vertex-none c w.state v n g f) in
    if-both (NoneFreed c) (eqb (length after.kept) (length w.kept)) k k

take_none : (c : State) (n : ℕ) (w : Work) (s : ℕ) → NoneFreed c w → NoneFreed c (take_step n w s)
unfolding take_step
take_none c n w s f =
    if-both (NoneFreed c) (eqb (vertex_holder_at w.state (end_at w.state (opposite s))) 0)
    (taken_none c n (grandson_at w.state s) w (end_at w.state (opposite s)) f) f

pass-none : (c d : State) (n : ℕ) → FreesNone c d → NoneFreed c (grow_pass d n)
unfolding grow_pass grow_scanned start_pass
pass-none c d n f =
    fold-keeps (take_step n) (NoneFreed c) (take_none c n) _ (grow_scanned d n).noted
    (fold-keeps (grow_step n) (NoneFreed c) (step-none c n) _ (boundary_of d n) f)

finish-none : (c : State) (w : Work) (n : ℕ) → NoneFreed c w → FreesNone c (finish_pass w n)
unfolding finish_pass with_overgrown with_boundary with_nodes
finish-none c w n f = f

from-none : (fuel : ℕ) (c d : State) (n k : ℕ) → FreesNone c d → FreesNone c (prepare_from fuel d n up k).state
from-none zero c d n k f = unfold prepare_from in f
from-none (suc fuel) c d n k f =
    let p : FreesNone c (pass_state d n up) = rw (one_up d n up refl) (finish-none c (grow_pass d n) n (pass-none c d n f)) in
    by-test (one_pass d n up).another
    (λ e. rw (prepare-more fuel d n up k e) (from-none fuel c (pass_state d n up) n (k + 1) p))
    (λ e. rw (prepare-last fuel d n up k e) p)

pub prepare-frees-none : (c : State) (n : ℕ) → FreesNone c (prepare_node c n up).state
unfolding prepare_node
prepare-frees-none c n = from-none (suc (vertex_count c)) c c n 0 (λ o h. h)
