-- A pass that calls for another has taken a free vertex, or released a held one: the number of free vertices tells.
use Rattle.std.specs.Prelude.{ℕ, zero, suc, ◌+◌, ◌≤◌, ◌<◌, ◌≡◌, refl, ◌≢◌, Bool, true, false, ◌&&◌, List, [], ◌∷◌, eqb, length, get_or, set}
use Rattle.std.proofs.Common.{arith, eqb-true, eq-eqb, ne_eqb}
use Rattle.std.proofs.Math.Path.{ap}
use Rattle.std.proofs.lemmas.Bool.{eqb-false}
use Rattle.graph.specs.Basic.{fold, member}
use Rattle.graph.specs.State.{State, Vertices, opposite, end_at, growth_at, holder_at, grandson_at, sides_at, vertex_holder_at, defect_at, boundary_of, overgrown_of, with_vertices, with_sides, with_holder, with_grandson, with_vertex_holder, with_vertex_grandson, held_side, free_side, held_vertex, free_vertex}
use Rattle.graph.specs.laws.State.{if-both, if-cases, fold-keeps}
use Rattle.graph.specs.inner.Kept.{SameButHolders}
use Rattle.graph.specs.laws.Members.{by-test}
use Rattle.pass.specs.Work.{Work, on_state, keep, keep_once, note, push, call_another, start_pass}
use Rattle.pass.specs.Grow.{reaches, grow_step, take_side, take_vertex, take_step, grow_scanned, grow_pass}
use Rattle.pass.specs.Shrink.{empty_tops, drop_side, drop_step, shrink_step, closed, release_side, release_step, dropped, shrink_scanned, shrink_pass}
use Rattle.pass.proofs.laws.Passes.{Keeps, keeps-take-step, grow-scanned-keeps}
use Rattle.pass.specs.inner.Ends.{EndsIn}
use Rattle.pass.specs.inner.Free.{zero_count, free_count}

-- ---- counting

pub zeros-le : (l : List ℕ) → zero_count l ≤ length l
unfolding zero_count
zeros-le [] = omega arith
zeros-le (x ∷ xs) = let ih : zero_count xs ≤ length xs = zeros-le xs in by-test (eqb x 0) (λ e. rw e (omega arith)) (λ e. rw e (omega arith))

-- a 0 is overwritten, and a 0 is written
pub zeros-taken : (l : List ℕ) (i h : ℕ) → i < length l → get_or l i 0 ≡ 0 → suc (zero_count (set l i (h + 1))) ≡ zero_count l
unfolding zero_count
zeros-taken [] i h b e = absurd (omega arith)
zeros-taken (x ∷ xs) zero h b e = rw (eq-eqb x 0 e, ne_eqb (h + 1) 0 (omega arith))
zeros-taken (x ∷ xs) (suc i) h b e =
    let ih : suc (zero_count (set xs i (h + 1))) ≡ zero_count xs = zeros-taken xs i h (omega arith) e in
    by-test (eqb x 0) (λ q. rw q (ap suc ih)) (λ q. rw q ih)

pub zeros-freed : (l : List ℕ) (i : ℕ) → get_or l i 0 ≢ 0 → zero_count (set l i 0) ≡ suc (zero_count l)
unfolding zero_count
zeros-freed [] i e = absurd (e refl)
zeros-freed (x ∷ xs) zero e = rw (ne_eqb x 0 e)
zeros-freed (x ∷ xs) (suc i) e =
    let ih : zero_count (set xs i 0) ≡ suc (zero_count xs) = zeros-freed xs i e in
    by-test (eqb x 0) (λ q. rw q (ap suc ih)) (λ q. rw q ih)

-- 1 for a pass that calls for another, or 0
unfoldable pub one : Bool → ℕ
one true = 1
one false = 0

pub one-le : (t : Bool) → one t ≤ 1
unfolding one
one-le true = omega arith
one-le false = omega arith

-- ---- what does not touch the vertices

abbrev pub Same : Vertices → Work → Type 0
Same x w = w.state.vertices ≡ x

module _ (x : Vertices) where
  same-keep-once : (w : Work) (s : ℕ) → Same x w → Same x (keep_once w s)
  unfolding keep_once keep
  same-keep-once w s p = if-both (Same x) (member s w.kept) p p

  pub same-take-side : (n g : ℕ) (w : Work) (t : ℕ) → Same x w → Same x (take_side n g w t)
  unfolding take_side call_another keep on_state held_side with_grandson with_holder with_sides
  same-take-side n g w t p = if-both (Same x) (eqb (holder_at w.state t) 0) p p

  same-free-side : (w : Work) (t : ℕ) → Same x w → Same x (on_state w (free_side w.state t))
  unfolding on_state free_side with_grandson with_holder with_sides
  same-free-side w t p = p

  same-drop-side : (w : Work) (t : ℕ) → Same x w → Same x (drop_side w t)
  unfolding drop_side call_another
  same-drop-side w t p = same-keep-once _ (opposite t) (same-free-side w t p)

  pub same-release-side : (n : ℕ) (w : Work) (t : ℕ) → Same x w → Same x (release_side n w t)
  unfolding release_side call_another
  same-release-side n w t p = if-both (Same x) (closed n w.state t) (same-keep-once _ (opposite t) (same-free-side w t p)) (same-free-side w t p)

-- ---- growing

-- z vertices were free at the start: now they are fewer, if another pass is called for
abbrev Fewer : ℕ → Work → Type 0
Fewer z w = free_count w.state + one w.another ≤ z

fewer-grow-step : (z n : ℕ) (w : Work) (s : ℕ) → Fewer z w → Fewer z (grow_step n w s)
unfolding grow_step note keep on_state held_side with_grandson with_holder with_sides
fewer-grow-step z n w s p = if-both (Fewer z) (reaches w.state s) p p

fewer-take-vertex : (z n g : ℕ) (w : Work) (v : ℕ) → v < length w.state.vertices.vertex_holder
    → vertex_holder_at w.state v ≡ 0 → Fewer z w → Fewer z (take_vertex n g w v)
unfolding take_vertex push
fewer-take-vertex z n g w v h e p =
    let first : Work = on_state w (held_vertex w.state v n g) in
    let after : Work = fold (take_side n g) first (sides_at w.state v) in
    let same : after.state.vertices ≡ first.state.vertices =
    fold-keeps (take_side n g) (Same first.state.vertices) (same-take-side first.state.vertices n g) first
    (sides_at w.state v) refl in
    let less : suc (free_count first.state) ≡ free_count w.state =
    unfold on_state held_vertex with_vertex_grandson with_vertex_holder with_vertices in
    (zeros-taken w.state.vertices.vertex_holder v n h e) in
    let eq : free_count after.state ≡ free_count first.state = ap (λ x. zero_count x.vertex_holder) same in
    let q : Fewer z after = omega (arith, one-le after.another) in
    if-both (Fewer z) (eqb (length after.kept) (length w.kept)) q q

-- with the frame of the pass, for the range of the ends
pub record Taking (c : State) (w : Work) : Type 0 where
  pub keeps : Keeps c w
  pub fewer : free_count w.state + one w.another ≤ free_count c

fewer-take-step : (c : State) (n : ℕ) → EndsIn c → (w : Work) (s : ℕ) → Taking c w → Fewer (free_count c) (take_step n w s)
unfolding take_step
fewer-take-step c n ends w s p =
    let k : SameButHolders c w.state = p.keeps in
    let inside : end_at w.state (opposite s) < length w.state.vertices.vertex_holder = rw (k.graph, k.vertex_holder) (ends (opposite s)) in
    if-cases (Fewer (free_count c)) (eqb (vertex_holder_at w.state (end_at w.state (opposite s))) 0)
    (λ e. fewer-take-vertex (free_count c) n (grandson_at w.state s) w (end_at w.state (opposite s)) inside (eqb-true _ _ e) p.fewer)
    (λ e. p.fewer)

taking_step : (c : State) (n : ℕ) → EndsIn c → (w : Work) (s : ℕ) → Taking c w → Taking c (take_step n w s)
taking_step c n ends w s p = record { keeps = keeps-take-step c n w s p.keeps; fewer = fewer-take-step c n ends w s p }

pub grow-pass-fewer : (c : State) (n : ℕ) → EndsIn c → free_count (grow_pass c n).state + one (grow_pass c n).another ≤ free_count c
unfolding grow_pass grow_scanned start_pass one
grow-pass-fewer c n ends =
    let scanned : Fewer (free_count c) (grow_scanned c n) =
    fold-keeps (grow_step n) (Fewer (free_count c)) (fewer-grow-step (free_count c) n) _ (boundary_of c n) (omega arith) in
    let t : Taking c (grow_pass c n) =
    fold-keeps (take_step n) (Taking c) (taking_step c n ends) (grow_scanned c n) (grow_scanned c n).noted
    (record { keeps = grow-scanned-keeps c n; fewer = scanned }) in
    t.fewer

-- ---- shrinking

abbrev More : ℕ → Work → Type 0
More z w = z + one w.another ≤ free_count w.state

more-released : (z : ℕ) (w after : Work) (v : ℕ) → vertex_holder_at w.state v ≢ 0
    → after.state.vertices ≡ (on_state w (free_vertex w.state v)).state.vertices → More z w → More z after
more-released z w after v h same p =
    let more : free_count (on_state w (free_vertex w.state v)).state ≡ suc (free_count w.state) =
    unfold on_state free_vertex with_vertex_grandson with_vertex_holder with_vertices in
    (zeros-freed w.state.vertices.vertex_holder v h) in
    let eq : free_count after.state ≡ free_count (on_state w (free_vertex w.state v)).state = ap (λ x. zero_count x.vertex_holder) same in
    omega (arith, one-le after.another)

more-drop-step : (z n : ℕ) (w : Work) (v : ℕ) → More z w → More z (drop_step n w v)
unfolding drop_step
more-drop-step z n w v p =
    let first : Work = on_state w (free_vertex w.state v) in
    if-cases (More z) (eqb (vertex_holder_at w.state v) (n + 1))
    (λ e.
    let q : vertex_holder_at w.state v ≡ n + 1 = eqb-true _ _ e in
    more-released z w (fold drop_side first (sides_at w.state v)) v (omega arith)
    (fold-keeps drop_side (Same first.state.vertices) (same-drop-side first.state.vertices) first (sides_at w.state v) refl) p)
    (λ e. p)

more-shrink-step : (z : ℕ) (w : Work) (s : ℕ) → More z w → More z (shrink_step w s)
unfolding shrink_step note keep_once keep
more-shrink-step z w s p =
    if-both (More z) (eqb (growth_at w.state s) 0 && eqb (defect_at w.state (end_at w.state s)) 0) p
    (if-both (More z) (member s w.kept) p p)

more-release-step : (z n : ℕ) (w : Work) (v : ℕ) → More z w → More z (release_step n w v)
unfolding release_step
more-release-step z n w v p =
    let first : Work = on_state w (free_vertex w.state v) in
    if-cases (More z) (eqb (vertex_holder_at w.state v) 0)
    (λ e. p)
    (λ e.
    more-released z w (fold (release_side n) first (sides_at w.state v)) v (eqb-false _ _ e)
    (fold-keeps (release_side n) (Same first.state.vertices) (same-release-side first.state.vertices n) first (sides_at w.state v) refl) p)

pub shrink-pass-more : (c : State) (n : ℕ) → free_count c + one (shrink_pass c n).another ≤ free_count (shrink_pass c n).state
unfolding shrink_pass shrink_scanned dropped start_pass one
shrink-pass-more c n =
    let d : More (free_count c) (dropped c n) =
    fold-keeps (drop_step n) (More (free_count c)) (more-drop-step (free_count c) n) _ (empty_tops (overgrown_of c n))
    (omega arith) in
    let s : More (free_count c) (shrink_scanned c n) =
    fold-keeps shrink_step (More (free_count c)) (more-shrink-step (free_count c)) (dropped c n) (boundary_of c n) d in
    fold-keeps (release_step n) (More (free_count c)) (more-release-step (free_count c) n) (shrink_scanned c n) (shrink_scanned c n).noted s
