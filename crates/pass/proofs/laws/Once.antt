-- A pass that notes each vertex once gives what the pass that notes it again and again gives, on every state.
use Prim.Native.Nat.{ℕ, ◌+◌}
use Rattle.std.specs.Prelude.{◌≡◌, Bool, true, false, not, ◌&&◌, List, [], length, get_or, if◌then◌else◌}
use Rattle.std.proofs.Math.Path.{refl, ap}
use Rattle.std.proofs.Common.{sym, subst, ◌∙◌}
use Rattle.std.proofs.Math.Dec.{eqb}
use Rattle.std.proofs.Math.ListN.{set}
use Rattle.graph.specs.Basic.{fold, member}
use Rattle.graph.specs.State.{State, Graph, Vertices, opposite, end_at, growth_at, grandson_at, sides_at, defect_at, vertex_holder_at, boundary_of, overgrown_of, with_vertices, with_sides, with_holder, with_grandson, with_vertex_holder, with_vertex_grandson, held_side, held_vertex, free_vertex}
use Rattle.graph.specs.laws.Members.{by-test}
use Rattle.graph.specs.laws.State.{if-both, fold-keeps, kept_refl, kept-free-vertex}
use Rattle.pass.specs.Work.{Work, on_state, keep, keep_once, note, push, start_pass}
use Rattle.pass.specs.Grow.{reaches, grow_step, take_side, take_vertex, take_step, grow_scanned, grow_pass}
use Rattle.pass.specs.Shrink.{empty_tops, below_tops, drop_step, shrink_step, release_side, release_step, dropped, shrink_scanned, shrink_pass}
use Rattle.pass.proofs.laws.Counts.{Same, same-take-side, same-release-side}
use Rattle.pass.proofs.laws.Fits.{Still, still-grow-step, Noted, noted-drop-step}
use Rattle.pass.proofs.laws.Noted.{holders_after, first_noted, patched, take-vertex-patched, keep-once-patched, release-patched, noted-once, noted_once, note-once, once-start, fold-beside, alike-patched}
use Rattle.pass.proofs.laws.Passes.{Keeps, keeps_on, keeps-grow-step, keeps-take-vertex, keeps-release-side, grow-scanned-keeps}
use Rattle.pass.specs.inner.Once.{note_with, note_far, grow_step_once, take_once, grow_scanned_once, grow_pass_once, note_end, shrink_step_once, release_once, shrink_scanned_once, shrink_pass_once, Alike}

-- ---- growing

-- the vertex behind a side; a free one goes
abbrev vertex_behind : Graph → ℕ → ℕ
vertex_behind g s = get_or g.end (opposite s) 0

abbrev goes_free : ℕ → Bool
goes_free k = eqb k 0

module _ (n : ℕ) where
  grow-step-once : (h : List ℕ) (w : Work) (s : ℕ)
      → grow_step_once n (noted_once (vertex_behind w.state.graph) goes_free (n + 1) h w) s
      ≡ noted_once (vertex_behind w.state.graph) goes_free (n + 1) h (grow_step n w s)
  grow-step-once h w s =
      let g : Graph = w.state.graph in
      let d : State = held_side w.state (opposite s) n (grandson_at w.state s) in
      by-test (reaches w.state s)
      (λ e. let new : grow_step n w s ≡ note (on_state w d) s = unfold grow_step in rw e in
      let old : grow_step_once n (noted_once (vertex_behind g) goes_free (n + 1) h w) s
      ≡ (if goes_free (get_or (holders_after (vertex_behind g) goes_free (n + 1) h w.noted) (vertex_behind g s) 0)
      then note_with (vertex_behind g s) (n + 1) (noted_once (vertex_behind g) goes_free (n + 1) h (on_state w d)) s
      else noted_once (vertex_behind g) goes_free (n + 1) h (on_state w d)) =
      unfold grow_step_once note_far reaches on_state held_side with_grandson with_holder with_sides with_vertices in rw e in
      rw (new, old) (unfold on_state in note-once (vertex_behind g) goes_free (n + 1) h (on_state w d) s))
      (λ e. unfold grow_step_once grow_step keep reaches with_vertices in rw e)

  take-goes : (g : Graph) (w : Work) (s : ℕ) → w.state.graph ≡ g
      → take_step n w s ≡ (if goes_free (vertex_holder_at w.state (vertex_behind g s)) then take_once n w s else w)
  unfolding take_step take_once
  take-goes g w s k = rw (← k)

  take-holder : (g : Graph) (w : Work) (s : ℕ) → w.state.graph ≡ g
      → (take_once n w s).state.vertices.vertex_holder ≡ set w.state.vertices.vertex_holder (vertex_behind g s) (n + 1)
  unfolding take_once take_vertex push on_state held_vertex with_vertex_grandson with_vertex_holder with_vertices
  take-holder g w s k =
      let v : ℕ = end_at w.state (opposite s) in
      let x : ℕ = grandson_at w.state s in
      let first : Work = on_state w (held_vertex w.state v n x) in
      let sided : Work = fold (take_side n x) first (sides_at w.state v) in
      let same : sided.state.vertices ≡ first.state.vertices =
      fold-keeps (take_side n x) (Same first.state.vertices) (same-take-side first.state.vertices n x) first (sides_at w.state v) refl in
      let held : sided.state.vertices.vertex_holder ≡ set w.state.vertices.vertex_holder v (n + 1) = ap (λ (y : Vertices). y.vertex_holder) same in
      rw (← k)
      (if-both (λ (y : Work). y.state.vertices.vertex_holder ≡ set w.state.vertices.vertex_holder v (n + 1))
      (eqb (length sided.kept) (length w.kept)) held held)

  take-alone : (g : Graph) (h l : List ℕ) (w : Work) (s : ℕ) → w.state.graph ≡ g → set h (vertex_behind g s) (n + 1) ≡ h
      → take_once n (patched h l w) s ≡ patched h l (take_once n w s)
  unfolding take_once with_vertices
  take-alone g h l w s k e = take-vertex-patched h l n (grandson_at w.state s) w (end_at w.state (opposite s)) (rw k e)

grow-scanned-still : (c : State) (n : ℕ) → (grow_scanned c n).state.vertices ≡ c.vertices
unfolding grow_scanned start_pass
grow-scanned-still c n =
    (fold-keeps (grow_step n) (Still c.vertices (overgrown_of c n)) (still-grow-step c.vertices (overgrown_of c n) n)
    (start_pass c (overgrown_of c n)) (boundary_of c n) (refl, refl)).0

-- the scan that notes once, beside the scan that notes again and again
grow-scanned-once : (c : State) (n : ℕ)
    → grow_scanned_once c n ≡ noted_once (vertex_behind c.graph) goes_free (n + 1) c.vertices.vertex_holder (grow_scanned c n)
unfolding grow_scanned_once grow_scanned start_pass
grow-scanned-once c n =
    let h : List ℕ = c.vertices.vertex_holder in
    ap (λ w. fold (grow_step_once n) w (boundary_of c n)) (sym (once-start (vertex_behind c.graph) goes_free (n + 1) (start_pass c (overgrown_of c n)) refl))
    ∙ fold-beside (grow_step n) (grow_step_once n) (noted_once (vertex_behind c.graph) goes_free (n + 1) h) (λ (w : Work). w.state.graph ≡ c.graph)
    (λ w s k. (keeps-grow-step w.state n w s (kept_refl w.state)).graph ∙ k)
    (λ w s k.
    subst (λ g. grow_step_once n (noted_once (vertex_behind g) goes_free (n + 1) h w) s ≡ noted_once (vertex_behind g) goes_free (n + 1) h (grow_step n w s)) k
    (grow-step-once n h w s))
    (start_pass c (overgrown_of c n)) (boundary_of c n) refl

-- what the two scans have in common: sides, kept sides and stack
module _ (c : State) (n : ℕ) where
  pub grow-scanned-sides : (grow_scanned_once c n).state.sides ≡ (grow_scanned c n).state.sides
  unfolding with_vertices
  grow-scanned-sides = ap (λ (w : Work). w.state.sides) (grow-scanned-once c n)

  pub grow-scanned-kept : (grow_scanned_once c n).kept ≡ (grow_scanned c n).kept
  grow-scanned-kept = ap (λ (w : Work). w.kept) (grow-scanned-once c n)

  pub grow-scanned-over : (grow_scanned_once c n).over ≡ (grow_scanned c n).over
  grow-scanned-over = ap (λ (w : Work). w.over) (grow-scanned-once c n)

-- the pass
pub grow-alike : (c : State) (n : ℕ) → Alike (grow_pass_once c n) (grow_pass c n)
unfolding grow_pass grow_pass_once
grow-alike c n =
    let h : List ℕ = c.vertices.vertex_holder in
    let w : Work = grow_scanned c n in
    let l : List ℕ = first_noted (vertex_behind c.graph) goes_free (n + 1) h w.noted in
    let still : w.state.vertices.vertex_holder ≡ h = ap (λ (y : Vertices). y.vertex_holder) (grow-scanned-still c n) in
    let taken =
    noted-once c.graph (vertex_behind c.graph) goes_free (n + 1) (take_once n) (take_step n) (take-goes n c.graph)
    (λ u s k. unfold take_once in ((keeps-take-vertex u.state n (grandson_at u.state s) u (end_at u.state (opposite s)) (kept_refl u.state)).graph ∙ k))
    (take-holder n c.graph) (take-alone n c.graph) l h w.noted w (grow-scanned-keeps c n).graph still in
    rw (grow-scanned-once c n)
    (alike-patched (fold (take_step n) w w.noted) (holders_after (vertex_behind c.graph) goes_free (n + 1) h w.noted) l taken.0 taken.1)

-- ---- shrinking

-- a noted vertex is its own; a held one goes
abbrev itself : ℕ → ℕ
itself v = v

abbrev goes_held : ℕ → Bool
goes_held k = not (eqb k 0)

not-choice : {A : Type 0} (t : Bool) (a b : A) → (if t then a else b) ≡ (if not t then b else a)
not-choice true a b = refl
not-choice false a b = refl

shrink-step-once : (h : List ℕ) (w : Work) (s : ℕ) → shrink_step_once (noted_once itself goes_held 0 h w) s ≡ noted_once itself goes_held 0 h (shrink_step w s)
shrink-step-once h w s =
    let v : ℕ = end_at w.state s in
    by-test (eqb (growth_at w.state s) 0 && eqb (defect_at w.state v) 0)
    (λ e. let new : shrink_step w s ≡ note w v = unfold shrink_step in rw e in
    let old : shrink_step_once (noted_once itself goes_held 0 h w) s
    ≡ (if eqb (get_or (holders_after itself goes_held 0 h w.noted) v 0) 0 then noted_once itself goes_held 0 h w else note_with v 0 (noted_once itself goes_held 0 h w) v) =
    unfold shrink_step_once note_end with_vertices in rw e in
    rw (new, old)
    (not-choice (eqb (get_or (holders_after itself goes_held 0 h w.noted) v 0) 0) (noted_once itself goes_held 0 h w) (note_with v 0 (noted_once itself goes_held 0 h w) v)
    ∙ note-once itself goes_held 0 h w v))
    (λ e. let new : shrink_step w s ≡ keep_once w s = unfold shrink_step in rw e in
    let old : shrink_step_once (noted_once itself goes_held 0 h w) s ≡ keep_once (noted_once itself goes_held 0 h w) s = unfold shrink_step_once with_vertices in rw e in
    let same : (keep_once w s).noted ≡ w.noted = unfold keep_once keep in if-both (λ (y : Work). y.noted ≡ w.noted) (member s w.kept) refl refl in
    rw (new, old, same) (keep-once-patched (holders_after itself goes_held 0 h w.noted) (first_noted itself goes_held 0 h w.noted) w s))

module _ (n : ℕ) where
  release-goes : (w : Work) (v : ℕ) → release_step n w v ≡ (if goes_held (vertex_holder_at w.state v) then release_once n w v else w)
  unfolding release_step release_once
  release-goes w v =
      not-choice (eqb (vertex_holder_at w.state v) 0) w (fold (release_side n) (on_state w (free_vertex w.state v)) (sides_at w.state v))

  release-holder : (w : Work) (v : ℕ) → (release_once n w v).state.vertices.vertex_holder ≡ set w.state.vertices.vertex_holder v 0
  unfolding release_once
  release-holder w v =
      let first : Work = on_state w (free_vertex w.state v) in
      let same : (fold (release_side n) first (sides_at w.state v)).state.vertices ≡ first.state.vertices =
      fold-keeps (release_side n) (Same first.state.vertices) (same-release-side first.state.vertices n) first (sides_at w.state v) refl in
      ap (λ (y : Vertices). y.vertex_holder) same ∙ (unfold on_state free_vertex with_vertex_grandson with_vertex_holder with_vertices in refl)

  pub keeps-release-once : (c : State) (w : Work) (v : ℕ) → Keeps c w → Keeps c (release_once n w v)
  unfolding release_once
  keeps-release-once c w v p =
      fold-keeps (release_side n) (Keeps c) (keeps-release-side c n) (on_state w (free_vertex w.state v)) (sides_at w.state v)
      (keeps_on c w (free_vertex w.state v) p (kept-free-vertex w.state v))

-- nothing is noted while the empty tops go
dropped-noted : (c : State) (n : ℕ) → (dropped c n).noted ≡ []
unfolding dropped start_pass
dropped-noted c n = fold-keeps (drop_step n) (Noted []) (noted-drop-step n []) (start_pass c (below_tops (overgrown_of c n))) (empty_tops (overgrown_of c n)) refl

shrink-scanned-state : (c : State) (n : ℕ) → (shrink_scanned c n).state ≡ (dropped c n).state
unfolding shrink_scanned
shrink-scanned-state c n = fold-keeps shrink_step (λ (y : Work). y.state ≡ (dropped c n).state) (λ w s p. same_step w s p) (dropped c n) (boundary_of c n) refl
  where
    same_step : (w : Work) (s : ℕ) → w.state ≡ (dropped c n).state → (shrink_step w s).state ≡ (dropped c n).state
    same_step w s p = unfold shrink_step note keep_once keep in
        if-both (λ (y : Work). y.state ≡ (dropped c n).state) (eqb (growth_at w.state s) 0 && eqb (defect_at w.state (end_at w.state s)) 0) p
        (if-both (λ (y : Work). y.state ≡ (dropped c n).state) (member s w.kept) p p)

shrink-scanned-once : (c : State) (n : ℕ)
    → shrink_scanned_once c n ≡ noted_once itself goes_held 0 (dropped c n).state.vertices.vertex_holder (shrink_scanned c n)
unfolding shrink_scanned_once shrink_scanned
shrink-scanned-once c n =
    let h : List ℕ = (dropped c n).state.vertices.vertex_holder in
    ap (λ w. fold shrink_step_once w (boundary_of c n)) (sym (once-start itself goes_held 0 (dropped c n) (dropped-noted c n)))
    ∙ fold-beside shrink_step shrink_step_once (noted_once itself goes_held 0 h) (λ (w : Work). Unit {0}) (λ w s p. p) (λ w s p. shrink-step-once h w s) (dropped c n)
    (boundary_of c n) tt

-- the pass
pub shrink-alike : (c : State) (n : ℕ) → Alike (shrink_pass_once c n) (shrink_pass c n)
unfolding shrink_pass shrink_pass_once
shrink-alike c n =
    let h : List ℕ = (dropped c n).state.vertices.vertex_holder in
    let w : Work = shrink_scanned c n in
    let l : List ℕ = first_noted itself goes_held 0 h w.noted in
    let released =
    noted-once w.state.graph itself goes_held 0 (release_once n) (release_step n) (λ u v k. release-goes n u v)
    (λ u v k. (keeps-release-once n u.state u v (kept_refl u.state)).graph ∙ k)
    (λ u v k. release-holder n u v) (λ h l u v k e. release-patched h l n u v e) l h w.noted w refl
    (ap (λ (d : State). d.vertices.vertex_holder) (shrink-scanned-state c n)) in
    rw (shrink-scanned-once c n)
    (alike-patched (fold (release_step n) w w.noted) (holders_after itself goes_held 0 h w.noted) l released.0 released.1)
