-- Laws of the loops of a shrinking pass over the boundary and over what was noted.
use Rattle.std.specs.Prelude.{ℕ, ◌+◌, ◌*◌, ◌≤◌, ◌<◌, ◌≡◌, refl, ◌≢◌, true, false, List, [], ◌∷◌, ℤ, eqb, ltb, set, take}
use Rattle.std.proofs.Common.{arith, sym, ◌∙◌, length-append, length-set, length-take-le}
use Rattle.std.proofs.Math.Path.{ap}
use Rattle.std.proofs.Math.ListN.{length, get_or}
use borrow.Author.Tests.{eqb-false, eq-eqb, ne_eqb, ltb-true}
use Rattle.graph.specs.Basic.{fold, all, member, distinct}
use Rattle.graph.specs.State.{State, vertex_count, side_count, end_at, sides_at, vertex_holder_at, boundary_of, overgrown_of, free_side, free_vertex, opposite, with_vertices, with_vertex_holder}
use Rattle.graph.specs.Word.{word_at, numbers_at}
use Rattle.graph.specs.Layout.{state_of}
use Rattle.graph.specs.inner.Form.{Becomes, sides_ok}
use Rattle.graph.specs.laws.Form.{formed-shape}
use Rattle.graph.specs.laws.State.{if-both, if-cases, fold-keeps, fold-keeps-rest, kept-vholder}
use Rattle.graph.specs.inner.Kept.{SameButHolders}
use Rattle.graph.specs.laws.Members.{distinct-length, all-member, member-at}
use Rattle.pass.specs.Work.{Work, on_state, keep, keep_once, note, call_another, start_pass}
use Rattle.pass.specs.Shrink.{below_tops, empty_tops, drop_step, closed, release_side, dropped}
use Rattle.pass.specs.Scratch.{zero_scratch}
use Rattle.pass.specs.inner.Another.{called}
use Rattle.pass.specs.inner.Scratch.{note_limit}
use Rattle.pass.specs.inner.Free.{free_count}
use Rattle.pass.specs.inner.Once.{note_with, note_end, shrink_step_once, release_once, shrink_scanned_once, shrink_pass_once}
use Rattle.pass.proofs.laws.Counts.{zeros-le, zeros-freed}
use Rattle.pass.proofs.laws.Scratch.{scratch-sections, holding-zero, zeros-second, third-entry, third-numbers}
use Rattle.pass.specs.inner.Ready.{Ready, Shrinkable}
use Rattle.pass.proofs.laws.Fits.{Noted, noted-keep-once, noted-drop-step}
use Rattle.shrink_pass.specs.inner.Shrinking.{HasShrinkWork, ShrinkWorking, ShrinkWorked, vertex_left}
use Rattle.shrink_pass.specs.laws.Mark.{marks-none}
use Rattle.shrink_pass.specs.laws.Shrinking.{busy-of, does-none, does-then, does-same, does-state}
use Rattle.shrink_pass.specs.declared.keep.ShrinkProgress.{ShrinkProgress}

-- ---- over the boundary

pub boundary-fits : (c : State) (n : ℕ) → Shrinkable c n → length (boundary_of c n) ≤ side_count c
unfolding sides_ok
boundary-fits c n s = distinct-length (side_count c) (boundary_of c n) s.once s.sides

module _ {b t b' t' : List ℤ} {m : ℕ} {p p' : ShrinkProgress} (s : ℕ) where
  pub does-scan-note : vertex_left (state_of b) s ≡ true
      → ShrinkWorked b t b' t' m p p' (λ w. note_end w s)
      → ShrinkWorked b t b' t' m p p' (λ w. shrink_step_once w s)
  unfolding shrink_step_once vertex_left
  does-scan-note h d = does-same (λ w. shrink_step_once w s) (λ w e. rw (← e.state, h)) d

  pub does-scan-keep : vertex_left (state_of b) s ≡ false → ShrinkWorked b t b' t' m p p' (λ w. keep_once w s)
      → ShrinkWorked b t b' t' m p p' (λ w. shrink_step_once w s)
  unfolding shrink_step_once vertex_left
  does-scan-keep h d = does-same (λ w. shrink_step_once w s) (λ w e. rw (← e.state, h)) d

-- the vertex of side s, found as v: free, or held, and then noted
module _ {b t : List ℤ} {m : ℕ} {p : ShrinkProgress} (q : ShrinkWorking b t m p) (s v : ℕ)
    (f : v ≡ end_at (state_of b) s) where
  pub does-end-free : vertex_holder_at (state_of b) v ≡ 0 → ShrinkWorked b t b t m p p (λ w. note_end w s)
  unfolding note_end
  does-end-free z = does-same (λ w. note_end w s)
      (λ w e. rw (← e.state, ← f, eq-eqb (vertex_holder_at (state_of b) v) 0 z)) (does-none q)

  pub does-end-note : {b' t' : List ℤ} {p' : ShrinkProgress} → vertex_holder_at (state_of b) v ≢ 0
      → Becomes b b' (with_vertex_holder (state_of b) v 0)
      → (ShrinkWorking b' t m p → ShrinkWorked b' t b' t' m p p' (λ w. note w v))
      → ShrinkWorked b t b' t' m p p' (λ w. note_end w s)
  unfolding note_end note_with
  does-end-note z x d =
      let freed = does-state q (λ c. with_vertex_holder c v 0) (λ c. kept-vholder c v 0) x in
      does-same (λ w. note_end w s) (λ w e. rw (← e.state, ← f, ne_eqb (vertex_holder_at (state_of b) v) 0 z))
      (does-then freed (d freed.working))

  -- with a held vertex there is room
  pub end-room : v < vertex_count (state_of b) → vertex_holder_at (state_of b) v ≢ 0 → p.noted < m
      → p.noted ≤ free_count (state_of b) → 2 * m + p.noted < length t
  end-room h z k r =
      omega (
        arith,
        k,
        r,
        q.sides,
        q.size,
        zeros-freed (state_of b).vertices.vertex_holder v z,
        zeros-le (set (state_of b).vertices.vertex_holder v 0),
        length-set (state_of b).vertices.vertex_holder v 0,
        (formed-shape b q.formed).vertex_holder,
      )

-- at most one vertex is noted for each side
count-step : (w : Work) (s : ℕ) → length (shrink_step_once w s).noted ≤ length w.noted + 1
unfolding shrink_step_once vertex_left note_end note_with note keep_once keep on_state
count-step w s =
    if-both (λ (x : Work). length x.noted ≤ length w.noted + 1) (vertex_left w.state s)
    (if-both (λ (x : Work). length x.noted ≤ length w.noted + 1) (eqb (vertex_holder_at w.state (end_at w.state s)) 0)
    (omega arith) (omega (arith, length-append w.noted (end_at w.state s ∷ []))))
    (if-both (λ (x : Work). length x.noted ≤ length w.noted + 1) (member s w.kept) (omega arith) (omega arith))

scan-notes : (w : Work) (l : List ℕ) → length (fold shrink_step_once w l).noted ≤ length w.noted + length l
scan-notes w l =
    let k : ℕ = length w.noted + length l in
    let h : length (fold shrink_step_once w l).noted + 0 ≤ k =
    fold-keeps-rest shrink_step_once (λ (x : Work) (r : List ℕ). length x.noted + length r ≤ k)
    (λ x s r e. omega (arith, e, count-step x s)) w l
    (omega arith) in
    omega arith

pub scan-room : {b t b' t' : List ℤ} {m : ℕ} {p p' : ShrinkProgress} (l : List ℕ) (i : ℕ) → i ≤ length l
    → ShrinkWorking b t m p → ShrinkWorked b t b' t' m p p' (λ w. fold shrink_step_once w (take i l))
    → p'.noted ≤ p.noted + i
scan-room l i h q d =
    let after = d.run q.work q.has in
    omega (arith, after.noted, q.has.noted, scan-notes q.work (take i l), length-take-le i l h)

-- a vertex more is free where one more is noted
count-free : (w : Work) (s : ℕ)
    → length (shrink_step_once w s).noted + free_count w.state
    ≡ length w.noted + free_count (shrink_step_once w s).state
unfolding shrink_step_once vertex_left note_end note_with note keep_once keep on_state with_vertex_holder with_vertices
count-free w s =
    let P : Work → Type 0 = λ x. length x.noted + free_count w.state ≡ length w.noted + free_count x.state in
    if-both P (vertex_left w.state s)
    (if-cases P (eqb (vertex_holder_at w.state (end_at w.state s)) 0) (λ e. refl)
    (λ e.
    omega (
      arith,
      length-append w.noted (end_at w.state s ∷ []),
      zeros-freed w.state.vertices.vertex_holder (end_at w.state s) (eqb-false _ _ e),
    )))
    (if-both P (member s w.kept) refl refl)

pub scan-free : {b t b' t' : List ℤ} {m : ℕ} {p p' : ShrinkProgress} (s : ℕ) → ShrinkWorking b t m p
    → ShrinkWorked b t b' t' m p p' (λ w. shrink_step_once w s) → p.noted ≤ free_count (state_of b)
    → p'.noted ≤ free_count (state_of b')
scan-free s q d h =
    let after = d.run q.work q.has in
    omega (
      arith,
      h,
      after.noted,
      q.has.noted,
      count-free q.work s,
      ap free_count after.state,
      ap free_count q.has.state,
    )

-- ---- over what was noted

module _ (l : List ℕ) where
  noted-release-side : (n : ℕ) (w : Work) (t : ℕ) → Noted l w → Noted l (release_side n w t)
  unfolding release_side call_another on_state
  noted-release-side n w t p =
      if-both (Noted l) (closed n w.state t) (noted-keep-once l (on_state w (free_side w.state t)) (opposite t) p) p

  noted-release-once : (n : ℕ) (w : Work) (v : ℕ) → Noted l w → Noted l (release_once n w v)
  unfolding release_once
  noted-release-once n w v p =
      fold-keeps (release_side n) (Noted l) (noted-release-side n) (on_state w (free_vertex w.state v))
      (sides_at w.state v) (unfold on_state in p)

release-noted : (n : ℕ) (w : Work) (l : List ℕ) → (fold (release_once n) w l).noted ≡ w.noted
release-noted n w l = fold-keeps (release_once n) (Noted w.noted) (noted-release-once w.noted n) w l refl

-- what was noted stands in the third section
pub noted-words : {b t : List ℤ} {m : ℕ} {p : ShrinkProgress} {w : Work} → HasShrinkWork b t m p w
    → numbers_at t (2 * m) p.noted ≡ w.noted
noted-words h = rw h.noted (third-numbers h.scratch)

pub noted-size : {b t : List ℤ} {m : ℕ} {p : ShrinkProgress} → ShrinkWorking b t m p
    → length (numbers_at t (2 * m) p.noted) ≡ p.noted
noted-size q = ap length (noted-words q.has) ∙ sym q.has.noted

-- entry i of it is read, while vertices are released: a vertex
pub noted-word : {b t b' t' : List ℤ} {m : ℕ} {p p' : ShrinkProgress} (n i : ℕ) (l : List ℕ) → i < p.noted
    → ShrinkWorking b t m p → ShrinkWorked b t b' t' m p p' (λ w. fold (release_once n) w l)
    → (word_at t' (2 * m + i) ≡ get_or (numbers_at t (2 * m) p.noted) i 0)
    × (word_at t' (2 * m + i) < vertex_count (state_of b'))
noted-word {b' = b'} {t' = t'} {m = m} n i l h q d =
    let w : Work = q.work in
    let after = d.run w q.has in
    let same = release-noted n w l in
    let size : i < length (fold (release_once n) w l).noted = rw same (omega (arith, h, q.has.noted)) in
    let word : word_at t' (2 * m + i) ≡ get_or (fold (release_once n) w l).noted i 0 =
    third-entry after.scratch i size in
    let inside : get_or (fold (release_once n) w l).noted i 0 < vertex_count (state_of b') =
    ltb-true _ _
    (all-member (λ v. ltb v (vertex_count (state_of b'))) (fold (release_once n) w l).noted
    (get_or (fold (release_once n) w l).noted i 0) after.ends
    (member-at (fold (release_once n) w l).noted i 0 size)) in
    (word ∙ ap (λ x. get_or x i 0) (same ∙ sym (noted-words q.has)), rw word inside)

pub does-release-noted : {b t b' t' : List ℤ} {m : ℕ} {p p' : ShrinkProgress} (n : ℕ)
    → ShrinkWorked b t b' t' m p p' (λ w. fold (release_once n) w (numbers_at t (2 * m) p.noted))
    → ShrinkWorked b t b' t' m p p' (λ w. fold (release_once n) w w.noted)
does-release-noted n d =
    does-same (λ w. fold (release_once n) w w.noted) (λ w h. ap (fold (release_once n) w) (noted-words h)) d

-- ---- the whole work

-- no side kept, no vertex noted, no other pass called for
abbrev pub nothing : ShrinkProgress
nothing = record { kept = 0; noted = 0; another = 0 }

shrink-start : (b t : List ℤ) (m n : ℕ) → Ready b t n → m ≡ side_count (state_of b)
    → HasShrinkWork b t m nothing (start_pass (state_of b) (below_tops (overgrown_of (state_of b) n)))
unfolding start_pass all distinct called
shrink-start b t m n r e =
    record {
      state = refl;
      scratch = rw (marks-none m)
          (zeros-second (holding-zero t m (note_limit (state_of b))
          (r.scratch ∙ ap zero_scratch (rw e (scratch-sections r.formed)))) refl);
      kept = refl;
      noted = refl;
      another = refl;
      inside = refl;
      once = refl;
      ends = refl;
    }

pub start-busy : (b t : List ℤ) (m n : ℕ) → Ready b t n → m ≡ side_count (state_of b) → ShrinkWorking b t m nothing
start-busy b t m n r e = busy-of r.formed e (shrink-start b t m n r e)

-- what the pass asks of the state stays while vertices go
pub shrinkable-kept : {c d : State} (n : ℕ) → SameButHolders c d → Shrinkable c n → Shrinkable d n
unfolding sides_ok
shrinkable-kept n k s =
    record {
      sides = rw (k.graph, k.nodes) s.sides;
      once = rw k.nodes s.once;
      stack = rw (k.graph, k.nodes) s.stack;
      size = rw (k.graph, k.nodes) s.size;
    }

module _ {b t b₁ t₁ : List ℤ} {m : ℕ} {p₁ : ShrinkProgress} (n : ℕ) (r : Ready b t n) (e : m ≡ side_count (state_of b))
    (d₁ : ShrinkWorked b t b₁ t₁ m nothing p₁
    (λ w. fold (drop_step n) w (empty_tops (overgrown_of (state_of b) n)))) where
  -- nothing is noted by then
  pub none-noted : p₁.noted ≡ 0
  none-noted =
      let none : (fold (drop_step n) (start_pass (state_of b) (below_tops (overgrown_of (state_of b) n)))
      (empty_tops (overgrown_of (state_of b) n))).noted
      ≡ [] =
      unfold start_pass in
      (fold-keeps (drop_step n) (Noted []) (noted-drop-step n [])
      (start_pass (state_of b) (below_tops (overgrown_of (state_of b) n)))
      (empty_tops (overgrown_of (state_of b) n)) refl) in
      (d₁.run _ (shrink-start b t m n r e)).noted ∙ ap length none

  pub shrink-worked : {b₂ t₂ b₃ t₃ : List ℤ} {p₂ p₃ : ShrinkProgress}
      → ShrinkWorked b₁ t₁ b₂ t₂ m p₁ p₂ (λ w. fold shrink_step_once w (boundary_of (state_of b₁) n))
      → ShrinkWorked b₂ t₂ b₃ t₃ m p₂ p₃ (λ w. fold (release_once n) w w.noted)
      → HasShrinkWork b₃ t₃ m p₃ (shrink_pass_once (state_of b) n)
  unfolding shrink_pass_once shrink_scanned_once dropped
  shrink-worked d₂ d₃ =
      let same : boundary_of (state_of b₁) n ≡ boundary_of (state_of b) n =
      ap (λ x. get_or x.boundary n []) d₁.keeps.nodes in
      d₃.run _ (rw same at (d₂.run _ (d₁.run _ (shrink-start b t m n r e))))
