-- Laws of a growing pass in memory: the scan of the boundary, what it leaves for the noted sides, and the end.
use Rattle.std.specs.Prelude.{ℕ, ◌+◌, ◌-◌, ◌*◌, ◌≤◌, ◌<◌, ◌≡◌, refl, ◌≢◌, true, false, ℤ, pos, eqb, ltb, get_or, set}
use native.Mathlib.Omega.{arith}
use Rattle.std.proofs.Math.Path.{sym, ap}
use Rattle.std.proofs.Common.{subst₂, ◌∙◌, length-append}
use mathlib.Core.List.{List, [], ◌∷◌, ◌++◌, append-nil, append_assoc}
use Rattle.std.proofs.Math.ListN.{length}
use Rattle.std.proofs.lemmas.List.{set-get_or}
use borrow.Author.Tests.{eqb-true, eq-eqb, ne_eqb}
use Rattle.graph.specs.Basic.{fold, any, all}
use Rattle.graph.specs.State.{State, Sides, Overgrown, opposite, vertex_count, edge_count, side_count, node_count, end_at, vertex_holder_at, grandson_at, boundary_of, overgrown_of, held_side, with_vertices, with_vertex_holder, with_sides, with_holder, with_grandson, with_nodes, with_boundary, with_overgrown}
use Rattle.graph.specs.Sound.{entries, entries_of}
use Rattle.graph.specs.Word.{numbers_at}
use Rattle.graph.specs.Layout.{stack_from, state_of, scratch_size}
use Rattle.graph.specs.Form.{Formed}
use Rattle.graph.specs.inner.Form.{Becomes, sides_ok}
use Rattle.graph.specs.inner.Replace.{with_lists}
use Rattle.graph.specs.laws.State.{if-both, if-cases, fold-keeps, fold-keeps-on, kept_refl, kept_trans, kept-vholder, kept-held-side, kept-overgrown, opposite-below}
use Rattle.graph.specs.inner.Kept.{SameButHolders}
use Rattle.graph.specs.laws.Field.{end_below}
use Rattle.graph.specs.laws.Members.{all_snoc, or-neither-left, or-neither-right}
use Rattle.graph.specs.laws.Number.{numbers-none}
use Rattle.graph.specs.laws.Row.{becomes-none, becomes-then}
use Rattle.pass.specs.Work.{Work, on_state, keep, note, start_pass, finish_pass}
use Rattle.pass.specs.Grow.{reaches, grow_step, grow_scanned, grow_pass}
use Rattle.pass.specs.inner.Once.{note_with, note_far, grow_step_once, take_once, grow_scanned_once, grow_pass_once, Alike}
use Rattle.pass.specs.inner.Another.{called}
use Rattle.pass.specs.inner.Free.{free_count}
use Rattle.pass.proofs.laws.Counts.{zeros-le, zeros-taken}
use Rattle.pass.proofs.laws.Once.{grow-scanned-sides, grow-scanned-kept, grow-scanned-over, grow-alike}
use Rattle.pass.proofs.laws.Noted.{finish-alike}
use Rattle.pass.proofs.laws.Passes.{Keeps, keeps-keep, keeps-note, keeps_on, grow-pass-keeps}
use Rattle.pass.specs.Scratch.{zero_scratch, scratch_of}
use Rattle.pass.specs.inner.Scratch.{note_limit, ScratchHolds, wiped}
use Rattle.pass.proofs.laws.Scratch.{scratch-sections, holding-zero, zero-holding, wipe-first, wipe-second, wipe-third}
use Rattle.graph.specs.laws.Form.{formed-shape, formed-vertices}
use Rattle.pass.specs.inner.Ready.{Ready, Growable, AfterPass}
use Rattle.pass.proofs.laws.Fits.{grow-scanned-own, Still, still-grow-step, sound-own-sides, sound-grow-fits, sound-boundary-le}
use Rattle.pass.specs.inner.Own.{OwnList, OwnSides}
use Rattle.grow_pass.specs.inner.Growing.{grow_work_in, GrowWorking, GrowWorked, OwnKept, NotesFit}
use Rattle.grow_pass.specs.laws.Growing.{kept-length, noted-length, pushed-length, over-length, worked_then, work-keep, work-note, work-block, work_none, Keeping, Looped}
use Rattle.grow_pass.specs.laws.Take.{own-worked}
use Rattle.grow_pass.specs.declared.take.GrowProgress.{GrowProgress}

-- ---- the scan

-- a boundary side is kept or noted, or neither
count-step : (n : ℕ) (w : Work) (s : ℕ) → length (grow_step_once n w s).kept + length (grow_step_once n w s).noted ≤ length w.kept + length w.noted + 1
unfolding grow_step_once note_far note_with note keep on_state held_side with_grandson with_holder with_sides
count-step n w s =
    if-both (λ (x : Work). length x.kept + length x.noted ≤ length w.kept + length w.noted + 1) (reaches w.state s)
    (if-both (λ (x : Work). length x.kept + length x.noted ≤ length w.kept + length w.noted + 1)
    (eqb (vertex_holder_at w.state (end_at w.state (opposite s))) 0)
    (omega (arith, length-append w.noted (s ∷ []))) (omega arith))
    (omega (arith, length-append w.kept (s ∷ [])))

-- and a vertex less is free where one more is noted
count-free : (n : ℕ) (w : Work) (s : ℕ) → end_at w.state (opposite s) < length w.state.vertices.vertex_holder
    → length (grow_step_once n w s).noted + free_count (grow_step_once n w s).state ≡ length w.noted + free_count w.state
unfolding grow_step_once note_far note_with note keep on_state held_side with_grandson with_holder with_sides with_vertex_holder with_vertices
count-free n w s h =
    if-both (λ (x : Work). length x.noted + free_count x.state ≡ length w.noted + free_count w.state) (reaches w.state s)
    (if-cases (λ (x : Work). length x.noted + free_count x.state ≡ length w.noted + free_count w.state)
    (eqb (vertex_holder_at w.state (end_at w.state (opposite s))) 0)
    (λ e.
    omega (
      arith,
      length-append w.noted (s ∷ []),
      zeros-taken w.state.vertices.vertex_holder (end_at w.state (opposite s)) n h (eqb-true _ _ e),
    ))
    (λ e. refl))
    refl

module _ {b t : List ℤ} {n m : ℕ} {p : GrowProgress} (q : GrowWorking b t n m p) (s : ℕ) where
  -- the vertex behind side s, found as v
  module _ (o v : ℕ) (e : o ≡ opposite s) (f : v ≡ end_at (state_of b) o) where
    -- is free, and noted
    pub far-note : {b' : List ℤ} → p.noted < note_limit (state_of b) → vertex_holder_at (state_of b) v ≡ 0 → Becomes b b' (with_vertex_holder (state_of b) v (n + 1))
        → GrowWorked b b' (set t (2 * m + p.noted) (pos s)) n m
        (record { kept = p.kept; noted = p.noted + 1; pushed = p.pushed; another = p.another })
        (note_far n (grow_work_in b t n m p) s)
    far-note h z x =
        let u : note_far n (grow_work_in b t n m p) s ≡ note (on_state (grow_work_in b t n m p) (with_vertex_holder (state_of b) v (n + 1))) s =
        unfold note_far note_with grow_work_in in
        rw (← e, ← f, eq-eqb (vertex_holder_at (state_of b) v) 0 z) in
        let x₁ = work-block q x (kept-vholder (state_of b) v (n + 1)).nodes in
        rw u (worked_then (λ w. note w s) x₁ (work-note x₁.working s (rw (x.vertices, x.sides) h)))

    -- or not
    pub far-held : vertex_holder_at (state_of b) v ≢ 0 → GrowWorked b b t n m p (note_far n (grow_work_in b t n m p) s)
    far-held z =
        let u : note_far n (grow_work_in b t n m p) s ≡ grow_work_in b t n m p =
        unfold note_far grow_work_in in
        rw (← e, ← f, ne_eqb (vertex_holder_at (state_of b) v) 0 z) in
        rw u (work_none q)

  -- with a free vertex there is room
  pub far-room : (v : ℕ) → v < vertex_count (state_of b) → vertex_holder_at (state_of b) v ≡ 0 → p.noted < m → NotesFit b p → p.noted < note_limit (state_of b)
  far-room v h z k r =
      let l : v < length (state_of b).vertices.vertex_holder = omega (arith, h, (formed-shape b q.formed).vertex_holder) in
      omega (arith, k, r, q.sides, zeros-taken (state_of b).vertices.vertex_holder v n l z)

  -- the far side is held
  pub far-worked : {b₁ : List ℤ} → Becomes b b₁ (held_side (state_of b) (opposite s) n (grandson_at (state_of b) s))
      → GrowWorked b b₁ t n m p (on_state (grow_work_in b t n m p) (held_side (state_of b) (opposite s) n (grandson_at (state_of b) s)))
  far-worked x = work-block q x (kept-held-side (state_of b) (opposite s) n (grandson_at (state_of b) s)).nodes

  pub step-note : {b₁ b₂ t₂ : List ℤ} {r : GrowProgress} → reaches (state_of b) s ≡ true
      → Becomes b b₁ (held_side (state_of b) (opposite s) n (grandson_at (state_of b) s))
      → GrowWorked b₁ b₂ t₂ n m r (note_far n (grow_work_in b₁ t n m p) s)
      → GrowWorked b b₂ t₂ n m r (grow_step_once n (grow_work_in b t n m p) s)
  step-note e x y =
      let d : State = held_side (state_of b) (opposite s) n (grandson_at (state_of b) s) in
      let u : grow_step_once n (grow_work_in b t n m p) s ≡ note_far n (on_state (grow_work_in b t n m p) d) s = unfold grow_step_once grow_work_in in rw e in
      rw u (worked_then (λ w. note_far n w s) (far-worked x) y)

  pub far-fits : {b₁ : List ℤ} → Becomes b b₁ (held_side (state_of b) (opposite s) n (grandson_at (state_of b) s)) → NotesFit b p → NotesFit b₁ p
  far-fits x h = rw (x.vertices, x.state) (unfold held_side with_grandson with_holder with_sides in h)

  pub step-keep : p.kept < m → reaches (state_of b) s ≡ false
      → GrowWorked b b (set t p.kept (pos s)) n m
      (record { kept = p.kept + 1; noted = p.noted; pushed = p.pushed; another = p.another })
      (grow_step_once n (grow_work_in b t n m p) s)
  step-keep h e =
      let u : grow_step_once n (grow_work_in b t n m p) s ≡ keep (grow_work_in b t n m p) s = unfold grow_step_once grow_work_in in rw e in
      rw u (work-keep q s h)

  -- each boundary side is kept or noted, or neither
  pub step_count : {b' t' : List ℤ} {r : GrowProgress} → GrowWorked b b' t' n m r (grow_step_once n (grow_work_in b t n m p) s)
      → r.kept + r.noted ≤ p.kept + p.noted + 1
  unfolding grow_work_in
  step_count x =
      let k = ap (λ (w : Work). length w.kept) x.work in
      let j = ap (λ (w : Work). length w.noted) x.work in
      omega (arith, k, j, kept-length q, noted-length q, kept-length x.working, noted-length x.working, count-step n (grow_work_in b t n m p) s)

  pub step_fits : {b' t' : List ℤ} {r : GrowProgress} → s < m → GrowWorked b b' t' n m r (grow_step_once n (grow_work_in b t n m p) s) → NotesFit b p → NotesFit b' r
  unfolding grow_work_in
  step_fits l x h =
      let j = ap (λ (w : Work). length w.noted) x.work in
      let d = ap free_count x.block.state in
      let v : end_at (state_of b) (opposite s) < length (state_of b).vertices.vertex_holder =
      omega (
        arith,
        end_below b (opposite s) q.formed (rw q.formed.pairs (opposite-below s (edge_count (state_of b)) (omega (arith, l, q.sides, q.formed.pairs)))),
        (formed-shape b q.formed).vertex_holder,
      ) in
      omega (arith, j, d, h, x.block.vertices, noted-length q, noted-length x.working, count-free n (grow_work_in b t n m p) s v)

pub keeping-grow-step : (n : ℕ) → Keeping (grow_step_once n)
unfolding grow_step_once note_far note_with on_state
keeping-grow-step n w s =
    let d : State = held_side w.state (opposite s) n (grandson_at w.state s) in
    let held : Keeps w.state (on_state w d) = keeps_on w.state w d (kept_refl w.state) (kept-held-side w.state (opposite s) n (grandson_at w.state s)) in
    if-both (Keeps w.state) (reaches w.state s)
    (if-both (Keeps w.state) (eqb (vertex_holder_at d (end_at d (opposite s))) 0)
    (keeps-note w.state (on_state w (with_vertex_holder d (end_at d (opposite s)) (n + 1))) s
    (keeps_on w.state (on_state w d) (with_vertex_holder d (end_at d (opposite s)) (n + 1)) held (kept-vholder d (end_at d (opposite s)) (n + 1))))
    held)
    (keeps-keep w.state w s (kept_refl w.state))

-- at the start nothing is in the scratch
abbrev pub nothing : GrowProgress
nothing = record { kept = 0; noted = 0; pushed = 0; another = 0 }

pub start-working : {b t : List ℤ} {n m : ℕ} → Formed b → n < node_count (state_of b) → side_count (state_of b) ≡ m
    → t ≡ scratch_of (state_of b) → GrowWorking b t n m nothing
start-working {b} {t} {n} {m} f h e z = record {
  formed = f;
  node = h;
  sides = e;
  kept = omega arith;
  noted = omega arith;
  pushed = omega arith;
  holding = rw (numbers-none t 0, numbers-none t m, numbers-none t (2 * m))
      (holding-zero t m (note_limit (state_of b)) (z ∙ ap zero_scratch (scratch-sections f ∙ ap (λ k. 2 * k + note_limit (state_of b)) e)));
}

pub start_fits : {b : List ℤ} → Formed b → NotesFit b nothing
start_fits {b} f = omega (arith, zeros-le (state_of b).vertices.vertex_holder, (formed-shape b f).vertex_holder)

start-work : (b t : List ℤ) (n m : ℕ) → grow_work_in b t n m nothing ≡ start_pass (state_of b) (overgrown_of (state_of b) n)
unfolding grow_work_in start_pass stack_from numbers_at called
start-work b t n m = refl

-- the whole boundary
pub scan-all : {b₀ b t : List ℤ} {n m : ℕ} {p : GrowProgress} (t₀ : List ℤ)
    → GrowWorked b₀ b t n m p (fold (grow_step_once n) (grow_work_in b₀ t₀ n m nothing) (boundary_of (state_of b₀) n))
    → GrowWorked b₀ b t n m p (grow_scanned_once (state_of b₀) n)
unfolding grow_scanned_once
scan-all {b₀} {n = n} {m} t₀ x = rw (start-work b₀ t₀ n m) at x

sides-kept : (c d : State) (n : ℕ) → SameButHolders c d → sides_ok c n ≡ true → sides_ok d n ≡ true
unfolding sides_ok
sides-kept c d n k h = rw (k.graph, k.nodes) h

-- what each turn reads
pub scan-sides : {f : Work → ℕ → Work} {b₀ t₀ b t : List ℤ} {n m : ℕ} {p₀ p : GrowProgress} {l : List ℕ} {i : ℕ}
    → Looped f b₀ t₀ b t n m p₀ p l i → sides_ok (state_of b₀) n ≡ true → sides_ok (state_of b) n ≡ true
scan-sides {b₀ = b₀} {b = b} {n = n} q h = sides-kept (state_of b₀) (state_of b) n q.kept h

-- the scratch stays as long
pub scan-length : {f : Work → ℕ → Work} {b₀ t₀ b t : List ℤ} {n m : ℕ} {p₀ p : GrowProgress} {l : List ℕ} {i : ℕ}
    → GrowWorking b₀ t₀ n m p₀ → Looped f b₀ t₀ b t n m p₀ p l i → length t ≡ length t₀
scan-length q x =
    omega (arith, x.worked.working.holding.size, q.holding.size, x.worked.block.vertices, x.worked.working.sides, q.sides)

-- ---- what the scan leaves

noted_step : (m n : ℕ) (w : Work) (s : ℕ) → ltb s m ≡ true → all (λ t. ltb t m) w.noted ≡ true → all (λ t. ltb t m) (grow_step_once n w s).noted ≡ true
unfolding grow_step_once note_far note_with note keep on_state held_side with_grandson with_holder with_sides
noted_step m n w s b h =
    if-both (λ (x : Work). all (λ t. ltb t m) x.noted ≡ true) (reaches w.state s)
    (if-both (λ (x : Work). all (λ t. ltb t m) x.noted ≡ true) (eqb (vertex_holder_at w.state (end_at w.state (opposite s))) 0)
    (all_snoc (λ t. ltb t m) w.noted s h b) h)
    h

scanned-noted : (c : State) (n m : ℕ) → all (λ t. ltb t m) (boundary_of c n) ≡ true → all (λ t. ltb t m) (grow_scanned_once c n).noted ≡ true
unfolding grow_scanned_once start_pass all
scanned-noted c n m h =
    fold-keeps-on (grow_step_once n) (λ t. ltb t m) (λ (w : Work). all (λ t. ltb t m) w.noted ≡ true) (noted_step m n)
    (start_pass c (overgrown_of c n)) (boundary_of c n) h refl

scanned-over : (c : State) (n : ℕ) → (grow_scanned_once c n).over ≡ overgrown_of c n
unfolding grow_scanned start_pass
scanned-over c n =
    grow-scanned-over c n
    ∙ (fold-keeps (grow_step n) (Still c.vertices (overgrown_of c n)) (still-grow-step c.vertices (overgrown_of c n) n)
    (start_pass c (overgrown_of c n)) (boundary_of c n) (refl, refl)).1

scanned-keeps : (c : State) (n : ℕ) → Keeps c (grow_scanned_once c n)
unfolding grow_scanned_once start_pass
scanned-keeps c n =
    fold-keeps (grow_step_once n) (Keeps c) (λ w s k. kept_trans k (keeping-grow-step n w s)) (start_pass c (overgrown_of c n)) (boundary_of c n) (kept_refl c)

module _ {b t b₁ t₁ : List ℤ} {n m : ℕ} {p : GrowProgress} (f : Ready b t n) (g : Growable (state_of b) n)
    (e : side_count (state_of b) ≡ m) (x : GrowWorked b b₁ t₁ n m p (grow_scanned_once (state_of b) n)) where
  own-boundary : OwnSides n (side_count (state_of b)) (state_of b) (boundary_of (state_of b) n)
  own-boundary = sound-own-sides (state_of b) (formed-shape b f.formed) g.sounds (formed-vertices b f.formed) n f.node g.outer

  pub scanned-kept : OwnKept b₁ t₁ n m p
  scanned-kept =
      own-worked x
      (subst₂ (λ (y : Sides) (l : List ℕ). OwnList (λ s. get_or y.holder s 0) n m l) (sym (grow-scanned-sides (state_of b) n))
      (sym (grow-scanned-kept (state_of b) n)) (rw e at (grow-scanned-own (state_of b) n (side_count (state_of b)) own-boundary)))

  pub scanned-sides : all (λ t. ltb t m) (numbers_at t₁ (2 * m) p.noted) ≡ true
  scanned-sides =
      let z : numbers_at t₁ (2 * m) p.noted ≡ (grow_scanned_once (state_of b) n).noted = unfold grow_work_in in ap (λ (w : Work). w.noted) x.work in
      rw z (scanned-noted (state_of b) n m (rw e at own-boundary.inside))

  pub scanned-pushed : p.pushed ≡ 0
  scanned-pushed =
      let o : length (grow_work_in b₁ t₁ n m p).over ≡ length (overgrown_of (state_of b) n) =
      ap (λ (w : Work). length w.over) x.work
      ∙ ap (λ (l : List Overgrown). length l) (scanned-over (state_of b) n) in
      let k : length (overgrown_of (state_of b₁) n) ≡ length (overgrown_of (state_of b) n) =
      ap (λ (c : State). length (overgrown_of c n)) x.block.state
      ∙ ap (λ (l : List Overgrown). length l) (kept-overgrown (scanned-keeps (state_of b) n) n) in
      omega (arith, over-length x.working)

  -- and then the noted sides
  pub pass-worked : {b₂ t₂ : List ℤ} {r : GrowProgress}
      → GrowWorked b₁ b₂ t₂ n m r (fold (take_once n) (grow_work_in b₁ t₁ n m p) (numbers_at t₁ (2 * m) p.noted))
      → GrowWorked b b₂ t₂ n m r (grow_pass_once (state_of b) n)
  unfolding grow_pass_once grow_work_in
  pass-worked y = worked_then (λ w. fold (take_once n) w w.noted) x y

-- what the scan asks
module _ {b t : List ℤ} {n : ℕ} (f : Ready b t n) (g : Growable (state_of b) n) where
  pub ready-sides : sides_ok (state_of b) n ≡ true
  unfolding sides_ok
  ready-sides = (sound-own-sides (state_of b) (formed-shape b f.formed) g.sounds (formed-vertices b f.formed) n f.node g.outer).inside

  pub ready-length : length (boundary_of (state_of b) n) ≤ side_count (state_of b)
  ready-length = sound-boundary-le (state_of b) (formed-shape b f.formed) g.sounds (formed-vertices b f.formed) n f.node g.outer

-- ---- the end

entries-kept : (c d : State) (n : ℕ) → SameButHolders c d → (entries d ≡ entries c) × (entries_of d n ≡ entries_of c n)
unfolding entries entries_of
entries-kept c d n k = (rw k.nodes, rw k.nodes)

-- the lists fit
pub pass-room : {b t b₂ t₂ : List ℤ} {n m : ℕ} {r : GrowProgress} → Ready b t n → Growable (state_of b) n → GrowWorked b b₂ t₂ n m r (grow_pass_once (state_of b) n)
    → entries (state_of b₂) + (r.kept + length (overgrown_of (state_of b₂) n) + r.pushed) ≤ (state_of b₂).store_limit + entries_of (state_of b₂) n
pass-room {b} {t} {b₂} {t₂} {n} {m} {r} f g x =
    let a : Alike (grow_pass_once (state_of b) n) (grow_pass (state_of b) n) = grow-alike (state_of b) n in
    let k : SameButHolders (state_of b) (state_of b₂) = rw (x.block.state, a.state) (grow-pass-keeps (state_of b) n) in
    let fits = sound-grow-fits (state_of b) (formed-shape b f.formed) g.sounds (formed-vertices b f.formed) n f.node g.outer in
    let e = entries-kept (state_of b) (state_of b₂) n k in
    let now : length (numbers_at t₂ 0 r.kept) ≡ length (grow_pass_once (state_of b) n).kept = unfold grow_work_in in ap (λ (w : Work). length w.kept) x.work in
    let kept : r.kept ≡ length (grow_pass (state_of b) n).kept = sym (kept-length x.working) ∙ now ∙ ap (λ (l : List ℕ). length l) a.kept in
    let over : length (grow_work_in b₂ t₂ n m r).over ≡ length (grow_pass (state_of b) n).over =
    ap (λ (w : Work). length w.over) x.work ∙ ap (λ (l : List Overgrown). length l) a.over in
    omega (arith, f.room, fits, e, k.store_limit, kept, over, over-length x.working)

finish-lists : (b t : List ℤ) (n m k : ℕ) (p : GrowProgress) → k ≡ length (overgrown_of (state_of b) n)
    → with_lists (state_of b) n (numbers_at t 0 p.kept) k (numbers_at t m p.pushed)
    ≡ finish_pass (grow_work_in b t n m p) n
unfolding with_lists finish_pass grow_work_in
finish-lists b t n m k p e = let z : length (overgrown_of (state_of b) n) - length (overgrown_of (state_of b) n) ≡ 0 = omega arith in rw (e, z)

pub finish-block : {b b' : List ℤ} (t : List ℤ) (n m k : ℕ) (p : GrowProgress) → k ≡ length (overgrown_of (state_of b) n)
    → Becomes b b' (with_lists (state_of b) n (numbers_at t 0 p.kept) k (numbers_at t m p.pushed))
    → Becomes b b' (finish_pass (grow_work_in b t n m p) n)
finish-block {b} t n m k p e x = rw (finish-lists b t n m k p e) at x

-- the scratch is all zero again
pub finish-scratch : {b t : List ℤ} {n m : ℕ} {p : GrowProgress} → GrowWorking b t n m p
    → wiped (wiped (wiped t 0 p.kept) m p.pushed) (2 * m) p.noted ≡ zero_scratch (length t)
finish-scratch {b} {t} {n} {m} {p} q =
    let k : ℕ = note_limit (state_of b) in
    let h₁ : ScratchHolds (wiped t 0 p.kept) m k [] (numbers_at t m p.pushed) (numbers_at t (2 * m) p.noted) =
    rw (kept-length q) at (wipe-first q.holding) in
    let h₂ : ScratchHolds (wiped (wiped t 0 p.kept) m p.pushed) m k [] [] (numbers_at t (2 * m) p.noted) = rw (pushed-length q) at (wipe-second h₁) in
    let h₃ : ScratchHolds (wiped (wiped (wiped t 0 p.kept) m p.pushed) (2 * m) p.noted) m k [] [] [] = rw (noted-length q) at (wipe-third h₂) in
    zero-holding (wiped (wiped (wiped t 0 p.kept) m p.pushed) (2 * m) p.noted) m k h₃ ∙ ap zero_scratch (sym q.holding.size)

-- the pass is done
pub pass-after : {b t b₂ t₂ b₃ t₃ : List ℤ} {n m : ℕ} {r : GrowProgress} → Ready b t n
    → GrowWorked b b₂ t₂ n m r (grow_pass_once (state_of b) n)
    → Becomes b₂ b₃ (finish_pass (grow_work_in b₂ t₂ n m r) n) × (t₃ ≡ zero_scratch (length t₂))
    → AfterPass b b₃ t t₃ n (grow_pass (state_of b) n) (called r.another)
pass-after {b} {b₂ = b₂} {t₂ = t₂} {n = n} {r = r} f x y =
    let a : Alike (grow_pass_once (state_of b) n) (grow_pass (state_of b) n) = grow-alike (state_of b) n in
    let z : length t₂ ≡ scratch_size (state_of b) =
    omega (arith, x.working.holding.size, x.working.sides, x.block.vertices, x.block.edges, x.working.formed.pairs) in
    let calls : called r.another ≡ (grow_pass_once (state_of b) n).another = unfold grow_work_in in ap (λ (w : Work). w.another) x.work in
    record {
      block = rw (← finish-alike n a) (becomes-then x.block (rw x.work at y.0));
      scratch = y.1 ∙ ap zero_scratch z ∙ sym f.scratch;
      another = calls ∙ a.another;
    }

-- ---- a boundary that reaches nothing

scan-none : (c : State) (o : List Overgrown) (n : ℕ) (k l : List ℕ) → any (reaches c) l ≡ false
    → fold (grow_step n) (record { state = c; kept = k; noted = []; over = o; another = false }) l
    ≡ record { state = c; kept = k ++ l; noted = []; over = o; another = false }
unfolding fold any
scan-none c o n k [] h = rw (append-nil k)
scan-none c o n k (s ∷ l) h =
    let e : grow_step n (record { state = c; kept = k; noted = []; over = o; another = false }) s
    ≡ record { state = c; kept = k ++ (s ∷ []); noted = []; over = o; another = false } =
    unfold grow_step keep in
    rw (or-neither-left (reaches c s) (any (reaches c) l) h) in
    rw (e, ← append_assoc k (s ∷ []) l) (scan-none c o n (k ++ (s ∷ [])) l (or-neither-right (reaches c s) (any (reaches c) l) h))

pass-none : (c : State) (n : ℕ) → any (reaches c) (boundary_of c n) ≡ false
    → grow_pass c n ≡ record { state = c; kept = boundary_of c n; noted = []; over = overgrown_of c n; another = false }
unfolding grow_pass grow_scanned start_pass
pass-none c n h = rw (scan-none c (overgrown_of c n) n [] (boundary_of c n) h) (unfold fold in refl)

none-finish : (c : State) (n : ℕ) → any (reaches c) (boundary_of c n) ≡ false → c ≡ finish_pass (grow_pass c n) n
unfolding finish_pass with_boundary with_overgrown with_nodes
none-finish c n h = rw (pass-none c n h, set-get_or c.nodes.boundary n [], set-get_or c.nodes.overgrown n [])

-- then the pass changes nothing
pub pass-idle : {b t : List ℤ} {n : ℕ} → Ready b t n → any (reaches (state_of b)) (boundary_of (state_of b) n) ≡ false
    → AfterPass b b t t n (grow_pass (state_of b) n) false
pass-idle {b} {t} {n} f h = record {
  block = becomes-none b (finish_pass (grow_pass (state_of b) n) n) f.formed (none-finish (state_of b) n h);
  scratch = refl;
  another = rw (pass-none (state_of b) n h);
}
