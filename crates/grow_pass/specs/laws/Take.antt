-- Laws of the loops that take vertices, in memory.
use Rattle.std.specs.Prelude.{ℕ, suc, ◌+◌, ◌*◌, ◌≤◌, ◌<◌, ◌≡◌, refl, ◌≢◌, Bool, true, ℤ, pos, eqb, set, get_or}
use Rattle.std.proofs.Common.{arith, ◌∙◌, length-append, eq-eqb, ne_eqb, lt-ltb, ltb-true}
use Rattle.std.proofs.Math.Path.{sym, ap, subst}
use mathlib.Core.List.{List, [], ◌∷◌, ◌++◌}
use Rattle.std.proofs.Math.Dec.{ltb}
use Rattle.std.proofs.Math.ListN.{length}
use Rattle.graph.specs.Basic.{fold, all}
use Rattle.graph.specs.State.{State, Overgrown, opposite, end_at, holder_at, grandson_at, sides_at, overgrown_of, weight_over, held_side, held_vertex, with_vertices, with_vertex_holder, with_vertex_grandson}
use Rattle.graph.specs.Word.{word_at, numbers_at}
use Rattle.graph.specs.Layout.{state_of}
use Rattle.graph.specs.inner.Form.{Becomes}
use Rattle.graph.specs.laws.State.{if-both, fold-keeps, fold-keeps-on, kept_refl, kept-held-side, kept-held-vertex, kept-sides, kept-overgrown}
use Rattle.graph.specs.laws.Members.{both, all-at}
use Rattle.graph.specs.laws.Number.{numbers-entry}
use Rattle.pass.specs.Work.{Work, on_state, keep, push, call_another}
use Rattle.pass.specs.Grow.{take_side, take_vertex}
use Rattle.pass.specs.inner.Another.{called_if}
use Rattle.pass.specs.inner.Once.{take_once}
use Rattle.pass.proofs.laws.Passes.{Keeps, keeps-take-side, keeps-take-vertex, keeps_on}
use Rattle.pass.proofs.laws.Fits.{own-length, own-snoc, side-holds, side-held, own-take-side, Siding, siding-step, Still, still-take-side}
use Rattle.pass.specs.inner.Own.{OwnSides}
use Rattle.graph.specs.laws.Form.{formed-shape, formed-sides}
use Rattle.grow_pass.specs.inner.Growing.{grow_work_in, GrowWorking, GrowWorked, OwnKept}
use Rattle.grow_pass.specs.laws.Growing.{kept-length, noted-length, over-length, work-push, worked_then, work-keep, work-call, work-block, work_none, Keeping}
use Rattle.grow_pass.specs.declared.take.GrowProgress.{GrowProgress}

-- what the kept sides of a work are, the kept sides in memory are
pub own-worked : {b₀ b t : List ℤ} {n m : ℕ} {p : GrowProgress} {w : Work} → GrowWorked b₀ b t n m p w → OwnSides n m w.state w.kept → OwnKept b t n m p
own-worked {n = n} {m} x o = unfold grow_work_in in subst (λ (w : Work). OwnSides n m w.state w.kept) (sym x.work) o

module _ {b t : List ℤ} {n m : ℕ} {p : GrowProgress} (q : GrowWorking b t n m p) where
  holders : length (state_of b).sides.holder ≡ m
  holders = (formed-shape b q.formed).holder ∙ q.sides

  module _ (o : OwnKept b t n m p) (s : ℕ) (h : s < m) where
    -- with a free side there is room for it
    own_room : holder_at (state_of b) s ≡ 0 → p.kept < m
    own_room z =
        let more : OwnSides n m (held_side (state_of b) s n 0) (numbers_at t 0 p.kept ++ (s ∷ [])) =
        own-snoc (side-holds (state_of b) s n 0) s o z (side-held (state_of b) s n 0 (omega (arith, holders))) h in
        omega (
          arith,
          own-length (holder_at (held_side (state_of b) s n 0)) n m (numbers_at t 0 p.kept ++ (s ∷ [])) more,
          length-append (numbers_at t 0 p.kept) (s ∷ []),
          kept-length q,
        )

    -- a free side is held and kept
    pub take-free : {b' : List ℤ} (g : ℕ) (y : Bool) → holder_at (state_of b) s ≡ 0
        → Becomes b b' (held_side (state_of b) s n g) → y ≡ eqb (weight_over (state_of b) s) 0
        → GrowWorked b b' (set t p.kept (pos s)) n m
        (record { kept = p.kept + 1; noted = p.noted; pushed = p.pushed; another = called_if y p.another })
        (take_side n g (grow_work_in b t n m p) s)
    take-free {b'} g y z x e =
        let d : State = held_side (state_of b) s n g in
        let u : take_side n g (grow_work_in b t n m p) s ≡ call_another (keep (on_state (grow_work_in b t n m p) d) s) y =
        unfold take_side grow_work_in in
        rw (eq-eqb (holder_at (state_of b) s) 0 z, e) in
        let x₁ = work-block q x (kept-held-side (state_of b) s n g).nodes in
        let x₂ = worked_then (λ w. keep w s) x₁ (work-keep x₁.working s (own_room z)) in
        rw u (worked_then (λ w. call_another w y) x₂ (work-call x₂.working y))

  -- a side that is held stays
  pub take-held : (g s : ℕ) → holder_at (state_of b) s ≢ 0 → GrowWorked b b t n m p (take_side n g (grow_work_in b t n m p) s)
  take-held g s z =
      let u : take_side n g (grow_work_in b t n m p) s ≡ grow_work_in b t n m p = unfold take_side grow_work_in in rw (ne_eqb (holder_at (state_of b) s) 0 z) in
      rw u (work_none q)

  -- the kept sides stay the node's own
  pub own-taken : {b' t' : List ℤ} {p' : GrowProgress} (g s : ℕ) → OwnKept b t n m p → s < m
      → GrowWorked b b' t' n m p' (take_side n g (grow_work_in b t n m p) s) → OwnKept b' t' n m p'
  own-taken g s o h x = own-worked x (unfold grow_work_in in own-take-side n m g (grow_work_in b t n m p) s holders (lt-ltb s m h) o)

pub keeping-take-side : (n g : ℕ) → Keeping (take_side n g)
keeping-take-side n g w s = keeps-take-side w.state n g w s (kept_refl w.state)

-- ---- a vertex is taken

-- the sides at any vertex of a block in form are sides
all_of : (f : ℕ → Bool) (l : List ℕ) → ((i : ℕ) → i < length l → f (get_or l i 0) ≡ true) → all f l ≡ true
unfolding all
all_of f [] h = refl
all_of f (x ∷ l) h = both (f x) (all f l) (h 0 (omega arith)) (all_of f l (λ i k. h (suc i) (omega arith)))

-- vertex v is held, and its free sides are
abbrev pub sided : ℕ → ℕ → Work → ℕ → Work
sided n g w v = fold (take_side n g) (on_state w (held_vertex w.state v n g)) (sides_at w.state v)

sided-keeps : (n g : ℕ) (w : Work) (v : ℕ) → Keeps w.state (sided n g w v)
sided-keeps n g w v =
    fold-keeps (take_side n g) (Keeps w.state) (keeps-take-side w.state n g) (on_state w (held_vertex w.state v n g))
    (sides_at w.state v)
    (keeps_on w.state w (held_vertex w.state v n g) (kept_refl w.state) (kept-held-vertex w.state v n g))

sided-over : (n g : ℕ) (w : Work) (v : ℕ) → (sided n g w v).over ≡ w.over
sided-over n g w v =
    let first : Work = on_state w (held_vertex w.state v n g) in
    (fold-keeps (take_side n g) (Still first.state.vertices first.over)
    (still-take-side first.state.vertices first.over n g) first (sides_at w.state v) (refl, refl)).1
    ∙ (unfold on_state in refl)

-- what a work puts on the stack, the scratch has more
pub pushed-by : {b t b' t' : List ℤ} {n m : ℕ} {p p' : GrowProgress} {w : Work} → GrowWorking b t n m p
    → GrowWorked b b' t' n m p' w → Keeps (state_of b) w
    → p'.pushed + length (grow_work_in b t n m p).over ≡ length w.over + p.pushed
pushed-by {b} {t} {b'} {t'} {n} {m} {p} {p'} {w} q x k =
    let e : length (overgrown_of (state_of b') n) ≡ length (overgrown_of (state_of b) n) =
    ap (λ (c : State). length (overgrown_of c n)) x.block.state
    ∙ ap (λ (l : List Overgrown). length l) (kept-overgrown k n) in
    let o : length (grow_work_in b' t' n m p').over ≡ length w.over = ap (λ (y : Work). length y.over) x.work in
    omega (arith, over-length q, over-length x.working)

module _ {b t : List ℤ} {n m : ℕ} {p : GrowProgress} (q : GrowWorking b t n m p) {b₁ : List ℤ} (g v : ℕ) (h : Becomes b b₁ (held_vertex (state_of b) v n g)) where
  pub held-working : GrowWorking b₁ t n m p
  held-working = (work-block q h (kept-held-vertex (state_of b) v n g).nodes).working

  -- the sides stay
  pub held-own : OwnKept b t n m p → OwnKept b₁ t n m p
  held-own o = rw h.state (unfold held_vertex in unfold with_vertex_grandson in unfold with_vertex_holder in unfold with_vertices in o)

  module _ {b₂ t₂ : List ℤ} {r : GrowProgress} (x : GrowWorked b₁ b₂ t₂ n m r (fold (take_side n g) (grow_work_in b₁ t n m p) (sides_at (state_of b₁) v))) where
    pub sided-worked : GrowWorked b b₂ t₂ n m r (sided n g (grow_work_in b t n m p) v)
    unfolding grow_work_in
    sided-worked =
        let e : sides_at (state_of b₁) v ≡ sides_at (state_of b) v =
        ap (λ (c : State). sides_at c v) h.state ∙ kept-sides (kept-held-vertex (state_of b) v n g) v in
        worked_then (λ w. fold (take_side n g) w (sides_at (state_of b) v)) (work-block q h (kept-held-vertex (state_of b) v n g).nodes) (rw e at x)

    pub sided-pushed : r.pushed ≡ p.pushed
    sided-pushed =
        let k : Keeps (state_of b) (sided n g (grow_work_in b t n m p) v) = unfold grow_work_in in sided-keeps n g (grow_work_in b t n m p) v in
        omega (arith, pushed-by q sided-worked k, ap (λ (l : List Overgrown). length l) (sided-over n g (grow_work_in b t n m p) v))

    -- how many sides are kept
    sided-kept : length (sided n g (grow_work_in b t n m p) v).kept ≡ r.kept
    sided-kept = sym (ap (λ (w : Work). length w.kept) sided-worked.work) ∙ (unfold grow_work_in in kept-length sided-worked.working)

    start-kept : length (grow_work_in b t n m p).kept ≡ p.kept
    start-kept = unfold grow_work_in in kept-length q

    pub vertex-push : r.kept ≡ p.kept → v < 1024 → p.pushed < m
        → GrowWorked b b₂ (set t₂ (m + r.pushed) (pos v)) n m
        (record { kept = r.kept; noted = r.noted; pushed = r.pushed + 1; another = r.another })
        (take_vertex n g (grow_work_in b t n m p) v)
    vertex-push e l k =
        let z : take_vertex n g (grow_work_in b t n m p) v ≡ push (sided n g (grow_work_in b t n m p) v) v =
        unfold take_vertex in
        rw
        (eq-eqb (length (sided n g (grow_work_in b t n m p) v).kept) (length (grow_work_in b t n m p).kept)
        (sided-kept ∙ e ∙ sym start-kept)) in
        rw z (worked_then (λ w. push w v) sided-worked (work-push sided-worked.working v l (omega (arith, sided-pushed))))

    pub vertex-keep : r.kept ≢ p.kept → GrowWorked b b₂ t₂ n m r (take_vertex n g (grow_work_in b t n m p) v)
    vertex-keep e =
        let z : take_vertex n g (grow_work_in b t n m p) v ≡ sided n g (grow_work_in b t n m p) v = unfold take_vertex in
        rw
        (ne_eqb (length (sided n g (grow_work_in b t n m p) v).kept) (length (grow_work_in b t n m p).kept)
        (λ y. e (sym sided-kept ∙ y ∙ start-kept))) in
        rw z sided-worked

-- ---- a noted side

-- the vertex behind it is taken
pub step-taken : {b t : List ℤ} {n m : ℕ} {p : GrowProgress} → GrowWorking b t n m p → (s o v : ℕ) → o ≡ opposite s → v ≡ end_at (state_of b) o
    → {b' t' : List ℤ} {r : GrowProgress} (g : ℕ) → g ≡ grandson_at (state_of b) s
    → GrowWorked b b' t' n m r (take_vertex n g (grow_work_in b t n m p) v)
    → GrowWorked b b' t' n m r (take_once n (grow_work_in b t n m p) s)
unfolding grow_work_in take_once
step-taken q s o v e f g k x = rw (← e, ← f, ← k) x

-- what a step with a noted side leaves
own-take-vertex : (n m g : ℕ) (w : Work) (v : ℕ) → length w.state.sides.holder ≡ m
    → all (λ t. ltb t m) (sides_at w.state v) ≡ true → OwnSides n m w.state w.kept
    → OwnSides n m (take_vertex n g w v).state (take_vertex n g w v).kept
unfolding take_vertex push
own-take-vertex n m g w v len b o =
    let first : Work = on_state w (held_vertex w.state v n g) in
    let start : Siding n m w.state first =
    unfold on_state held_vertex with_vertex_grandson with_vertex_holder with_vertices in
    (record { keeps = kept-held-vertex w.state v n g; own = o }) in
    let r : Siding n m w.state (sided n g w v) =
    fold-keeps-on (take_side n g) (λ t. ltb t m) (Siding n m w.state) (siding-step n m g w.state len) first
    (sides_at w.state v) b start in
    if-both (λ (x : Work). OwnSides n m x.state x.kept) (eqb (length (sided n g w v).kept) (length w.kept)) r.own r.own

own-take-once : (n m : ℕ) (w : Work) (s : ℕ) → length w.state.sides.holder ≡ m
    → ((v : ℕ) → all (λ t. ltb t m) (sides_at w.state v) ≡ true) → OwnSides n m w.state w.kept
    → OwnSides n m (take_once n w s).state (take_once n w s).kept
unfolding take_once
own-take-once n m w s len b o =
    own-take-vertex n m (grandson_at w.state s) w (end_at w.state (opposite s)) len (b (end_at w.state (opposite s))) o

noted-take-side : (l : List ℕ) (n g : ℕ) (w : Work) (t : ℕ) → w.noted ≡ l → (take_side n g w t).noted ≡ l
unfolding take_side call_another keep on_state
noted-take-side l n g w t e = if-both (λ (x : Work). x.noted ≡ l) (eqb (holder_at w.state t) 0) e e

noted-take-vertex : (n g : ℕ) (w : Work) (v : ℕ) → (take_vertex n g w v).noted ≡ w.noted
unfolding take_vertex push
noted-take-vertex n g w v =
    let e : (sided n g w v).noted ≡ w.noted =
    fold-keeps (take_side n g) (λ (x : Work). x.noted ≡ w.noted) (noted-take-side w.noted n g)
    (on_state w (held_vertex w.state v n g)) (sides_at w.state v) (unfold on_state in refl) in
    if-both (λ (x : Work). x.noted ≡ w.noted) (eqb (length (sided n g w v).kept) (length w.kept)) e e

noted-take-once : (n : ℕ) (w : Work) (s : ℕ) → (take_once n w s).noted ≡ w.noted
unfolding take_once
noted-take-once n w s = noted-take-vertex n (grandson_at w.state s) w (end_at w.state (opposite s))

over-take-vertex : (n g : ℕ) (w : Work) (v : ℕ) → length (take_vertex n g w v).over ≤ length w.over + 1
unfolding take_vertex push
over-take-vertex n g w v =
    let e : length (sided n g w v).over ≡ length w.over = ap (λ (l : List Overgrown). length l) (sided-over n g w v) in
    if-both (λ (x : Work). length x.over ≤ length w.over + 1) (eqb (length (sided n g w v).kept) (length w.kept)) (omega arith) (omega arith)

over-take-once : (n : ℕ) (w : Work) (s : ℕ) → length (take_once n w s).over ≤ length w.over + 1
unfolding take_once
over-take-once n w s = over-take-vertex n (grandson_at w.state s) w (end_at w.state (opposite s))

pub keeping-take-once : (n : ℕ) → Keeping (take_once n)
unfolding take_once
keeping-take-once n w s = keeps-take-vertex w.state n (grandson_at w.state s) w (end_at w.state (opposite s)) (kept_refl w.state)

-- ---- the noted sides, of which i are done

pub record Noting (b t₀ t : List ℤ) (n m : ℕ) (p₀ p : GrowProgress) (i : ℕ) : Type 0 where
  pub own : OwnKept b t n m p
  pub noted : p.noted ≡ p₀.noted
  pub same : numbers_at t (2 * m) p.noted ≡ numbers_at t₀ (2 * m) p₀.noted
  pub pushed : p.pushed ≤ i

pub noting-none : {b t : List ℤ} {n m : ℕ} {p : GrowProgress} → OwnKept b t n m p → p.pushed ≡ 0 → Noting b t t n m p p 0
noting-none o e = record { own = o; noted = refl; same = refl; pushed = omega arith }

module _ {b t₀ t : List ℤ} {n m : ℕ} {p₀ p : GrowProgress} {i : ℕ} (q : GrowWorking b t n m p) (k : Noting b t₀ t n m p₀ p i) where
  -- the next one
  pub noting-side : (s : ℕ) → s ≡ word_at t (2 * m + i) → i < p₀.noted → s ≡ get_or (numbers_at t₀ (2 * m) p₀.noted) i 0
  noting-side s e h = e ∙ sym (numbers-entry t (2 * m) p.noted i (rw k.noted h)) ∙ ap (λ (l : List ℕ). get_or l i 0) k.same

  pub noting-more : {b' t' : List ℤ} {r : GrowProgress} (s : ℕ)
      → GrowWorked b b' t' n m r (take_once n (grow_work_in b t n m p) s) → Noting b' t₀ t' n m p₀ r (i + 1)
  noting-more {b'} {t'} {r} s x =
      let same : numbers_at t' (2 * m) r.noted ≡ numbers_at t (2 * m) p.noted = unfold grow_work_in in
      (ap (λ (w : Work). w.noted) x.work ∙ noted-take-once n (grow_work_in b t n m p) s) in
      let keeps : Keeps (state_of b) (take_once n (grow_work_in b t n m p) s) = unfold grow_work_in in keeping-take-once n (grow_work_in b t n m p) s in
      record {
        own = own-worked x
            (unfold grow_work_in in
            own-take-once n m (grow_work_in b t n m p) s (holders q) (rw q.sides at (formed-sides b q.formed))
            k.own);
        noted = sym (noted-length x.working) ∙ ap (λ (l : List ℕ). length l) same ∙ noted-length q ∙ k.noted;
        same = same ∙ k.same;
        pushed = omega (arith, k.pushed, pushed-by q x keeps, over-take-once n (grow_work_in b t n m p) s);
      }

-- a noted side is a side
pub noted-below : (l : List ℕ) (m i s : ℕ) → all (λ t. ltb t m) l ≡ true → i < length l → s ≡ get_or l i 0 → s < m
noted-below l m i s h b e = rw e (ltb-true (get_or l i 0) m (all-at (λ t. ltb t m) l i h b))
