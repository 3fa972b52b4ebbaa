-- The lists of a pass fit: at most 2 E sides are kept or noted, and at most V vertices are overgrown. A growing pass over a node
-- whose lists have nothing twice, all of it held by the node, leaves such lists.
use Rattle.std.specs.Prelude.{ℕ, suc, ◌+◌, ◌*◌, ◌≤◌, ◌<◌, ◌≡◌, Bool, true, false, ◌&&◌, leb, length, get_or, set}
use Rattle.std.proofs.Common.{arith, sym, subst, ◌∙◌, length-append, get_or-set_same, get_or-set_other, eqb-true, eq-eqb, lt-ltb, ltb-true}
use Rattle.std.proofs.Math.Decide.{ℕ_discrete as dec_eq, dec_lt}
use Rattle.std.proofs.Math.Path.{refl, subst₂}
use mathlib.Core.List.{List, [], ◌∷◌, ◌++◌, map, append_assoc, append-nil}
use Rattle.std.proofs.Math.Dec.{eqb, ltb}
use Rattle.std.proofs.lemmas.List.{length-map}
use Rattle.std.proofs.Math.Seq.{set_out}
use Rattle.graph.specs.Basic.{fold, all, member, distinct}
use Rattle.graph.specs.State.{State, vertex_count, side_count, node_count, parent_of, Vertices, Overgrown, opposite, end_at, growth_at, holder_at, grandson_at, sides_at, vertex_holder_at, defect_at, boundary_of, overgrown_of, with_vertices, with_sides, with_holder, with_grandson, with_vertex_holder, with_vertex_grandson, held_side, held_vertex, free_side, free_vertex}
use Rattle.graph.specs.laws.State.{if-both, if-cases, fold-keeps, fold-keeps-rest, fold-keeps-on, kept_refl, kept_trans, kept-held-vertex, kept-free-side, kept-free-vertex, opposite-below, and_left}
use Rattle.graph.specs.inner.Kept.{SameButHolders}
use Rattle.graph.specs.laws.Members.{by-test, all_middle, all_snoc, all_weaker, all-member, all_map, distinct_cons, distinct_snoc, distinct-middle, distinct-length, both}
use Rattle.graph.specs.Open.{dual_limit}
use Rattle.graph.specs.Sound.{over_sound, sound}
use Rattle.graph.specs.laws.Shape.{SoundNode, node-facts, sound-node, OwnLists, own-facts, sound-end, sound-sides}
use Rattle.graph.specs.Shape.{Shape}
use Rattle.pass.specs.Work.{Work, on_state, keep, keep_once, note, push, call_another, start_pass}
use Rattle.pass.specs.Grow.{reaches, grow_step, take_side, take_vertex, take_step, grow_scanned, grow_pass}
use Rattle.pass.specs.Shrink.{empty_tops, below_tops, drop_side, drop_step, shrink_step, closed, release_side, release_step, dropped, shrink_scanned, shrink_pass}
use Rattle.pass.proofs.laws.Passes.{Keeps, keeps-take-side, grow-scanned-keeps}
use Rattle.pass.specs.inner.Own.{OwnList, OwnSides}

-- ---- a list of a node's own: numbers below m, each once, each held by node n, where h reads the holder

-- node n holds at least as much by h' as by h
abbrev pub Holds : ℕ → (ℕ → ℕ) → (ℕ → ℕ) → Type 0
Holds n h h' = (t : ℕ) → h t ≡ n + 1 → h' t ≡ n + 1

pub own-length : (h : ℕ → ℕ) (n m : ℕ) (l : List ℕ) → OwnList h n m l → length l ≤ m
own-length h n m l o = distinct-length m l o.once o.inside

module _ {h h' : ℕ → ℕ} {n m : ℕ} (holds : Holds n h h') where
  pub own-more : {l : List ℕ} → OwnList h n m l → OwnList h' n m l
  own-more {l} o = record { inside = o.inside; held = all_weaker (λ s. eqb (h s) (n + 1)) (λ s. eqb (h' s) (n + 1)) (λ s e. eq-eqb (h' s) (n + 1) (holds s (eqb-true (h s) (n + 1) e))) l o.held; once = o.once }

  -- what was free and is held now is new in the list
  free_new : (t : ℕ) {l : List ℕ} → OwnList h n m l → h t ≡ 0 → member t l ≡ false
  free_new t {l} o z =
      by-test (member t l)
      (λ e. let q : h t ≡ n + 1 = eqb-true (h t) (n + 1) (all-member (λ s. eqb (h s) (n + 1)) l t o.held e) in absurd (omega arith))
      (λ e. e)

  pub own-snoc : (t : ℕ) {l : List ℕ} → OwnList h n m l → h t ≡ 0 → h' t ≡ n + 1 → t < m → OwnList h' n m (l ++ (t ∷ []))
  own-snoc t {l} o z w b =
      let more : OwnList h' n m l = own-more o in
      record { inside = all_snoc (λ s. ltb s m) l t o.inside (lt-ltb t m b); held = all_snoc (λ s. eqb (h' s) (n + 1)) l t more.held (eq-eqb (h' t) (n + 1) w); once = distinct_snoc l t o.once (free_new t o z) }

  pub own-cons : (t : ℕ) {l : List ℕ} → OwnList h n m l → h t ≡ 0 → h' t ≡ n + 1 → t < m → OwnList h' n m (t ∷ l)
  unfolding all
  own-cons t {l} o z w b =
      let more : OwnList h' n m l = own-more o in
      record {
        inside = both (ltb t m) (all (λ s. ltb s m) l) (lt-ltb t m b) o.inside;
        held = both (eqb (h' t) (n + 1)) (all (λ s. eqb (h' s) (n + 1)) l) (eq-eqb (h' t) (n + 1) w) more.held;
        once = distinct_cons t l (free_new t o z) o.once;
      }

pub own-middle : (h : ℕ → ℕ) (n m : ℕ) (xs : List ℕ) (y : ℕ) (ys : List ℕ) → OwnList h n m (xs ++ (y ∷ ys)) → OwnList h n m (xs ++ ys)
own-middle h n m xs y ys o = record { inside = all_middle (λ s. ltb s m) xs y ys o.inside; held = all_middle (λ s. eqb (h s) (n + 1)) xs y ys o.held; once = distinct-middle xs y ys o.once }

-- ---- holding a side or a vertex

set_holds : (l : List ℕ) (s n : ℕ) → Holds n (λ t. get_or l t 0) (λ t. get_or (set l s (n + 1)) t 0)
set_holds l s n t e = elim (dec_eq t s) [ no ne ↦ get_or-set_other l s t (n + 1) 0 ne ∙ e | yes q ↦ elim (dec_lt s (length l)) [ yes b ↦ rw q (get_or-set_same l s (n + 1) 0 b) | no b ↦ rw (set_out l s (n + 1) (omega arith)) e ] ]

pub side-holds : (c : State) (s n g : ℕ) → Holds n (holder_at c) (holder_at (held_side c s n g))
unfolding held_side with_grandson with_holder with_sides
side-holds c s n g = set_holds c.sides.holder s n

pub vertex-holds : (c : State) (v n g : ℕ) → Holds n (vertex_holder_at c) (vertex_holder_at (held_vertex c v n g))
unfolding held_vertex with_vertex_grandson with_vertex_holder with_vertices
vertex-holds c v n g = set_holds c.vertices.vertex_holder v n

pub side-held : (c : State) (s n g : ℕ) → s < length c.sides.holder → holder_at (held_side c s n g) s ≡ n + 1
unfolding held_side with_grandson with_holder with_sides
side-held c s n g h = get_or-set_same c.sides.holder s (n + 1) 0 h

pub vertex-held : (c : State) (v n g : ℕ) → v < length c.vertices.vertex_holder → vertex_holder_at (held_vertex c v n g) v ≡ n + 1
unfolding held_vertex with_vertex_grandson with_vertex_holder with_vertices
vertex-held c v n g h = get_or-set_same c.vertices.vertex_holder v (n + 1) 0 h

-- ---- a growing pass: the sides

-- over the boundary, with what is still to come
pub own-grow-step : (n m : ℕ) (w : Work) (s : ℕ) (r : List ℕ) → OwnSides n m w.state (w.kept ++ (s ∷ r)) → OwnSides n m (grow_step n w s).state ((grow_step n w s).kept ++ r)
unfolding grow_step note keep on_state
own-grow-step n m w s r o =
    if-both (λ (x : Work). OwnSides n m x.state (x.kept ++ r)) (reaches w.state s)
    (own-more (side-holds w.state (opposite s) n (grandson_at w.state s)) (own-middle (holder_at w.state) n m w.kept s r o))
    (rw append_assoc o)

pub grow-scanned-own : (c : State) (n m : ℕ) → OwnSides n m c (boundary_of c n) → OwnSides n m (grow_scanned c n).state (grow_scanned c n).kept
unfolding grow_scanned start_pass
grow-scanned-own c n m o =
    subst (OwnSides n m (grow_scanned c n).state) (append-nil (grow_scanned c n).kept)
    (fold-keeps-rest (grow_step n) (λ (w : Work) (r : List ℕ). OwnSides n m w.state (w.kept ++ r)) (own-grow-step n m) (start_pass c (overgrown_of c n)) (boundary_of c n) o)

-- every side at a vertex is one of the m sides, of which each has a holder; every end is one of the k vertices
pub record Sized (m k : ℕ) (c : State) : Type 0 where
  pub sides : (v : ℕ) → all (λ t. ltb t m) (sides_at c v) ≡ true
  pub holders : length c.sides.holder ≡ m
  pub ends : (s : ℕ) → end_at c s < k
  pub vholders : length c.vertices.vertex_holder ≡ k

pub sized-kept : (m k : ℕ) (c d : State) → SameButHolders c d → Sized m k c → Sized m k d
sized-kept m k c d p z = record { sides = λ v. rw p.graph (z.sides v); holders = p.holder ∙ z.holders; ends = λ s. rw p.graph (z.ends s); vholders = p.vertex_holder ∙ z.vholders }

-- the vertices of a stack
abbrev pub stacked : List Overgrown → List ℕ
stacked o = map (λ (x : Overgrown). x.vertex) o

abbrev pub OwnStack : ℕ → ℕ → Vertices → List ℕ → Type 0
OwnStack n k x l = OwnList (λ v. get_or x.vertex_holder v 0) n k l

abbrev pub OwnOver : ℕ → ℕ → State → List Overgrown → Type 0
OwnOver n k c o = OwnStack n k c.vertices (stacked o)

-- both lists of node n, while it takes vertices
pub record Taken (n m k : ℕ) (c : State) (w : Work) : Type 0 where
  pub keeps : Keeps c w
  pub own : OwnSides n m w.state w.kept
  pub over : OwnOver n k w.state w.over

pub own-take-side : (n m g : ℕ) (w : Work) (t : ℕ) → length w.state.sides.holder ≡ m → ltb t m ≡ true → OwnSides n m w.state w.kept → OwnSides n m (take_side n g w t).state (take_side n g w t).kept
unfolding take_side call_another keep on_state
own-take-side n m g w t len b o =
    let lt : t < m = ltb-true t m b in
    if-cases (λ (x : Work). OwnSides n m x.state x.kept) (eqb (holder_at w.state t) 0)
    (λ e. own-snoc (side-holds w.state t n g) t o (eqb-true _ _ e) (side-held w.state t n g (omega arith)) lt)
    (λ e. o)

-- the vertices and the stack, which the sides of a taken vertex leave alone
abbrev pub Still : Vertices → List Overgrown → Work → Type 0
Still x o w = (w.state.vertices ≡ x) × (w.over ≡ o)

pub still-take-side : (x : Vertices) (o : List Overgrown) (n g : ℕ) (w : Work) (t : ℕ) → Still x o w → Still x o (take_side n g w t)
unfolding take_side call_another keep on_state held_side with_grandson with_holder with_sides
still-take-side x o n g w t p = if-both (Still x o) (eqb (holder_at w.state t) 0) p p

-- the loop over the sides of a taken vertex
pub record Siding (n m : ℕ) (c : State) (w : Work) : Type 0 where
  pub keeps : Keeps c w
  pub own : OwnSides n m w.state w.kept

pub siding-step : (n m g : ℕ) (c : State) → length c.sides.holder ≡ m → (w : Work) (t : ℕ) → ltb t m ≡ true → Siding n m c w → Siding n m c (take_side n g w t)
siding-step n m g c len w t b p = record { keeps = keeps-take-side c n g w t p.keeps; own = own-take-side n m g w t (p.keeps.holder ∙ len) b p.own }

-- a vertex is held, before its sides are
siding-start : (n m k g : ℕ) (c : State) (w : Work) (v : ℕ) → Taken n m k c w → Siding n m c (on_state w (held_vertex w.state v n g))
unfolding on_state held_vertex with_vertex_grandson with_vertex_holder with_vertices
siding-start n m k g c w v p = record { keeps = kept_trans p.keeps (kept-held-vertex w.state v n g); own = p.own }

over-start : (n m k g : ℕ) (c : State) → Sized m k c → (w : Work) (v : ℕ) → v < k → vertex_holder_at w.state v ≡ 0 → Taken n m k c w → OwnStack n k (on_state w (held_vertex w.state v n g)).state.vertices (v ∷ stacked w.over)
unfolding on_state
over-start n m k g c z w v b e p =
    let len : length w.state.vertices.vertex_holder ≡ k = (sized-kept m k c w.state p.keeps z).vholders in
    own-cons (vertex-holds w.state v n g) v p.over e (vertex-held w.state v n g (omega arith)) b

own-rest : (h : ℕ → ℕ) (n m x : ℕ) (l : List ℕ) → OwnList h n m (x ∷ l) → OwnList h n m l
own-rest h n m x l o = own-middle h n m [] x l o

-- a vertex is taken
taken-vertex : (n m k g : ℕ) (c : State) → Sized m k c → (w : Work) (v : ℕ) → v < k → vertex_holder_at w.state v ≡ 0 → Taken n m k c w → Taken n m k c (take_vertex n g w v)
unfolding take_vertex push
taken-vertex n m k g c z w v b e p =
    let first : Work = on_state w (held_vertex w.state v n g) in
    let after : Work = fold (take_side n g) first (sides_at w.state v) in
    let size : Sized m k w.state = sized-kept m k c w.state p.keeps z in
    let sided : Siding n m c after = fold-keeps-on (take_side n g) (λ t. ltb t m) (Siding n m c) (siding-step n m g c z.holders) first (sides_at w.state v) (size.sides v) (siding-start n m k g c w v p) in
    let still : Still first.state.vertices first.over after = fold-keeps (take_side n g) (Still first.state.vertices first.over) (still-take-side first.state.vertices first.over n g) first (sides_at w.state v) (refl, refl) in
    let same : first.over ≡ w.over = unfold on_state in refl in
    let o : OwnStack n k after.state.vertices (v ∷ stacked after.over) = subst₂ (λ (x : Vertices) (l : List Overgrown). OwnStack n k x (v ∷ stacked l)) (sym still.0) (sym (still.1 ∙ same)) (over-start n m k g c z w v b e p) in
    if-both (Taken n m k c) (eqb (length after.kept) (length w.kept))
    (record { keeps = sided.keeps; own = sided.own; over = o })
    (record { keeps = sided.keeps; own = sided.own; over = own-rest (vertex_holder_at after.state) n k v _ o })

taken_step : (n m k : ℕ) (c : State) → Sized m k c → (w : Work) (s : ℕ) → Taken n m k c w → Taken n m k c (take_step n w s)
unfolding take_step
taken_step n m k c z w s p =
    if-cases (Taken n m k c) (eqb (vertex_holder_at w.state (end_at w.state (opposite s))) 0)
    (λ e. taken-vertex n m k (grandson_at w.state s) c z w (end_at w.state (opposite s)) ((sized-kept m k c w.state p.keeps z).ends (opposite s)) (eqb-true _ _ e) p)
    (λ e. p)

-- the boundary loop leaves the vertices and the stack alone
pub still-grow-step : (x : Vertices) (o : List Overgrown) (n : ℕ) (w : Work) (s : ℕ) → Still x o w → Still x o (grow_step n w s)
unfolding grow_step note keep on_state held_side with_grandson with_holder with_sides
still-grow-step x o n w s p = if-both (Still x o) (reaches w.state s) p p

pub grow-pass-taken : (c : State) (n m k : ℕ) → Sized m k c → OwnSides n m c (boundary_of c n) → OwnOver n k c (overgrown_of c n) → Taken n m k c (grow_pass c n)
unfolding grow_pass grow_scanned start_pass
grow-pass-taken c n m k z o q =
    let still : Still c.vertices (overgrown_of c n) (grow_scanned c n) = fold-keeps (grow_step n) (Still c.vertices (overgrown_of c n)) (still-grow-step c.vertices (overgrown_of c n) n) _ (boundary_of c n) (refl, refl) in
    let over : OwnOver n k (grow_scanned c n).state (grow_scanned c n).over = subst₂ (λ (x : Vertices) (l : List Overgrown). OwnStack n k x (stacked l)) (sym still.0) (sym still.1) q in
    fold-keeps (take_step n) (Taken n m k c) (taken_step n m k c z) (grow_scanned c n) (grow_scanned c n).noted
    (record { keeps = grow-scanned-keeps c n; own = grow-scanned-own c n m o; over = over })

-- so the lists of a growing pass fit
pub grow-kept-le : (c : State) (n m k : ℕ) → Sized m k c → OwnSides n m c (boundary_of c n) → OwnOver n k c (overgrown_of c n) → length (grow_pass c n).kept ≤ m
grow-kept-le c n m k z o q = own-length (holder_at (grow_pass c n).state) n m (grow_pass c n).kept (grow-pass-taken c n m k z o q).own

pub grow-over-le : (c : State) (n m k : ℕ) → Sized m k c → OwnSides n m c (boundary_of c n) → OwnOver n k c (overgrown_of c n) → length (grow_pass c n).over ≤ k
grow-over-le c n m k z o q =
    let le : length (map (λ (x : Overgrown). x.vertex) (grow_pass c n).over) ≤ k = own-length (vertex_holder_at (grow_pass c n).state) n k _ (grow-pass-taken c n m k z o q).over in
    rw (length-map (grow_pass c n).over (λ (x : Overgrown). x.vertex)) at le

-- each boundary side is kept or noted
count-grow-step : (n k : ℕ) (w : Work) (s : ℕ) (r : List ℕ) → length w.kept + length w.noted + suc (length r) ≡ k → length (grow_step n w s).kept + length (grow_step n w s).noted + length r ≡ k
unfolding grow_step note keep on_state
count-grow-step n k w s r e =
    if-both (λ (x : Work). length x.kept + length x.noted + length r ≡ k) (reaches w.state s)
    (omega (arith, length-append w.noted (s ∷ [])))
    (omega (arith, length-append w.kept (s ∷ [])))

-- ---- a shrinking pass: nothing is kept twice

-- the kept sides are some of the 2 e sides, each once
pub record Listed (e : ℕ) (c : State) (w : Work) : Type 0 where
  pub keeps : Keeps c w
  pub inside : all (λ s. ltb s (2 * e)) w.kept ≡ true
  pub once : distinct w.kept ≡ true

-- a side is kept once
listed-keep-once : (e : ℕ) (c : State) (w : Work) (s : ℕ) → s < 2 * e → Listed e c w → Listed e c (keep_once w s)
unfolding keep_once keep
listed-keep-once e c w s b p =
    if-cases (Listed e c) (member s w.kept)
    (λ h. p)
    (λ h. record { keeps = p.keeps; inside = all_snoc (λ t. ltb t (2 * e)) w.kept s p.inside (lt-ltb s (2 * e) b); once = distinct_snoc w.kept s p.once h })

listed-call : (e : ℕ) (c : State) (w : Work) (t : Bool) → Listed e c w → Listed e c (call_another w t)
unfolding call_another
listed-call e c w t p = record { keeps = p.keeps; inside = p.inside; once = p.once }

listed-on : (e : ℕ) (c : State) (w : Work) (d : State) → SameButHolders w.state d → Listed e c w → Listed e c (on_state w d)
unfolding on_state
listed-on e c w d k p = record { keeps = kept_trans p.keeps k; inside = p.inside; once = p.once }

listed-note : (e : ℕ) (c : State) (w : Work) (x : ℕ) → Listed e c w → Listed e c (note w x)
unfolding note
listed-note e c w x p = record { keeps = p.keeps; inside = p.inside; once = p.once }

-- the sides at a vertex, in a state of the same graph
sides-kept : (m : ℕ) (c d : State) → SameButHolders c d → ((v : ℕ) → all (λ t. ltb t m) (sides_at c v) ≡ true) → (v : ℕ) → all (λ t. ltb t m) (sides_at d v) ≡ true
sides-kept m c d k h v = rw k.graph (h v)

module _ (e n : ℕ) (c : State) (sides : (v : ℕ) → all (λ t. ltb t (2 * e)) (sides_at c v) ≡ true) where
  listed-drop-side : (w : Work) (t : ℕ) → ltb t (2 * e) ≡ true → Listed e c w → Listed e c (drop_side w t)
  unfolding drop_side
  listed-drop-side w t b p = listed-call e c _ _ (listed-keep-once e c _ (opposite t) (opposite-below t e (ltb-true t (2 * e) b)) (listed-on e c w _ (kept-free-side w.state t) p))

  listed-drop-step : (w : Work) (v : ℕ) → Listed e c w → Listed e c (drop_step n w v)
  unfolding drop_step
  listed-drop-step w v p =
      if-both (Listed e c) (eqb (vertex_holder_at w.state v) (n + 1))
      (fold-keeps-on drop_side (λ t. ltb t (2 * e)) (Listed e c) listed-drop-side (on_state w (free_vertex w.state v))
      (sides_at w.state v) (sides-kept (2 * e) c w.state p.keeps sides v) (listed-on e c w _ (kept-free-vertex w.state v) p))
      p

  listed-shrink-step : (w : Work) (s : ℕ) → ltb s (2 * e) ≡ true → Listed e c w → Listed e c (shrink_step w s)
  unfolding shrink_step
  listed-shrink-step w s b p = if-both (Listed e c) (eqb (growth_at w.state s) 0 && eqb (defect_at w.state (end_at w.state s)) 0) (listed-note e c w _ p) (listed-keep-once e c w s (ltb-true s (2 * e) b) p)

  listed-release-side : (w : Work) (t : ℕ) → ltb t (2 * e) ≡ true → Listed e c w → Listed e c (release_side n w t)
  unfolding release_side
  listed-release-side w t b p =
      let q : Listed e c (on_state w (free_side w.state t)) = listed-on e c w _ (kept-free-side w.state t) p in
      if-both (Listed e c) (closed n w.state t) (listed-call e c _ _ (listed-keep-once e c _ (opposite t) (opposite-below t e (ltb-true t (2 * e) b)) q)) q

  listed-release-step : (w : Work) (v : ℕ) → Listed e c w → Listed e c (release_step n w v)
  unfolding release_step
  listed-release-step w v p =
      if-both (Listed e c) (eqb (vertex_holder_at w.state v) 0)
      p
      (fold-keeps-on (release_side n) (λ t. ltb t (2 * e)) (Listed e c) listed-release-side (on_state w (free_vertex w.state v))
      (sides_at w.state v) (sides-kept (2 * e) c w.state p.keeps sides v) (listed-on e c w _ (kept-free-vertex w.state v) p))

  pub dropped-listed : Listed e c (dropped c n)
  unfolding dropped start_pass all distinct
  dropped-listed = fold-keeps (drop_step n) (Listed e c) listed-drop-step (start_pass c (below_tops (overgrown_of c n))) (empty_tops (overgrown_of c n)) (record { keeps = kept_refl c; inside = refl; once = refl })

  module _ (boundary : all (λ s. ltb s (2 * e)) (boundary_of c n) ≡ true) where
    pub shrink-scanned-listed : Listed e c (shrink_scanned c n)
    unfolding shrink_scanned
    shrink-scanned-listed = fold-keeps-on shrink_step (λ s. ltb s (2 * e)) (Listed e c) listed-shrink-step (dropped c n) (boundary_of c n) boundary dropped-listed

    pub shrink-pass-listed : Listed e c (shrink_pass c n)
    unfolding shrink_pass
    shrink-pass-listed = fold-keeps (release_step n) (Listed e c) listed-release-step (shrink_scanned c n) (shrink_scanned c n).noted shrink-scanned-listed

    -- so the kept sides fit
    pub shrink-kept-le : length (shrink_pass c n).kept ≤ 2 * e
    shrink-kept-le = distinct-length (2 * e) (shrink_pass c n).kept shrink-pass-listed.once shrink-pass-listed.inside

-- at most one vertex is noted for each boundary side
abbrev pub Noted : List ℕ → Work → Type 0
Noted l w = w.noted ≡ l

pub noted-keep-once : (l : List ℕ) (w : Work) (s : ℕ) → Noted l w → Noted l (keep_once w s)
unfolding keep_once keep
noted-keep-once l w s p = if-both (Noted l) (member s w.kept) p p

noted-drop-side : (l : List ℕ) (w : Work) (t : ℕ) → Noted l w → Noted l (drop_side w t)
unfolding drop_side call_another
noted-drop-side l w t p = noted-keep-once l (on_state w (free_side w.state t)) (opposite t) (unfold on_state in p)

pub noted-drop-step : (n : ℕ) (l : List ℕ) (w : Work) (v : ℕ) → Noted l w → Noted l (drop_step n w v)
unfolding drop_step
noted-drop-step n l w v p = if-both (Noted l) (eqb (vertex_holder_at w.state v) (n + 1)) (fold-keeps drop_side (Noted l) (noted-drop-side l) (on_state w (free_vertex w.state v)) (sides_at w.state v) (unfold on_state in p)) p

pub below-tops-le : (o : List Overgrown) → length (below_tops o) ≤ length o
unfolding below_tops
below-tops-le [] = omega arith
below-tops-le (x ∷ xs) = let ih : length (below_tops xs) ≤ length xs = below-tops-le xs in by-test (eqb x.amount 0) (λ e. rw e (omega arith)) (λ e. rw e (omega arith))

-- the shrinking loops leave the stack alone, once its empty tops are off
abbrev Stack : List Overgrown → Work → Type 0
Stack o w = w.over ≡ o

stack-keep-once : (o : List Overgrown) (w : Work) (s : ℕ) → Stack o w → Stack o (keep_once w s)
unfolding keep_once keep
stack-keep-once o w s p = if-both (Stack o) (member s w.kept) p p

stack-drop-side : (o : List Overgrown) (w : Work) (t : ℕ) → Stack o w → Stack o (drop_side w t)
unfolding drop_side call_another
stack-drop-side o w t p = stack-keep-once o (on_state w (free_side w.state t)) (opposite t) (unfold on_state in p)

stack-drop-step : (n : ℕ) (o : List Overgrown) (w : Work) (v : ℕ) → Stack o w → Stack o (drop_step n w v)
unfolding drop_step
stack-drop-step n o w v p = if-both (Stack o) (eqb (vertex_holder_at w.state v) (n + 1)) (fold-keeps drop_side (Stack o) (stack-drop-side o) (on_state w (free_vertex w.state v)) (sides_at w.state v) (unfold on_state in p)) p

stack-shrink-step : (o : List Overgrown) (w : Work) (s : ℕ) → Stack o w → Stack o (shrink_step w s)
unfolding shrink_step note
stack-shrink-step o w s p = if-both (Stack o) (eqb (growth_at w.state s) 0 && eqb (defect_at w.state (end_at w.state s)) 0) p (stack-keep-once o w s p)

stack-release-side : (n : ℕ) (o : List Overgrown) (w : Work) (t : ℕ) → Stack o w → Stack o (release_side n w t)
unfolding release_side call_another on_state
stack-release-side n o w t p = if-both (Stack o) (closed n w.state t) (stack-keep-once o (on_state w (free_side w.state t)) (opposite t) p) p

stack-release-step : (n : ℕ) (o : List Overgrown) (w : Work) (v : ℕ) → Stack o w → Stack o (release_step n w v)
unfolding release_step
stack-release-step n o w v p = if-both (Stack o) (eqb (vertex_holder_at w.state v) 0) p (fold-keeps (release_side n) (Stack o) (stack-release-side n o) (on_state w (free_vertex w.state v)) (sides_at w.state v) (unfold on_state in p))

pub shrink-over : (c : State) (n : ℕ) → (shrink_pass c n).over ≡ below_tops (overgrown_of c n)
unfolding shrink_pass shrink_scanned dropped start_pass
shrink-over c n =
    let o : List Overgrown = below_tops (overgrown_of c n) in
    let d : Stack o (dropped c n) = fold-keeps (drop_step n) (Stack o) (stack-drop-step n o) (start_pass c o) (empty_tops (overgrown_of c n)) refl in
    let s : Stack o (shrink_scanned c n) = fold-keeps shrink_step (Stack o) (stack-shrink-step o) (dropped c n) (boundary_of c n) d in
    fold-keeps (release_step n) (Stack o) (stack-release-step n o) (shrink_scanned c n) (shrink_scanned c n).noted s

-- ---- on a sound state

module _ (c : State) (z : Shape c) (h : sound c ≡ true) (v1 : 1 ≤ vertex_count c) where
  pub sound-sized : Sized (side_count c) (vertex_count c) c
  sound-sized = record { sides = sound-sides c z h; holders = z.holder; ends = sound-end c z h v1; vholders = z.vertex_holder }

  module _ (n : ℕ) (b : n < node_count c) (outer : parent_of c n ≡ 0) where
    facts : SoundNode c n
    facts = node-facts c n (sound-node c h n b)

    own : OwnLists c n
    own = own-facts c n (facts.own outer)

    pub sound-own-sides : OwnSides n (side_count c) c (boundary_of c n)
    sound-own-sides = record { inside = facts.boundary; held = own.sides-held; once = own.sides-once }

    pub sound-own-over : OwnOver n (vertex_count c) c (overgrown_of c n)
    unfolding over_sound
    sound-own-over = record {
      inside = all_map (λ v. ltb v (vertex_count c)) (λ (o : Overgrown). o.vertex) (overgrown_of c n)
          (all_weaker (over_sound c) (λ (o : Overgrown). ltb o.vertex (vertex_count c))
          (λ o e. and_left (ltb o.vertex (vertex_count c)) (leb o.amount dual_limit) e) (overgrown_of c n) facts.overgrown);
      held = all_map (λ v. eqb (vertex_holder_at c v) (n + 1)) (λ (o : Overgrown). o.vertex) (overgrown_of c n) own.vertices-held;
      once = own.vertices-once;
    }

    -- a growing pass on a sound state leaves lists of the node's own, which fit
    pub sound-grow-taken : Taken n (side_count c) (vertex_count c) c (grow_pass c n)
    sound-grow-taken = grow-pass-taken c n (side_count c) (vertex_count c) sound-sized sound-own-sides sound-own-over

    pub sound-grow-fits : (length (grow_pass c n).kept ≤ side_count c) × (length (grow_pass c n).over ≤ vertex_count c)
    sound-grow-fits = (grow-kept-le c n (side_count c) (vertex_count c) sound-sized sound-own-sides sound-own-over, grow-over-le c n (side_count c) (vertex_count c) sound-sized sound-own-sides sound-own-over)

    pub sound-boundary-le : length (boundary_of c n) ≤ side_count c
    sound-boundary-le = own-length (holder_at c) n (side_count c) (boundary_of c n) sound-own-sides
