-- Laws of the empty tops of an overgrown stack: counted from the top, read by their place, and what is left below them.
use Prim.Native.Nat.{ℕ, zero, suc, ◌+◌, ◌≤◌, ◌<◌}
use native.Mathlib.Omega.{arith}
use Rattle.std.specs.Prelude.{◌≡◌, refl, ◌≢◌, true, ℤ, eqb, ltb, get_or, drop}
use Rattle.std.proofs.Math.Path.{ap}
use Rattle.std.proofs.Common.{◌∙◌, drop_of_length-le, drop-cons}
use mathlib.Core.List.{List, [], ◌∷◌}
use Rattle.std.proofs.Math.ListN.{length}
use borrow.Author.Tests.{eq-eqb, ne_eqb, ltb-true}
use Rattle.graph.specs.Basic.{all}
use Rattle.graph.specs.State.{State, Nodes, Overgrown, vertex_count, overgrown_of}
use Rattle.graph.specs.Layout.{state_of}
use Rattle.graph.specs.laws.State.{and_left, and_right}
use Rattle.graph.specs.inner.Kept.{SameButHolders}
use Rattle.graph.specs.laws.Members.{by-test}
use Rattle.pass.specs.Work.{Work}
use Rattle.pass.specs.Shrink.{empty_tops, below_tops}
use Rattle.pass.specs.inner.Ready.{Shrinkable}
use Rattle.shrink_pass.specs.inner.Shrinking.{ShrinkWorked}
use Rattle.shrink_pass.specs.declared.keep.ShrinkProgress.{ShrinkProgress}

-- the first i entries are empty: those, and the empty tops of what follows
abbrev pub Counted : List Overgrown → ℕ → Type 0
Counted o i = i + length (empty_tops (drop i o)) ≡ length (empty_tops o)

pub count_none : (o : List Overgrown) → Counted o 0
count_none o = omega arith

module _ (o : List Overgrown) (i : ℕ) (d : Overgrown) (q : Counted o i) where
  pub count-more : i < length o → (get_or o i d).amount ≡ 0 → Counted o (i + 1)
  unfolding empty_tops
  count-more h e =
      let z : empty_tops (drop i o) ≡ (get_or o i d).vertex ∷ empty_tops (drop (suc i) o) =
      rw (drop-cons o i d h, eq-eqb (get_or o i d).amount 0 e) in
      let l : length (empty_tops (drop i o)) ≡ suc (length (empty_tops (drop (suc i) o))) = ap length z in
      let u : i + 1 ≡ suc i = omega arith in
      rw u (omega (arith, q))

  pub count-stop : i < length o → (get_or o i d).amount ≢ 0 → i ≡ length (empty_tops o)
  unfolding empty_tops
  count-stop h e =
      let z : empty_tops (drop i o) ≡ [] = rw (drop-cons o i d h, ne_eqb (get_or o i d).amount 0 e) in
      let l : length (empty_tops (drop i o)) ≡ 0 = ap length z in
      omega (arith, q)

  pub count-all : length o ≤ i → i ≡ length (empty_tops o)
  unfolding empty_tops
  count-all h =
      let z : empty_tops (drop i o) ≡ [] = rw (drop_of_length-le o h) in
      let l : length (empty_tops (drop i o)) ≡ 0 = ap length z in
      omega (arith, q)

pub tops-le : (o : List Overgrown) → length (empty_tops o) ≤ length o
unfolding empty_tops
tops-le [] = omega arith
tops-le (x ∷ o) = let ih : length (empty_tops o) ≤ length o = tops-le o in
    by-test (eqb x.amount 0) (λ e. rw e (omega arith)) (λ e. rw e (omega arith))

-- entry i of the empty tops is the vertex of entry i of the stack
pub top-at : (o : List Overgrown) (i : ℕ) (d : Overgrown) → i < length (empty_tops o)
    → (get_or o i d).vertex ≡ get_or (empty_tops o) i 0
unfolding empty_tops
top-at [] i d h = absurd (omega arith)
top-at (x ∷ o) zero d h = by-test (eqb x.amount 0) (λ e. rw e) (λ e. let z : 0 < 0 = rw e at h in absurd (omega arith))
top-at (x ∷ o) (suc i) d h =
    let ih = top-at o i d in
    by-test (eqb x.amount 0) (λ e. let z : suc i < suc (length (empty_tops o)) = rw e at h in rw e (ih (omega arith)))
    (λ e. let z : suc i < 0 = rw e at h in absurd (omega arith))

-- what is left of the stack
pub below-tops : (o : List Overgrown) → below_tops o ≡ drop (length (empty_tops o)) o
unfolding below_tops empty_tops
below-tops [] = refl
below-tops (x ∷ o) = let ih : below_tops o ≡ drop (length (empty_tops o)) o = below-tops o in
    by-test (eqb x.amount 0) (λ e. rw e ih) (λ e. rw e)

-- a vertex of the stack, where all are below k
pub stack-vertex : (k : ℕ) (o : List Overgrown) (i : ℕ) (d : Overgrown)
    → all (λ (x : Overgrown). ltb x.vertex k) o ≡ true → i < length o → (get_or o i d).vertex < k
unfolding all
stack-vertex k [] i d h l = absurd (omega arith)
stack-vertex k (x ∷ o) zero d h l =
    ltb-true x.vertex k (and_left (ltb x.vertex k) (all (λ (y : Overgrown). ltb y.vertex k) o) h)
stack-vertex k (x ∷ o) (suc i) d h l =
    stack-vertex k o i d (and_right (ltb x.vertex k) (all (λ (y : Overgrown). ltb y.vertex k) o) h) (omega arith)

-- ---- in a block, while vertices go

pub over-kept : {c d : State} (n : ℕ) → SameButHolders c d → overgrown_of d n ≡ overgrown_of c n
over-kept n k = ap (λ (x : Nodes). get_or x.overgrown n []) k.nodes

module _ {b₀ t₀ b t : List ℤ} {m : ℕ} {p₀ p : ShrinkProgress} {f : Work → Work} (n i : ℕ)
    (h : i < length (empty_tops (overgrown_of (state_of b₀) n))) (q : ShrinkWorked b₀ t₀ b t m p₀ p f) where
  pub top_below : i < length (overgrown_of (state_of b) n)
  top_below = rw (over-kept n q.keeps) (omega (arith, h, tops-le (overgrown_of (state_of b₀) n)))

  -- entry i as it is read: an empty top, and a vertex
  pub top_read : (v : ℕ) (d : Overgrown) → v ≡ (get_or (overgrown_of (state_of b) n) i d).vertex
      → v ≡ get_or (empty_tops (overgrown_of (state_of b₀) n)) i 0
  top_read v d e = e ∙ ap (λ o. (get_or o i d).vertex) (over-kept n q.keeps)
      ∙ top-at (overgrown_of (state_of b₀) n) i d h

  pub top-vertex : Shrinkable (state_of b₀) n → (v : ℕ) (d : Overgrown)
      → v ≡ (get_or (overgrown_of (state_of b) n) i d).vertex → v < vertex_count (state_of b)
  top-vertex s v d e =
      rw (e, q.block.vertices, over-kept n q.keeps)
      (stack-vertex (vertex_count (state_of b₀)) (overgrown_of (state_of b₀) n) i d s.stack
      (omega (arith, h, tops-le (overgrown_of (state_of b₀) n))))
