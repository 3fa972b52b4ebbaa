-- Any edges between the four vertices have the weights of a small patch.
use Rattle.std.specs.Prelude.{◌≡◌, ◌≢◌, Bool, true, false, ◌&&◌, ◌||◌, not, eqb, ltb, if◌then◌else◌}
use Rattle.std.proofs.Math.Path.{refl}
use Rattle.std.proofs.Common.{sym, ◌∙◌, arith, eqb-true, eq-eqb, ltb-true}
use Rattle.std.proofs.Math.Logic.{by_cases}
use mathlib.Core.List.{List, [], ◌∷◌}
use Prim.Native.Nat.{ℕ, zero, suc, ◌≤◌, ◌<◌}
use Rattle.std.proofs.Math.Decide.{ℕ_discrete, dec_lt}
use Rattle.std.proofs.lemmas.Bool.{eqb-false, not-true}
use Rattle.graph.specs.Basic.{all, any}
use Rattle.graph.specs.Open.{Edge}
use Rattle.graph.specs.laws.State.{if-cases, and_left, and_right}
use Rattle.graph.specs.laws.Members.{by-test, or_cases, all_first, all_others, any_none}
use Rattle.small_patches.specs.SmallPatch.{Pair, pairs, edge_over, PatchOver, no_pairs, absent, of_weight2, of_weight4, SmallPatch, patches_over, among_four, joins, weight_between, SameWeights}
use Rattle.small_patches.proofs.laws.Entries.{all-entry, patch-entry}

-- ---- either way round

or_swap : (x y : Bool) → (x || y) ≡ (y || x)
or_swap true true = refl
or_swap true false = refl
or_swap false true = refl
or_swap false false = refl

between-swap : (es : List Edge) (a b : ℕ) → weight_between es a b ≡ weight_between es b a
unfolding weight_between
between-swap [] a b = refl
between-swap (e ∷ es) a b =
    rw (or_swap (eqb e.left a && eqb e.right b) (eqb e.left b && eqb e.right a), between-swap es a b)

-- ---- an edge among the four

record Among (e : Edge) : Type 0 where
  left : e.left < 4
  right : e.right < 4
  apart : e.left ≢ e.right
  weight : eqb e.weight 2 || eqb e.weight 4 ≡ true

among : (e : Edge) → among_four e ≡ true → Among e
unfolding among_four
among e h =
    let l = ltb e.left 4 in
    let r = ltb e.right 4 in
    let d = not (eqb e.left e.right) in
    let w = eqb e.weight 2 || eqb e.weight 4 in
    let h₁ = and_left (l && r && d) w h in
    let h₂ = and_left (l && r) d h₁ in
    record {
      left = ltb-true _ _ (and_left l r h₂);
      right = ltb-true _ _ (and_right l r h₂);
      apart = eqb-false _ _ (not-true _ (and_right (l && r) d h₁));
      weight = and_right (l && r && d) w h;
    }

-- what an edge that joins a and b has at its ends
joined-ends : {P : Type 0} (e : Edge) (a b : ℕ) → joins e a b ≡ true
    → (e.left ≡ a → e.right ≡ b → P) → (e.left ≡ b → e.right ≡ a → P) → P
joined-ends e a b h p q =
    let la = eqb e.left a in
    let rb = eqb e.right b in
    let lb = eqb e.left b in
    let ra = eqb e.right a in
    or_cases (la && rb) (lb && ra) h
    (λ k. p (eqb-true _ _ (and_left la rb k)) (eqb-true _ _ (and_right la rb k)))
    (λ k. q (eqb-true _ _ (and_left lb ra k)) (eqb-true _ _ (and_right lb ra k)))

-- where no edge can join a and b there is no weight
none_between : (a b : ℕ) → ((e : Edge) → among_four e ≡ true → joins e a b ≡ true → ⊥) → (es : List Edge) → all among_four es ≡ true
    → weight_between es a b ≡ 0
unfolding weight_between
none_between a b no_edge [] h = refl
none_between a b no_edge (e ∷ es) h =
    if-cases (λ n. n ≡ 0) (joins e a b)
    (λ j. absurd (no_edge e (all_first among_four e es h) j))
    (λ j. none_between a b no_edge es (all_others among_four e es h))

none-same : (a : ℕ) (es : List Edge) → all among_four es ≡ true → weight_between es a a ≡ 0
none-same a =
    none_between a a (λ e h j. let m = among e h in joined-ends e a a j (λ p q. m.apart (p ∙ sym q)) (λ p q. m.apart (p ∙ sym q)))

none-far : (a b : ℕ) → 4 ≤ a → (es : List Edge) → all among_four es ≡ true → weight_between es a b ≡ 0
none-far a b far =
    none_between a b
    (λ e h j. let m = among e h in joined-ends e a b j (λ p q. omega (arith, m.left)) (λ p q. omega (arith, m.right)))

-- one edge is enough for a weight
some-weight : (es : List Edge) → all among_four es ≡ true → SameWeights [] es → es ≡ []
unfolding weight_between
some-weight [] h same = refl
some-weight (e ∷ es) h same =
    let m = among e (all_first among_four e es h) in
    let w : 0 ≡ e.weight = rw (eq-eqb e.left e.left refl, eq-eqb e.right e.right refl) at (same e.left e.right) in
    or_cases (eqb e.weight 2) (eqb e.weight 4) m.weight
    (λ k. absurd (omega (arith, eqb-true e.weight 2 k)))
    (λ k. absurd (omega (arith, eqb-true e.weight 4 k)))

-- ---- the patch with given weights

-- what a pair may have
data Value : ℕ → Type 0 where
  value0 : Value 0
  value2 : Value 2
  value4 : Value 4

value_of : (x : ℕ) → (eqb x 2 || eqb x 4) ≡ true → Value x
value_of x h = or_cases (eqb x 2) (eqb x 4) h (λ k. rw (eqb-true x 2 k) value2) (λ k. rw (eqb-true x 4 k) value4)

between-value : (es : List Edge) (a b : ℕ) → all among_four es ≡ true → Value (weight_between es a b)
unfolding weight_between
between-value [] a b h = value0
between-value (e ∷ es) a b h =
    if-cases Value (joins e a b)
    (λ j. value_of e.weight (among e (all_first among_four e es h)).weight)
    (λ j. between-value es a b (all_others among_four e es h))

-- an edge of weight x before others, none for 0
edge_if : Pair → ℕ → List Edge → List Edge
edge_if p zero es = es
edge_if p (suc x) es = edge_over p (suc x) ∷ es

module _ (w : Pair → ℕ) where
  edges_with : List Pair → List Edge
  edges_with [] = []
  edges_with (p ∷ ps) = edge_if p (w p) (edges_with ps)

  module _ (values : (p : Pair) → Value (w p)) where
    patch-with : (ps : List Pair) → PatchOver ps (edges_with ps)
    unfolding edges_with edge_if
    patch-with [] = no_pairs
    patch-with (p ∷ ps) = go (w p) (values p) (patch-with ps)
      where
        go : (x : ℕ) → Value x → PatchOver ps (edges_with ps) → PatchOver (p ∷ ps) (edge_if p x (edges_with ps))
        go _ value0 q = absent q
        go _ value2 q = of_weight2 q
        go _ value4 q = of_weight4 q

  -- ---- its weights

  module _ (a b : ℕ) where
    -- the pair is a and b, in either order
    joins_pair : Pair → Bool
    joins_pair p = joins (edge_over p 0) a b

    -- the weight of the first pair that is
    weight_in : List Pair → ℕ
    weight_in [] = 0
    weight_in (p ∷ ps) = if joins_pair p then w p else weight_in ps

    -- no two pairs are
    once : List Pair → Bool
    once [] = true
    once (p ∷ ps) = if joins_pair p then not (any joins_pair ps) else once ps

    skipped : (p : Pair) (x : ℕ) (es : List Edge) → joins_pair p ≡ false → weight_between (edge_if p x es) a b ≡ weight_between es a b
    unfolding weight_between edge_if joins_pair
    skipped p zero es h = refl
    skipped p (suc x) es h = rw h

    found : (p : Pair) (x : ℕ) (es : List Edge) → joins_pair p ≡ true → weight_between es a b ≡ 0 → weight_between (edge_if p x es) a b ≡ x
    unfolding weight_between edge_if joins_pair
    found p zero es h z = z
    found p (suc x) es h z = rw h

    none-with : (ps : List Pair) → any joins_pair ps ≡ false → weight_between (edges_with ps) a b ≡ 0
    unfolding edges_with weight_between
    none-with [] h = refl
    none-with (p ∷ ps) h =
        let n = any_none joins_pair p ps h in
        skipped p (w p) (edges_with ps) n.0 ∙ none-with ps n.1

    weights-with : (ps : List Pair) → once ps ≡ true → weight_between (edges_with ps) a b ≡ weight_in ps
    unfolding edges_with weight_between weight_in once
    weights-with [] h = refl
    weights-with (p ∷ ps) h =
        by-test (joins_pair p)
        (λ j. rw j (found p (w p) (edges_with ps) j (none-with ps (not-true _ (rw j at h)))))
        (λ j. rw j (skipped p (w p) (edges_with ps) j ∙ weights-with ps (rw j at h)))

-- ---- the patch with the weights of these edges

module _ (es : List Edge) (h : all among_four es ≡ true) where
  weights_of : Pair → ℕ
  weights_of p = weight_between es p.left p.right

  pub same_edges : List Edge
  same_edges = edges_with weights_of pairs

  pub same-patch : SmallPatch same_edges
  unfolding same_edges weights_of
  same-patch = patch-with weights_of (λ p. between-value es p.left p.right h) pairs

  -- the computed test: the edges of a patch are among the four
  patches-among : all (all among_four) (patches_over pairs) ≡ true
  unfolding among_four patches_over pairs all
  patches-among = refl

  same-among : all among_four same_edges ≡ true
  same-among = all-entry (all among_four) patches-among (patch-entry same-patch)

  rising : (a b : ℕ) → a < b → b < 4 → weight_between same_edges a b ≡ weight_between es a b
  unfolding same_edges weights_of pairs weight_in once joins_pair any
  rising zero zero l k = absurd (omega arith)
  rising zero (suc zero) l k = weights-with weights_of 0 1 pairs refl
  rising zero (suc (suc zero)) l k = weights-with weights_of 0 2 pairs refl
  rising zero (suc (suc (suc zero))) l k = weights-with weights_of 0 3 pairs refl
  rising zero (suc (suc (suc (suc b)))) l k = absurd (omega arith)
  rising (suc zero) zero l k = absurd (omega arith)
  rising (suc zero) (suc zero) l k = absurd (omega arith)
  rising (suc zero) (suc (suc zero)) l k = weights-with weights_of 1 2 pairs refl
  rising (suc zero) (suc (suc (suc zero))) l k = weights-with weights_of 1 3 pairs refl
  rising (suc zero) (suc (suc (suc (suc b)))) l k = absurd (omega arith)
  rising (suc (suc zero)) zero l k = absurd (omega arith)
  rising (suc (suc zero)) (suc zero) l k = absurd (omega arith)
  rising (suc (suc zero)) (suc (suc zero)) l k = absurd (omega arith)
  rising (suc (suc zero)) (suc (suc (suc zero))) l k = weights-with weights_of 2 3 pairs refl
  rising (suc (suc zero)) (suc (suc (suc (suc b)))) l k = absurd (omega arith)
  rising (suc (suc (suc a))) b l k = absurd (omega arith)

  below : (a b : ℕ) → a < b → weight_between same_edges a b ≡ weight_between es a b
  below a b l =
      by_cases (dec_lt b 4) (rising a b l)
      (λ k.
      let far : 4 ≤ b = omega arith in
      between-swap same_edges a b ∙ none-far b a far same_edges same-among ∙ sym (between-swap es a b ∙ none-far b a far es h))

  pub same-weights : SameWeights same_edges es
  same-weights a b =
      by_cases (dec_lt a b) (below a b)
      (λ k.
      by_cases (ℕ_discrete a b)
      (λ e. rw e (none-same b same_edges same-among ∙ sym (none-same b es h)))
      (λ e. between-swap same_edges a b ∙ below b a (omega arith) ∙ between-swap es b a))

  pub same_some : es ≢ [] → same_edges ≢ []
  same_some some e = some (some-weight es h (rw e at same-weights))
