-- The values of a sheet: reading them, the largest, how many vanish, and the edges with their weights.
use Prim.Native.Nat.{ℕ, zero, suc, ◌+◌, ◌*◌, ◌%◌, ◌≤◌, ◌<◌, max}
use Rattle.std.proofs.Common.{arith, sym, ◌∙◌, inl, inr, ⊎_elim, get_or-set_same, leb-true, le-leb, ltb-true, lt-ltb, eqb-true, eq-eqb}
use Rattle.std.proofs.Math.Numerals.{add-one}
use Rattle.std.proofs.Math.Decide.{ℕ_discrete as dec_eq, dec_lt}
use Rattle.std.specs.Prelude.{◌≡◌, ◌≢◌, ◌⊎◌, true, ◌&&◌, List, [], ◌∷◌, ℤ, pos, negsuc, ltb, eqb, set, map, Bool, IsTrue, ◌↔◌, EachIndex, slice_index_or}
use Rattle.std.proofs.Math.Path.{refl, ap}
use Rattle.std.proofs.Math.ListN.{length, get_or, length-set}
use Rattle.std.proofs.lemmas.List.{length-map}
use Rattle.std.proofs.Math.Seq.{get_or-set_other}
use Rattle.graph.specs.Basic.{fold, all, only, member, below}
use Rattle.std.specs.List.{fold as library_fold}
use Rattle.graph.specs.laws.Scan.{list-from, list_at}
use Rattle.graph.specs.Word.{to_nat, word_at}
use Rattle.graph.specs.Opening.{given_at, edge_at}
use Rattle.graph.specs.laws.State.{fold-snoc, fold-keeps, and_left, and_right}
use Rattle.graph.specs.laws.Members.{member-head, member-tail}
use Rattle.graph.specs.laws.Row.{numbers-get}
use Rattle.sheet.specs.Weight.{scaled}
use Rattle.sheet.specs.Sheet.{values_from, largest, in_range, sheet_ok, vanishes, vanished, sheet_weight, weigh_at, weighed, with_weight}
use Rattle.sheet.specs.laws.Weight.{zero-exactly}
use Rattle.graph.specs.laws.Chains.{same_test}
use Rattle.sheet.specs.laws.Count.{only_same}

-- ---- reading

pub values-count : (words : List ℤ) → length (values_from words) ≡ length words
unfolding values_from
values-count words = length-map words to_nat

pub values-get : (words : List ℤ) (i : ℕ) → get_or (values_from words) i 0 ≡ word_at words i
unfolding values_from
values-get words i = numbers-get words i

-- a test that says of every value whether it is in range
pub in-range-told : (words : List ℤ) (r : Bool) → IsTrue r ↔ EachIndex words (λ k. to_nat (slice_index_or words k (pos 0)) ≤ 999_999_999)
    → r ≡ all in_range (values_from words)
unfolding word_at
in-range-told words r h =
    same_test r (all in_range (values_from words))
    (λ e. list-from in_range (values_from words) 0 (λ i j. rw (values-get words i)
    (le-leb (word_at words i) 999_999_999 (h.0 e i (rw (values-count words) at j)))))
    (λ e. h.1 (λ i j. rw (values-get words i) at (leb-true (get_or (values_from words) i 0) 999_999_999
    (list_at in_range (values_from words) i 0 e (rw (values-count words) j)))))

-- ---- the largest

-- the library's fold over the words
fold_told : (a : ℕ) (words : List ℤ) → library_fold (λ m w. max m (to_nat w)) a words ≡ fold max a (map to_nat words)
unfolding fold
fold_told a [] = refl
fold_told a (w ∷ words) = fold_told (max a (to_nat w)) words

pub largest-told : (words : List ℤ) (r : ℕ) → r ≡ library_fold (λ m w. max m (to_nat w)) 0 words → r ≡ largest (values_from words)
unfolding largest values_from
largest-told words r e = e ∙ fold_told 0 words

largest-from : (a : ℕ) (l : List ℕ) → a ≤ fold max a l
unfolding fold
largest-from a [] = omega arith
largest-from a (x ∷ l) = let h = largest-from (max a x) l in omega arith

entry-most : (a : ℕ) (l : List ℕ) (i : ℕ) → i < length l → get_or l i 0 ≤ fold max a l
unfolding fold
entry-most a [] i h = absurd (omega arith)
entry-most a (x ∷ l) zero h = let d = largest-from (max a x) l in omega arith
entry-most a (x ∷ l) (suc i) h = entry-most (max a x) l i (omega arith)

-- it is the number that it starts from, or an entry
largest-found : (a : ℕ) (l : List ℕ) → (fold max a l ≡ a) ⊎ (member (fold max a l) l ≡ true)
unfolding fold
largest-found a [] = inl refl
largest-found a (x ∷ l) =
    ⊎_elim
    (λ e. elim (dec_lt a x) [
      | yes h ↦ inr (let z : fold max (max a x) l ≡ x = omega (arith, e) in rw z (member-head x l))
      | no h ↦ inl (omega (arith, e))
    ])
    (λ h. inr (member-tail (fold max (max a x) l) x l h)) (largest-found (max a x) l)

pub largest-is-value : (values : List ℕ) → 0 < largest values → member (largest values) values ≡ true
unfolding largest
largest-is-value values h = ⊎_elim (λ e. absurd (omega (arith, e))) (λ m. m) (largest-found 0 values)

largest-in-range : (a : ℕ) (l : List ℕ) → a ≤ 999_999_999 → all in_range l ≡ true → fold max a l ≤ 999_999_999
unfolding fold all
largest-in-range a [] h e = h
largest-in-range a (x ∷ l) h e =
    let d = leb-true x 999_999_999 (and_left (in_range x) (all in_range l) e) in
    largest-in-range (max a x) l (omega arith) (and_right (in_range x) (all in_range l) e)

pub largest-above : (values : List ℕ) (i : ℕ) → i < length values → get_or values i 0 ≤ largest values
unfolding largest
largest-above values = entry-most 0 values

-- the count by the rule
pub vanishes-rule : (values : List ℕ) → 0 < largest values
    → vanished values ≡ length (only (λ t. ltb 0 t && ltb (1_000_000 * t) (largest values)) values)
unfolding vanished vanishes
vanishes-rule values some =
    ap length
    (only_same (vanishes m) (λ t. ltb 0 t && ltb (1_000_000 * t) m) values
    (λ i h. ap (λ r. ltb 0 (get_or values i 0) && r) (one (get_or values i 0))))
  where
    m : ℕ
    m = largest values

    one : (t : ℕ) → eqb (scaled m t) 0 ≡ ltb (1_000_000 * t) m
    one t =
        let z = zero-exactly m some t in
        same_test (eqb (scaled m t) 0) (ltb (1_000_000 * t) m)
        (λ e. lt-ltb _ _ (z.0 (eqb-true _ _ e))) (λ e. eq-eqb _ _ (z.1 (ltb-true _ _ e)))

-- what an accepted sheet has shown
pub record Valued (values : List ℕ) : Type 0 where
  pub some : 0 < largest values
  pub most : largest values ≤ 999_999_999
  pub each : (i : ℕ) → i < length values → get_or values i 0 ≤ largest values

pub valued : (values : List ℕ) → sheet_ok values ≡ true → Valued values
unfolding sheet_ok largest
valued values h = record {
  some = ltb-true 0 (largest values) (and_right (all in_range values) (ltb 0 (largest values)) h);
  most = largest-in-range 0 values (omega arith) (and_left (all in_range values) (ltb 0 (largest values)) h);
  each = largest-above values;
}

-- what a function asks of a value and of the largest
pub value-within : (words : List ℤ) (i m t : ℕ) → sheet_ok (values_from words) ≡ true → i < length words
    → m ≡ largest (values_from words) → t ≡ word_at words i → (0 < m) × (m ≤ 999_999_999) × (t ≤ m)
value-within words i m t h k p q =
    let a = valued (values_from words) h in
    let e = a.each i (rw (values-count words) k) in
    (omega arith, omega arith, rw (p, q, ← values-get words i) e)

-- ---- the edges with their weights

module _ (values : List ℕ) (edges : List ℤ) where
  -- with the weights of the first n edges
  abbrev pub weighed_to : ℕ → List ℤ
  weighed_to n = fold (weigh_at values) edges (below n)

  pub weigh-more : (l : List ℤ) (i w : ℕ) → l ≡ weighed_to i → w ≡ sheet_weight values i → set l (3 * i + 2) (pos w) ≡ weighed_to (i + 1)
  unfolding below weigh_at
  weigh-more l i w p q = rw (p, q, add-one i) (sym (fold-snoc (weigh_at values) edges (below i) i))

  pub weigh-all : (l : List ℤ) (i : ℕ) → l ≡ weighed_to i → i ≡ length values → l ≡ weighed values edges
  unfolding weighed
  weigh-all l i p q = p ∙ ap weighed_to q

  to-length : (n : ℕ) → length (weighed_to n) ≡ length edges
  unfolding weigh_at
  to-length n = fold-keeps (weigh_at values) (λ l. length l ≡ length edges) (λ l i e. length-set l (3 * i + 2) _ ∙ e) edges (below n) refl

  pub weighed-length : length (weighed values edges) ≡ length edges
  unfolding weighed
  weighed-length = to-length (length values)

  -- the ends stay
  pub weighed-end : (j : ℕ) (d : ℤ) → j % 3 ≢ 2 → get_or (weighed values edges) j d ≡ get_or edges j d
  unfolding weighed weigh_at
  weighed-end j d h =
      fold-keeps (weigh_at values) (λ l. get_or l j d ≡ get_or edges j d)
      (λ l i e. get_or-set_other l (3 * i + 2) j _ d (λ z. h (omega arith)) ∙ e) edges (below (length values)) refl

  to-weight : (n i : ℕ) (d : ℤ) → i < n → 3 * i + 2 < length edges → get_or (weighed_to n) (3 * i + 2) d ≡ pos (sheet_weight values i)
  unfolding below weigh_at
  to-weight zero i d h k = absurd (omega arith)
  to-weight (suc n) i d h k =
      rw (fold-snoc (weigh_at values) edges (below n) n)
      (elim (dec_eq i n) [
        | yes e ↦ rw e (get_or-set_same (weighed_to n) (3 * n + 2) _ d (omega (arith, to-length n)))
        | no e ↦ get_or-set_other (weighed_to n) (3 * n + 2) (3 * i + 2) _ d (λ z. e (omega arith)) ∙ to-weight n i d (omega arith) k
      ])

  pub weighed-weight : (i : ℕ) (d : ℤ) → i < length values → 3 * i + 2 < length edges
      → get_or (weighed values edges) (3 * i + 2) d ≡ pos (sheet_weight values i)
  unfolding weighed
  weighed-weight i d h k = to-weight (length values) i d h k

  -- so of edge i only the weight changes
  pub weighed-edge : (i : ℕ) → i < length values → 3 * i + 2 < length edges
      → edge_at (weighed values edges) i ≡ with_weight (edge_at edges i) (sheet_weight values i)
  unfolding edge_at given_at to_nat
  weighed-edge i h k =
      let left = weighed-end (3 * i) (negsuc 0) (λ z. absurd (omega arith)) in
      let right = weighed-end (3 * i + 1) (negsuc 0) (λ z. absurd (omega arith)) in
      rw (left, right, weighed-weight i (negsuc 0) h k) refl
