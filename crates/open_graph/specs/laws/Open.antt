-- The refusals of an opening: the chain link by link, and the tests of all edges and of all virtual vertices.
use Rattle.std.specs.Prelude.{ℕ, ◌+◌, ◌≤◌, ◌<◌, ◌≡◌, refl, Bool, true, false, ◌&&◌, not, List, ℤ, pos, negsuc, ltb, eqb, length, get_or, drop, if◌then◌else◌, IsTrue, ◌↔◌, EachIndex, slice_index_or}
use Rattle.std.proofs.Common.{add-one, sym, ap, ◌∙◌, drop_of_length-le, lt-ltb, ltb-true, eqb-true}
use Rattle.std.proofs.lemmas.List.{length-map}
use Rattle.std.proofs.Math.ListN.{get_or-eq_default}
use Rattle.std.proofs.Math.Seq.{drop-cons}
use Rattle.graph.specs.Basic.{all, below}
use Rattle.graph.specs.laws.State.{and_left, and_right}
use Rattle.graph.specs.laws.Members.{length-below, all-member, member-at}
use Rattle.graph.specs.laws.Scan.{list-from}
use Rattle.graph.specs.laws.Chains.{same_test}
use Rattle.graph.specs.Word.{to_nat, word_at}
use Rattle.graph.specs.Open.{Edge, sizes_ok, edge_ok, open_refusal}
use Rattle.graph.specs.laws.Opened.{get_d_any, get_d-tabled}
use Rattle.graph.specs.laws.Row.{numbers-get}
use Rattle.graph.specs.Opening.{given_at, edge_at, edges_in, edges_from, virtuals_from}
use Rattle.open_graph.specs.inner.Refusals.{refusal_of_edges, refusal_of_virtuals, refusal_of_lengths}

-- ---- the chain

-- the whole chain begins with the sizes
pub refusal-links : (v e n l : ℕ) (edges : List Edge) (virtuals : List ℕ) (fit : Bool)
    → open_refusal v e n l edges virtuals fit
    ≡ (if sizes_ok v e n l && eqb (length edges) e then refusal_of_lengths v edges virtuals fit else 4)
unfolding open_refusal refusal_of_lengths refusal_of_virtuals refusal_of_edges
refusal-links v e n l edges virtuals fit = go (sizes_ok v e n l && eqb (length edges) e) fit (all (λ x. ltb x v) virtuals) (all (edge_ok v) edges)
  where
    go : (s f x y : Bool)
        → ◌≡◌ {A = ℕ} (if not s then 4 else if not f then 1 else if not x then 3 else if not y then 4 else 0)
        (if s then (if f then (if x then (if y then 0 else 4) else 3) else 1) else 4)
    go true true true true = refl
    go true true true false = refl
    go true true false y = refl
    go true false x y = refl
    go false f x y = refl

-- ---- the words that the host gives

pub given_word : (words : List ℤ) (i : ℕ) → i < length words → word_at words i ≡ given_at words i
unfolding word_at given_at
given_word words i h = ap to_nat (get_d_any words i (pos 0) (negsuc 0) h)

pub given-none : (words : List ℤ) (i : ℕ) → length words ≤ i → 9223372036854775807 ≡ given_at words i
unfolding given_at to_nat
given-none words i h = rw (get_or-eq_default words (negsuc 0) {n = i} h)

pub edges-count : (words : List ℤ) → length (edges_from words) ≡ edges_in words
unfolding edges_from
edges-count words = length-map (below (edges_in words)) (edge_at words) ∙ length-below (edges_in words)

pub edges-get : (words : List ℤ) (i : ℕ) → i < edges_in words → get_or (edges_from words) i (edge_at words 0) ≡ edge_at words i
unfolding edges_from
edges-get words i h = get_d-tabled (edge_at words) (edges_in words) i (edge_at words 0) h

pub virtuals-count : (words : List ℤ) → length (virtuals_from words) ≡ length words
unfolding virtuals_from
virtuals-count words = length-map words to_nat

pub virtuals-get : (words : List ℤ) (i : ℕ) → get_or (virtuals_from words) i 0 ≡ word_at words i
unfolding virtuals_from
virtuals-get words i = numbers-get words i

-- the first link, as the words give the edges
module _ (v e n l : ℕ) (words : List ℤ) where
  pub first-passed : sizes_ok v e n l && eqb (edges_in words) e ≡ true → (sizes_ok v e n l ≡ true) × (edges_in words ≡ e)
  first-passed h = (and_left (sizes_ok v e n l) (eqb (edges_in words) e) h, eqb-true (edges_in words) e (and_right (sizes_ok v e n l) (eqb (edges_in words) e) h))

  pub first-refusal : (virtuals : List ℕ) (fit : Bool)
      → open_refusal v e n l (edges_from words) virtuals fit
      ≡ (if sizes_ok v e n l && eqb (edges_in words) e then refusal_of_lengths v (edges_from words) virtuals fit else 4)
  first-refusal virtuals fit =
      refusal-links v e n l (edges_from words) virtuals fit
      ∙ ap (λ k. if sizes_ok v e n l && eqb k e then refusal_of_lengths v (edges_from words) virtuals fit else 4)
      (edges-count words)

pub virtual-below : (words : List ℤ) (m i : ℕ) → all (λ x. ltb x m) (virtuals_from words) ≡ true → i < length words → word_at words i < m
virtual-below words m i h k =
    rw (← virtuals-get words i)
    (ltb-true (get_or (virtuals_from words) i 0) m
    (all-member (λ x. ltb x m) (virtuals_from words) (get_or (virtuals_from words) i 0) h
    (member-at (virtuals_from words) i 0 (rw (virtuals-count words) k))))

-- ---- a test of every entry: what remains decides the whole

module _ {A : Type 0} (p : A → Bool) (l : List A) where
  abbrev pub Rest : ℕ → Type 0
  Rest i = all p (drop i l) ≡ all p l

  rest-next : (i : ℕ) (d : A) → i < length l → all p (drop i l) ≡ p (get_or l i d) && all p (drop (i + 1) l)
  unfolding all
  rest-next i d h = rw (add-one, drop-cons l i d h)

  pub rest_more : (i : ℕ) (d : A) → Rest i → i < length l → p (get_or l i d) ≡ true → Rest (i + 1)
  rest_more i d r h e = let z : all p (drop i l) ≡ all p (drop (i + 1) l) = rest-next i d h ∙ ap (λ t. t && all p (drop (i + 1) l)) e in sym z ∙ r

  pub rest-fails : (i : ℕ) (d : A) → Rest i → i < length l → p (get_or l i d) ≡ false → false ≡ all p l
  rest-fails i d r h e = let z : all p (drop i l) ≡ false = rest-next i d h ∙ ap (λ t. t && all p (drop (i + 1) l)) e in sym z ∙ r

  pub rest_all : (i : ℕ) → Rest i → length l ≤ i → true ≡ all p l
  unfolding all
  rest_all i r h = rw (drop_of_length-le l {i = i} h) at r

-- the same of the edges
module _ (v : ℕ) (words : List ℤ) (i : ℕ) where
  pub edges_more : Rest (edge_ok v) (edges_from words) i → i < edges_in words → edge_ok v (edge_at words i) ≡ true → Rest (edge_ok v) (edges_from words) (i + 1)
  edges_more r h e = rest_more (edge_ok v) (edges_from words) i (edge_at words 0) r (rw (edges-count words) h) (ap (edge_ok v) (edges-get words i h) ∙ e)

  pub edges-fails : Rest (edge_ok v) (edges_from words) i → i < edges_in words → edge_ok v (edge_at words i) ≡ false → false ≡ all (edge_ok v) (edges_from words)
  edges-fails r h e = rest-fails (edge_ok v) (edges_from words) i (edge_at words 0) r (rw (edges-count words) h) (ap (edge_ok v) (edges-get words i h) ∙ e)

pub virtuals-told : (v : ℕ) (words : List ℤ) (r : Bool) → IsTrue r ↔ EachIndex words (λ k. to_nat (slice_index_or words k (pos 0)) < v)
    → r ≡ all (λ x. ltb x v) (virtuals_from words)
unfolding word_at
virtuals-told v words r h =
    same_test r (all (λ x. ltb x v) (virtuals_from words))
    (λ e. list-from (λ x. ltb x v) (virtuals_from words) 0 (λ i j. rw (virtuals-get words i)
    (lt-ltb (word_at words i) v (h.0 e i (rw (virtuals-count words) at j)))))
    (λ e. h.1 (λ i j. virtual-below words v i e j))
