-- Row by row is the whole.
use Prim.Native.Nat.{ℕ, zero, suc, ◌+◌, ◌*◌}
use Rattle.std.proofs.Common.{arith, suc-mul, ap, ◌∙◌, take_all, take-add}
use Rattle.std.specs.Prelude.{◌≡◌, Bool, ◌&&◌, List, [], ◌∷◌, ◌++◌, ℤ, length, take, drop, replicate, if◌then◌else◌}
use Rattle.std.proofs.Math.Path.{refl, sym}
use Rattle.std.proofs.Math.Bool.{true, false}
use Rattle.std.proofs.Math.Dec.{leb}
use Rattle.graph.specs.Basic.{all, all_below}
use Rattle.graph.specs.laws.Members.{by-test}
use Rattle.distance.specs.Distance.{unreachable}
use Rattle.table_words.specs.Handed.{distance_of, distance_in, row_of}
use Rattle.table_refuse.specs.Refuse.{sizes_right, lengths_right, distances_in_range, numbers_right, table_refusal, head_in_range}
use Rattle.table_check.specs.Verdict.{verdict_by, table_verdict}
use Rattle.table_check.specs.Tests.{positive_in, all_marked, covered_by, rows_right, tested}
use Rattle.table_rows.specs.Row.{row_right, free_at}
use Rattle.table_check.specs.Streamed.{begun, advanced, after_rows, ended}
use Rattle.table_refuse.specs.laws.Numbers.{numbers-split}
use Rattle.table_check.specs.laws.Accepted.{accepted-of, lengths}
use Rattle.table_check.specs.laws.Right.{tested-right}

and_assoc : (a b c : Bool) → (a && b) && c ≡ a && (b && c)
and_assoc true b c = refl
and_assoc false b c = refl

all-append-is : {A : Type 0} (p : A → Bool) (xs ys : List A) → all p (xs ++ ys) ≡ all p xs && all p ys
unfolding all
all-append-is p [] ys = refl
all-append-is p (x ∷ xs) ys = rw (all-append-is p xs ys) (sym (and_assoc (p x) (all p xs) (all p ys)))

-- all of the first n rows
all-rows : {A : Type 0} (p : A → Bool) (v : ℕ) (l : List A) (n : ℕ) → all p (take (n * v) l) ≡ all_below (λ i. all p (take v (drop (i * v) l))) n
unfolding all_below all
all-rows p v l zero = let q : 0 * v ≡ 0 = omega arith in rw q
all-rows p v l (suc n) =
    let q : suc n * v ≡ n * v + v = suc-mul n v in
    rw (q, take-add (n * v) v l, all-append-is p (take (n * v) l) (take v (drop (n * v) l)), all-rows p v l n)

module _ (v e : ℕ) (edges virtuals defects duals growths distances : List ℤ) where
  abbrev D : ℕ → ℕ → ℕ
  D i = distance_in (row_of v distances i)

  after-range : (n : ℕ) → (after_rows v e edges virtuals defects duals growths distances n).in_range
      ≡ head_in_range v edges virtuals defects duals growths && all_below (λ i. distances_in_range (row_of v distances i)) n
  unfolding after_rows begun advanced all_below
  after-range zero = true-last (head_in_range v edges virtuals defects duals growths)
    where
      true-last : (t : Bool) → t ≡ t && true
      true-last true = refl
      true-last false = refl
  after-range (suc n) =
      rw (after-range n) (and_assoc (head_in_range v edges virtuals defects duals growths) (all_below (λ i. distances_in_range (row_of v distances i)) n)
      (distances_in_range (row_of v distances n)))

  after-passed : (n : ℕ) → (after_rows v e edges virtuals defects duals growths distances n).passed
      ≡ (all_below (positive_in edges) (2 * e) && all_marked v e edges virtuals (replicate v 0))
      && all_below (λ i. row_right v e edges virtuals defects duals growths (D i) i) n
  unfolding after_rows begun advanced all_below
  after-passed zero = true-last (all_below (positive_in edges) (2 * e) && all_marked v e edges virtuals (replicate v 0))
    where
      true-last : (t : Bool) → t ≡ t && true
      true-last true = refl
      true-last false = refl
  after-passed (suc n) =
      rw (after-passed n)
      (and_assoc (all_below (positive_in edges) (2 * e) && all_marked v e edges virtuals (replicate v 0))
      (all_below (λ i. row_right v e edges virtuals defects duals growths (D i) i) n) (row_right v e edges virtuals defects duals growths (D n) n))

  after-marks : (n : ℕ) → (after_rows v e edges virtuals defects duals growths distances n).marks ≡ covered_by v D duals n
  unfolding after_rows begun advanced covered_by
  after-marks zero = refl
  after-marks (suc n) = rw (after-marks n)

  module _ (sizes : sizes_right v e edges ≡ true) (fit : lengths_right v e defects duals growths distances ≡ true) where
    rows-range : distances_in_range distances ≡ all_below (λ i. distances_in_range (row_of v distances i)) (length defects)
    unfolding distances_in_range
    rows-range =
        let l = (lengths v e edges virtuals defects duals growths distances fit).2 in
        sym (ap (all (λ x. leb (distance_of x) unreachable)) (take_all (length defects * v) distances (omega arith)))
        ∙ all-rows (λ x. leb (distance_of x) unreachable) v distances (length defects)

    range-is : (after_rows v e edges virtuals defects duals growths distances (length defects)).in_range ≡ numbers_right v edges virtuals defects duals
        growths distances
    range-is =
        after-range (length defects) ∙ ap (λ t. head_in_range v edges virtuals defects duals growths && t) (sym rows-range)
        ∙ sym (numbers-split v e edges virtuals defects duals growths distances)

    refusal_is : (t : Bool) → numbers_right v edges virtuals defects duals growths distances ≡ t
        → table_refusal v e edges virtuals defects duals growths distances ≡ (if t then 0 else 4)
    unfolding table_refusal
    refusal_is true q = rw (sizes, fit, q)
    refusal_is false q = rw (sizes, fit, q)

    tested-split : (after_rows v e edges virtuals defects duals growths distances (length defects)).passed
        && all_below (free_at edges growths (after_rows v e edges virtuals defects duals growths distances (length defects)).marks) (2 * e)
        ≡ tested v e edges virtuals defects duals growths D
    unfolding tested rows_right
    tested-split =
        rw (after-passed (length defects), after-marks (length defects))
        (go (all_below (positive_in edges) (2 * e)) (all_marked v e edges virtuals (replicate v 0))
        (all_below (λ i. row_right v e edges virtuals defects duals growths (D i) i) (length defects)) _)
      where
        go : (a b c d : Bool) → ((a && b) && c) && d ≡ a && (b && (c && d))
        go true true c d = refl
        go true false c d = refl
        go false b c d = refl

    pub streamed-verdict : ended e edges growths (after_rows v e edges virtuals defects duals growths distances (length defects)) ≡ table_verdict v e
        edges virtuals defects duals growths distances
    unfolding ended table_verdict verdict_by
    streamed-verdict =
        by-test (numbers_right v edges virtuals defects duals growths distances)
        (λ t.
        let z : table_refusal v e edges virtuals defects duals growths distances ≡ 0 = refusal_is true t in
        rw (
          range-is,
          t,
          tested-split,
          tested-right v e edges virtuals defects duals growths distances
              (accepted-of v e edges virtuals defects duals growths distances z),
          z,
        ))
        (λ t. let z : table_refusal v e edges virtuals defects duals growths distances ≡ 4 = refusal_is false t in rw (range-is, t, z))
