-- Bytes from the middle of a list go to its front.
use Rattle.std.specs.Prelude.{ℕ, zero, suc, ◌+◌, ◌-◌, ◌≤◌, ◌<◌, ◌≡◌, refl, List, [], ◌∷◌, length, get_or, set, take, drop, false}
use Rattle.std.proofs.Common.{add-one, arith, sym, ap, ◌∙◌, length-drop, get_or-drop}
use Rattle.std.proofs.Math.Seq.{paste, paste-suc}
use Rattle.std.proofs.lemmas.List.Edits.{take-paste, drop-paste}
use Rattle.lines_export.specs.Whole.{whole_at}
use Rattle.lines_export.specs.laws.Stream.{pair-later, whole-no, cut-ends}

module _ (d : List ℕ) (i j : ℕ) where
  -- what stands behind the copied bytes is as it was
  behind : i + j ≤ length d → drop j (paste d 0 (drop i d) j) ≡ drop j d
  behind h =
      let z : 0 + j ≡ j = omega arith in
      ap (λ k. drop k (paste d 0 (drop i d) j)) (sym z)
      ∙ drop-paste d 0 (drop i d) j (omega arith) (omega (arith, length-drop i d))
      ∙ ap (λ k. drop k d) z

  byte-still : i + j ≤ length d → get_or (paste d 0 (drop i d) j) (i + j) 0 ≡ get_or (drop i d) j 0
  byte-still h =
      let y : i + j ≡ j + i = omega arith in
      ap (λ k. get_or (paste d 0 (drop i d) j) k 0) y ∙ sym (get_or-drop j (paste d 0 (drop i d) j) i 0)
      ∙ ap (λ l. get_or l i 0) (behind h) ∙ get_or-drop j d i 0 ∙ ap (λ k. get_or d k 0) (sym y) ∙ sym (get_or-drop i d j 0)

  pub kept_more : i + j < length d → set (paste d 0 (drop i d) j) j (get_or (paste d 0 (drop i d) j) (i + j) 0) ≡ paste d 0 (drop i d) (j + 1)
  kept_more h =
      let z : 0 + j ≡ j = omega arith in
      ap (λ x. set (paste d 0 (drop i d) j) j x) (byte-still (omega arith))
      ∙ ap (λ k. set (paste d 0 (drop i d) j) k (get_or (drop i d) j 0)) (sym z)
      ∙ paste-suc d 0 (drop i d) j 0 (omega arith) (omega (arith, length-drop i d))
      ∙ ap (λ k. paste d 0 (drop i d) k) (sym (add-one j))

  pub kept-all : i + j ≤ length d → take j (paste d 0 (drop i d) j) ≡ take j (drop i d)
  kept-all h =
      let z : 0 + j ≡ j = omega arith in
      ap (λ k. take k (paste d 0 (drop i d) j)) (sym z) ∙ take-paste d 0 (drop i d) j (omega arith) (omega (arith, length-drop i d))

-- a part of the front is the front of a part
pub front-part : (i n : ℕ) (l : List ℕ) → drop i (take n l) ≡ take (n - i) (drop i l)
front-part zero n l = let z : n - 0 ≡ n = omega arith in rw z
front-part (suc i) zero l = let z : 0 - suc i ≡ 0 = omega arith in rw z
front-part (suc i) (suc n) [] = nothing (suc n - suc i)
  where
    nothing : (k : ℕ) → ◌≡◌ {A = List ℕ} [] (take k [])
    nothing zero = refl
    nothing (suc k) = refl
front-part (suc i) (suc n) (x ∷ l) = let z : suc n - suc i ≡ n - i = omega arith in rw z (front-part i n l)

-- what is left of the first n bytes stands at the front of d' afterwards
pub kept-rest : (d d' : List ℕ) (i n : ℕ) → take (n - i) d' ≡ take (n - i) (drop i d) → drop i (take n d) ≡ take (n - i) d'
kept-rest d d' i n e = front-part i n d ∙ sym e

-- and has no whole record where there was none
pub rest-cut : (b : List ℕ) (i : ℕ) → i ≤ length b → whole_at b i ≡ false → whole_at (drop i b) 0 ≡ false
rest-cut b i h e = whole-no (drop i b) 0 (omega (arith, cut-ends b i e, pair-later b i, length-drop i b))
