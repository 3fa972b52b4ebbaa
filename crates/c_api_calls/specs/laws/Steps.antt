-- One call more behind calls that were made.
use Rattle.std.specs.Prelude.{ℕ, suc, ◌+◌, ◌*◌, ◌≤◌, min, ◌≡◌, refl, List, [], ◌∷◌, ◌++◌, ℤ, length, take, drop}
use Rattle.std.proofs.Common.{arith, sym, subst, ap, append_assoc, length-append, length-take, take-append-drop}
use Rattle.std.proofs.Math.Seq.{take-append-add, drop-append-add}
use Rattle.c_api_calls.specs.ListCall.{ListCall}
use Rattle.c_api_calls.specs.Told.{OneTold, ListedSteps, no_call, next-call}
use Rattle.c_api_calls.specs.inner.Running.{with_part}

-- behind five numbers more
later-part : (front rest part : List ℕ) (m n : ℕ) → length front ≡ 5 → n ≡ 5 + m → front ++ with_part rest m part ≡ with_part (front ++ rest) n part
later-part front rest part m n h e =
    let a : n ≡ length front + m = omega arith in
    let d : n + 5 ≡ length front + (m + 5) = omega arith in
    rw (d, a, take-append-add front rest m, drop-append-add front rest (m + 5), append_assoc front (take m rest) (part ++ drop (m + 5) rest))

later-drop : (front rest : List ℕ) (m n : ℕ) → length front ≡ 5 → n ≡ 5 + m → drop n (front ++ rest) ≡ drop m rest
later-drop front rest m n h e = let a : n ≡ length front + m = omega arith in rw (a, drop-append-add front rest m)

module _ {b₁ t₁ b₂ t₂ : List ℤ} {c : ListCall} {part' : List ℕ} (l : length part' ≡ 5) where
  more : {b t : List ℤ} {cs : List ListCall} {list list₁ : List ℕ} (n : ℕ) → ListedSteps b t cs list b₁ t₁ list₁
      → n ≡ 5 * length cs → n + 5 ≤ length list → OneTold b₁ t₁ c b₂ t₂ (take 5 (drop n list₁)) part'
      → ListedSteps b t (cs ++ (c ∷ [])) list b₂ t₂ (with_part list₁ n part')
  more {list = list} n no_call e h p =
      let z : n ≡ 0 = omega arith in
      let q : ListedSteps b₁ t₁ (c ∷ []) (take 5 list ++ drop 5 list) b₂ t₂ (part' ++ drop 5 list) =
      next-call {part = take 5 list} (omega (arith, length-take 5 list, h)) l (rw z at p) no_call in
      rw z (subst (λ x. ListedSteps b₁ t₁ (c ∷ []) x b₂ t₂ (part' ++ drop 5 list)) (take-append-drop 5 list) q)
  more {b = b} {t = t} n (next-call {c = x} {cs = xs} {part = p₀} {part' = p₁} {rest = r₀} {rest' = r₁} l₀ l₁ d s) e h p =
      let a : n ≡ 5 + 5 * length xs = omega arith in
      let g : length (p₀ ++ r₀) ≡ length p₀ + length r₀ = length-append p₀ r₀ in
      subst (λ y. ListedSteps b t (x ∷ (xs ++ (c ∷ []))) (p₀ ++ r₀) b₂ t₂ y) (later-part p₁ r₁ part' (5 * length xs) n l₁ a)
      (next-call l₀ l₁ d (more (5 * length xs) s refl (omega arith) (rw (later-drop p₁ r₁ (5 * length xs) n l₁ a) at p)))

  pub steps-more : {b t : List ℤ} {cs : List ListCall} {list list₁ : List ℕ} (n : ℕ) → n ≡ 5 * length cs → n + 5 ≤ length list
      → ListedSteps b t cs list b₁ t₁ list₁ → OneTold b₁ t₁ c b₂ t₂ (take 5 (drop n list₁)) part'
      → ListedSteps b t (cs ++ (c ∷ [])) list b₂ t₂ (with_part list₁ n part')
  steps-more n e h s p = more n s e h p
