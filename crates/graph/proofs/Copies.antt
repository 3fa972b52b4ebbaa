-- A list that is copied over another one, place after place.
use Rattle.std.specs.Prelude.{ℕ, suc, ◌+◌, ◌<◌, List, ◌++◌, length, get_or, set, take, drop}
use Rattle.std.proofs.Common.{arith, add-one}
use Rattle.std.proofs.Math.Path.{◌≡◌}
use Rattle.std.proofs.Math.Seq.{paste-suc}

-- the first i of s before the rest of d
abbrev pub Copied : {A : Type 0} → List A → List A → ℕ → List A → Type 0
Copied s d₀ i d = d ≡ take i s ++ drop i d₀

pub copied-more : {A : Type 0} (s d₀ : List A) (i : ℕ) (x : A) → i < length s → length d₀ ≡ length s
    → set (take i s ++ drop i d₀) i (get_or s i x) ≡ take (i + 1) s ++ drop (i + 1) d₀
copied-more s d₀ i x h e =
    let z : 0 + i ≡ i = omega arith in
    let y : 0 + suc i ≡ suc i = omega arith in
    rw add-one (rw (z, y) at (paste-suc d₀ 0 s i x (omega arith) h))
