-- Laws of the lines.
use Rattle.std.specs.Prelude.{◌≡◌, refl, Bool, false, List, [], ◌∷◌, ◌++◌, ℕ, zero, suc, ◌+◌, ◌-◌, ◌≤◌, ◌<◌, length, get_or, take}
use Rattle.std.proofs.Common.{ap, append-nil, arith}
use Rattle.records.specs.Text.{spaced}
use Rattle.records.specs.Lines.{line, joined_lines}
use Rattle.records.specs.Write.{LinesPut}
use Rattle.records.specs.laws.Write.{told-few}
use Rattle.small_patches.specs.SmallPatch.{patch_at}
use Rattle.small_patches.specs.Reach.{all_reach}
use Rattle.small_patches_list.specs.Listing.{yes_or_no, patch_line, patch_lines_from, listing}

-- the line as it is told
pub line-is : (k : ℕ) (t : Bool) → all_reach (patch_at k) ≡ t → line k (yes_or_no t ++ spaced []) ≡ patch_line k
unfolding patch_line spaced
line-is k t e = rw e (ap (line k) (append-nil (yes_or_no t)))

-- ---- the lines from graph k on

pub lines_more : (k : ℕ) → k < 729 → patch_lines_from k (729 - k) ≡ (patch_line k ∷ []) ++ patch_lines_from (k + 1) (729 - (k + 1))
unfolding patch_lines_from
lines_more k h = let z : 729 - k ≡ suc (729 - (k + 1)) = omega arith in rw z

pub lines_end : (k : ℕ) → 729 ≤ k → patch_lines_from k (729 - k) ≡ []
unfolding patch_lines_from
lines_end k h = let z : 729 - k ≡ 0 = omega arith in rw z

pub listing_start : patch_lines_from 1 (729 - 1) ≡ listing
unfolding listing
listing_start = refl

pub lines-count : (k n : ℕ) → length (patch_lines_from k n) ≡ n
unfolding patch_lines_from
lines-count k zero = refl
lines-count k (suc n) = omega (arith, lines-count (k + 1) n)

line_at : (k n i : ℕ) → i < n → get_or (patch_lines_from k n) i [] ≡ patch_line (k + i)
unfolding patch_lines_from
line_at k zero i h = absurd (omega arith)
line_at k (suc n) zero h = let z : k + 0 ≡ k = omega arith in rw z
line_at k (suc n) (suc i) h = let z : k + suc i ≡ k + 1 + i = omega arith in rw z (line_at (k + 1) n i (omega arith))

pub lines_at : (k : ℕ) → 1 ≤ k → k ≤ 728 → get_or listing (k - 1) [] ≡ patch_line k
unfolding listing
lines_at k h i = let z : 1 + (k - 1) ≡ k = omega arith in rw z at (line_at 1 728 (k - 1) (omega arith))

-- in 128 bytes a line there is room for all
pub listing-told : {b c : List ℕ} {m : ℕ} {stopped : Bool} → LinesPut b 0 false c m stopped listing → 93184 ≤ length b
    → take m c ≡ joined_lines listing
unfolding listing
listing-told t h = told-few listing t (omega (arith, lines-count 1 728))
