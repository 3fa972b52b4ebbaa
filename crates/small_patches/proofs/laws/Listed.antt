-- Every small patch is listed, at one number; nothing else is.
use Rattle.std.specs.Prelude.{◌≡◌, refl, ◌≢◌, List, [], ℕ, ◌≤◌, ◌<◌, length}
use Rattle.std.proofs.Common.{sym, ap, ◌∙◌, arith}
use Rattle.std.proofs.Math.Decide.{ℕ_discrete}
use Rattle.graph.specs.Open.{Edge}
use Rattle.small_patches.specs.SmallPatch.{pairs, SmallPatch, patches_over, patch_at, InList, SameWeights}
use Rattle.small_patches.proofs.laws.Entries.{place_of, entry-at, patch-entry, entry-patch}
use Rattle.small_patches.proofs.laws.Number.{number_of, patches-count, number-of-patch, same_number, number-of-none}

-- the number of a listed graph
listed-number : {k : ℕ} {es : List Edge} → InList k es → number_of es ≡ k
listed-number {k} l = ap number_of (sym l.is) ∙ number-of-patch k (omega (arith, l.last))

pub listed-once : {j k : ℕ} {es fs : List Edge} → InList j es → InList k fs → SameWeights es fs → j ≡ k
listed-once {es = es} {fs = fs} a b same = sym (listed-number a) ∙ same_number es fs same ∙ listed-number b

pub listed-some : {k : ℕ} {es : List Edge} → InList k es → es ≢ []
listed-some l e = absurd (omega (arith, l.first, sym (listed-number l) ∙ ap number_of e ∙ number-of-none))

pub listed-patch : {k : ℕ} {es : List Edge} → InList k es → SmallPatch es
unfolding patch_at
listed-patch {k} {es} l =
    rw l.is at (entry-patch pairs (patch_at k) (entry-at [] (patches_over pairs) k (omega (arith, l.last, patches-count))))

-- the graph without edges comes first
none_first : patch_at 0 ≡ []
unfolding patch_at patches_over pairs
none_first = refl

pub patch-listed : (es : List Edge) → SmallPatch es → es ≢ [] → (k : ℕ) × InList k es
unfolding patch_at
patch-listed es p some = (at.0, record { first = above (ℕ_discrete at.0 0); last = omega (arith, at.1, patches-count); is = at.2 })
  where
    at : (k : ℕ) × (k < length (patches_over pairs)) × (patch_at k ≡ es)
    at = place_of [] (patch-entry p)

    above : Dec (at.0 ≡ 0) → 1 ≤ at.0
    above (yes e) = absurd (some (sym at.2 ∙ ap patch_at e ∙ none_first))
    above (no e) = omega arith
