-- What the line of a listed graph says.
use Rattle.std.specs.Prelude.{◌≡◌, Bool, true, false, List, ℕ}
use Rattle.graph.specs.Open.{Edge}
use Rattle.graph.specs.laws.Members.{by-test}
use Rattle.records.specs.Text.{ascii}
use Rattle.records.specs.Lines.{line}
use Rattle.small_patches.specs.SmallPatch.{InList}
use Rattle.small_patches.specs.Reach.{EachReaches, all_reach}
use Rattle.small_patches.proofs.Theorems.{each-listed-is-a-patch, yes-exactly-where-each-reaches}
use Rattle.small_patches_list.specs.Listing.{yes_or_no, patch_line}

module _ {k : ℕ} {es : List Edge} (l : InList k es) where
  -- the line by the test
  line-by : (t : Bool) → all_reach es ≡ t → patch_line k ≡ line k (yes_or_no t)
  unfolding patch_line
  line-by t e = rw (l.is, e)

  pub says-yes : EachReaches es → patch_line k ≡ line k (ascii "yes")
  says-yes r =
      let p = each-listed-is-a-patch k es l in
      line-by true ((yes-exactly-where-each-reaches es p.0 p.1).1 r)

  pub says-no : ¬ EachReaches es → patch_line k ≡ line k (ascii "no")
  says-no n =
      let p = each-listed-is-a-patch k es l in
      by-test (all_reach es) (λ e. absurd (n ((yes-exactly-where-each-reaches es p.0 p.1).0 e))) (line-by false)
