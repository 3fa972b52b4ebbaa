use Rattle.small_patches_list.specs.laws.Listing.{listing-told}
use borrow.Author.Rules.{rules}
use Rattle.small_patches_list.proofs.listing.Goals as goal

pub returns : goal.returns
returns c = (listing-told c.tell_all-o.ensures (search rules), c.tell_all-o.ensures.room)
