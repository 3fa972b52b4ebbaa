use Rattle.small_patches_list.specs.laws.Listing.{lines_more, lines_end, listing_start}
use Rattle.records.specs.laws.Table.{telling-none, telling-more, telling-all}
use native.Mathlib.Omega.{arith}
use borrow.Author.Rules.{rules}
use Rattle.small_patches_list.proofs.tell_all.Goals as goal

pub loop-k-init : goal.loop-k-init
loop-k-init c = (telling-none (omega arith) listing_start, search rules)

pub tell-o-requires : goal.tell-o-requires
tell-o-requires c = c.loop-k.invariant.0.room

pub loop-k-preserved : goal.loop-k-preserved
loop-k-preserved c =
    (telling-more c.loop-k.invariant.0 (lines_more c.loop-k.k (search rules)) c.tell-o.ensures, search rules)

pub returns : goal.returns
returns c = telling-all c.loop-k.invariant.0 (lines_end c.loop-k.k (search rules))
