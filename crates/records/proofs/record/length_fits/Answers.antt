use borrow.Author.Tests.{le-leb, lt-leb}
use Rattle.records.specs.Decode.{length_fits}
use borrow.Author.Rules.{rules}
use Rattle.records.proofs.record.length_fits.Goals as goal

pub returns-then-n-lt2 : goal.returns-then-n-lt2
unfolding length_fits
returns-then-n-lt2 c = rw (lt-leb 2 _ c.if-n-lt2.true)

pub returns : goal.returns
unfolding length_fits
returns c = rw (le-leb 2 _ c.if-n-lt2.false) (cc)
