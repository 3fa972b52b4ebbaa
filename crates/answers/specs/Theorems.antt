-- The numbers of an answer tell it.
use Rattle.std.specs.Prelude.{◌≡◌}
use Rattle.answers.specs.Outcome.{Answer}
use Rattle.answers.specs.Numbers.{OnPaper}
use Rattle.answers.specs.laws.Decoded.{decoded-same}

-- answers that are the same on paper are the same
pub same_answer : {a r : Answer} → OnPaper a r → a ≡ r
same_answer = decoded-same
