-- What the history reads of an answer.
use Rattle.std.specs.Prelude.{Bool, ℤ, pos}
use Rattle.answers.specs.Outcome.{Answer}
use Rattle.answers.specs.Answer.{free_or}
-- the call is not refused; it is done
unfoldable pub use Rattle.answers.specs.Answer.{accepted, is_done}

-- the limit of a free answer; 0 where there is none
unfoldable pub limit_of : Answer → ℤ
limit_of a = free_or (pos 0) (λ l e. l) (λ e. pos 0) a
