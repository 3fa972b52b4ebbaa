-- A name that opens all definitions of this crate: under `unfolding everything` a closed term computes.
use Rattle.std.specs.Prelude.{ℕ}
use Rattle.answers.specs.Answer
use Rattle.answers.specs.Numbers

unfoldable pub everything : ℕ
unfolding Answer.says Answer.flag Answer.is_free Answer.accepted Answer.refusal_of Answer.is_done Numbers.length_numbers
    Numbers.answer_numbers
everything = 0
