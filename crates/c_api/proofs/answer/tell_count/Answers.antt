use Prim.Native.Nat.{ℕ}
use mathlib.Core.Path.{◌≡◌, refl, sym, ap}
use Rattle.answers.specs.declared.Answer.{Answer}
use Rattle.answers.specs.declared.Answer.TheVariants.{Length, Done, Node, Prepared, Vertex}
use Rattle.answers.specs.Outcome.{accepted_as}
use Rattle.answers.specs.Answer.{is_done}
use Rattle.c_api.specs.Words.{answer_numbers, count_numbers}
use Rattle.c_api.specs.laws.Words.{tells_as}
use Rattle.c_api.proofs.answer.tell_count.Goals as goal

-- an answer of another case is told as it is

others : (a : Answer) (n : ℕ) → (a ≡ Done → ⊥) → count_numbers (accepted_as a) n ≡ answer_numbers (accepted_as a)
unfolding count_numbers is_done
others (Length m) n h = refl
others Done n h = absurd (h refl)
others (Node m) n h = refl
others (Prepared k) n h = refl
others (Vertex v) n h = refl

pub returns-in-Done : goal.returns-in-Done
unfolding count_numbers is_done
returns-in-Done c =
    tells_as c.front.ensures (ap (λ a. count_numbers (accepted_as a) c.args.count) (sym c.in-Done.is))

pub returns-in_default : goal.returns-in_default
returns-in_default c = tells_as c.tell.ensures (sym (others c.args.a c.args.count c.in_default.not-Done))
