-- Answers as numbers: how they are written over the front of a list, and how many they are.
use Rattle.std.specs.Prelude.{ℕ, ◌≤◌, ◌≡◌, refl, ◌≢◌, List, ◌++◌, length, get_or}
use Rattle.std.proofs.Common.{arith}
use Rattle.answers.specs.Outcome.{Answer}
use Rattle.answers.specs.Outcome.{Length, Done, Node, Prepared, Vertex, Refused}
use Rattle.answers.specs.declared.MaxUpdateLength.{MaxUpdateLength}
use Rattle.answers.specs.declared.MaxUpdateLength.TheVariants.{NonZeroGrow, Unlimited, Conflicting, TouchingVirtual, BlossomNeedExpand, VertexShrinkStop, VertexShrinkStopPeer}
use Rattle.answers.specs.Numbers.{length_numbers, answer_numbers, Tells}

-- the same numbers, given otherwise
pub tells_as : {numbers others list list' : List ℕ} {k : ℕ} → Tells numbers list list' k → numbers ≡ others → Tells others list list' k
tells_as {numbers} {others} {list} {list'} {k} p e = rw (← e) p

-- an answer has at most five numbers
length-short : (m : MaxUpdateLength) → length (length_numbers m) ≤ 5
unfolding length_numbers
length-short (NonZeroGrow l e) = omega arith
length-short (Unlimited e) = omega arith
length-short (Conflicting p g n h) = omega arith
length-short (TouchingVirtual n g v) = omega arith
length-short (BlossomNeedExpand n) = omega arith
length-short (VertexShrinkStop n) = omega arith
length-short (VertexShrinkStopPeer n p g) = omega arith

pub answer-short : (a : Answer) → length (answer_numbers a) ≤ 5
unfolding answer_numbers
answer-short (Length m) = length-short m
answer-short Done = omega arith
answer-short (Node n) = omega arith
answer-short (Prepared k) = omega arith
answer-short (Vertex v) = omega arith
answer-short (Refused k) = omega arith

-- only a done answer tells case 7
length-case : (m : MaxUpdateLength) (rest : List ℕ) → get_or (length_numbers m ++ rest) 0 0 ≢ 7
unfolding length_numbers
length-case (NonZeroGrow l e) rest h = absurd (omega arith)
length-case (Unlimited e) rest h = absurd (omega arith)
length-case (Conflicting p g n k) rest h = absurd (omega arith)
length-case (TouchingVirtual n g v) rest h = absurd (omega arith)
length-case (BlossomNeedExpand n) rest h = absurd (omega arith)
length-case (VertexShrinkStop n) rest h = absurd (omega arith)
length-case (VertexShrinkStopPeer n p g) rest h = absurd (omega arith)

pub case-done : (a : Answer) (rest : List ℕ) → get_or (answer_numbers a ++ rest) 0 0 ≡ 7 → a ≡ Done
unfolding answer_numbers
case-done (Length m) rest h = absurd (length-case m rest h)
case-done Done rest h = refl
case-done (Node n) rest h = absurd (omega arith)
case-done (Prepared k) rest h = absurd (omega arith)
case-done (Vertex v) rest h = absurd (omega arith)
case-done (Refused k) rest h = absurd (omega arith)
