-- What a call answers in the definitions: what it found or did, or the number of its refusal (SPECIFICATION 8).
use Rattle.std.specs.Prelude.{ℕ, Result, Ok, Err}
use Rattle.answers.specs.declared.MaxUpdateLength.{MaxUpdateLength}
use Rattle.answers.specs.declared.Answer.{Answer as Accepted}
use Rattle.answers.specs.declared.Answer.TheVariants as Accepts
use Rattle.refusal.specs.declared.Refusal.{Refusal}
use Rattle.refusal.specs.Refusal.{number}

pub data Answer : Type 0 where
  Length : MaxUpdateLength → Answer
  Done : Answer
  Node : ℕ → Answer  -- the number of the new node
  Prepared : ℕ → Answer  -- how many passes
  Vertex : ℕ → Answer  -- the representative vertex
  Refused : ℕ → Answer  -- the number of the refusal

-- that of a call which was accepted
abbrev pub accepted_as : Accepted → Answer
accepted_as (Accepts.Length m) = Length m
accepted_as Accepts.Done = Done
accepted_as (Accepts.Node n) = Node n
accepted_as (Accepts.Prepared k) = Prepared k
accepted_as (Accepts.Vertex v) = Vertex v

-- that of what a call hands back, where f gives the number of what refuses it
abbrev pub told_by : {R : Type 0} → (R → ℕ) → Result Accepted R → Answer
told_by f (Ok a) = accepted_as a
told_by f (Err e) = Refused (f e)

-- with the refusals
abbrev pub told : Result Accepted Refusal → Answer
told a = told_by number a

-- that of what the scan of a boundary hands back
abbrev pub length_told : Result MaxUpdateLength Refusal → Answer
length_told (Ok m) = Length m
length_told (Err e) = Refused (number e)
