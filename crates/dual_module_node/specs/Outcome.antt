-- What is told of a node in the definitions: what it stands for with its numbers, or the number of the refusal.
use Rattle.std.specs.Prelude.{ℕ, Result, Ok, Err}
use Rattle.dual_module_node.specs.declared.NodeRead.{NodeRead as Read}
use Rattle.dual_module_node.specs.declared.NodeRead.TheVariants as Reads
use Rattle.refusal.specs.declared.Refusal.{Refusal}
use Rattle.refusal.specs.Refusal.{number}

pub data NodeRead : Type 0 where
  Defect : ℕ → ℕ → ℕ → ℕ → NodeRead
  Blossom : ℕ → ℕ → ℕ → ℕ → NodeRead
  Refused : ℕ → NodeRead

-- that of a node
abbrev pub node_as : Read → NodeRead
node_as (Reads.Defect v x p y) = Defect v x p y
node_as (Reads.Blossom m x p y) = Blossom m x p y

-- that of what a call hands back, where f gives the number of what refuses it
abbrev pub node_by : {R : Type 0} → (R → ℕ) → Result Read R → NodeRead
node_by f (Ok r) = node_as r
node_by f (Err e) = Refused (f e)

-- with the refusals
abbrev pub node_answer : Result Read Refusal → NodeRead
node_answer a = node_by number a
