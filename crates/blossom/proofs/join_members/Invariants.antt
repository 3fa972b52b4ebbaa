use mathlib.Core.List.{map}
use Rattle.graph.specs.Word.{to_nat}
use Rattle.blossom.specs.laws.Blossom.{MembersJoined}
use Rattle.blossom.proofs.join_members.Given as goal

abbrev pub invariant-loop-word : goal.invariant-loop-word
invariant-loop-word l = MembersJoined l.initial.b l.b l.initial.t l.t (map to_nat l.circle) l.n l.word-index l.k
