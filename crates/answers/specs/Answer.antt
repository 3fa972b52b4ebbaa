-- What a call answers: the enums of src/lib.rt, what is asked of an answer, and the state that a call leaves.
use Rattle.std.specs.Prelude.{ℕ, Bool, true, false, ℤ}
use Rattle.graph.specs.State.{State}
use Rattle.answers.specs.Outcome.{Answer}
use Rattle.answers.specs.Outcome.{Length, Done, Node, Prepared, Vertex, Refused}
use Rattle.answers.specs.declared.MaxUpdateLength.{MaxUpdateLength}
use Rattle.answers.specs.declared.MaxUpdateLength.TheVariants.{NonZeroGrow, Unlimited, Conflicting, TouchingVirtual, BlossomNeedExpand, VertexShrinkStop, VertexShrinkStopPeer}

-- an answer, and the state that the call leaves
pub record Reply : Type 0 where
  pub answer : Answer
  pub state : State

-- a call that changes nothing
unfoldable pub says : Answer → State → Reply
says a c = record { answer = a; state = c }

-- 1 or 0
unfoldable pub flag : Bool → ℕ
flag true = 1
flag false = 0

-- ---- what is asked of an answer

-- of a length answer: f of a limit, g where there is none, z where it is not free
abbrev pub free_length_or : {A : Type 0} → A → (ℤ → Bool → A) → (Bool → A) → MaxUpdateLength → A
free_length_or z f g (NonZeroGrow l e) = f l e
free_length_or z f g (Unlimited e) = g e
free_length_or z f g (Conflicting p h n k) = z
free_length_or z f g (TouchingVirtual n h v) = z
free_length_or z f g (BlossomNeedExpand n) = z
free_length_or z f g (VertexShrinkStop n) = z
free_length_or z f g (VertexShrinkStopPeer n p h) = z

-- the same of any answer
abbrev pub free_or : {A : Type 0} → A → (ℤ → Bool → A) → (Bool → A) → Answer → A
free_or z f g (Length m) = free_length_or z f g m
free_or z f g Done = z
free_or z f g (Node n) = z
free_or z f g (Prepared k) = z
free_or z f g (Vertex v) = z
free_or z f g (Refused k) = z

-- a free length, with a limit or without
unfoldable pub is_free : Answer → Bool
is_free a = free_or false (λ l e. true) (λ e. true) a

-- the call is not refused
unfoldable pub accepted : Answer → Bool
accepted (Length m) = true
accepted Done = true
accepted (Node n) = true
accepted (Prepared k) = true
accepted (Vertex v) = true
accepted (Refused k) = false

-- the number of a refusal; 0 for every other answer
unfoldable pub refusal_of : Answer → ℕ
refusal_of (Length m) = 0
refusal_of Done = 0
refusal_of (Node n) = 0
refusal_of (Prepared k) = 0
refusal_of (Vertex v) = 0
refusal_of (Refused k) = k

unfoldable pub is_done : Answer → Bool
is_done (Length m) = false
is_done Done = true
is_done (Node n) = false
is_done (Prepared k) = false
is_done (Vertex v) = false
is_done (Refused k) = false
