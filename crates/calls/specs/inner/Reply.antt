-- What a call asks of the memory that is lent to it, and what it leaves there.
use Rattle.std.specs.Prelude.{◌≡◌, ℕ, ◌<◌, true, List, length, ℤ, neg_ℤ, ◌==◌, if◌then◌else◌}
use Rattle.graph.specs.State.{up, vertex_count, edge_count, side_count, node_count, parent_of}
use Rattle.graph.specs.Sound.{sound}
use Rattle.graph.specs.Layout.{state_of}
use Rattle.graph.specs.Form.{Formed}
use Rattle.graph.specs.inner.Form.{Becomes}
use Rattle.pass.specs.Scratch.{scratch_of}
use Rattle.pass.specs.inner.Ready.{Preparable}
use Rattle.graph.specs.inner.Readable.{Readable}
use Rattle.answers.specs.Outcome.{Answer}
use Rattle.answers.specs.Answer.{Reply}

-- a block in form whose state is sound, and a scratch of 3 words for each side that is all zero
pub record Usable (b t : List ℤ) : Type 0 where
  pub formed : Formed b
  pub sounds : sound (state_of b) ≡ true
  pub scratch : t ≡ scratch_of (state_of b)

-- Memory on which node n, once it is outermost, can be prepared in direction d, and downward too. After a shrinking preparation a state that no
-- call list reaches need not be sound, but it is such.
pub record MemoryPreparable (b t : List ℤ) (n d : ℕ) : Type 0 where
  pub formed : Formed b
  pub scratch : t ≡ scratch_of (state_of b)
  pub readable : Readable (state_of b)
  pub able : n < node_count (state_of b) → parent_of (state_of b) n ≡ 0 → (e : ℕ) → (e ≡ up → d ≡ up) → Preparable (state_of b) n e

-- a length along a direction: as it is upward, negated downward
unfoldable pub along : ℕ → ℤ → ℤ
along d l = if d == up then l else neg_ℤ l

-- after b₀: the answer is that of the reply, and the block holds its state
pub record Replies (b₀ b : List ℤ) (a : Answer) (r : Reply) : Type 0 where
  pub answer : a ≡ r.answer
  pub block : Becomes b₀ b r.state

-- the same where one node more may stand: the block is in form, holds the state of the reply, and its graph has the same counts
pub record RepliesInsert (b₀ b : List ℤ) (a : Answer) (r : Reply) : Type 0 where
  pub answer : a ≡ r.answer
  pub formed : Formed b
  pub state : state_of b ≡ r.state
  pub vertices : vertex_count (state_of b) ≡ vertex_count (state_of b₀)
  pub edges : edge_count (state_of b) ≡ edge_count (state_of b₀)
  pub sides : side_count (state_of b) ≡ side_count (state_of b₀)
  pub len : length b ≡ length b₀
