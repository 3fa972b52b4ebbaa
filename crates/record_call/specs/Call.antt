-- A body that asks for a call, and a call on an opened block.
use Rattle.std.specs.Prelude.{◌≡◌, ℕ, ◌≤◌, true, List, length, ℤ}
use Rattle.graph.specs.State.{vertex_count, edge_count}
use Rattle.graph.specs.Layout.{state_of}
use Rattle.graph.specs.Form.{Formed}
use Rattle.pass.specs.Scratch.{scratch_of}
use Rattle.answers.specs.Outcome.{Answer}
use Rattle.calls.specs.Calls.{Call, Clear, answered, respond}
use Rattle.reachable.specs.Reachable.{Reachable}
use Rattle.records.specs.Record.{Record, sizes, an_edge, a_virtual, ask, ill_formed, pair_at, decoded}
use Rattle.records.specs.Decode.{well_formed}

-- ---- a body that asks for a call

-- the call of a record; `Clear` for one that asks for none
unfoldable pub call_of : Record → Call
call_of (sizes v e n l) = Clear
call_of (an_edge x) = Clear
call_of (a_virtual v) = Clear
call_of (ask k) = k
call_of ill_formed = Clear

unfoldable pub call_in : List ℕ → Call
call_in body = call_of (decoded body)

-- the body is a record of a kind
pub record OfKind (body : List ℕ) (kind : ℕ) : Type 0 where
  pub formed : well_formed body ≡ true
  pub is : pair_at body 0 ≡ kind
  pub short : length body ≤ 65535

-- ---- an opened block

-- the block is in form and holds a state that calls reach from an accepted opening; the scratch is all zero
pub record Opened (b t : List ℤ) : Type 0 where
  pub formed : Formed b
  pub reachable : Reachable (state_of b)
  pub scratch : t ≡ scratch_of (state_of b)

-- from the block b₀ to b: the answer to a call and the state after it are those of the definition
pub record Answers (b₀ b : List ℤ) (a : Answer) (k : Call) : Type 0 where
  pub outcome : (respond (state_of b₀) k).outcome ≡ answered a
  pub formed : Formed b
  pub state : state_of b ≡ (respond (state_of b₀) k).state
  pub vertices : vertex_count (state_of b) ≡ vertex_count (state_of b₀)
  pub edges : edge_count (state_of b) ≡ edge_count (state_of b₀)
  pub len : length b ≡ length b₀
