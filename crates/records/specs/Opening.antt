-- The opening, by what the memory holds.
use Rattle.std.specs.Prelude.{ℕ, ◌*◌, ◌≡◌, Bool, true, ◌&&◌, ◌||◌, List, ◌++◌, ℤ, ltb, eqb, take, drop, if◌then◌else◌}
use Rattle.graph.specs.Open.{Edge, sizes_ok, opened, open_refusal}
use Rattle.graph.specs.Opening.{edges_from, opened_block}
use Rattle.graph.specs.Layout.{block_length, state_of}
use Rattle.graph.specs.Form.{Formed}
use Rattle.records.specs.Run.{Gathered}
use Rattle.records.specs.declared.setup.Setup.{Setup}
use Rattle.records.specs.Setup.{stored_of}

-- the sizes are above the program's
unfoldable pub large_sizes : Setup → Bool
large_sizes s = ltb 64 s.v || ltb 128 s.e || ltb 32 s.n || ltb 2000 s.l

-- the sizes are within their limits, and as many edges were given as they say
unfoldable pub complete : Setup → Bool
complete s = sizes_ok s.v s.e s.n s.l && eqb s.edges s.e

-- the edges in the words
unfoldable pub given_edges : Setup → List ℤ → List Edge
given_edges s edges = edges_from (take (3 * s.e) edges)

-- what refuses edges and virtual vertices that are stored, and the block that is left
unfoldable pub open_into : Setup → List ℤ → List ℤ → ℕ
open_into s edges virtuals = open_refusal s.v s.e s.n s.l (given_edges s edges) (stored_of s virtuals) true

unfoldable pub block_opened : Setup → List ℤ → List ℤ → List ℤ → List ℤ
block_opened s edges virtuals b =
    opened_block s.v s.e s.n s.l (given_edges s edges) (stored_of s virtuals) true (take (block_length s.v s.e s.n s.l) b)
    ++ drop (block_length s.v s.e s.n s.l) b

-- the same, behind the refusals of the sizes and of a virtual vertex out of range
unfoldable pub open_code : Setup → List ℤ → List ℤ → ℕ
open_code s edges virtuals = if large_sizes s then 4 else if complete s then (if s.bad then 3 else open_into s edges virtuals) else 4

unfoldable pub open_block : Setup → List ℤ → List ℤ → List ℤ → List ℤ
open_block s edges virtuals b = if large_sizes s then b else if complete s then (if s.bad then b else block_opened s edges virtuals b) else b

-- the block is in form and holds the state that is opened by what was gathered
pub record OpenedAs (b : List ℤ) (g : Gathered) : Type 0 where
  pub formed : Formed b
  pub state : state_of b ≡ opened g.v g.n g.l g.edges g.virtuals
