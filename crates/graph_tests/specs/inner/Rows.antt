-- The rows that a test goes through at once.
use Rattle.std.specs.Prelude.{List, ℤ}
use Rattle.graph.specs.State.{vertex_count, edge_count, side_count}
use Rattle.graph.specs.Layout.{state_of}
use Rattle.graph.specs.Rows.{flags_row, vertex_holder_row, vertex_grandson_row, end_row, growth_row, holder_row, grandson_row, weight_row, original_row}
use Rattle.block_rows.specs.inner.Rows.{RowPart}

-- the rows of flags, holder and grandson of the vertices
pub record VertexRows (b flag holder grandson : List ℤ) : Type 0 where
  pub flags : RowPart b flags_row (vertex_count (state_of b)) flag
  pub holders : RowPart b vertex_holder_row (vertex_count (state_of b)) holder
  pub grandsons : RowPart b vertex_grandson_row (vertex_count (state_of b)) grandson

-- the rows of ends, weights and original weights
pub record EdgeRows (b end weight original : List ℤ) : Type 0 where
  pub ends : RowPart b end_row (side_count (state_of b)) end
  pub weights : RowPart b weight_row (edge_count (state_of b)) weight
  pub originals : RowPart b original_row (edge_count (state_of b)) original

-- the rows of growth, holder and grandson of the sides
pub record SideRows (b growth holder grandson : List ℤ) : Type 0 where
  pub growths : RowPart b growth_row (side_count (state_of b)) growth
  pub holders : RowPart b holder_row (side_count (state_of b)) holder
  pub grandsons : RowPart b grandson_row (side_count (state_of b)) grandson
