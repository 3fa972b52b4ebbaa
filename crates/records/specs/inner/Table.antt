-- The lines of one edge: in a table of growths, and in a list of contacts.
use Rattle.std.specs.Prelude.{ℕ, ◌+◌, ◌*◌, List, [], ◌∷◌, ◌++◌, if◌then◌else◌}
use Rattle.graph.specs.State.{State, growth_at}
use Rattle.calls.specs.Contacts.{is_contact, contact_of}
use Rattle.records.specs.Text.{ascii, spaced}
use Rattle.records.specs.Lines.{line, contact_line}

-- the growths of the two sides of edge e
unfoldable pub edge_line : ℕ → State → ℕ → List ℕ
edge_line k c e = line k (ascii "edge" ++ spaced (e ∷ growth_at c (2 * e) ∷ growth_at c (2 * e + 1) ∷ []))

-- a line for edge e if it is a contact
unfoldable pub lines_at : ℕ → State → ℕ → List (List ℕ)
lines_at k c e = if is_contact c e then contact_line k (contact_of c e) ∷ [] else []
