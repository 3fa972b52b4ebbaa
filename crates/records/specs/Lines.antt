-- The lines of an outcome, as bytes. Each has the record's number in front and a line feed behind.
use Rattle.std.specs.Prelude.{ℕ, ◌+◌, ◌-◌, List, [], ◌∷◌, ◌++◌, map, eqb, leb, length, drop, if◌then◌else◌}
use Rattle.answers.specs.Outcome.{Answer}
use Rattle.answers.specs.Outcome.{Length, Done, Node, Prepared, Refused, Vertex}
use Rattle.answers.specs.declared.MaxUpdateLength.{MaxUpdateLength}
use Rattle.answers.specs.declared.MaxUpdateLength.TheVariants.{NonZeroGrow, Unlimited, Conflicting, TouchingVirtual, BlossomNeedExpand, VertexShrinkStop, VertexShrinkStopPeer}
use Rattle.answers.specs.Answer.{flag}
use Rattle.calls.specs.Contacts.{Contact}
use Rattle.calls.specs.Calls.{Outcome, answered, growths, touching, grouped}
use Rattle.records.specs.Text.{ascii, decimal, signed_text, spaced}

-- a length answer in words
unfoldable pub words_of_length : MaxUpdateLength → List ℕ
words_of_length (NonZeroGrow l e) = ascii "free " ++ signed_text l ++ spaced (flag e ∷ [])
words_of_length (Unlimited e) = ascii "free -1" ++ spaced (flag e ∷ [])
words_of_length (Conflicting p g n h) = ascii "conflict" ++ spaced (p ∷ g ∷ n ∷ h ∷ [])
words_of_length (TouchingVirtual n g v) = ascii "virtual" ++ spaced (n ∷ g ∷ v ∷ 0 ∷ [])
words_of_length (BlossomNeedExpand n) = ascii "expand" ++ spaced (n ∷ [])
words_of_length (VertexShrinkStop n) = ascii "stop" ++ spaced (n ∷ [])
words_of_length (VertexShrinkStopPeer n p g) = ascii "stop" ++ spaced (n ∷ p ∷ g ∷ [])

-- an answer in words
unfoldable pub words_of : Answer → List ℕ
words_of (Length m) = words_of_length m
words_of Done = ascii "done"
words_of (Node n) = ascii "node" ++ spaced (n ∷ [])
words_of (Prepared k) = ascii "prepared" ++ spaced (k ∷ [])
words_of (Refused k) = ascii "refused" ++ spaced (k ∷ [])
words_of (Vertex v) = ascii "vertex" ++ spaced (v ∷ [])

-- the line of record k with these words
unfoldable pub line : ℕ → List ℕ → List ℕ
line k words = decimal k ++ (32 ∷ words) ++ (10 ∷ [])

-- a line for each edge from edge e on, of the growths of its two sides
unfoldable pub edge_lines : ℕ → ℕ → List ℕ → List (List ℕ)
edge_lines k e [] = []
edge_lines k e (l ∷ []) = []
edge_lines k e (l ∷ r ∷ gs) = line k (ascii "edge" ++ spaced (e ∷ l ∷ r ∷ [])) ∷ edge_lines k (e + 1) gs

-- what stands at an end of a contact: the number of an outermost node, or -1 for the virtual vertex
unfoldable pub end_text : ℕ → List ℕ
end_text p = if eqb p 0 then ascii " -1" else spaced ((p - 1) ∷ [])

unfoldable pub contact_text : Contact → List ℕ
contact_text x = ascii "contact" ++ spaced (x.edge ∷ []) ++ end_text x.left ++ end_text x.right

-- the line of a contact
unfoldable pub contact_line : ℕ → Contact → List ℕ
contact_line k x = line k (contact_text x)

-- no record asks for the length of all active nodes, so what that gives has no lines
unfoldable pub lines_for : ℕ → Outcome → List (List ℕ)
lines_for k (answered a) = line k (words_of a) ∷ []
lines_for k (growths gs) = edge_lines k 0 gs
lines_for k (touching xs) = map (contact_line k) xs
lines_for k (grouped g xs) = []

-- all lines, one behind the other
unfoldable pub joined_lines : List (List ℕ) → List ℕ
joined_lines [] = []
joined_lines (l ∷ ls) = l ++ joined_lines ls

-- the lines up to the first that does not fit into `space` bytes
unfoldable pub fitting : ℕ → List (List ℕ) → List ℕ
fitting space [] = []
fitting space (l ∷ ls) = if leb (length l) space then l ++ fitting (space - length l) ls else []

-- bytes written over the front of a list of bytes
unfoldable pub over : List ℕ → List ℕ → List ℕ
over front out = front ++ drop (length front) out
