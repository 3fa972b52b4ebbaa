-- A table in a file (docs/TABLE-FILE.md): its sizes, how many words it has, and the text of its verdict.
use Rattle.std.specs.Prelude.{ℕ, ◌+◌, ◌*◌, Bool, ◌&&◌, List, [], ◌∷◌, leb, ◌==◌, if◌then◌else◌}
use Rattle.table_check.specs.Outcome.{Verdict, Yes, No, Refused}

-- V and E are within their limits; there are no more virtual vertices than vertices, and no more defects
unfoldable pub file_sizes : (v e k n : ℕ) → Bool
file_sizes v e k n = leb 1 v && (leb v 1024 && (leb 1 e && (leb e 4096 && (leb k v && leb n v))))

-- the four sizes; the edges; the virtual vertices; the defects and their dual variables; the growths; the rows
unfoldable pub file_words : (v e k n : ℕ) → ℕ
file_words v e k n = 4 + 5 * e + k + 2 * n + n * v

-- ---- what a table gets, as text

-- "yes", "no", "refused 4" or "refused 1": by no other number
unfoldable pub verdict_text : Verdict → List ℕ
verdict_text Yes = 121 ∷ 101 ∷ 115 ∷ []
verdict_text No = 110 ∷ 111 ∷ []
verdict_text (Refused k) = 114 ∷ 101 ∷ 102 ∷ 117 ∷ 115 ∷ 101 ∷ 100 ∷ 32 ∷ (if k == 4 then 52 else 49) ∷ []
