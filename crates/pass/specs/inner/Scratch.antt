-- What the scratch holds while a pass runs: two sections of m words each, m being the number of sides, and one of k words. The first has the
-- kept sides, the second the pushed vertices of a growing pass or the marks of a shrinking one, the third what was noted. Behind its entries
-- a section is zero.
use Rattle.std.specs.Prelude.{ℕ, zero, suc, ◌+◌, ◌-◌, ◌*◌, ◌≤◌, min, ◌≡◌, List, ◌++◌, map, ℤ, pos, length, set, replicate}
use Rattle.graph.specs.State.{State, vertex_count, side_count}

-- at most so many vertices are noted in a pass on state c: each once, and for a side each
abbrev pub note_limit : State → ℕ
note_limit c = min (vertex_count c) (side_count c)

-- a list filled up with zeros to m entries
unfoldable pub padded : ℕ → List ℕ → List ℕ
padded m l = l ++ replicate (m - length l) 0

-- the words of a scratch with these entries in its sections
unfoldable pub scratch_words : ℕ → ℕ → List ℕ → List ℕ → List ℕ → List ℤ
scratch_words m k kept second noted = map pos (padded m kept ++ (padded m second ++ padded k noted))

-- t with n words from place p on set to zero
unfoldable pub wiped : List ℤ → ℕ → ℕ → List ℤ
wiped t p zero = t
wiped t p (suc n) = set (wiped t p n) (p + n) (pos 0)

-- the scratch t has these entries in its sections
pub record ScratchHolds (t : List ℤ) (m k : ℕ) (kept second noted : List ℕ) : Type 0 where
  pub words : t ≡ scratch_words m k kept second noted
  pub keeps : length kept ≤ m
  pub seconds : length second ≤ m
  pub notes : length noted ≤ k
  pub size : length t ≡ 2 * m + k
