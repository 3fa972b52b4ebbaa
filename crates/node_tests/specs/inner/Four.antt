-- Four entries of a list at once.
use Rattle.std.specs.Prelude.{ℕ, ◌+◌, Bool, ◌&&◌, List, get_or}

-- entry i and the three behind it pass
unfoldable pub four : (ℕ → Bool) → List ℕ → ℕ → Bool
four p l i = p (get_or l i 0) && p (get_or l (i + 1) 0) && p (get_or l (i + 2) 0) && p (get_or l (i + 3) 0)
