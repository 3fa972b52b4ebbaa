-- Words and numbers at the front of a lent list.
use Rattle.std.specs.Prelude.{ℕ, List, ◌++◌, map, length, drop, ℤ, pos}

-- t with the words ws over its front
unfoldable pub over_front : List ℤ → List ℤ → List ℤ
over_front ws t = ws ++ drop (length ws) t

-- t with the numbers l over its front
unfoldable pub placed : List ℕ → List ℤ → List ℤ
placed l t = over_front (map pos l) t
