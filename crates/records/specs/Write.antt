-- Text written into bytes, and lines written one behind the other as far as they fit.
use Rattle.std.specs.Prelude.{ℕ, ◌+◌, ◌≤◌, ◌≡◌, Bool, true, false, List, leb, length, if◌then◌else◌}
use Rattle.std.proofs.lemmas.List.Edits.{sets}
use Rattle.graph.specs.Basic.{fold, all}

-- the bytes b with the text w from place n on are c, and m is the place behind it
pub record Written (b : List ℕ) (n : ℕ) (c : List ℕ) (m : ℕ) (w : List ℕ) : Type 0 where
  pub bytes : c ≡ sets b n w
  pub place : m ≡ n + length w

-- bytes lent for lines: how many of them are written, and whether a line did not fit
pub record Page : Type 0 where
  pub bytes : List ℕ
  pub at : ℕ
  pub full : Bool

unfoldable pub page : List ℕ → ℕ → Bool → Page
page b n full = record { bytes = b; at = n; full = full }

-- a line behind the others, if it fits and all before it did
unfoldable pub put_line : Page → List ℕ → Page
put_line p l =
    if p.full then p
    else if leb (p.at + length l) (length p.bytes) then page (sets p.bytes p.at l) (p.at + length l) false
    else page p.bytes p.at true

-- lines, in order
unfoldable pub put_lines : Page → List (List ℕ) → Page
put_lines p ls = fold put_line p ls

-- no line is longer than 128 bytes
unfoldable pub short_lines : List (List ℕ) → Bool
short_lines ls = all (λ l. leb (length l) 128) ls

-- from b, n, full to c, m, stopped: the lines ls were put, which are short, and no more was written than there is room
pub record LinesPut (b : List ℕ) (n : ℕ) (full : Bool) (c : List ℕ) (m : ℕ) (stopped : Bool) (ls : List (List ℕ)) : Type 0 where
  pub page-is : page c m stopped ≡ put_lines (page b n full) ls
  pub short : short_lines ls ≡ true
  pub room : m ≤ length c
