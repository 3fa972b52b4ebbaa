-- A word of a block is an i64, which a contract has as a ℤ. A block holds natural numbers, so every definition above
-- this file reads a word by `word_at`, as a ℕ.
use Rattle.std.specs.Prelude.{ℕ, List, map, ℤ, pos, negsuc, get_or, take, drop}

-- the number of a word; a negative one counts as the greatest word, which is out of every range that a state allows
unfoldable pub to_nat : ℤ → ℕ
to_nat (pos n) = n
to_nat (negsuc n) = 9223372036854775807

-- the word at place i, as a number
unfoldable pub word_at : List ℤ → ℕ → ℕ
word_at b i = to_nat (get_or b i (pos 0))

-- the n words from place p on, as numbers
unfoldable pub numbers_at : List ℤ → ℕ → ℕ → List ℕ
numbers_at b p n = map to_nat (take n (drop p b))

-- the numbers of words are below this: 2 to the power 63
abbrev pub word_limit : ℕ
word_limit = 9223372036854775808
