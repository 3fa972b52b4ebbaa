-- How conflicts and stops stand in a lent list: 5 words an entry.
use Rattle.std.specs.Prelude.{ℕ, ◌+◌, ◌*◌, List, [], ◌∷◌, ◌++◌, length, take, drop}
use Rattle.answers.specs.Outcome.{Answer}
use Rattle.answers.specs.Numbers.{answer_numbers}

-- an answer in 5 words: its numbers, and 0 behind them
unfoldable pub entry_numbers : Answer → List ℕ
entry_numbers a = answer_numbers a ++ drop (length (answer_numbers a)) (0 ∷ 0 ∷ 0 ∷ 0 ∷ 0 ∷ [])

-- the words of entries, one after another
unfoldable pub entry_words : List Answer → List ℕ
entry_words [] = []
entry_words (a ∷ xs) = entry_numbers a ++ entry_words xs

-- the list with the entries xs behind its first k entries; the rest is kept
unfoldable pub listed_from : ℕ → List Answer → List ℕ → List ℕ
listed_from k xs list = take (5 * k) list ++ (entry_words xs ++ drop (5 * (k + length xs)) list)
