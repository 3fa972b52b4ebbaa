-- The line of a refusal that ends a run.
use Rattle.std.specs.Prelude.{ℕ, ◌≡◌, refl, [], ◌∷◌}
use Rattle.answers.specs.Outcome.{Refused}
use Rattle.records.specs.Lines.{line, words_of, lines_for}
use Rattle.records.specs.Run.{ends}

pub ends-line : (k code : ℕ) → line k (words_of (Refused code)) ∷ [] ≡ (ends k code).lines
unfolding ends lines_for
ends-line k code = refl
