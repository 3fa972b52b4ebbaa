-- What an opening from a sheet gets in the definitions: how many positive values became 0, or the number of its refusal (SPECIFICATION 8).
use Rattle.std.specs.Prelude.{ℕ, Result, Ok, Err}
use Rattle.refusal.specs.declared.Refusal.{Refusal}
use Rattle.refusal.specs.Refusal.{number}

pub data SheetOpened : Type 0 where
  Opened : ℕ → SheetOpened  -- how many positive values became 0
  Refused : ℕ → SheetOpened  -- the number of the refusal

-- that of what the opening hands back
abbrev pub opened_told : Result ℕ Refusal → SheetOpened
opened_told (Ok k) = Opened k
opened_told (Err e) = Refused (number e)
