-- The verdict in the definitions: yes, no, or the number of a refusal (SPECIFICATION 8).
use Rattle.std.specs.Prelude.{ℕ, Bool, Result, Ok, Err, if◌then◌else◌}
use Rattle.refusal.specs.declared.Refusal.{Refusal}
use Rattle.refusal.specs.Refusal.{number}

pub data Verdict : Type 0 where
  Yes : Verdict
  No : Verdict
  Refused : ℕ → Verdict  -- the number of the refusal

-- that of what the check of a table hands back
abbrev pub verdict_told : Result Bool Refusal → Verdict
verdict_told (Ok t) = if t then Yes else No
verdict_told (Err e) = Refused (number e)
