-- The program, record by record: what it promises of the bytes that it writes for each (crate `cardrun`, tell_record).
use Rattle.std.specs.Prelude.{ℕ, ◌+◌, ◌≡◌, List, [], ◌∷◌, map, length}
use Rattle.calls.specs.Calls.{ReadTable}
use Rattle.records.specs.Record.{Record, ask, decoded}
use Rattle.record_step.specs.Standing.{Memory, RecordTold}

-- bodies of records taken one after the other, the first with number k
pub data Taken : ℕ → Memory → List (List ℕ) → Memory → Type 0 where
  none-taken : {k : ℕ} {m : Memory} → Taken k m [] m
  one-taken : {k : ℕ} {m m₁ m₂ : Memory} {body out : List ℕ} {bodies : List (List ℕ)} → RecordTold k m m₁ body out
      → Taken (k + 1) m₁ bodies m₂ → Taken k m (body ∷ bodies) m₂

-- what the bodies say
abbrev pub said : List (List ℕ) → List Record
said bodies = map decoded bodies

-- The program took these bodies from its start, and for the next one, a table record, it writes the bytes `out`.
pub record TableWritten (bodies : List (List ℕ)) (out : List ℕ) : Type 0 where
  pub start : Memory
  pub before : Memory
  pub behind : Memory
  pub body : List ℕ
  pub fresh : start.stage ≡ 0
  pub taken : Taken 1 start bodies before
  pub told : RecordTold (length bodies + 1) before behind body out
  pub is-table : decoded body ≡ ask ReadTable
