-- A run: records in, lines out.
use Rattle.std.specs.Prelude.{ℕ, zero, suc, ◌+◌, ◌≡◌, Bool, true, ◌||◌, List, [], ◌∷◌, ◌++◌, ltb, eqb, length, if◌then◌else◌}
use Rattle.graph.specs.State.{State}
use Rattle.graph.specs.Open.{Edge, opened, open_refusal}
use Rattle.answers.specs.Outcome.{Refused}
use Rattle.calls.specs.Calls.{Call, answered, Response, respond}
use Rattle.records.specs.Record.{Record, sizes, an_edge, a_virtual, ask, ill_formed, nothing, next, next_record}
use Rattle.records.specs.Lines.{lines_for, joined_lines, fitting, over}

-- what has been read before the opening
pub record Gathered : Type 0 where
  pub v : ℕ
  pub e : ℕ
  pub n : ℕ
  pub l : ℕ
  pub edges : List Edge
  pub virtuals : List ℕ

-- where a run stands
pub data Stage : Type 0 where
  fresh : Stage  -- no record so far
  gathering : Gathered → Stage  -- records of kinds 1 to 3 so far
  running : State → Stage
  ended : Stage

-- after a record: where the run stands, and the lines of the record
pub record StepResult : Type 0 where
  pub stage : Stage
  pub lines : List (List ℕ)

-- record k ends the run with a refusal
unfoldable pub ends : ℕ → ℕ → StepResult
ends k code = record { stage = ended; lines = lines_for k (answered (Refused code)) }

unfoldable pub with_edge : Gathered → Edge → Gathered
with_edge g x = record { v = g.v; e = g.e; n = g.n; l = g.l; edges = g.edges ++ (x ∷ []); virtuals = g.virtuals }

unfoldable pub with_virtual : Gathered → ℕ → Gathered
with_virtual g x = record { v = g.v; e = g.e; n = g.n; l = g.l; edges = g.edges; virtuals = g.virtuals ++ (x ∷ []) }

-- ---- opening

-- the sizes are above the program's
unfoldable pub too_large : Gathered → Bool
too_large g = ltb 64 g.v || ltb 128 g.e || ltb 32 g.n || ltb 2000 g.l

-- 0, or what refuses the opening
unfoldable pub run_refusal : Gathered → ℕ
run_refusal g = if too_large g then 4 else open_refusal g.v g.e g.n g.l g.edges g.virtuals true

-- ---- a record

-- a call on an opened state
unfoldable pub call_step : ℕ → Response → StepResult
call_step k x = record { stage = running x.state; lines = lines_for k x.outcome }

-- the first call, which opens the graph
unfoldable pub open_step : ℕ → Gathered → Call → StepResult
open_step k g a = if eqb (run_refusal g) 0 then call_step k (respond (opened g.v g.n g.l g.edges g.virtuals) a) else ends k (run_refusal g)

-- record k at a stage
unfoldable pub record_step : ℕ → Stage → Record → StepResult
record_step k ended r = record { stage = ended; lines = [] }
record_step k fresh (sizes v e n l) = record { stage = gathering (record { v = v; e = e; n = n; l = l; edges = []; virtuals = [] }); lines = [] }
record_step k fresh (an_edge x) = ends k 3
record_step k fresh (a_virtual x) = ends k 3
record_step k fresh (ask a) = ends k 3
record_step k fresh ill_formed = ends k 3
record_step k (gathering g) (sizes v e n l) = ends k 3
record_step k (gathering g) (an_edge x) = record { stage = gathering (with_edge g x); lines = [] }
record_step k (gathering g) (a_virtual x) = record { stage = gathering (with_virtual g x); lines = [] }
record_step k (gathering g) (ask a) = open_step k g a
record_step k (gathering g) ill_formed = ends k 3
record_step k (running c) (sizes v e n l) = ends k 3
record_step k (running c) (an_edge x) = ends k 3
record_step k (running c) (a_virtual x) = ends k 3
record_step k (running c) (ask a) = call_step k (respond c a)
record_step k (running c) ill_formed = ends k 3

-- ---- the run

-- the lines of all records from record k on; at most `fuel` records
unfoldable pub run_from : ℕ → ℕ → Stage → List ℕ → List (List ℕ)
run_from zero k s b = []
run_from (suc fuel) k s b =
    elim
    (next_record b) [
      | nothing ↦ []
      | next r rest ↦ let t : StepResult = record_step k s r in
          t.lines ++ run_from fuel (k + 1) t.stage rest
    ]

-- a record takes at least a byte, so there are no more records than bytes
unfoldable pub lines_in : List ℕ → List (List ℕ)
lines_in b = run_from (length b) 1 fresh b

-- all that the program writes
unfoldable pub lines_of : List ℕ → List ℕ
lines_of b = joined_lines (lines_in b)

-- what the exported call writes into `space` bytes, and the bytes that it leaves there
unfoldable pub fitted_lines : List ℕ → ℕ → List ℕ
fitted_lines b space = fitting space (lines_in b)

unfoldable pub filled : List ℕ → List ℕ → List ℕ
filled b out = over (fitted_lines b (length out)) out

-- What the exported call promises, from the bytes `lines` that it is lent to lines', and with the number k that it gives back.
pub record LinesCalled (b lines lines' : List ℕ) (k : ℕ) : Type 0 where
  pub bytes : lines' ≡ filled b lines
  pub count : k ≡ length (fitted_lines b (length lines))
