use Rattle.c_api_calls.specs.Outcome.{standing_refusal}
use mathlib.Core.Path.{◌≡◌}
use Rattle.c_api_calls.specs.ListCall.{list_calls}
use Rattle.c_api_calls.specs.Told.{call_count}
use Rattle.c_api_calls.specs.inner.Running.{Running}
use Rattle.c_api_calls.proofs.make_all.Given as goal

abbrev pub invariant-loop : goal.invariant-loop
invariant-loop l =
    Running l.initial.b l.initial.t (list_calls l.circles l.words l.m) l.initial.answers l.b l.t l.answers
    l.s.made l.s.tests (standing_refusal l.s.refusal) l.s.known l.s.zero
    × (l.m ≡ call_count l.words l.initial.answers) × (l.s.made ≡ l.counter)
