-- What follows of a list of calls on blocks that calls reach; each proof cites a law.
use Rattle.std.specs.Prelude.{◌≤◌, List, ℤ}
use Rattle.graph.specs.Layout.{state_of}
use Rattle.reachable.specs.Reachable.{Reachable}
use Rattle.c_api_calls.specs.ListCall.{ListCall}
use Rattle.c_api_calls.specs.Tests.{tests_in}
use Rattle.c_api_calls.specs.laws.Reached.{one-test-made}

-- on a block that calls led to, memory is tested once for all calls of a list, blossoms among them, whatever is refused
pub one-test : (b t : List ℤ) → Reachable (state_of b) → (ks : List ListCall) → tests_in b t ks ≤ 1
one-test = one-test-made
