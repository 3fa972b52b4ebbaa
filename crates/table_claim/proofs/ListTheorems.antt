-- A list of calls joins demand 3's list as its calls, one by one; each proof cites a law.
use Rattle.std.specs.Prelude.{ℕ, ◌%◌, ◌≤◌, ◌≡◌, List, ◌++◌, ℤ, length}
use Rattle.c_api_calls.specs.ListCall.{list_calls}
use Rattle.c_api_calls.specs.Told.{call_count, CallsTold}
use Rattle.table_claim.specs.Hosted.{HostExchange, HostSteps}
use Rattle.table_claim.specs.Listed.{HostCalls}
use Rattle.table_claim.proofs.laws.Listed.{listed-steps, steps-join}

-- whatever block and scratch are lent: what fb_calls promises with room for its answer, and words that are calls of four
module _ {b t words circles b' t' : List ℤ} {answers answers' list list' : List ℕ} {k : ℕ}
    (p : CallsTold b t words circles answers b' t' answers' list list' k) (room : 5 ≤ length list) (fours : length words % 4 ≡ 0) where
  -- the calls that are made are exported calls from b to b'
  pub a-list-is-its-calls : HostCalls b (list_calls circles words (call_count words answers)) answers answers' b'
  a-list-is-its-calls = listed-steps ((p.told room).says.steps fours)

  -- behind calls that led to b they are one list with them: what is proved of every list of exported calls holds after fb_calls
  pub a-list-joins-a-run : {b₀ : List ℤ} {xs : List HostExchange} → HostSteps b₀ xs b → HostSteps b₀ (xs ++ a-list-is-its-calls.exchanges) b'
  a-list-joins-a-run q = steps-join q a-list-is-its-calls.steps
