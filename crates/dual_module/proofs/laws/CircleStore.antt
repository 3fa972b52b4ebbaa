-- Where the definition does not refuse a circle by 9, neither does the call.
use Rattle.std.specs.Prelude.{ℕ, ◌≢◌, List, ℤ}
use Rattle.std.proofs.Common.{arith}
use Rattle.graph.specs.Layout.{state_of, block_sound, memory_fits, block_refusal, memory_refusal}
use Rattle.graph.specs.laws.State.{if-both}
use Rattle.answers.specs.Answer.{Reply, says}
use Rattle.calls.specs.Refuse.{unless}
use Rattle.calls.specs.Round.{refusal_of}
use Rattle.calls.specs.Insert.{blossom_refusal, insert_blossom}
use Rattle.calls.proofs.laws.Accepted.{unless-cases}

memory-not-nine : (b t : List ℤ) → memory_refusal b t ≢ 9
unfolding memory_refusal block_refusal
memory-not-nine b t =
    if-both (λ (k : ℕ). k ≢ 9) (memory_fits b t)
    (if-both (λ (k : ℕ). k ≢ 9) (block_sound b) (λ e. omega (arith, e)) (λ e. omega (arith, e)))
    (λ e. omega (arith, e))

pub blossom-not-nine : (b t : List ℤ) (x : ℕ) (circle : List ℕ) → blossom_refusal (state_of b) x circle ≢ 9
    → refusal_of (unless (memory_refusal b t) (state_of b) (insert_blossom (state_of b) x circle)).answer ≢ 9
unfolding refusal_of insert_blossom says
blossom-not-nine b t x circle h =
    let P : Reply → Type 0 = λ (r : Reply). refusal_of r.answer ≢ 9 in
    unless-cases P (memory_refusal b t) (state_of b) (insert_blossom (state_of b) x circle) (λ q. memory-not-nine b t)
    (λ q. unless-cases P (blossom_refusal (state_of b) x circle) (state_of b) _ (λ q. h) (λ q e. omega (arith, e)))
