-- A circle that is refused 9 has passed 3, 6, 7 and 8.
use Rattle.std.specs.Prelude.{◌≡◌, ℕ, suc, ◌+◌, ◌*◌, ◌%◌, ◌<◌, ◌≤◌, Bool, true, false, not, ◌||◌, ltb, ◌≢◌, List, length, ◌==◌, nat_le, nat_lt, if◌then◌else◌}
use Rattle.std.proofs.Common.{arith, ltb-true, ltb-false}
use Rattle.std.specs.Prelude.{refl}
use Rattle.graph.specs.Basic.{any, distinct}
use Rattle.graph.specs.State.{State, vertex_count, side_count, node_count, shrinking}
use Rattle.graph.specs.laws.Members.{or-neither-left, or-neither-right}
use Rattle.calls.specs.Refuse.{bad_node, in_blossom, entries_but, store_short}
use Rattle.calls.specs.Insert.{no_circle, blossom_refusal}

-- a refusal that is another one
passed_to : (t : Bool) (k a j : ℕ) → (if t then k else a) ≡ j → k ≢ j → (t ≡ false) × (a ≡ j)
passed_to true k a j h n = absurd (n h)
passed_to false k a j h n = (refl, h)

-- the last one, if it is given
given : (t : Bool) (k : ℕ) → (if t then suc k else 0) ≡ suc k → t ≡ true
given true k h = refl
given false k h = absurd (omega arith)

-- a circle has at most 63 members
pub circle-short : (ms : List ℕ) → no_circle ms ≡ false → length ms ≤ 63
unfolding no_circle
circle-short ms h =
    let a = length ms % 2 == 0 || ltb (length ms) 3 in
    let s = ltb 63 (length ms) in
    ltb-false _ _ (or-neither-right a s (or-neither-left (a || s) (not (distinct ms)) h))

pub refused-nine : (c : State) (x : ℕ) (circle : List ℕ) → blossom_refusal c x circle ≡ 9
    → (length circle ≤ 63) × (c.store_limit < entries_but c circle + (length circle + 1) * (side_count c + vertex_count c))
unfolding blossom_refusal store_short
refused-nine c x circle h =
    let p₁ = passed_to (nat_lt shrinking x || any (bad_node c) circle) 3 _ 9 h (λ e. omega (arith, e)) in
    let p₂ = passed_to (any (in_blossom c) circle) 6 _ 9 p₁.1 (λ e. omega (arith, e)) in
    let p₃ = passed_to (no_circle circle) 7 _ 9 p₂.1 (λ e. omega (arith, e)) in
    let p₄ = passed_to (nat_le c.node_limit (node_count c)) 8 _ 9 p₃.1 (λ e. omega (arith, e)) in
    (circle-short circle p₃.0, ltb-true _ _ (given (store_short c circle (length circle + 1)) 8 p₄.1))
