-- On a state with the invariant, a length that prepares first is never refused 13, nor is `advance`.
use Rattle.std.specs.Prelude.{ℕ, zero, suc, ◌<◌, ◌≡◌, refl, ◌≢◌, Bool, true, false, ◌&&◌, ◌||◌, [], ◌∷◌, ℤ, pos, negsuc, eqb, ltb}
use Rattle.std.proofs.Common.{arith, ap, sym}
use Rattle.graph.specs.Basic.{any}
use Rattle.graph.specs.State.{State, boundary_of, grow_state_of, stay, up, down}
use Rattle.graph.specs.laws.State.{if-both}
use Rattle.graph.specs.laws.Members.{clash}
use Rattle.pass.specs.Prepare.{prepare_node}
use Rattle.answers.specs.Outcome.{Answer}
use Rattle.answers.specs.Outcome.{Refused}
use Rattle.answers.specs.Answer.{Reply, says, refusal_of}
use Rattle.answers.specs.laws.Answer.{accepted-refusal}
use Rattle.calls.proofs.laws.Follow.{follow-cases}
use Rattle.calls.specs.Refuse.{bad_node, in_blossom, node_refusal, store_short, unless}
use Rattle.update_length.specs.Scan.{scan}
use Rattle.growth.specs.Growth.{passes_weight, passes_limit, falls_short, grow_check}
use Rattle.calls.specs.Calls.{max_update_length, readied, grow_prepared, grow_toward, grow_dual_node, signed_for, follow, advance_by, toward, advance}
use Rattle.calls.proofs.laws.Accepted.{unless-cases, NodeAccepted, node-accepted}
use Rattle.reachable.specs.Invariant.{Invariant}
use Rattle.reachable.specs.laws.prepare.Scan.{scan-accepted}

-- ---- the numbers that refuse a call

below-13 : (k : ℕ) → k < 13 → k ≢ 13
below-13 k b e = omega arith

node-refusal : (c : State) (n : ℕ) (wrong short : Bool) → node_refusal c n wrong short ≢ 13
unfolding node_refusal
node-refusal c n wrong short =
    if-both (λ k. k ≢ 13) (bad_node c n || wrong) (below-13 3 (omega arith))
    (if-both (λ k. k ≢ 13) (in_blossom c n) (below-13 6 (omega arith)) (if-both (λ k. k ≢ 13) short (below-13 9 (omega arith)) (below-13 0 (omega arith))))

grow-refusal : (c : State) (n d l : ℕ) → grow_check c n d l ≢ 13
unfolding grow_check
grow-refusal c n d l =
    if-both (λ k. k ≢ 13) (eqb d up)
    (if-both (λ k. k ≢ 13) (any (passes_weight c n l) (boundary_of c n)) (below-13 10 (omega arith))
    (if-both (λ k. k ≢ 13) (passes_limit c n l) (below-13 12 (omega arith)) (below-13 0 (omega arith))))
    (if-both (λ k. k ≢ 13) (falls_short c n l) (below-13 11 (omega arith)) (below-13 0 (omega arith)))

-- a reply that is refused k, not 13, or else r
unless-refusal : (k : ℕ) (c : State) (r : Reply) → k ≢ 13 → (k ≡ 0 → refusal_of r.answer ≢ 13) → refusal_of (unless k c r).answer ≢ 13
unfolding says refusal_of
unless-refusal k c r ne f = unless-cases (λ (x : Reply). refusal_of x.answer ≢ 13) k c r (λ e. ne) f

-- ---- the calls

pub length-refusal : (c : State) → Invariant c → (n d : ℕ) → refusal_of (max_update_length c n d true).answer ≢ 13
unfolding max_update_length readied
length-refusal c g n d =
    unless-refusal (node_refusal c n (ltb up d) (true && store_short c (n ∷ []) 1)) c _ (node-refusal c n (ltb up d) _)
    (λ e.
    let a : NodeAccepted c n (ltb up d) (store_short c (n ∷ []) 1) = node-accepted c n (ltb up d) (store_short c (n ∷ []) 1) e in
    let z : refusal_of (scan (prepare_node c n d).state n d) ≡ 0 = accepted-refusal _ (scan-accepted c g n d a.inside a.outer) in
    λ q. omega arith)

toward-refusal : (c : State) (n d l : ℕ) → refusal_of (grow_toward c n d l).answer ≢ 13
unfolding grow_toward grow_prepared refusal_of
toward-refusal c n d l =
    unless-refusal (node_refusal c n false (store_short c (n ∷ []) 1)) c _ (node-refusal c n false _)
    (λ e. unless-refusal (grow_check (prepare_node c n d).state n d l) (prepare_node c n d).state _
    (grow-refusal (prepare_node c n d).state n d l) (λ q z. omega arith))

pub growth-refusal : (c : State) (n : ℕ) (l : ℤ) → refusal_of (grow_dual_node c n l).answer ≢ 13
unfolding grow_dual_node says refusal_of
growth-refusal c n (pos zero) = unless-refusal (node_refusal c n false false) c _ (node-refusal c n false false) (λ e z. omega arith)
growth-refusal c n (pos (suc l)) = toward-refusal c n up (suc l)
growth-refusal c n (negsuc l) = toward-refusal c n down (suc l)

follow-refusal : (c : State) (n x : ℕ) (a : Answer) → refusal_of a ≢ 13 → refusal_of (follow c n x a).answer ≢ 13
unfolding says
follow-refusal c n x a h = follow-cases (λ (r : Reply). refusal_of r.answer ≢ 13) c n x a (λ l e. growth-refusal c n (signed_for x l)) h

pub advance-refusal : (c : State) → Invariant c → (n : ℕ) → refusal_of (advance c n).answer ≢ 13
unfolding advance advance_by says
advance-refusal c g n =
    unless-refusal (node_refusal c n false false) c _ (node-refusal c n false false)
    (λ e.
    if-both (λ (r : Reply). refusal_of r.answer ≢ 13) (eqb (grow_state_of c n) stay) (unfold refusal_of in (λ q. omega arith))
    (follow-refusal (max_update_length c n (toward (grow_state_of c n)) true).state n (grow_state_of c n) _ (length-refusal c g n (toward (grow_state_of c n)))))

-- as answers
pub not-thirteen : (a : Answer) → refusal_of a ≢ 13 → a ≢ Refused 13
unfolding refusal_of
not-thirteen a h e = h (ap refusal_of e)
