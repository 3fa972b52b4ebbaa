-- What the group lists fits into a list of N entries, on every sound state; and what it answers without an active node.
use Rattle.std.specs.Prelude.{◌≡◌, ℕ, suc, ◌+◌, ◌≤◌, Bool, true, false, not, ◌&&◌, List, [], ◌∷◌, length, ◌==◌, nat_le, nat_lt, if◌then◌else◌}
use Rattle.std.proofs.Common.{arith, ap, ◌∙◌, length-append}
use Rattle.std.proofs.Math.Path.{refl}
use Rattle.graph.specs.Basic.{all, only}
use Rattle.graph.specs.State.{State, node_count, with_active, up, down}
use Rattle.graph.specs.Sound.{sound, active_sound}
use Rattle.graph.specs.Active.{is_active, renewed}
use Rattle.graph.specs.laws.State.{if-both}
use Rattle.graph.specs.laws.Members.{by-test, length-only, distinct-length}
use Rattle.graph.specs.laws.Shape.{sound-count, sound-active}
use Rattle.graph.specs.laws.Active.{active-inside, active-once}
use Rattle.pass.proofs.laws.Prepare.{prepare-passed}
use Rattle.answers.specs.Outcome.{Answer}
use Rattle.answers.specs.Answer.{Reply, says}
use Rattle.calls.specs.Refuse.{node_refusal, store_short}
use Rattle.calls.specs.Calls.{prepare_dual_node_growth}
use Rattle.calls.specs.Round.{refusal_of, preparing, prepared_all, answers_of, is_free, stop_of, is_conflict, put_stop, stops_of, conflicts_of, listed_by}
use Rattle.calls.proofs.laws.Accepted.{unless-cases}
use Rattle.calls.proofs.laws.Trial.{turn-keeps}

put-length : (a : Answer) (xs : List Answer) → length (put_stop a xs) ≡ suc (length xs)
unfolding put_stop
put-length a [] = refl
put-length a (b ∷ bs) =
    let ih : length (put_stop a bs) ≡ suc (length bs) = put-length a bs in
    if-both (λ (l : List Answer). length l ≡ suc (suc (length bs))) (nat_le (stop_of a) (stop_of b)) refl (ap suc ih)

-- an answer is a conflict, a stop or neither
pub both-lists : (xs : List Answer) → length (conflicts_of xs) + length (stops_of xs) ≤ length xs
unfolding conflicts_of stops_of only is_conflict
both-lists [] = omega arith
both-lists (a ∷ xs) =
    let ih : length (only is_conflict xs) + length (stops_of xs) ≤ length xs = unfold conflicts_of is_conflict in (both-lists xs) in
    by-test (stop_of a == 0)
    (λ e. rw e (conflict-or (not (is_free a) && true && refusal_of a == 0) ih))
    (λ e. let p : length (put_stop a (stops_of xs)) ≡ suc (length (stops_of xs)) = put-length a (stops_of xs) in
    rw (e, and_no (not (is_free a)) (refusal_of a == 0)) (omega arith))
  where
    and_no : (t u : Bool) → (t && false && u) ≡ false
    and_no true u = refl
    and_no false u = refl

    conflict-or : (t : Bool) → length (only is_conflict xs) + length (stops_of xs) ≤ length xs
        → length (if t then a ∷ only is_conflict xs else only is_conflict xs) + length (stops_of xs) ≤ suc (length xs)
    conflict-or true h = omega arith
    conflict-or false h = omega arith

listed-length : (xs : List Answer) → length (listed_by xs) ≤ length xs
unfolding listed_by
listed-length xs =
    if-both (λ (l : List Answer). length l ≤ length xs) (all is_free xs) (omega arith)
    (let k = both-lists xs in rw (length-append (conflicts_of xs) (stops_of xs)) k)

pub answers-length : (c : State) (ns : List ℕ) → length (answers_of c ns) ≡ length ns
unfolding answers_of
answers-length c [] = refl
answers-length c (n ∷ ns) = ap suc (answers-length c ns)

-- a preparation of all leaves the renewed list
pub prepared-active : (c : State) → (prepared_all c).state.active ≡ (renewed c).active
unfolding prepared_all preparing prepare_dual_node_growth says
prepared-active c =
    turn-keeps (λ (d : State). d.active ≡ (renewed c).active) (preparing down) (preparing up)
    (λ d n h. unless-cases (λ (r : Reply). r.state.active ≡ (renewed c).active)
    (node_refusal d n (nat_lt up down) (store_short d (n ∷ []) 1)) d _ (λ e. h) (λ e. (prepare-passed d n down).active ∙ h))
    (λ d n h. unless-cases (λ (r : Reply). r.state.active ≡ (renewed c).active)
    (node_refusal d n (nat_lt up up) (store_short d (n ∷ []) 1)) d _ (λ e. h) (λ e. (prepare-passed d n up).active ∙ h))
    c refl

renewed-length : (c : State) → sound c ≡ true → length (renewed c).active ≤ c.node_limit
unfolding renewed with_active
renewed-length c h =
    let a : active_sound c ≡ true = sound-active c h in
    let k : length c.active ≤ node_count c = distinct-length (node_count c) c.active (active-once c a) (active-inside c a) in
    omega (arith, length-only (is_active c) c.active, sound-count c h)
