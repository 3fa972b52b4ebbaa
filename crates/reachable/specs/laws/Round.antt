-- On a state with the invariant a trial meets only some refusals: never 2, 3 or 6.
use Rattle.std.specs.Prelude.{ℕ, ◌<◌, ◌≡◌, refl, ◌≢◌, Bool, true, List, [], ◌∷◌, eqb, ltb, get_or}
use Rattle.std.proofs.Common.{arith, sym, ap, ◌∙◌, eq-eqb}
use Rattle.std.proofs.Math.Decide.{ℕ_discrete as dec_eq}
use Rattle.std.proofs.Math.Logic.{by_cases}
use Rattle.std.proofs.Math.Bool.{false}
use Rattle.std.proofs.lemmas.Bool.{lt-leb}
use Rattle.graph.specs.Basic.{any, member}
use Rattle.graph.specs.State.{State, node_count, class_of, parent_of, boundary_of, growing, shrinking, up, down}
use Rattle.graph.specs.Active.{renewed, active_in}
use Rattle.graph.specs.Sound.{is_removed}
use Rattle.graph.specs.laws.State.{if-both}
use Rattle.graph.specs.laws.Members.{by-test}
use Rattle.graph.specs.laws.Shape.{sound-active}
use Rattle.graph.specs.laws.Active.{active-below, active-in}
use Rattle.pass.specs.Prepare.{prepare_node}
use Rattle.pass.proofs.laws.Passes.{Passed}
use Rattle.pass.proofs.laws.Prepare.{prepare-passed}
use Rattle.growth.specs.Growth.{passes_weight, passes_limit, falls_short, grow_check, grow_apply}
use Rattle.answers.specs.Answer.{Reply, says}
use Rattle.calls.specs.Refuse.{bad_node, in_blossom, store_short, node_refusal}
use Rattle.calls.specs.Calls.{prepare_dual_node_growth, grow_prepared, grow_toward}
use Rattle.calls.specs.Round.{refusal_of, preparing, prepared_all, moving, moved_all}
use Rattle.calls.proofs.laws.Accepted.{unless-cases}
use Rattle.calls.proofs.laws.Sounds.{apply-applied, apply-states}
use Rattle.calls.proofs.laws.Trial.{turn-among, unless-among}
use Rattle.reachable.specs.Invariant.{Invariant}
use Rattle.reachable.specs.laws.state.Live.{invariant-sound}
use Rattle.reachable.specs.laws.Active.{renewed-invariant}
use Rattle.reachable.specs.laws.Calls.{prepare-call-invariant, grow-toward-invariant}

-- k is among ks
abbrev pub Among : List ℕ → ℕ → Type 0
Among ks k = member k ks ≡ true

-- ---- one node's call

-- a node that may be named: neither removed nor in a blossom
pub record Free (c : State) (n : ℕ) : Type 0 where
  pub inside : n < node_count c
  pub live : is_removed (class_of c n) ≡ false
  pub outer : parent_of c n ≡ 0

node-among : (ks : List ℕ) → Among ks 0 → Among ks 9 → (c : State) (n : ℕ) (short : Bool) → Free c n → Among ks (node_refusal c n false short)
unfolding node_refusal bad_node in_blossom
node-among ks z i c n short f = rw (lt-leb (node_count c) n f.inside, f.live, eq-eqb (parent_of c n) 0 f.outer) (if-both (Among ks) short i z)

pub prepare-among : (ks : List ℕ) → Among ks 0 → Among ks 9 → (c : State) (n d : ℕ) → ltb up d ≡ false → Free c n
    → Among ks (refusal_of (prepare_dual_node_growth c n d).answer)
unfolding prepare_dual_node_growth refusal_of
prepare-among ks z i c n d u f =
    unless-among (Among ks) (node_refusal c n (ltb up d) (store_short c (n ∷ []) 1)) c _ (rw u (node-among ks z i c n (store_short c (n ∷ []) 1) f)) (λ e. z)

-- growth: 0, 9 and what refuses the growth itself
pub toward-among : (ks : List ℕ) → Among ks 0 → Among ks 9 → (c : State) (n d l : ℕ) → Free c n → Among ks (grow_check (prepare_node c n d).state n d l)
    → Among ks (refusal_of (grow_toward c n d l).answer)
unfolding grow_toward grow_prepared refusal_of
toward-among ks z i c n d l f h =
    unless-among (Among ks) (node_refusal c n false (store_short c (n ∷ []) 1)) c _ (node-among ks z i c n (store_short c (n ∷ []) 1) f)
    (λ e. unless-among (Among ks) (grow_check (prepare_node c n d).state n d l) (prepare_node c n d).state _ h (λ q. z))

-- ---- along a trial

-- what each node's call leaves of the nodes: what they stand for, their states and blossoms
pub record SameNodes (r c : State) : Type 0 where
  pub class : c.nodes.class ≡ r.nodes.class
  pub grow_state : c.nodes.grow_state ≡ r.nodes.grow_state
  pub parent : c.nodes.parent ≡ r.nodes.parent

-- the invariant, and the nodes as in r
pub record Along (r c : State) : Type 0 where
  pub invariant : Invariant c
  pub class : c.nodes.class ≡ r.nodes.class
  pub grow_state : c.nodes.grow_state ≡ r.nodes.grow_state
  pub parent : c.nodes.parent ≡ r.nodes.parent

-- a node of the list that is not in Stay may be named
pub listed_free : (r : State) → Invariant r → (x n : ℕ) → x ≢ 0 → member n (active_in r x) ≡ true → Free r n
listed_free r g x n ne m =
    let a = active-in r x n m in
    let b : n < node_count r = active-below r (sound-active r g.sounds) n a.0 in
    record {
      inside = b;
      live = by-test (is_removed (class_of r n)) (λ e. absurd (ne (sym a.1 ∙ (g.live.emptied n e).grow_state))) (λ e. e);
      outer = by_cases (dec_eq (parent_of r n) 0) (λ e. e) (λ e. absurd (ne (sym a.1 ∙ g.inner-stay n b e)));
    }

pub free-along : {r c : State} {n : ℕ} → Along r c → Free r n → Free c n
free-along {r} {c} {n} a f = record {
  inside = rw a.grow_state f.inside;
  live = rw a.class f.live;
  outer = ap (λ (l : List ℕ). get_or l n 0) a.parent ∙ f.outer;
}

along-by : {r c d : State} → Along r c → Invariant d → SameNodes c d → Along r d
along-by a g s = record { invariant = g; class = s.class ∙ a.class; grow_state = s.grow_state ∙ a.grow_state; parent = s.parent ∙ a.parent }

same_nodes : (c : State) → SameNodes c c
same_nodes c = record { class = refl; grow_state = refl; parent = refl }

prepared-nodes : (c : State) (n d : ℕ) → SameNodes c (prepare_node c n d).state
prepared-nodes c n d =
    let p : Passed n c (prepare_node c n d).state = prepare-passed c n d in record { class = p.class; grow_state = p.grow_state; parent = p.parent }

pub prepare-along : (r c : State) (n d : ℕ) → Along r c → Along r (prepare_dual_node_growth c n d).state
prepare-along r c n d a =
    along-by a (prepare-call-invariant c a.invariant n d)
    (unfold prepare_dual_node_growth says in
    (unless-cases (λ (x : Reply). SameNodes c x.state) (node_refusal c n (ltb up d) (store_short c (n ∷ []) 1)) c _ (λ e. same_nodes c)
    (λ e. prepared-nodes c n d)))

pub toward-along : (r c : State) (n d l : ℕ) → Along r c → Along r (grow_toward c n d l).state
toward-along r c n d l a =
    along-by a (grow-toward-invariant c a.invariant n d l)
    (unfold grow_toward grow_prepared says in
    (unless-cases (λ (x : Reply). SameNodes c x.state) (node_refusal c n false (store_short c (n ∷ []) 1)) c _ (λ e. same_nodes c)
    (λ e.
    unless-cases (λ (x : Reply). SameNodes c x.state) (grow_check (prepare_node c n d).state n d l) (prepare_node c n d).state _
    (λ q. prepared-nodes c n d) (λ q. grown))))
  where
    grown : SameNodes c (grow_apply (prepare_node c n d).state n d l)
    grown =
        let p : Passed n c (prepare_node c n d).state = prepare-passed c n d in
        let q = apply-applied (prepare_node c n d).state n d l in
        record { class = q.class ∙ p.class; grow_state = apply-states (prepare_node c n d).state n d l ∙ p.grow_state; parent = q.parent ∙ p.parent }

begin-along : (c : State) → Invariant c → Along (renewed c) (renewed c)
begin-along c g = record { invariant = renewed-invariant c g; class = refl; grow_state = refl; parent = refl }

-- ---- the trials

-- a preparation of all: 9 at most
pub prepared-all-among : (c : State) → Invariant c → Along (renewed c) (prepared_all c).state × Among (0 ∷ 9 ∷ []) (prepared_all c).refusal
unfolding prepared_all preparing member any
prepared-all-among c g =
    turn-among (Along (renewed c)) (Among (0 ∷ 9 ∷ [])) (preparing down) (preparing up) c (λ d a. invariant-sound a.invariant)
    (λ d n m a. (
      prepare-along (renewed c) d n down a,
      prepare-among (0 ∷ 9 ∷ []) refl refl d n down refl (free-along a (listed_free (renewed c) (renewed-invariant c g) shrinking n (λ z. omega arith) m)),
    ))
    (λ d n m a. (
      prepare-along (renewed c) d n up a,
      prepare-among (0 ∷ 9 ∷ []) refl refl d n up refl (free-along a (listed_free (renewed c) (renewed-invariant c g) growing n (λ z. omega arith) m)),
    ))
    (begin-along c g) refl

check-among : (c : State) (n d l : ℕ) → Among (0 ∷ 9 ∷ 10 ∷ 11 ∷ 12 ∷ []) (grow_check c n d l)
unfolding grow_check member any
check-among c n d l =
    if-both (Among (0 ∷ 9 ∷ 10 ∷ 11 ∷ 12 ∷ [])) (eqb d up)
    (if-both (Among (0 ∷ 9 ∷ 10 ∷ 11 ∷ 12 ∷ [])) (any (passes_weight c n l) (boundary_of c n)) refl
    (if-both (Among (0 ∷ 9 ∷ 10 ∷ 11 ∷ 12 ∷ [])) (passes_limit c n l) refl refl))
    (if-both (Among (0 ∷ 9 ∷ 10 ∷ 11 ∷ 12 ∷ [])) (falls_short c n l) refl refl)

-- a round: 9 to 12 at most
pub moved-all-among : (c : State) → Invariant c → (l : ℕ) → Among (0 ∷ 9 ∷ 10 ∷ 11 ∷ 12 ∷ []) (moved_all l c).refusal
unfolding moved_all moving member any
moved-all-among c g l =
    (turn-among (Along (renewed c)) (Among (0 ∷ 9 ∷ 10 ∷ 11 ∷ 12 ∷ [])) (moving down l) (moving up l) c (λ d a. invariant-sound a.invariant)
    (λ d n m a.
    let f : Free d n = free-along a (listed_free (renewed c) (renewed-invariant c g) shrinking n (λ z. omega arith) m) in (
      toward-along (renewed c) d n down l a,
      toward-among (0 ∷ 9 ∷ 10 ∷ 11 ∷ 12 ∷ []) refl refl d n down l f (check-among (prepare_node d n down).state n down l),
    ))
    (λ d n m a.
    let f : Free d n = free-along a (listed_free (renewed c) (renewed-invariant c g) growing n (λ z. omega arith) m) in
    (toward-along (renewed c) d n up l a, toward-among (0 ∷ 9 ∷ 10 ∷ 11 ∷ 12 ∷ []) refl refl d n up l f (check-among (prepare_node d n up).state n up l)))
    (begin-along c g) refl).1
