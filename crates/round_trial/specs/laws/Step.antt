-- The trial node by node: what a call leaves alone, that the memory stays fit for the next one, and the loop over the active list.
use Rattle.std.specs.Prelude.{◌≡◌, ℕ, zero, suc, ◌≤◌, Bool, true, false, ◌≢◌, List, [], ◌∷◌, length, ℤ, ◌==◌, nat_lt, slice_index, if◌then◌else◌}
use Rattle.std.proofs.Common.{arith, sym, ◌∙◌}
use Rattle.std.proofs.Math.Decide.{ℕ_discrete as dec_eq}
use Rattle.std.proofs.Math.Path.{refl, ap}
use Rattle.std.proofs.Math.Logic.{by_cases}
use borrow.Author.Tests.{eq-eqb, ne_eqb}
use Rattle.graph.specs.State.{State, node_count, grow_state_of, growing, shrinking, down, up}
use Rattle.graph.specs.Layout.{state_of}
use Rattle.graph.specs.Form.{Formed}
use Rattle.graph.specs.laws.Form.{laid-shape, formed-vertices}
use Rattle.graph.specs.laws.Active.{active-kept}
use Rattle.graph.specs.laws.Row.{becomes-none}
use Rattle.pass.specs.Prepare.{prepare_node}
use Rattle.pass.proofs.laws.Scratch.{scratch-same}
use Rattle.pass.proofs.laws.Prepare.{prepare-passed}
use Rattle.growth.specs.Growth.{grow_check}
use Rattle.answers.specs.Outcome.{Answer}
use Rattle.answers.specs.Answer.{Reply, says}
use Rattle.calls.specs.Refuse.{node_refusal, store_short}
use Rattle.calls.specs.Calls.{prepare_dual_node_growth, grow_prepared, grow_toward, toward}
use Rattle.calls.specs.inner.Reply.{Replies, MemoryPreparable}
use Rattle.answers.specs.Outcome.{Refused, accepted_as}
use Rattle.answers.specs.declared.Answer.{Answer as Accepted}
use Rattle.answers.specs.declared.Answer.TheVariants as Accepts
use Rattle.refusal.specs.declared.Refusal.{Refusal}
use Rattle.refusal.specs.Refusal.{number}
use Rattle.calls.specs.Round.{refusal_of, begun, tried_by, preparing, moving}
use Rattle.calls.proofs.laws.Accepted.{unless-cases}
use Rattle.calls.proofs.laws.Phase.{phase-prepare, phase-toward, StillSound, still-prepare, still-toward}
use Rattle.calls.specs.inner.Phase.{Phase}
use Rattle.calls.proofs.laws.Replies.{usable-steady}
use Rattle.calls.proofs.laws.Sounds.{apply-applied, apply-states}
use Rattle.round_trial.specs.Trial.{node_call}
use Rattle.round_trial.specs.inner.Step.{node_call_at, TriedTo, CallsPossible}

-- ---- what a call leaves alone

-- the active list and the grow states are the same
pub record SameActive (c d : State) : Type 0 where
  pub active : d.active ≡ c.active
  pub states : d.nodes.grow_state ≡ c.nodes.grow_state

prepare-same : (c : State) (n d : ℕ) → SameActive c (prepare_dual_node_growth c n d).state
unfolding prepare_dual_node_growth says
prepare-same c n d =
    unless-cases (λ (r : Reply). SameActive c r.state) (node_refusal c n (nat_lt up d) (store_short c (n ∷ []) 1)) c _
    (λ e. record { active = refl; states = refl })
    (λ e. let p = prepare-passed c n d in record { active = p.active; states = p.grow_state })

toward-same : (c : State) (n d l : ℕ) → SameActive c (grow_toward c n d l).state
unfolding grow_toward grow_prepared says
toward-same c n d l =
    let p = prepare-passed c n d in
    let e : State = (prepare_node c n d).state in
    unless-cases (λ (r : Reply). SameActive c r.state) (node_refusal c n false (store_short c (n ∷ []) 1)) c _
    (λ k. record { active = refl; states = refl })
    (λ k.
    unless-cases (λ (r : Reply). SameActive c r.state) (grow_check (prepare_node c n d).state n d l) (prepare_node c n d).state _
    (λ j. record { active = p.active; states = p.grow_state })
    (λ j. record { active = (apply-applied e n d l).active ∙ p.active; states = apply-states e n d l ∙ p.grow_state }))

pub turn-same : (l d : ℕ) (c : State) (n : ℕ) → SameActive c (node_call l d c n).state
unfolding node_call preparing moving
turn-same zero d c n = prepare-same c n d
turn-same (suc l) d c n = toward-same c n d (suc l)

pub at_same : (l x : ℕ) (c : State) (i : ℕ) → SameActive c (node_call_at l x c i).state
unfolding node_call_at tried_by
at_same l x c i = go (grow_state_of c (slice_index c.active i) == x)
  where
    go : (t : Bool) → SameActive c (if t then tried_by (node_call l (toward x) c (slice_index c.active i)) else begun c).state
    go true = turn-same l (toward x) c (slice_index c.active i)
    go false = record { active = refl; states = refl }

-- ---- the memory stays fit

toward-up : toward growing ≡ up
unfolding toward
toward-up = refl

toward-down : toward shrinking ≡ down
unfolding toward
toward-down = refl

pub going-steady : (x : ℕ) (b t : List ℤ) → CallsPossible x b t → (n : ℕ) → MemoryPreparable b t n (toward x)
going-steady x b t g n =
    by_cases (dec_eq x growing)
    (λ e. usable-steady (record { formed = g.formed; sounds = g.grows e; scratch = g.scratch }) n (toward x))
    (λ e.
    let s : x ≡ shrinking = g.known e in
    let p : Phase (state_of b) = g.shrinks s in
    record {
      formed = g.formed;
      scratch = g.scratch;
      readable = p.readable;
      able = λ h o d q. record { grows = λ y. absurd (never x s (q y)); shrinks = λ y. p.able n h o };
    })
  where
    never : (x : ℕ) → x ≡ shrinking → toward x ≢ up
    never x s q = let z : ◌≡◌ {A = ℕ} 0 1 = sym (ap toward s ∙ toward-down) ∙ q in omega arith

phase-turn : (l : ℕ) (c : State) (n : ℕ) → Phase c → Phase (node_call l down c n).state
unfolding node_call preparing moving
phase-turn zero c n p = phase-prepare c n p
phase-turn (suc l) c n p = phase-toward c n (suc l) p

still-turn : (l : ℕ) (c : State) (n : ℕ) → StillSound c → StillSound (node_call l up c n).state
unfolding node_call preparing moving
still-turn zero c n p = still-prepare c n p
still-turn (suc l) c n p = still-toward c n (suc l) p

pub at-phase : (l : ℕ) (c : State) (i : ℕ) → Phase c → Phase (node_call_at l shrinking c i).state
unfolding node_call_at tried_by
at-phase l c i p = go (grow_state_of c (slice_index c.active i) == shrinking)
  where
    go : (t : Bool) → Phase (if t then tried_by (node_call l (toward shrinking) c (slice_index c.active i)) else begun c).state
    go true = rw toward-down (phase-turn l c (slice_index c.active i) p)
    go false = p

pub at-sound : (l : ℕ) (c : State) (i : ℕ) → StillSound c → StillSound (node_call_at l growing c i).state
unfolding node_call_at tried_by
at-sound l c i p = go (grow_state_of c (slice_index c.active i) == growing)
  where
    go : (t : Bool) → StillSound (if t then tried_by (node_call l (toward growing) c (slice_index c.active i)) else begun c).state
    go true = rw toward-up (still-turn l c (slice_index c.active i) p)
    go false = p

-- after any call
pub going_on : (x l i r : ℕ) (b b' t t' : List ℤ) → CallsPossible x b t → TriedTo b b' r (node_call_at l x (state_of b) i) → t' ≡ t → CallsPossible x b' t'
going_on x l i r b b' t t' g p e =
    let q = p.block in
    let s = at_same l x (state_of b) i in
    record {
      formed = q.formed;
      scratch = e ∙ g.scratch ∙ scratch-same q;
      active = rw q.state (active-kept (state_of b) (node_call_at l x (state_of b) i).state s.active (count l x (state_of b) i) g.active);
      known = g.known;
      shrinks = λ z. rw (q.state, z) (at-phase l (state_of b) i (g.shrinks z));
      grows = λ z. rw (q.state, z)
          (at-sound l (state_of b) i
          (record
          { shape = laid-shape b g.formed.laid; one = formed-vertices b g.formed; sounds = g.grows z })).sounds;
    }
  where
    count : (l x : ℕ) (c : State) (i : ℕ) → node_count c ≤ node_count (node_call_at l x c i).state
    count l x c i = let e : node_count (node_call_at l x c i).state ≡ node_count c = ap (λ (k : List ℕ). length k) (at_same l x c i).states in omega arith

-- the number of what a call hands back is that of its answer
pub accepted-number : (a : Accepted) → 0 ≡ refusal_of (accepted_as a)
unfolding refusal_of
accepted-number (Accepts.Length m) = refl
accepted-number Accepts.Done = refl
accepted-number (Accepts.Node n) = refl
accepted-number (Accepts.Prepared k) = refl
accepted-number (Accepts.Vertex v) = refl

pub refused-number : (e : Refusal) → number e ≡ refusal_of (Refused (number e))
unfolding refusal_of
refused-number e = refl

-- ---- one call in a block

module _ {b b' : List ℤ} {a : Answer} (l n d r : ℕ) (e : r ≡ refusal_of a) where
  pub turn-prepared : l ≡ 0 → Replies b b' a (prepare_dual_node_growth (state_of b) n d) → TriedTo b b' r (tried_by (node_call l d (state_of b) n))
  unfolding tried_by node_call preparing
  turn-prepared z p = rw z (record { refusal = e ∙ ap refusal_of p.answer; block = p.block })

  pub turn_moved : l ≢ 0 → Replies b b' a (grow_toward (state_of b) n d l) → TriedTo b b' r (tried_by (node_call l d (state_of b) n))
  turn_moved z p = go l z p
    where
      go : (l : ℕ) → l ≢ 0 → Replies b b' a (grow_toward (state_of b) n d l) → TriedTo b b' r (tried_by (node_call l d (state_of b) n))
      go zero z p = absurd (z refl)
      go (suc l) z p = unfold tried_by node_call moving in (record { refusal = e ∙ ap refusal_of p.answer; block = p.block })

module _ {b : List ℤ} (l x i n : ℕ) (e : n ≡ slice_index (state_of b).active i) where
  pub turn-there : {b' : List ℤ} {r : ℕ} → grow_state_of (state_of b) n ≡ x
      → TriedTo b b' r (tried_by (node_call l (toward x) (state_of b) n)) → TriedTo b b' r (node_call_at l x (state_of b) i)
  unfolding node_call_at
  turn-there g p = rw (← e, eq-eqb (grow_state_of (state_of b) n) x g) p

  pub turn-passed : Formed b → grow_state_of (state_of b) n ≢ x → TriedTo b b 0 (node_call_at l x (state_of b) i)
  unfolding node_call_at
  turn-passed f g = rw (← e, ne_eqb (grow_state_of (state_of b) n) x g) (record { refusal = refl; block = becomes-none b (state_of b) f refl })
