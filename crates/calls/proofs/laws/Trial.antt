-- What a trial over the active nodes leaves: whatever renewal and each node's call keep.
use Rattle.std.specs.Prelude.{◌≡◌, ℕ, true, not, ◌||◌, List, [], ◌∷◌, ◌==◌}
use Rattle.std.proofs.Common.{arith, sym, ◌∙◌}
use Rattle.std.proofs.Math.Path.{refl, ap}
use borrow.Author.Tests.{eqb-true, eqb-false}
use Rattle.graph.specs.Basic.{fold, member}
use Rattle.graph.specs.State.{State, growing, shrinking}
use Rattle.graph.specs.Sound.{state_sound}
use Rattle.graph.specs.Active.{renewed, active_in}
use Rattle.graph.specs.laws.State.{if-both, fold-keeps, fold-keeps-on}
use Rattle.graph.specs.laws.Members.{by-test, or_right, all_from}
use Rattle.answers.specs.Outcome.{Answer}
use Rattle.answers.specs.Answer.{Reply, says}
use Rattle.calls.specs.Refuse.{unless}
use Rattle.calls.proofs.laws.Accepted.{unless-cases}
pub use Rattle.calls.specs.Round.{begun}
use Rattle.calls.specs.Round.{Tried, refusal_of, tried_by, try_step, try_all, none_of, sound_again, in_turn, tried}

module _ (P : State → Type 0) where
  -- P holds of what the call f leaves of any node
  abbrev pub CallKeeps : (State → ℕ → Reply) → Type 0
  CallKeeps f = (c : State) (n : ℕ) → P c → P (f c n).state

  abbrev Holds : Tried → Type 0
  Holds t = P t.state

  pub try-keeps : (f : State → ℕ → Reply) → CallKeeps f → (t : Tried) (ns : List ℕ) → Holds t → Holds (try_all f t ns)
  unfolding try_all try_step tried_by
  try-keeps f k t ns h = fold-keeps (try_step f) Holds (λ u n p. if-both Holds (u.refusal == 0) (k u.state n p) p) t ns h

  pub again-keeps : (ms ns : List ℕ) (t : Tried) → Holds t → Holds (sound_again ms ns t)
  unfolding sound_again
  again-keeps ms ns t h = if-both Holds (none_of ms || none_of ns || not (t.refusal == 0) || state_sound t.state) h h

  pub turn-keeps : (f g : State → ℕ → Reply) → CallKeeps f → CallKeeps g → (c : State) → P (renewed c) → Holds (in_turn f g c)
  unfolding in_turn
  turn-keeps f g kf kg c h =
      try-keeps g kg _ (active_in (renewed c) growing)
      (again-keeps (active_in (renewed c) shrinking) (active_in (renewed c) growing) _
      (try-keeps f kf (record { refusal = 0; state = renewed c }) (active_in (renewed c) shrinking) h))

  pub tried-keeps : (c : State) (t : Tried) (a : Answer) → P c → Holds t → P (tried c t a).state
  unfolding tried unless says
  tried-keeps c t a h k = if-both (λ (x : Reply). P x.state) (t.refusal == 0) k h

-- ---- what an accepted trial has shown

-- a reply that is not refused
pub unless-accepted : (k : ℕ) (c : State) (r : Reply) → refusal_of (unless k c r).answer ≡ 0 → (k ≡ 0) × (unless k c r ≡ r)
unfolding unless says refusal_of
unless-accepted k c r h =
    by-test (k == 0)
    (λ e. (eqb-true k 0 e, rw e refl))
    (λ e. absurd (eqb-false k 0 e (rw e at h)))

module _ (f : State → ℕ → Reply) where
  pub try-start : (t : Tried) (ns : List ℕ) → (try_all f t ns).refusal ≡ 0 → t.refusal ≡ 0
  unfolding try_all fold
  try-start t [] h = h
  try-start t (n ∷ ns) h =
      let ih : (try_step f t n).refusal ≡ 0 = try-start (try_step f t n) ns h in
      by-test (t.refusal == 0)
      (λ e. eqb-true t.refusal 0 e)
      (λ e. let k : try_step f t n ≡ t = unfold try_step in (rw e refl) in ap (λ (u : Tried). u.refusal) (sym k) ∙ ih)

  -- a trial from c over n and then ns that is not refused: n was not, and the trial goes on from what n's call left
  pub record Stepped (c : State) (n : ℕ) (ns : List ℕ) : Type 0 where
    pub first : refusal_of (f c n).answer ≡ 0
    pub next : try_all f (begun c) (n ∷ ns) ≡ try_all f (begun (f c n).state) ns

  pub try-step : (c : State) (n : ℕ) (ns : List ℕ) → (try_all f (begun c) (n ∷ ns)).refusal ≡ 0 → Stepped c n ns
  unfolding try_all fold try_step tried_by
  try-step c n ns h =
      let first : refusal_of (f c n).answer ≡ 0 =
      try-start (record { refusal = refusal_of (f c n).answer; state = (f c n).state }) ns
      (unfold try_all try_step tried_by in h) in
      record { first = first; next = rw first refl }

pub again-accepted : (ms ns : List ℕ) (t : Tried) → (sound_again ms ns t).refusal ≡ 0 → sound_again ms ns t ≡ t
unfolding sound_again
again-accepted ms ns t h =
    by-test (none_of ms || none_of ns || not (t.refusal == 0) || state_sound t.state)
    (λ e. rw e refl)
    (λ e. let z : ◌≡◌ {A = ℕ} 2 0 = rw e at h in absurd (omega arith))

-- where the state is sound the second test changes nothing
pub again-sound : (ms ns : List ℕ) (t : Tried) → state_sound t.state ≡ true → sound_again ms ns t ≡ t
unfolding sound_again
again-sound ms ns t h =
    let e : (none_of ms || none_of ns || not (t.refusal == 0) || state_sound t.state) ≡ true =
    or_right (none_of ms || none_of ns || not (t.refusal == 0)) (state_sound t.state) h in
    rw e refl

-- both parts of an accepted trial from the renewed state r
pub record Turned (f g : State → ℕ → Reply) (c : State) : Type 0 where
  pub shrunk : (try_all f (begun (renewed c)) (active_in (renewed c) shrinking)).refusal ≡ 0
  pub grown : (try_all g (begun (try_all f (begun (renewed c)) (active_in (renewed c) shrinking)).state) (active_in (renewed c) growing)).refusal ≡ 0
  pub state : (in_turn f g c).state
      ≡ (try_all g (begun (try_all f (begun (renewed c)) (active_in (renewed c) shrinking)).state)
      (active_in (renewed c) growing)).state

pub turn-accepted : (f g : State → ℕ → Reply) (c : State) → (in_turn f g c).refusal ≡ 0 → Turned f g c
unfolding in_turn
turn-accepted f g c h =
    let ms : List ℕ = active_in (renewed c) shrinking in
    let ns : List ℕ = active_in (renewed c) growing in
    let t : Tried = try_all f (begun (renewed c)) ms in
    let e : sound_again ms ns t ≡ t = again-accepted ms ns t (try-start g (sound_again ms ns t) ns h) in
    let z : t.refusal ≡ 0 = ap (λ (u : Tried). u.refusal) (sym e) ∙ try-start g (sound_again ms ns t) ns h in
    let b : t ≡ begun t.state = tried-eq t z in
    let w : try_all g (sound_again ms ns t) ns ≡ try_all g (begun t.state) ns = ap (λ (u : Tried). try_all g u ns) (e ∙ b) in
    record { shrunk = z; grown = ap (λ (u : Tried). u.refusal) (sym w) ∙ h; state = ap (λ (u : Tried). u.state) w }
  where
    tried-eq : (t : Tried) → t.refusal ≡ 0 → t ≡ begun t.state
    tried-eq t e = ap (λ (k : ℕ). record { refusal = k; state = t.state }) e

-- ---- which numbers a trial meets

-- where Q holds, each node's call leaves Q and is refused by a number of which R holds: so does the trial
pub try-among : (Q : State → Type 0) (R : ℕ → Type 0) (f : State → ℕ → Reply) (t : Tried) (ns : List ℕ)
    → ((c : State) (n : ℕ) → member n ns ≡ true → Q c → Q (f c n).state × R (refusal_of (f c n).answer))
    → Q t.state → R t.refusal → Q (try_all f t ns).state × R (try_all f t ns).refusal
unfolding try_all try_step tried_by
try-among Q R f t ns k q r =
    fold-keeps-on (try_step f) (λ n. member n ns) (λ (u : Tried). Q u.state × R u.refusal)
    (λ u n m h. if-both (λ (v : Tried). Q v.state × R v.refusal) (u.refusal == 0) (k u.state n m h.0) h)
    t ns (all_from (λ n. member n ns) ns (λ n m. m)) (q, r)

pub turn-among : (Q : State → Type 0) (R : ℕ → Type 0) (f g : State → ℕ → Reply) (c : State) → ((d : State) → Q d → state_sound d ≡ true)
    → ((d : State) (n : ℕ) → member n (active_in (renewed c) shrinking) ≡ true → Q d → Q (f d n).state × R (refusal_of (f d n).answer))
    → ((d : State) (n : ℕ) → member n (active_in (renewed c) growing) ≡ true → Q d → Q (g d n).state × R (refusal_of (g d n).answer))
    → Q (renewed c) → R 0 → Q (in_turn f g c).state × R (in_turn f g c).refusal
unfolding in_turn
turn-among Q R f g c s kf kg q r =
    let ms : List ℕ = active_in (renewed c) shrinking in
    let ns : List ℕ = active_in (renewed c) growing in
    let t : Tried = try_all f (begun (renewed c)) ms in
    let a : Q t.state × R t.refusal = try-among Q R f (begun (renewed c)) ms kf q r in
    let e : sound_again ms ns t ≡ t = again-sound ms ns t (s t.state a.0) in
    rw e (try-among Q R g t ns kg a.0 a.1)

pub unless-among : (R : ℕ → Type 0) (k : ℕ) (c : State) (r : Reply) → R k → (k ≡ 0 → R (refusal_of r.answer)) → R (refusal_of (unless k c r).answer)
unfolding says refusal_of
unless-among R k c r h g = unless-cases (λ (x : Reply). R (refusal_of x.answer)) k c r (λ e. h) g
