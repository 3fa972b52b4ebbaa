-- Calls on memory that has passed the tests: what they leave, and what is known of it.
use Rattle.std.specs.Prelude.{◌≡◌, ℕ, Bool, true, false, not, ◌&&◌, ◌≢◌, List, [], ◌∷◌, length, ℤ, pos, negsuc, ◌==◌, unsigned_abs}
use Rattle.std.proofs.Common.{arith, sym, ap, ◌∙◌}
use Rattle.std.specs.Prelude.{refl}
use Rattle.std.proofs.lemmas.List.{length-replicate}
use Rattle.std.proofs.lemmas.Bool.{not-false}
use Rattle.graph.specs.State.{State, down, stay, grow_state_of}
use Rattle.graph.specs.Layout.{state_of, memory_refusal}
use Rattle.graph.specs.Form.{Formed}
use Rattle.graph.specs.laws.Members.{or_left, or_right}
use Rattle.memory_tests.specs.laws.Memory.{memory-accepted}
use Rattle.pass.specs.Scratch.{zero_scratch}
use Rattle.answers.specs.Outcome.{Answer}
use Rattle.answers.specs.Answer.{Reply, says}
use Rattle.calls.specs.Refuse.{store_short, node_refusal}
use Rattle.calls.specs.Calls.{toward}
use Rattle.calls.specs.Keeps.{refused_or, grow_keeps, follow_keeps, moves_keeps, advance_keeps}
use Rattle.calls.specs.inner.Reply.{RepliesInsert, Replies, Usable}
use Rattle.calls.proofs.laws.Keeps.{asked-true, length-refused-passes, toward-refused-passes}
use Rattle.dual_module.specs.Called.{CalledWithScratch}
use Rattle.dual_module.specs.inner.Known.{KnownZero}
use Rattle.dual_module.proofs.laws.Called.{call-same-scratch, call-done-scratch, insert-same-scratch, insert-done-scratch}
use Rattle.dual_module.proofs.laws.Called.{lendable-usable, toward-below, length-short}

-- ---- the scratch

-- where nothing is said, nothing is known
pub known-none : (t : List ℤ) → KnownZero false t
known-none t h = cc

zero-length : (n : ℕ) → length (zero_scratch n) ≡ n
unfolding zero_scratch
zero-length n = length-replicate n (pos 0)

-- a core leaves the scratch all zero
pub known-left : {t' t₁ : List ℤ} (n : ℕ) → t₁ ≡ zero_scratch n → t' ≡ t₁ → KnownZero true t'
known-left n e d h = let z = d ∙ e in z ∙ ap zero_scratch (sym (ap length z ∙ zero-length n))

-- once the scratch is set to zero a core can run
pub passed-usable : (b t : List ℤ) → memory_refusal b t ≡ 0 → {t₁ : List ℤ} → t₁ ≡ zero_scratch (length t) → Usable b t₁
passed-usable b t p e = rw e (lendable-usable (memory-accepted b t p))

-- ---- the call

-- what a function hands on as it is told
told-as : {k : ℕ} {b t b' t' : List ℤ} {w : Bool} {r : Reply} {a a' : Answer} {kept told zero' zero y : Bool}
    → (a' ≡ a) × (kept ≡ told) × (zero' ≡ zero) → CalledWithScratch k b t b' t' a w r → told ≡ y → KnownZero zero t'
    → CalledWithScratch k b t b' t' a' w r × (kept ≡ y) × KnownZero zero' t'
told-as h p e known = rw (h.0, h.2) (p, h.1 ∙ e, known)

module _ (b t : List ℤ) (passed : memory_refusal b t ≡ 0) {w : Bool} {r : Reply} {a a' : Answer} {kept zero' : Bool} where
  -- nothing is written: as much is known as before
  module _ {ask zero : Bool} (h : (a' ≡ a) × (kept ≡ ask) × (zero' ≡ zero)) (known : KnownZero zero t) (g : w ≡ false) {keeps : Bool} (e : keeps ≡ true) where
    pub known_same : Replies b b a r → CalledWithScratch (memory_refusal b t) b t b t a' w r × (kept ≡ (ask && keeps)) × KnownZero zero' t
    known_same p = told-as h (call-same-scratch refl passed b t g p) (asked-true ask e) known

    pub known-same-insert : RepliesInsert b b a r
        → CalledWithScratch (memory_refusal b t) b t b t a' w r × (kept ≡ (ask && keeps)) × KnownZero zero' t
    known-same-insert p = told-as h (insert-same-scratch refl passed b t g p) (asked-true ask e) known

  -- the core has run
  module _ {b' t₁ t' : List ℤ} {told y : Bool} (h : (a' ≡ a) × (kept ≡ told) × (zero' ≡ true)) (g : w ≡ true)
      (z : t₁ ≡ zero_scratch (length t)) (d : t' ≡ t₁) (e : told ≡ y) where
    pub known-done : Replies b b' a r → CalledWithScratch (memory_refusal b t) b t b' t' a' w r × (kept ≡ y) × KnownZero zero' t'
    known-done p = told-as h (call-done-scratch refl passed b t g z d p) e (known-left (length t) z d)

    pub known-done-insert : RepliesInsert b b' a r → CalledWithScratch (memory_refusal b t) b t b' t' a' w r × (kept ≡ y) × KnownZero zero' t'
    known-done-insert p = told-as h (insert-done-scratch refl passed b t g z d p) e (known-left (length t) z d)

-- ---- calls that keep a sound state sound, whatever the state

-- growth by 0
pub grow-none-passes : (c : State) (n : ℕ) (z : ℤ) → unsigned_abs z ≡ 0 → grow_keeps c n z ≡ true
unfolding grow_keeps
grow-none-passes c n (pos l) h = refl
grow-none-passes c n (negsuc l) h = absurd (omega arith)

-- growth that is refused
pub grow-refused-passes : (c : State) (n k : ℕ) → k ≡ node_refusal c n false (store_short c (n ∷ []) 1) → k ≢ 0 → (z : ℤ) → grow_keeps c n z ≡ true
unfolding grow_keeps
grow-refused-passes c n k e h (pos l) = refl
grow-refused-passes c n k e h (negsuc l) = toward-refused-passes c n down k e h

-- advance of a node that does not move
pub advance-still-passes : (c : State) (n : ℕ) → not (grow_state_of c n == stay) ≡ false → advance_keeps c n ≡ true
unfolding advance_keeps refused_or
advance-still-passes c n h =
    or_right (not (node_refusal c n false false == 0)) _ (or_left (grow_state_of c n == stay) _ (not-false _ h))

-- advance that is refused
module _ {b : List ℤ} (f : Formed b) (n k : ℕ)
    (e : k ≡ node_refusal (state_of b) n false (store_short (state_of b) (n ∷ []) 1)) (h : k ≢ 0)
    (s : not (grow_state_of (state_of b) n == stay) ≡ true) where
  moves-short-passes : (x : ℕ) → moves_keeps (state_of b) n x ≡ true
  unfolding moves_keeps follow_keeps says
  moves-short-passes x = rw (length-short f n k e h s x, length-refused-passes (state_of b) n (toward x) k (rw (toward-below x) e) h)

  pub advance-short-passes : advance_keeps (state_of b) n ≡ true
  unfolding advance_keeps refused_or
  advance-short-passes =
      or_right (not (node_refusal (state_of b) n false false == 0)) _
      (or_right (grow_state_of (state_of b) n == stay) _ (moves-short-passes (grow_state_of (state_of b) n)))
