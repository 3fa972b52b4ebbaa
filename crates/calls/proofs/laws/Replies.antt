-- What the calls on a node leave: a refusal with nothing changed, or the state that is defined.
use Rattle.std.specs.Prelude.{◌≡◌, ℕ, zero, suc, ◌<◌, ◌≤◌, Bool, true, false, ◌&&◌, ◌≢◌, List, [], ◌∷◌, ℤ, pos, negsuc, ◌==◌, nat_lt, unsigned_abs}
use Rattle.std.proofs.Common.{arith, sym, ◌∙◌, eq-eqb, ne_eqb}
use Rattle.std.proofs.Math.Decide.{ℕ_discrete as dec_eq}
use Rattle.std.proofs.Math.Path.{refl, ap}
use Rattle.std.specs.Int.Signed.{non_neg}
use Rattle.graph.specs.State.{State, up, down, shrinking, node_count, with_grow_state}
use Rattle.graph.specs.Active.{activated}
use Rattle.graph.specs.Sound.{sound}
use Rattle.graph.specs.Layout.{state_of}
use Rattle.graph.specs.Form.{Formed}
use Rattle.graph.specs.inner.Form.{Becomes, sides_ok}
use Rattle.graph.specs.laws.Row.{becomes-none, becomes-then}
use Rattle.pass.specs.Prepare.{prepare_node}
use Rattle.pass.specs.inner.Ready.{Ready, Preparable, AfterPreparation}
use Rattle.pass.proofs.laws.Preparing.{sound-preparable}
use Rattle.graph.specs.laws.Form.{laid-shape}
use Rattle.graph.specs.laws.Members.{by-test}
use Rattle.pass.proofs.laws.Scratch.{scratch-same}
use Rattle.answers.specs.Outcome.{Answer}
use Rattle.answers.specs.Outcome.{Done, Refused}
use Rattle.answers.specs.Outcome as Says
use Rattle.answers.specs.Answer.{Reply, says}
use Rattle.calls.specs.Refuse.{store_short, node_refusal, unless}
use Rattle.update_length.specs.Scan.{scan}
use Rattle.growth.specs.Growth.{grow_check, grow_apply}
use Rattle.calls.specs.Calls.{set_grow_state, prepare_dual_node_growth, readied, max_update_length, grow_prepared, grow_toward, grow_dual_node}
use Rattle.graph.specs.inner.Readable.{Readable}
use Rattle.growth.specs.inner.Moving.{PreparedToMove}
use Rattle.calls.specs.inner.Reply.{Replies, along, MemoryPreparable, Usable}
use Rattle.calls.proofs.laws.Accepted.{NodeAccepted, node-accepted, store-room}
use Rattle.calls.proofs.laws.Refuse.{entries_with}
use Rattle.calls.proofs.laws.Readable.{sound-readable, sound-sides-ok, prepared-up, prepared-readable, prepared-sides-ok, prepared-once}

-- ---- refused, or not

pub replies-refused : (b : List ℤ) (r : Reply) (k : ℕ) → Formed b → k ≢ 0 → Replies b b (Refused k) (unless k (state_of b) r)
unfolding unless says
replies-refused b r k f n = rw (ne_eqb k 0 n) (record { answer = refl; block = becomes-none b (state_of b) f refl })

pub replies-accepted : {b₀ b : List ℤ} {a : Answer} {r : Reply} (k : ℕ) → k ≡ 0 → Replies b₀ b a r → Replies b₀ b a (unless k (state_of b₀) r)
unfolding unless
replies-accepted k e p = rw (eq-eqb k 0 e) p

-- ---- set state

module _ (b : List ℤ) (n x k : ℕ) (e : k ≡ node_refusal (state_of b) n (nat_lt shrinking x) false) where
  pub set-refused : Formed b → k ≢ 0 → Replies b b (Refused k) (set_grow_state (state_of b) n x)
  unfolding set_grow_state
  set-refused f h = rw (← e) (replies-refused b (record { answer = Done; state = with_grow_state (activated (state_of b) n x) n x }) k f h)

  pub set-accepted : k ≡ 0 → NodeAccepted (state_of b) n (nat_lt shrinking x) false
  set-accepted h = node-accepted (state_of b) n (nat_lt shrinking x) false (sym e ∙ h)

  pub set-done : {b' : List ℤ} → k ≡ 0 → Becomes b b' (with_grow_state (activated (state_of b) n x) n x) → Replies b b' Done (set_grow_state (state_of b) n x)
  unfolding set_grow_state
  set-done h p = rw (← e) (replies-accepted k h (record { answer = refl; block = p }))

-- ---- what a preparation asks, where the call is accepted

-- a sound block can be prepared in every direction
pub usable-steady : {b t : List ℤ} → Usable b t → (n d : ℕ) → MemoryPreparable b t n d
usable-steady {b} u n d = record {
  formed = u.formed;
  scratch = u.scratch;
  readable = sound-readable (state_of b) (laid-shape b u.formed.laid) u.sounds;
  able = λ h o e q. sound-preparable b u.formed n e h (record { sounds = u.sounds; outer = o });
}

-- and so can one that can be prepared upward
pub steady-other : {b t : List ℤ} {n : ℕ} → MemoryPreparable b t n up → (d : ℕ) → MemoryPreparable b t n d
steady-other s d = record { formed = s.formed; scratch = s.scratch; readable = s.readable; able = λ h o e q. s.able h o e (λ x. refl) }

module _ {b t : List ℤ} {n d : ℕ} (u : MemoryPreparable b t n d) (wrong : Bool) (a : NodeAccepted (state_of b) n wrong (store_short (state_of b) (n ∷ []) 1)) where
  pub accepted-ready : Ready b t n
  accepted-ready = record {
    formed = u.formed;
    node = a.inside;
    scratch = u.scratch;
    room = omega (arith, store-room (state_of b) (n ∷ []) 1 a.room, entries_with (state_of b) n a.inside);
  }

  pub accepted-able : Preparable (state_of b) n d
  accepted-able = u.able a.inside a.outer d (λ e. e)

  module _ {b' t' : List ℤ} {k : ℕ} (p : AfterPreparation b b' t t' (prepare_node (state_of b) n d) k) where
    prepared-read : Readable (state_of b')
    prepared-read = rw p.block.state (prepared-readable b u.formed n d a.inside u.readable accepted-able a.room)

    -- what is prepared can be scanned and grown
    pub prepared-grows : PreparedToMove (state_of b') n
    prepared-grows = record {
      readable = prepared-read;
      node = omega (arith, p.block.nodes, a.inside);
      sides = rw p.block.state (prepared-sides-ok b u.formed n d a.inside u.readable accepted-able a.room);
      once = rw p.block.state (prepared-once b u.formed n d a.inside u.readable accepted-able a.room);
    }

    -- and prepared again
    pub prepared-steady : Preparable (state_of b') n d → MemoryPreparable b' t' n d
    prepared-steady g = record {
      formed = p.block.formed;
      scratch = p.scratch ∙ u.scratch ∙ scratch-same p.block;
      readable = prepared-read;
      able = λ h o e q.
          elim (dec_eq d up) [
            | yes x ↦ sound-preparable b' p.block.formed n e h
                (rw p.block.state (prepared-up b u.formed n d a.inside u.readable accepted-able a.room x))
            | no x ↦ record { grows = λ y. absurd (x (q y)); shrinks = λ y. g.shrinks x }
          ];
    }

-- ---- prepare

module _ {b : List ℤ} (f : Formed b) (n d k : ℕ) (e : k ≡ node_refusal (state_of b) n (nat_lt up d) (store_short (state_of b) (n ∷ []) 1)) where
  pub prepare-refused : k ≢ 0 → Replies b b (Refused k) (prepare_dual_node_growth (state_of b) n d)
  unfolding prepare_dual_node_growth
  prepare-refused h =
      rw (← e)
      (replies-refused b
      (record { answer = Says.Prepared (prepare_node (state_of b) n d).passes; state = (prepare_node (state_of b) n d).state })
      k f h)

  pub prepare-accepted : k ≡ 0 → NodeAccepted (state_of b) n (nat_lt up d) (store_short (state_of b) (n ∷ []) 1)
  prepare-accepted h = node-accepted (state_of b) n (nat_lt up d) (store_short (state_of b) (n ∷ []) 1) (sym e ∙ h)

  pub prepare-done : {t b' t' : List ℤ} {j : ℕ} → k ≡ 0 → AfterPreparation b b' t t' (prepare_node (state_of b) n d) j
      → Replies b b' (Says.Prepared j) (prepare_dual_node_growth (state_of b) n d)
  unfolding prepare_dual_node_growth
  prepare-done h p = rw (← e) (replies-accepted k h (record { answer = ap Says.Prepared p.passes; block = p.block }))

-- ---- length

module _ {b : List ℤ} (f : Formed b) (n d k : ℕ) (first : Bool)
    (e : k ≡ node_refusal (state_of b) n (nat_lt up d) (first && store_short (state_of b) (n ∷ []) 1)) where
  pub length-refused : k ≢ 0 → Replies b b (Refused k) (max_update_length (state_of b) n d first)
  unfolding max_update_length
  length-refused h = rw (← e) (replies-refused b (record { answer = scan (readied (state_of b) n d first) n d; state = readied (state_of b) n d first }) k f h)

  pub length-accepted : k ≡ 0 → NodeAccepted (state_of b) n (nat_lt up d) (first && store_short (state_of b) (n ∷ []) 1)
  length-accepted h = node-accepted (state_of b) n (nat_lt up d) (first && store_short (state_of b) (n ∷ []) 1) (sym e ∙ h)

  pub length-first : first ≡ true → k ≡ 0 → NodeAccepted (state_of b) n (nat_lt up d) (store_short (state_of b) (n ∷ []) 1)
  length-first g h = let a = length-accepted h in record { inside = a.inside; live = a.live; right = a.right; outer = a.outer; room = rw g at a.room }

  -- as it is
  pub length-plain : {a : Answer} → first ≡ false → k ≡ 0 → a ≡ scan (state_of b) n d → Replies b b a (max_update_length (state_of b) n d first)
  unfolding max_update_length readied
  length-plain g h p = rw (← e) (replies-accepted k h (rw g (record { answer = p; block = becomes-none b (state_of b) f refl })))

  -- prepared first
  pub length-prepared : {a : Answer} {t b' t' : List ℤ} {j : ℕ} → first ≡ true → k ≡ 0
      → AfterPreparation b b' t t' (prepare_node (state_of b) n d) j → a ≡ scan (state_of b') n d
      → Replies b b' a (max_update_length (state_of b) n d first)
  unfolding max_update_length readied
  length-prepared g h p q = rw (← e) (replies-accepted k h (rw g (record { answer = q ∙ ap (λ c. scan c n d) p.block.state; block = p.block })))

-- ---- a sound state is scanned as it is

pub sound-scanned : {b : List ℤ} → Formed b → sound (state_of b) ≡ true → (n : ℕ) → n < node_count (state_of b)
    → Readable (state_of b) × (sides_ok (state_of b) n ≡ true)
sound-scanned {b} f s n h = (sound-readable (state_of b) (laid-shape b f.laid) s, sound-sides-ok (state_of b) s n h)

-- ---- growth

module _ (b : List ℤ) (n d l k : ℕ) (e : k ≡ grow_check (state_of b) n d l) where
  pub growth-refused : Formed b → k ≢ 0 → Replies b b (Refused k) (grow_prepared (state_of b) n d l)
  unfolding grow_prepared
  growth-refused f h = rw (← e) (replies-refused b (record { answer = Done; state = grow_apply (state_of b) n d l }) k f h)

  pub growth-done : {b' : List ℤ} → k ≡ 0 → Becomes b b' (grow_apply (state_of b) n d l) → Replies b b' Done (grow_prepared (state_of b) n d l)
  unfolding grow_prepared
  growth-done h p = rw (← e) (replies-accepted k h (record { answer = refl; block = p }))

module _ {b : List ℤ} (f : Formed b) (n d l k : ℕ) (e : k ≡ node_refusal (state_of b) n false (store_short (state_of b) (n ∷ []) 1)) where
  pub toward-refused : k ≢ 0 → Replies b b (Refused k) (grow_toward (state_of b) n d l)
  unfolding grow_toward
  toward-refused h = rw (← e) (replies-refused b (grow_prepared (prepare_node (state_of b) n d).state n d l) k f h)

  pub toward-accepted : k ≡ 0 → NodeAccepted (state_of b) n false (store_short (state_of b) (n ∷ []) 1)
  toward-accepted h = node-accepted (state_of b) n false (store_short (state_of b) (n ∷ []) 1) (sym e ∙ h)

  pub toward-done : {t b' t' b'' : List ℤ} {a : Answer} {j : ℕ} → k ≡ 0
      → AfterPreparation b b' t t' (prepare_node (state_of b) n d) j → Replies b' b'' a (grow_prepared (state_of b') n d l)
      → Replies b b'' a (grow_toward (state_of b) n d l)
  unfolding grow_toward
  toward-done {b' = b'} h p q =
      let r : grow_prepared (state_of b') n d l ≡ grow_prepared (prepare_node (state_of b) n d).state n d l = ap (λ c. grow_prepared c n d l) p.block.state in
      rw (← e) (replies-accepted k h (rw (← r) (record { answer = q.answer; block = becomes-then p.block q.block })))

-- a length is 0, above or below
along-none : (c : State) (n d : ℕ) (z : ℤ) → unsigned_abs z ≡ 0 → grow_dual_node c n (along d z) ≡ unless (node_refusal c n false false) c (says Done c)
unfolding grow_dual_node along
along-none c n d (pos zero) h = by-test (d == up) (λ e. rw e) (λ e. rw e)
along-none c n d (pos (suc l)) h = absurd (omega arith)
along-none c n d (negsuc l) h = absurd (omega arith)

-- where it is not below 0, the node grows in that direction
pub along-forth : (c : State) (n d : ℕ) (z : ℤ) → d ≤ 1 → unsigned_abs z ≢ 0 → non_neg z ≡ true → grow_dual_node c n (along d z) ≡ grow_toward c n d (unsigned_abs z)
unfolding grow_dual_node along
along-forth c n zero (pos (suc l)) k h s = refl
along-forth c n (suc zero) (pos (suc l)) k h s = refl
along-forth c n (suc (suc d)) z k h s = absurd (omega arith)
along-forth c n zero (pos zero) k h s = absurd (h refl)
along-forth c n (suc zero) (pos zero) k h s = absurd (h refl)
along-forth c n zero (negsuc l) k h s = cc
along-forth c n (suc zero) (negsuc l) k h s = cc

-- and where it is below, it is the upward direction that turns
pub along-back : (c : State) (n : ℕ) (z : ℤ) → non_neg z ≡ false → grow_dual_node c n (along up z) ≡ grow_toward c n down (unsigned_abs z)
unfolding grow_dual_node along
along-back c n (pos l) s = cc
along-back c n (negsuc l) s = refl

pub along-up : (z : ℤ) → along up z ≡ z
unfolding along
along-up z = refl

module _ (b : List ℤ) (n d k : ℕ) (z : ℤ) (zero-length : unsigned_abs z ≡ 0) (e : k ≡ node_refusal (state_of b) n false false) where
  pub none-refused : Formed b → k ≢ 0 → Replies b b (Refused k) (grow_dual_node (state_of b) n (along d z))
  none-refused f h = rw (along-none (state_of b) n d z zero-length, ← e) (replies-refused b (says Done (state_of b)) k f h)

  pub none_done : Formed b → k ≡ 0 → Replies b b Done (grow_dual_node (state_of b) n (along d z))
  unfolding says
  none_done f h =
      rw (along-none (state_of b) n d z zero-length, ← e)
      (replies-accepted k h (record { answer = refl; block = becomes-none b (state_of b) f refl }))
