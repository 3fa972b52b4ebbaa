-- Preparation in memory: pass after pass, until none is called for.
use Prim.Native.Nat.{ℕ, suc, ◌+◌, ◌≤◌, ◌<◌}
use native.Mathlib.Omega.{arith}
use Rattle.std.proofs.Math.Decide.{dec_lt}
use Rattle.std.specs.Prelude.{◌≡◌, Bool, List, ℤ, T, length}
use Rattle.std.proofs.Math.Path.{refl}
use Rattle.std.proofs.Common.{sym, ap, subst, ◌∙◌, eq-eqb, ne_eqb}
use Rattle.std.proofs.Math.Bool.{true, false}
use Rattle.std.proofs.Math.ListN.{get_or-eq_default}
use Rattle.graph.specs.State.{State, up, vertex_count, side_count, node_count}
use Rattle.graph.specs.Layout.{state_of}
use Rattle.graph.specs.Form.{Formed}
use Rattle.graph.specs.inner.Form.{Becomes}
use Rattle.graph.specs.laws.Row.{becomes-none, becomes-then}
use Rattle.graph.specs.laws.Field.{end_below}
use Rattle.pass.specs.Prepare.{one_pass, Prepared, prepare_from, prepare_node}
use Rattle.pass.specs.inner.Ends.{EndsIn}
use Rattle.pass.proofs.laws.Prepare.{pass_state, one-passed, one_up, one_down, prepare-more, prepare-last, left, left_le, pass-falls, prepare-fuel}
use Rattle.graph.specs.laws.Form.{laid-shape, formed-vertices}
use Rattle.pass.specs.inner.Ready.{Ready, Growable, Preparable, AfterPass, AfterPreparation}
use Rattle.pass.proofs.laws.Ready.{ready-again, sound-shrinkable, growable-again, shrinkable-again}

-- ---- of a block in form

pub formed-ends : (b : List ℤ) → Formed b → EndsIn (state_of b)
formed-ends b f s =
    let v : 1 ≤ vertex_count (state_of b) = formed-vertices b f in
    let l : length (state_of b).vertices.vertex_holder ≡ vertex_count (state_of b) = (laid-shape b f.laid).vertex_holder in
    elim (dec_lt s (side_count (state_of b))) [
      | yes h ↦ omega (arith, l, end_below b s f h)
      | no h ↦ rw (get_or-eq_default (state_of b).graph.end 0 {n = s} (omega arith)) (omega (arith, l, v))
    ]

-- ---- the state

pub sound-preparable : (b : List ℤ) → Formed b → (n d : ℕ) → n < node_count (state_of b) → Growable (state_of b) n → Preparable (state_of b) n d
sound-preparable b f n d h g = record { grows = λ e. g; shrinks = λ e. sound-shrinkable (state_of b) (laid-shape b f.laid) (formed-vertices b f) n h g }

pub preparable-again : (b t : List ℤ) (n d : ℕ) → Ready b t n → Preparable (state_of b) n d → Preparable (pass_state (state_of b) n d) n d
preparable-again b t n d q p = record {
  grows = λ e. rw (one_up (state_of b) n d (eq-eqb d up e))
      (growable-again (state_of b) (laid-shape b q.formed.laid) (formed-vertices b q.formed) n q.node q.room
      (p.grows e));
  shrinks = λ e. rw (one_down (state_of b) n d (ne_eqb d up e)) (shrinkable-again b q.formed n q.node (p.shrinks e));
}

-- ---- the loop

-- k passes are made; `more` says whether another is called for, and what remains gives the whole
pub record Preparing (b₀ b t₀ t : List ℤ) (n d k : ℕ) (more : Bool) : Type 0 where
  pub block : Becomes b₀ b (state_of b)
  pub scratch : t ≡ t₀
  pub ready : Ready b t n
  pub able : Preparable (state_of b) n d
  pub goes : more ≡ true → prepare_from (suc (left d (state_of b))) (state_of b) n d k ≡ prepare_node (state_of b₀) n d
  pub ends : more ≡ false → record { state = state_of b; passes = k } ≡ prepare_node (state_of b₀) n d
  pub room : more ≡ true → k + left d (state_of b) ≤ vertex_count (state_of b₀)
  pub most : k ≤ vertex_count (state_of b₀) + 1

-- how many passes can still follow
unfoldable pub remaining : Bool → ℕ → State → ℕ
remaining true d c = suc (left d c)
remaining false d c = 0

absurd-bool : {X : Type 0} → ◌≡◌ {A = Bool} true false → X
absurd-bool e = absurd (subst T e tt)

pub preparing-none : (b t : List ℤ) (n d : ℕ) → Ready b t n → Preparable (state_of b) n d → Preparing b b t t n d 0 true
unfolding prepare_node
preparing-none b t n d q g =
    let l : length (state_of b).vertices.vertex_holder ≡ vertex_count (state_of b) = (laid-shape b q.formed.laid).vertex_holder in
    record {
      block = becomes-none b (state_of b) q.formed refl;
      scratch = refl;
      ready = q;
      able = g;
      goes = λ e. prepare-fuel (suc (left d (state_of b))) (suc (vertex_count (state_of b))) (state_of b) n d 0
          (formed-ends b q.formed) (omega arith) (omega (arith, left_le d (state_of b), l));
      ends = λ e. absurd-bool e;
      room = λ e. omega (arith, left_le d (state_of b), l);
      most = omega arith;
    }

module _ {b₀ b b' t₀ t t' : List ℤ} {n d k : ℕ} {r : Bool} (p : Preparing b₀ b t₀ t n d k true) (a : AfterPass b b' t t' n (one_pass (state_of b) n d) r) where
  now-is : state_of b' ≡ pass_state (state_of b) n d
  now-is = a.block.state

  falls : r ≡ true → left d (state_of b') < left d (state_of b)
  falls e = rw now-is (pass-falls (state_of b) n d (formed-ends b p.ready.formed) (sym a.another ∙ e))

  pub preparing-falls : remaining r d (state_of b') < remaining true d (state_of b)
  unfolding remaining
  preparing-falls = go r refl
    where
      go : (x : Bool) → r ≡ x → remaining x d (state_of b') < suc (left d (state_of b))
      go true e = omega (arith, falls e)
      go false e = omega arith

  pub preparing-more : Preparing b₀ b' t₀ t' n d (k + 1) r
  preparing-more =
      let q : Ready b' t' n = ready-again p.ready (one-passed (state_of b) n d) a in
      record {
        block = becomes-then p.block (rw now-is a.block);
        scratch = a.scratch ∙ p.scratch;
        ready = q;
        able = rw now-is (preparable-again b t n d p.ready p.able);
        goes = λ e.
            prepare-fuel (suc (left d (state_of b'))) (left d (state_of b)) (state_of b') n d (k + 1) (formed-ends b' q.formed) (omega arith) (falls e)
            ∙ rw now-is (sym (prepare-more (left d (state_of b)) (state_of b) n d k (sym a.another ∙ e))) ∙ p.goes refl;
        ends = λ e. rw now-is (sym (prepare-last (left d (state_of b)) (state_of b) n d k (sym a.another ∙ e)) ∙ p.goes refl);
        room = λ e. omega (arith, falls e, p.room refl);
        most = omega (arith, p.room refl);
      }

pub preparing-all : {b₀ b t₀ t : List ℤ} {n d k : ℕ} → Preparing b₀ b t₀ t n d k false → AfterPreparation b₀ b t₀ t (prepare_node (state_of b₀) n d) k
preparing-all {b₀} {b} {t₀} {t} {n} {d} {k} p = record {
  block = rw (← ap (λ (x : Prepared). x.state) (p.ends refl)) p.block;
  scratch = p.scratch;
  passes = ap (λ (x : Prepared). x.passes) (p.ends refl);
}
