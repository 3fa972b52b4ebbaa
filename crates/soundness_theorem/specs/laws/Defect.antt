-- Insertion of a defect leaves a sound state sound, whatever sound state it is.
use Rattle.std.specs.Prelude.{ℕ, ◌+◌, ◌<◌, ◌≡◌, refl}
use Rattle.std.proofs.Common.{arith, sym, ◌∙◌, ⊎_elim}
use Rattle.std.proofs.Math.Dec.{eqb}
use borrow.Author.Tests.{eq-eqb}
use Rattle.graph.specs.Basic.{all, member, distinct}
use Rattle.graph.specs.State.{State, node_count, holder_at, vertex_holder_at, sides_at}
use Rattle.graph.specs.Active.{join_active}
use Rattle.graph.specs.laws.Active.{join-sound}
use Rattle.graph.specs.laws.Members.{by-test, all_from}
use Rattle.graph.specs.laws.Shape.{OwnLists, sound-active}
use Rattle.calls.specs.Insert.{defect_refusal, defect_put, insert_defect}
use Rattle.calls.proofs.laws.Accepted.{DefectAccepted, defect-accepted}
use Rattle.reachable.specs.Numbers.{SoundNumbers}
use Rattle.reachable.specs.laws.insert.DefectState.{DefectMade, defect-made}
use Rattle.reachable.specs.laws.insert.DefectNumbers.{old-or-new, made-numbers, made-entries}
use Rattle.reachable.specs.laws.insert.DefectLive.{defect-empty}
use Rattle.soundness_theorem.specs.KeptSound.{KeptSound}
use Rattle.soundness_theorem.specs.laws.Lists.{SoundLists, lists_of, lists-sound, own-moved}
use Rattle.soundness_theorem.specs.laws.States.{SoundState, plain, empty, kept_by, after_kept, kept_then, kept-active, kept-unless}

-- ---- what is listed is held

module _ (c : State) (y : SoundLists c) (v x : ℕ) (ok : DefectAccepted c v x) (made : State) (p : DefectMade c v x made) where
  numbers : SoundNumbers made
  numbers = made-numbers c y.numbers v x ok made p

  -- what is held stays held
  old-side : (m s : ℕ) → holder_at c s ≡ m + 1 → holder_at made s ≡ m + 1
  old-side m s e =
      by-test (member s (sides_at c v)) (λ h. absurd (let z : holder_at c s ≡ 0 = ok.sides s h in omega arith)) (λ h. (p.side-off s h).0 ∙ e)

  old-vertex : (m u : ℕ) → vertex_holder_at c u ≡ m + 1 → vertex_holder_at made u ≡ m + 1
  old-vertex m u e = p.vertex-holder-off u (λ q. let z : vertex_holder_at c v ≡ m + 1 = rw q at e in omega (arith, ok.free)) ∙ e

  new-own : OwnLists made (node_count c)
  unfolding all distinct
  new-own =
      let b : node_count c < node_count made = omega (arith, p.made-count) in
      record {
        sides-once = (numbers.once (node_count c) b p.parent-new).sides;
        vertices-once = (numbers.once (node_count c) b p.parent-new).vertices;
        sides-held = rw p.boundary-new
            (all_from (λ s. eqb (holder_at made s) (node_count c + 1)) (sides_at c v) (λ s h. eq-eqb _ _ (p.side-in s h).0));
        vertices-held = rw p.overgrown-new refl;
      }

  defect-lists : SoundLists made
  defect-lists = record {
    numbers = numbers;
    own = λ m b o.
        ⊎_elim
        (λ (a : m < node_count c).
        own-moved c made m (p.boundary-old m a) (p.overgrown-old m a) (old-side m) (old-vertex m) (y.own m a (sym (p.parent-old m a) ∙ o)))
        (λ (a : m ≡ node_count c). rw a new-own)
        (old-or-new c y.numbers v x ok made p m b);
  }

-- ---- the call

module _ (c : State) (g : SoundState c) (v x : ℕ) where
  put-kept : DefectAccepted c v x → KeptSound c (defect_put c v x)
  put-kept ok =
      let y : SoundLists c = lists_of c g.shape g.one (plain g) in
      let p : DefectMade c v x (defect_put c v x) = defect-made c y.numbers v x ok in
      kept_by p.made-graph p.made-shape
      (lists-sound (defect_put c v x) (defect-lists c y v x ok (defect_put c v x) p) (made-entries c y.numbers v x ok (defect_put c v x) p))
      (defect-empty c g.shape v x (defect_put c v x) p (empty g))

  joined-kept : DefectAccepted c v x → KeptSound c (join_active (defect_put c v x) (node_count c))
  joined-kept ok =
      let y : SoundLists c = lists_of c g.shape g.one (plain g) in
      let k : KeptSound c (defect_put c v x) = put-kept ok in
      let s : SoundState (defect_put c v x) = after_kept g k in
      let b : node_count c < node_count (defect_put c v x) = omega (arith, (defect-made c y.numbers v x ok).made-count) in
      kept_then k
      (unfold join_active in
      (kept-active (defect_put c v x) _ s
      (unfold join_active in (join-sound (defect_put c v x) (node_count c) b (sound-active (defect_put c v x) (plain s))))))

  pub defect-kept : KeptSound c (insert_defect c v x).state
  unfolding insert_defect
  defect-kept = kept-unless (defect_refusal c v x) c _ g (λ e. joined-kept (defect-accepted c v x e))
