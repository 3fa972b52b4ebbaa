-- What a call leaves of memory that has passed its tests: the state of its definition, sound where the call certainly keeps it.
use Rattle.std.specs.Prelude.{ℕ, ◌≤◌, ◌≡◌, Bool, true, false, List, [], ◌∷◌, map, ℤ, eqb, if◌then◌else◌}
use Rattle.std.proofs.Common.{arith, sym, ap, subst, ◌∙◌}
use Rattle.std.proofs.Math.Path.{refl}
use Rattle.std.proofs.Math.ListN.{length}
use Rattle.std.proofs.lemmas.List.{length-replicate}
use Rattle.graph.specs.State.{State, vertex_count, edge_count}
use Rattle.graph.specs.Sound.{state_sound}
use Rattle.graph.specs.Shape.{Shape}
use Rattle.graph.specs.Word.{to_nat}
use Rattle.graph.specs.Layout.{state_of, scratch_size, memory_refusal}
use Rattle.graph.specs.Form.{Formed}
use Rattle.graph.specs.laws.Form.{formed-shape}
use Rattle.graph.specs.laws.State.{if-both}
use Rattle.memory_tests.specs.laws.Memory.{Lendable, memory-accepted}
use Rattle.pass.specs.Scratch.{zero_scratch}
use Rattle.answers.specs.Outcome.{Answer}
use Rattle.answers.specs.Answer.{Reply, says}
use Rattle.calls.specs.Refuse.{unless}
use Rattle.calls.specs.Calls.{Call, InsertDefect, InsertBlossom, SetGrowState, Prepare, UpdateLength, Grow, Advance, Clear, response, respond}
use Rattle.reachable.specs.Reachable.{after}
use Rattle.dual_module.specs.Called.{lent_writes, Called, CalledWithScratch}
use Rattle.soundness_theorem.specs.KeptSound.{KeptSound}
use Rattle.soundness_theorem.specs.Theorems.{prepare-keeps, length-keeps, grow-keeps, advance-keeps, blossom-keeps, defect-keeps, state-keeps, clear-keeps}
use Rattle.c_api.specs.Words.{Kept}
use Rattle.c_api_calls.specs.ListCall.{ListCall, list_defect, list_blossom, list_state, list_prepare, list_length, list_grow, list_advance, list_clear, list_vertex, list_node, list_gap, list_other}
use Rattle.c_api_calls.specs.Told.{ListedTold, OneTold}
use Rattle.c_api_calls.specs.Tests.{keeps, leaves}

-- the state of the call's definition, in form, and a scratch of the same length
pub record Leaves (b t : List ℤ) (c : ListCall) (b' t' : List ℤ) : Type 0 where
  pub state : state_of b' ≡ leaves (state_of b) c
  pub formed : Formed b'
  pub scratch : length t' ≡ length t

zero-length : (n : ℕ) → length (zero_scratch n) ≡ n
unfolding zero_scratch
zero-length n = length-replicate n _

module _ (b t b' t' : List ℤ) (e : memory_refusal b t ≡ 0) where
  unless-none : (r : Reply) → unless (memory_refusal b t) (state_of b) r ≡ r
  unfolding unless
  unless-none r = rw e

  called-leaves : {c : ListCall} {a : Answer} {w : Bool} {r : Reply} → r.state ≡ leaves (state_of b) c
      → Called (memory_refusal b t) b b' a w r → length t' ≡ length t → Leaves b t c b' t'
  called-leaves {r = r} q p l = record {
    state = p.state ∙ ap (λ (x : Reply). x.state) (unless-none r) ∙ q;
    formed = p.formed e;
    scratch = l;
  }

  scratch-leaves : {c : ListCall} {a : Answer} {w : Bool} {r : Reply} → r.state ≡ leaves (state_of b) c
      → CalledWithScratch (memory_refusal b t) b t b' t' a w r → Leaves b t c b' t'
  scratch-leaves {w = w} q p =
      called-leaves q p.block
      (ap length p.scratch
      ∙ if-both (λ x. length x ≡ length t) (lent_writes (memory_refusal b t) w) (zero-length (length t)) refl)

  kept_leaves : {c : ListCall} → state_of b ≡ leaves (state_of b) c → Kept b t b' t' → Leaves b t c b' t'
  kept_leaves q p = record {
    state = ap state_of p.0 ∙ q;
    formed = subst Formed (sym p.0) (memory-accepted b t e).formed;
    scratch = ap length p.1;
  }

  module _ (part part' : List ℕ) (k : ℕ) (r : 5 ≤ length part) where
    promise-leaves : (c : ListCall) → ListedTold b t c b' t' part part' k → Leaves b t c b' t'
    unfolding ListedTold leaves
    promise-leaves (list_defect v x) p = scratch-leaves refl (p.told r).says
    promise-leaves (list_blossom x circle) p = scratch-leaves refl (p.told r).says
    promise-leaves (list_state n x) p = called-leaves refl (p.0.told r).says (ap length p.1)
    promise-leaves (list_prepare n d) p = scratch-leaves refl (p.told r).says
    promise-leaves (list_length n d first) p = scratch-leaves refl (p.told r).says
    promise-leaves (list_grow n l) p = scratch-leaves refl (p.told r).says
    promise-leaves (list_advance n) p = scratch-leaves refl (p.told r).says
    promise-leaves list_clear p = called-leaves refl (p.0.told r).says (ap length p.1)
    promise-leaves (list_vertex n) p = kept_leaves refl p.1
    promise-leaves (list_node n) p = kept_leaves refl p.1
    promise-leaves (list_gap x) p = kept_leaves refl p.1
    promise-leaves list_other p = kept_leaves refl p.1

pub told-leaves : {b t b' t' : List ℤ} {c : ListCall} {part part' : List ℕ} → memory_refusal b t ≡ 0 → 5 ≤ length part
    → OneTold b t c b' t' part part' → Leaves b t c b' t'
told-leaves {b} {t} {b'} {t'} {c} {part} {part'} e r p = promise-leaves b t b' t' e part part' p.count r c p.promise

-- ---- by the calls of the definitions

-- the calls that a call of a list is: none, where it only reads
unfoldable pub as_calls : ListCall → List Call
as_calls (list_defect v x) = InsertDefect v x ∷ []
as_calls (list_blossom x circle) = InsertBlossom x (map to_nat circle) ∷ []
as_calls (list_state n x) = SetGrowState n x ∷ []
as_calls (list_prepare n d) = Prepare n d ∷ []
as_calls (list_length n d first) = UpdateLength n d first ∷ []
as_calls (list_grow n l) = Grow n l ∷ []
as_calls (list_advance n) = Advance n ∷ []
as_calls list_clear = Clear ∷ []
as_calls (list_vertex n) = []
as_calls (list_node n) = []
as_calls (list_gap x) = []
as_calls list_other = []

pub leaves_after : (c : State) (k : ListCall) → leaves c k ≡ after c (as_calls k)
unfolding leaves as_calls after respond response
leaves_after c (list_defect v x) = refl
leaves_after c (list_blossom x circle) = refl
leaves_after c (list_state n x) = refl
leaves_after c (list_prepare n d) = refl
leaves_after c (list_length n d first) = refl
leaves_after c (list_grow n l) = refl
leaves_after c (list_advance n) = refl
leaves_after c list_clear = refl
leaves_after c (list_vertex n) = refl
leaves_after c (list_node n) = refl
leaves_after c (list_gap x) = refl
leaves_after c list_other = refl

-- ---- a call that certainly keeps a sound state sound

module _ (c : State) (z : Shape c) (v1 : 1 ≤ vertex_count c) (h : state_sound c ≡ true) where
  same-sound : KeptSound c c
  same-sound = record { sounds = h; shape = z; vertices = refl; edges = refl; sides = refl }

  pub keeps-sound : (k : ListCall) → keeps c k ≡ true → KeptSound c (leaves c k)
  unfolding keeps leaves
  keeps-sound (list_defect v x) e = defect-keeps c z v1 h v x
  keeps-sound (list_blossom x circle) e = blossom-keeps c z v1 h x (map to_nat circle) e
  keeps-sound (list_state n x) e = state-keeps c z v1 h n x
  keeps-sound (list_prepare n d) e = prepare-keeps c z v1 h n d e
  keeps-sound (list_length n d first) e = length-keeps c z v1 h n d first e
  keeps-sound (list_grow n l) e = grow-keeps c z v1 h n l e
  keeps-sound (list_advance n) e = advance-keeps c z v1 h n e
  keeps-sound list_clear e = clear-keeps c z v1 h
  keeps-sound (list_vertex n) e = same-sound
  keeps-sound (list_node n) e = same-sound
  keeps-sound (list_gap x) e = same-sound
  keeps-sound list_other e = same-sound
