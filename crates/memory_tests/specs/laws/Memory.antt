-- What lent memory has that is not refused.
use Rattle.std.specs.Prelude.{ℕ, zero, suc, ◌*◌, ◌≤◌, ◌≡◌, refl, Bool, false, ◌&&◌, List, ℤ, length, if◌then◌else◌}
use native.Mathlib.Omega.{arith}
use Rattle.std.proofs.Math.Bool.{true}
use Rattle.std.proofs.Math.Dec.{eqb}
use borrow.Author.Tests.{eqb-true}
use Rattle.graph.specs.State.{vertex_count, edge_count}
use Rattle.graph.specs.Sound.{sound}
use Rattle.graph.specs.Layout.{v_of, e_of, scratch_length, scratch_size, state_of, sized, block_sound, memory_fits, block_refusal, memory_refusal, list_refusal}
use Rattle.graph.specs.Form.{Formed, Laid}
use Rattle.graph.specs.laws.State.{and_left, and_right}
use Rattle.memory_tests.specs.laws.Block.{block-sound, block-formed}

-- a block in form that holds a sound state, and a scratch of its length
pub record Lendable (b t : List ℤ) : Type 0 where
  pub formed : Formed b
  pub sounds : sound (state_of b) ≡ true
  pub size : length t ≡ scratch_size (state_of b)

pub fits-sized : (b t : List ℤ) → memory_fits b t ≡ true → sized b ≡ true
unfolding memory_fits
fits-sized b t h = and_left (sized b) (eqb (length t) (scratch_length (v_of b) (e_of b))) h

-- a block that is not refused has the right lengths and is sound
both-passed : (f s : Bool) → ◌≡◌ {A = ℕ} (if f then (if s then 0 else 2) else 1) 0 → (f ≡ true) × (s ≡ true)
both-passed true true h = (refl, refl)
both-passed true false h = absurd (omega arith)
both-passed false s h = absurd (omega arith)

block-accepted : (b : List ℤ) (f : Bool) → block_refusal f b ≡ 0 → (f ≡ true) × (block_sound b ≡ true)
unfolding block_refusal
block-accepted b f h = both-passed f (block_sound b) h

-- three words for each edge are few
pub few_words : (k e : ℕ) → k ≤ 3 → e ≤ 4096 → k * e ≤ 12288
few_words zero e h g = omega arith
few_words (suc zero) e h g = omega arith
few_words (suc (suc zero)) e h g = omega arith
few_words (suc (suc (suc zero))) e h g = omega arith
few_words (suc (suc (suc (suc k)))) e h g = absurd (omega arith)

edges-of : (b : List ℤ) → Formed b → edge_count (state_of b) ≡ e_of b
unfolding Laid
edges-of b f = f.laid.counted.edges

vertices-of : (b : List ℤ) → Formed b → vertex_count (state_of b) ≡ v_of b
unfolding Laid
vertices-of b f = f.laid.counted.vertices

module _ (b t : List ℤ) where
  fitting : memory_fits b t ≡ true → block_sound b ≡ true → Lendable b t
  unfolding memory_fits
  fitting h s =
      let z : sized b ≡ true = fits-sized b t h in
      let f : Formed b = block-formed b z s in
      record {
        formed = f;
        sounds = block-sound b z s;
        size = omega (
          arith,
          eqb-true (length t) (scratch_length (v_of b) (e_of b)) (and_right (sized b) (eqb (length t) (scratch_length (v_of b) (e_of b))) h),
          vertices-of b f,
          edges-of b f,
        );
      }

  pub memory-accepted : memory_refusal b t ≡ 0 → Lendable b t
  unfolding memory_refusal
  memory-accepted h = let p = block-accepted b (memory_fits b t) h in fitting p.0 p.1

  pub list-accepted : (m k : ℕ) → list_refusal b t m k ≡ 0 → Lendable b t × (m ≡ k * edge_count (state_of b))
  unfolding list_refusal
  list-accepted m k h =
      let p = block-accepted b (memory_fits b t && eqb m (k * e_of b)) h in
      let f : memory_fits b t ≡ true = and_left (memory_fits b t) (eqb m (k * e_of b)) p.0 in
      let l : Lendable b t = fitting f p.1 in
      (l, rw (edges-of b l.formed) (eqb-true m (k * e_of b) (and_right (memory_fits b t) (eqb m (k * e_of b)) p.0)))
