-- Marks, step by step.
use Rattle.std.specs.Prelude.{ℕ, ◌+◌, ◌≤◌, ◌≡◌, Bool, false, List, length}
use Rattle.std.proofs.Common.{add-one}
use Rattle.std.proofs.Math.Path.{refl}
use Rattle.std.proofs.Math.ListN.{get_or-eq_default}
use Rattle.table_words.specs.Sides.{marked, mark_if, marks_by}

pub marked-outside : (m : List ℕ) (u : ℕ) → length m ≤ u → false ≡ marked m u
marked-outside m u h = rw (get_or-eq_default m 0 {n = u} h)

module _ (p : ℕ → Bool) (at : ℕ → ℕ) (m : List ℕ) where
  pub marks-none : m ≡ marks_by p at m 0
  unfolding marks_by
  marks-none = refl

  pub marks-more : (k : ℕ) {t : Bool} {u : ℕ} {x y : List ℕ} → x ≡ marks_by p at m k → t ≡ p k → u ≡ at k → y ≡ mark_if t x u → y ≡ marks_by p at m (k + 1)
  unfolding marks_by
  marks-more k e f g h = rw (add-one, ← e, ← f, ← g) h
