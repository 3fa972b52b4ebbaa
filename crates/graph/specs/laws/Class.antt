-- Class words: which word stands for which class.
use Rattle.std.specs.Prelude.{ℕ, ◌+◌, ◌-◌, ◌≤◌, ◌<◌, ◌≡◌, refl, ◌≢◌, Bool, true, false, eqb, if◌then◌else◌}
use Rattle.std.proofs.Math.Decide.{dec_lt}
use Rattle.std.proofs.Common.{arith, sym, ◌∙◌, lt-ltb, le-ltb, eq-eqb, ne_eqb}
use Rattle.graph.specs.State.{defect_vertex, blossom, removed, removed_place}
use Rattle.graph.specs.Sound.{is_removed}
use Rattle.graph.specs.Layout.{class_from}

pub class-defect : (v x : ℕ) → x < v → class_from v x ≡ defect_vertex x
unfolding class_from
class-defect v x h = rw (lt-ltb x v h)

pub class-removed : (v : ℕ) → class_from v (v + removed_place) ≡ removed
unfolding class_from
class-removed v = rw (le-ltb (v + 1024) v (omega arith), eq-eqb (v + 1024) (v + 1024) refl)

pub class-blossom : (v m : ℕ) → m ≢ removed_place → class_from v (v + m) ≡ blossom m
unfolding class_from
class-blossom v m ne =
    let z : v + m - v ≡ m = omega arith in
    rw (le-ltb (v + m) v (omega arith), ne_eqb (v + m) (v + 1024) (λ e. ne (omega arith)), z)

pub is_removed_lem : (v x : ℕ) → is_removed (class_from v x) ≡ eqb x (v + removed_place)
unfolding class_from is_removed
is_removed_lem v x =
    elim (dec_lt x v) [
      | yes h ↦ rw (lt-ltb x v h, ne_eqb x (v + 1024) (λ e. omega arith))
      | no h ↦ rw (le-ltb x v (omega arith)) (go (eqb x (v + removed_place)))
    ]
  where
    go : (r : Bool) → is_removed (if r then removed else blossom (x - v)) ≡ r
    go true = refl
    go false = refl

-- a word from V on, but for that of a removed node, names the first member of a blossom
pub class-first : (v x : ℕ) → v ≤ x → is_removed (class_from v x) ≡ false → class_from v x ≡ blossom (x - v)
unfolding class_from
class-first v x h r = rw (le-ltb x v h, sym (is_removed_lem v x) ∙ r)
