-- The sizes in range, and the length of a block: what the tests `sizesOk` and `sized` show.
use Rattle.std.specs.Prelude.{ℕ, ◌≤◌, ◌≡◌, true, ◌&&◌, List, ℤ, leb, eqb, length}
use Rattle.std.proofs.Common.{leb-true, eqb-true}
use Rattle.graph.specs.laws.State.{and_left, and_right}
use Rattle.graph.specs.Open.{sizes_ok}
use Rattle.graph.specs.Layout.{v_of, e_of, n_of, l_of, block_length, sized}
use Rattle.graph.specs.Form.{Sized}

-- the sizes are within their limits
pub record SizesIn (v e n l : ℕ) : Type 0 where
  pub v-min : 1 ≤ v
  pub v-max : v ≤ 1024
  pub e-min : 1 ≤ e
  pub e-max : e ≤ 4096
  pub n-min : 1 ≤ n
  pub n-max : n ≤ 1024
  pub l-max : l ≤ 65536

pub sizes-in : (v e n l : ℕ) → sizes_ok v e n l ≡ true → SizesIn v e n l
unfolding sizes_ok
sizes-in v e n l h =
    let a = leb 1 v in
    let b = leb v 1024 in
    let c = leb 1 e in
    let d = leb e 4096 in
    let g = leb 1 n in
    let i = leb n 1024 in
    let j = leb l 65536 in
    let h₁ = and_left (a && b && c && d && g && i) j h in
    let h₂ = and_left (a && b && c && d && g) i h₁ in
    let h₃ = and_left (a && b && c && d) g h₂ in
    let h₄ = and_left (a && b && c) d h₃ in
    let h₅ = and_left (a && b) c h₄ in
    record {
      v-min = leb-true 1 v (and_left a b h₅);
      v-max = leb-true v 1024 (and_right a b h₅);
      e-min = leb-true 1 e (and_right (a && b) c h₄);
      e-max = leb-true e 4096 (and_right (a && b && c) d h₃);
      n-min = leb-true 1 n (and_right (a && b && c && d) g h₂);
      n-max = leb-true n 1024 (and_right (a && b && c && d && g) i h₁);
      l-max = leb-true l 65536 (and_right (a && b && c && d && g && i) j h);
    }

pub sized_of : (b : List ℤ) → sized b ≡ true → Sized b
unfolding sized
sized_of b h =
    let x = leb 16 (length b) in
    let y = sizes_ok (v_of b) (e_of b) (n_of b) (l_of b) in
    let z = eqb (length b) (block_length (v_of b) (e_of b) (n_of b) (l_of b)) in
    let s = sizes-in (v_of b) (e_of b) (n_of b) (l_of b) (and_right x y (and_left (x && y) z h)) in
    record {
      v-min = s.v-min;
      v-max = s.v-max;
      e-min = s.e-min;
      e-max = s.e-max;
      n-min = s.n-min;
      n-max = s.n-max;
      l-max = s.l-max;
      len = eqb-true _ _ (and_right (x && y) z h);
    }
