-- Sizes that fit.
use Rattle.std.specs.Prelude.{ℕ, ◌≤◌, ◌≡◌, true, ◌&&◌, leb}
use Rattle.std.proofs.Common.{leb-true}
use Rattle.graph.specs.laws.State.{and_left, and_right}
use Rattle.table_file.specs.File.{file_sizes}

pub record Fits (v e k n : ℕ) : Type 0 where
  pub v-max : v ≤ 1024
  pub e-max : e ≤ 4096
  pub k-max : k ≤ v
  pub n-max : n ≤ v

pub sizes-fit : (v e k n : ℕ) → file_sizes v e k n ≡ true → Fits v e k n
unfolding file_sizes
sizes-fit v e k n h =
    let a = leb 1 v in
    let b = leb v 1024 in
    let c = leb 1 e in
    let d = leb e 4096 in
    let x = leb k v in
    let y = leb n v in
    let h₂ = and_right a (b && (c && (d && (x && y)))) h in
    let h₃ = and_right b (c && (d && (x && y))) h₂ in
    let h₄ = and_right c (d && (x && y)) h₃ in
    let h₅ = and_right d (x && y) h₄ in
    record {
      v-max = leb-true v 1024 (and_left b (c && (d && (x && y))) h₂);
      e-max = leb-true e 4096 (and_left d (x && y) h₄);
      k-max = leb-true k v (and_left x y h₅);
      n-max = leb-true n v (and_right x y h₅);
    }
