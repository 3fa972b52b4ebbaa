-- A block that passes the tests `sized` and `blockSound` is in form and holds a sound state.
use Prim.Native.Nat.{ℕ, suc, ◌*◌, ◌≤◌, ◌<◌}
use Rattle.std.proofs.Common.{arith, ap, ◌∙◌}
use Rattle.std.specs.Prelude.{◌≡◌, refl, Bool, true, false, ◌&&◌, ℤ}
use Rattle.std.proofs.Math.Path.{sym}
use mathlib.Core.List.{List, [], ◌∷◌, map}
use Rattle.std.proofs.Math.Dec.{leb, ltb}
use Rattle.std.proofs.Math.ListN.{length, get_or, length-map}
use Rattle.std.proofs.Math.Seq.{ext_get_or}
use borrow.Author.Tests.{leb-true, le-leb, lt-ltb}
use Rattle.graph.specs.Basic.{all, below, all_below}
use Rattle.graph.specs.State.{vertex_count, edge_count, side_count, node_count}
use Rattle.graph.specs.Open.{weight_limit, sides_of}
use Rattle.graph.specs.Sound.{edge_sound, vertex_sound, side_sound, node_sound, entries, active_sound, sound, sound_removed, state_sound}
use Rattle.graph.specs.Rows.{offset, header_row, first_row, end_row, at_row, weight_row, original_row}
use Rattle.graph.specs.laws.State.{and_left, and_right}
use Rattle.graph.specs.laws.Members.{by-test, length-below, all-below-from}
use Rattle.graph.specs.laws.Shape.{sound-edge, sound-vertex, edge-facts, vertex-facts}
use Rattle.graph.specs.laws.Opened.{get_d-tabled}
use Rattle.graph.specs.Layout.{e_of, n_of, count_of, active_count_of, rows_of, row, stretches, rising_to, packed, state_from, state_of, sized, block_sound}
use Rattle.graph.specs.Form.{GraphRows, Laid, Listed, Formed}
use Rattle.graph.specs.inner.SidesAt.{Rising}
use Rattle.graph.specs.laws.Row.{header-get, rows-length, laid_of, formed-of}
use Rattle.graph.specs.laws.Form.{laid-shape}
use Rattle.graph.specs.laws.Size.{sized_of}
use Rattle.graph.specs.laws.Scan.{list-from, ends_of}
use Rattle.node_tests.specs.laws.Pack.{packed-of}
use Rattle.graph.specs.laws.Used.{entries-within}

-- ---- the parts of the test

-- where the counts are in range, soundness is that of edges, vertices, sides, nodes, the active list and the mark
pub sound-parts : (b : List ℤ) → Laid b → Listed b
    → sound (state_of b)
    ≡ all_below (edge_sound (state_of b)) (edge_count (state_of b)) && all_below (vertex_sound (state_of b)) (vertex_count (state_of b))
    && all_below (side_sound (state_of b)) (side_count (state_of b)) && all_below (node_sound (state_of b)) (node_count (state_of b))
    && active_sound (state_of b) && leb (state_of b).graph.reweighted 1
unfolding sound Laid
sound-parts b q p =
    rw (
      le-leb (node_count (state_of b)) (state_of b).node_limit (omega arith),
      le-leb (entries (state_of b)) (state_of b).store_limit (entries-within b q p),
    )

-- a graph that is not sound: the state is not either
pub graph-fails : (b : List ℤ) → Laid b → Listed b
    → rising_to (row (rows_of b) first_row) (2 * e_of b)
    && (all_below (edge_sound (state_of b)) (edge_count (state_of b)) && all_below (vertex_sound (state_of b)) (vertex_count (state_of b))) ≡ false
    → false ≡ rising_to (row (rows_of b) first_row) (2 * e_of b) && state_sound (state_of b)
unfolding state_sound
graph-fails b q p h =
    let g : Bool = all_below (edge_sound (state_of b)) (edge_count (state_of b)) && all_below (vertex_sound (state_of b)) (vertex_count (state_of b)) in
    by-test (rising_to (row (rows_of b) first_row) (2 * e_of b))
    (λ t. let z : g ≡ false = rw t at h in rw (t, sound-parts b q p, z))
    (λ t. rw t)

pub listed_of : (b : List ℤ) → Laid b → packed b ≡ true → Listed b
unfolding Listed
listed_of b q h = packed-of b q h

-- ---- the graph

length-stretches : (fs l : List ℕ) → length (stretches fs l) ≡ length fs
unfolding stretches
length-stretches [] l = refl
length-stretches (f ∷ fs) l = ap suc (length-stretches fs l)

module _ (b : List ℤ) (q : Laid b) (h : sound (state_of b) ≡ true) where
  edges-sound : all_below (edge_sound (state_of b)) (edge_count (state_of b)) ≡ true
  edges-sound = all-below-from (edge_sound (state_of b)) (edge_count (state_of b)) (sound-edge (state_of b) h)

  header-v : get_or (row (rows_of b) header_row) 0 0 ≡ vertex_count (state_of b)
  unfolding Laid
  header-v = header-get b 0 (omega arith) ∙ sym q.counted.vertices

  ends-in : all (λ x. ltb x (get_or (row (rows_of b) header_row) 0 0)) (row (rows_of b) end_row) ≡ true
  unfolding state_of state_from
  ends-in =
      list-from (λ x. ltb x (get_or (row (rows_of b) header_row) 0 0)) (row (rows_of b) end_row) 0
      (λ s k. lt-ltb (get_or (row (rows_of b) end_row) s 0) (get_or (row (rows_of b) header_row) 0 0)
      (rw header-v (ends_of b q edges-sound s k)))

  weights-in : all (λ x. leb x weight_limit) (row (rows_of b) weight_row) ≡ true
  unfolding state_of state_from
  weights-in =
      list-from (λ x. leb x weight_limit) (row (rows_of b) weight_row) 0
      (λ e k. le-leb (get_or (row (rows_of b) weight_row) e 0) weight_limit
      (edge-facts (state_of b) e (sound-edge (state_of b) h e k)).weight)

  originals-in : all (λ x. leb x weight_limit) (row (rows_of b) original_row) ≡ true
  unfolding state_of state_from
  originals-in =
      list-from (λ x. leb x weight_limit) (row (rows_of b) original_row) 0
      (λ e k. le-leb (get_or (row (rows_of b) original_row) e 0) weight_limit
      (edge-facts (state_of b) e (sound-edge (state_of b) h e (omega (arith, k, (laid-shape b q).original)))).original)

  sides-right : stretches (row (rows_of b) first_row) (row (rows_of b) at_row) ≡ map (sides_of (row (rows_of b) end_row)) (below (get_or (row (rows_of b) header_row) 0 0))
  unfolding state_of state_from Laid offset
  sides-right =
      let v : ℕ = get_or (row (rows_of b) header_row) 0 0 in
      let xs : List (List ℕ) = stretches (row (rows_of b) first_row) (row (rows_of b) at_row) in
      let ys : List (List ℕ) = map (sides_of (row (rows_of b) end_row)) (below v) in
      let x : length xs ≡ vertex_count (state_of b) =
      length-stretches (row (rows_of b) first_row) (row (rows_of b) at_row) ∙ rows-length b first_row (omega arith)
      ∙ sym q.counted.vertices in
      let y : length ys ≡ vertex_count (state_of b) = length-map (below v) (sides_of (row (rows_of b) end_row)) ∙ length-below v ∙ header-v in
      ext_get_or [] xs ys (x ∙ sym y)
      (λ i k.
      let j : i < vertex_count (state_of b) = omega (arith, x, k) in
      (vertex-facts (state_of b) i (sound-vertex (state_of b) h i j)).sides ∙ sym (get_d-tabled (sides_of (row (rows_of b) end_row)) v i [] (omega (arith, j, header-v))))

  wired-of : rising_to (row (rows_of b) first_row) (2 * e_of b) ≡ true → GraphRows (rows_of b)
  wired-of r = record { ends = ends-in; sides = sides-right; firsts = rw (header-get b 1 (omega arith)) r; weights = weights-in; originals = originals-in }

  -- lists and stretches in order, and a sound state: the block is in form
  pub sound-formed : Listed b → Rising b → Formed b
  unfolding Listed
  sound-formed p r = formed-of b q p (wired-of r)

-- ---- the whole test

-- what the test of a block says, part by part
record Parts (b : List ℤ) : Type 0 where
  count : count_of b ≤ n_of b
  active : active_count_of b ≤ n_of b
  packed : packed b ≡ true
  rising : rising_to (row (rows_of b) first_row) (2 * e_of b) ≡ true
  sound : sound (state_of b) ≡ true
  removed : sound_removed (state_of b) ≡ true

parts-of : (b : List ℤ) → block_sound b ≡ true → Parts b
unfolding block_sound state_sound
parts-of b h =
    let x = leb (count_of b) (n_of b) in
    let a = leb (active_count_of b) (n_of b) in
    let y = packed b in
    let z = rising_to (row (rows_of b) first_row) (2 * e_of b) in
    let u = sound (state_of b) in
    let r = sound_removed (state_of b) in
    let w = u && r in
    let h₁ = and_left (x && a && y && z) w h in
    let h₂ = and_left (x && a && y) z h₁ in
    let h₃ = and_left (x && a) y h₂ in
    record {
      count = leb-true (count_of b) (n_of b) (and_left x a h₃);
      active = leb-true (active_count_of b) (n_of b) (and_right x a h₃);
      packed = and_right (x && a) y h₂;
      rising = and_right (x && a && y) z h₁;
      sound = and_left u r (and_right (x && a && y && z) w h);
      removed = and_right u r (and_right (x && a && y && z) w h);
    }

module _ (b : List ℤ) (s : sized b ≡ true) (h : block_sound b ≡ true) where
  -- the block holds a sound state
  pub block-sound : sound (state_of b) ≡ true
  block-sound = (parts-of b h).sound

  pub block-state-sound : state_sound (state_of b) ≡ true
  unfolding state_sound
  block-state-sound = rw ((parts-of b h).sound, (parts-of b h).removed)

  -- the block is in form
  pub block-formed : Formed b
  block-formed =
      let p = parts-of b h in
      let q : Laid b = laid_of b (sized_of b s) p.count p.active in
      sound-formed b q p.sound (listed_of b q p.packed) p.rising
