-- A block in form that holds a sound state passes the tests of lent memory: the converse of the laws of a block in crate
-- `graph`. It is refused for lengths alone.
use Rattle.std.specs.Prelude.{ℕ, ◌+◌, ◌*◌, ◌≤◌, ◌≡◌, refl, true, ◌&&◌, List, [], ◌∷◌, ℤ, leb, eqb, length, get_or, if◌then◌else◌}
use Rattle.std.proofs.Common.{arith, sym, le-leb, eq-eqb}
use Rattle.graph.specs.State.{vertex_count, edge_count}
use Rattle.graph.specs.Open.{sizes_ok}
use Rattle.graph.specs.Sound.{state_sound}
use Rattle.graph.specs.Layout.{v_of, e_of, n_of, l_of, count_of, active_count_of, block_length, scratch_size, rows_of, row, state_of, sized, rising_to, fits_at, packed_from, packed, block_sound, memory_fits, block_refusal, memory_refusal, list_refusal}
use Rattle.graph.specs.Form.{starts_from, total_from, Laid, Listed, Wired, Formed}
use Rattle.graph.specs.laws.Row.{header-get}
use Rattle.graph.specs.laws.List.{total-from}
use Rattle.graph.specs.Rows.{header_row, first_row}

-- ---- the sizes

laid-sized : (b : List ℤ) → Laid b → sized b ≡ true
unfolding Laid sized sizes_ok
laid-sized b q =
    let z = q.sized in
    rw (
      le-leb 16 (length b) (omega arith),
      le-leb 1 (v_of b) z.v-min,
      le-leb (v_of b) 1024 z.v-max,
      le-leb 1 (e_of b) z.e-min,
      le-leb (e_of b) 4096 z.e-max,
      le-leb 1 (n_of b) z.n-min,
      le-leb (n_of b) 1024 z.n-max,
      le-leb (l_of b) 65536 z.l-max,
      eq-eqb (length b) (block_length (v_of b) (e_of b) (n_of b) (l_of b)) z.len,
    )

-- ---- the lists

-- lists that start where they should, within l, pass the test
starts-packed : (l a : ℕ) (bs os : List ℕ) → total_from a bs os ≤ l → packed_from l a (starts_from a bs os) bs os ≡ true
unfolding packed_from starts_from total_from fits_at
starts-packed l a [] os h = refl
starts-packed l a (b ∷ bs) [] h = refl
starts-packed l a (b ∷ bs) (o ∷ os) h =
    let m : a + b + o ≤ total_from (a + b + o) bs os = total-from (a + b + o) bs os in
    rw (eq-eqb a a refl, le-leb b l (omega arith), le-leb o l (omega arith), le-leb (a + b + o) l (omega arith)) (starts-packed l (a + b + o) bs os h)

listed-packed : (b : List ℤ) → Listed b → packed b ≡ true
unfolding Listed packed
listed-packed b p =
    let c : get_or (row (rows_of b) header_row) 4 0 ≡ count_of b = header-get b 4 (omega arith) in
    let l : get_or (row (rows_of b) header_row) 3 0 ≡ l_of b = header-get b 3 (omega arith) in
    rw (rw c at p.starts) (starts-packed (l_of b) 0 _ _ (rw (c, l) at p.total))

-- ---- the whole block

pub formed-sized : (b : List ℤ) → Formed b → sized b ≡ true
formed-sized b f = laid-sized b f.laid

wired-rising : (b : List ℤ) → Wired b → rising_to (row (rows_of b) first_row) (2 * e_of b) ≡ true
unfolding Wired
wired-rising b w = rw (header-get b 1 (omega arith)) at w.firsts

pub formed-sound : (b : List ℤ) → Formed b → state_sound (state_of b) ≡ true → block_sound b ≡ true
unfolding block_sound Laid
formed-sound b f s =
    let x : leb (count_of b) (n_of b) ≡ true = le-leb (count_of b) (n_of b) f.laid.counted.count-max in
    let a : leb (active_count_of b) (n_of b) ≡ true = le-leb (active_count_of b) (n_of b) f.laid.counted.active-max in
    rw (x, a, listed-packed b f.listed, wired-rising b f.wired, s)

edges_are : (b : List ℤ) → Formed b → e_of b ≡ edge_count (state_of b)
unfolding Laid
edges_are b f = sym f.laid.counted.edges

vertices-are : (b : List ℤ) → Formed b → v_of b ≡ vertex_count (state_of b)
unfolding Laid
vertices-are b f = sym f.laid.counted.vertices

-- refused 1 for a scratch or a list that has not its length, and else not at all
pub memory-by-length : (b t : List ℤ) → Formed b → state_sound (state_of b) ≡ true
    → memory_refusal b t ≡ (if eqb (length t) (scratch_size (state_of b)) then 0 else 1)
unfolding memory_refusal block_refusal memory_fits
memory-by-length b t f s = rw (formed-sized b f, formed-sound b f s, vertices-are b f, edges_are b f)

pub list-by-length : (b t : List ℤ) (m k : ℕ) → Formed b → state_sound (state_of b) ≡ true
    → list_refusal b t m k
    ≡ (if eqb (length t) (scratch_size (state_of b)) && eqb m (k * edge_count (state_of b)) then 0 else 1)
unfolding list_refusal block_refusal memory_fits
list-by-length b t m k f s = rw (formed-sized b f, formed-sound b f s, vertices-are b f, edges_are b f)
