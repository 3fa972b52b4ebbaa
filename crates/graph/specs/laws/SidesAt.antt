-- The sides at a vertex: how they stand in the row `at`, from the first of the vertex to the first of the next.
use Rattle.std.specs.Prelude.{ℕ, zero, suc, ◌+◌, ◌-◌, ◌*◌, ◌≤◌, ◌<◌, ◌≡◌, refl, true, List, [], ◌∷◌, map, ℤ, leb, length, get_or, take, drop}
use Rattle.std.proofs.Common.{arith, add-one, sym, ap, ◌∙◌, length-drop, get_or-take, get_or-drop, length-take-le, leb-true, lt-ltb, le-ltb}
use Rattle.std.proofs.Math.Decide.{dec_lt}
use Rattle.std.proofs.Math.ListN.{get_or-eq_default}
use Rattle.graph.specs.Basic.{below}
use Rattle.graph.specs.laws.State.{and_left, and_right}
use Rattle.graph.specs.laws.Members.{member-at}
use Rattle.graph.specs.laws.Shape.{sides-of-out}
use Rattle.graph.specs.Open.{sides_of}
use Rattle.graph.specs.State.{vertex_count, side_count, sides_at}
use Rattle.graph.specs.Rows.{offset, header_row, first_row, at_row}
use Rattle.graph.specs.Layout.{v_of, e_of, rows_of, row, stretches, rising_to, state_from, state_of}
use Rattle.graph.specs.Form.{LaidOut, Laid, Wired}
use Rattle.graph.specs.laws.Row.{rows-length, header-get}
use Rattle.graph.specs.inner.SidesAt.{Rising, first_word, last_word}

pub stretches-at : (fs l : List ℕ) (v : ℕ) → v < length fs → get_or (stretches fs l) v [] ≡ take (get_or fs (suc v) (length l) - get_or fs v 0) (drop (get_or fs v 0) l)
unfolding stretches
stretches-at [] l v h = absurd (omega arith)
stretches-at (f ∷ fs) l zero h = refl
stretches-at (f ∷ fs) l (suc v) h = stretches-at fs l v (omega arith)

rising-one : (m : ℕ) (fs : List ℕ) (v : ℕ) → rising_to fs m ≡ true → v < length fs → get_or fs v 0 ≤ get_or fs (suc v) m
unfolding rising_to
rising-one m [] v h k = absurd (omega arith)
rising-one m (f ∷ fs) zero h k = leb-true f (get_or fs 0 m) (and_left (leb f (get_or fs 0 m)) (rising_to fs m) h)
rising-one m (f ∷ fs) (suc v) h k = rising-one m fs v (and_right (leb f (get_or fs 0 m)) (rising_to fs m) h) (omega arith)

rising-two : (m : ℕ) (fs : List ℕ) (v : ℕ) → rising_to fs m ≡ true → get_or fs v m ≤ m
unfolding rising_to
rising-two m [] v h = omega arith
rising-two m (f ∷ fs) zero h =
    let a : f ≤ get_or fs 0 m = leb-true f (get_or fs 0 m) (and_left (leb f (get_or fs 0 m)) (rising_to fs m) h) in
    let c : get_or fs 0 m ≤ m = rising-two m fs 0 (and_right (leb f (get_or fs 0 m)) (rising_to fs m) h) in
    omega arith
rising-two m (f ∷ fs) (suc v) h = rising-two m fs v (and_right (leb f (get_or fs 0 m)) (rising_to fs m) h)

rising-at : (fs : List ℕ) (m v : ℕ) → rising_to fs m ≡ true → v < length fs → (get_or fs v 0 ≤ get_or fs (suc v) m) × (get_or fs (suc v) m ≤ m)
rising-at fs m v h k = (rising-one m fs v h k, rising-two m fs (suc v) h)

get_d_any : (l : List ℕ) (i d e : ℕ) → i < length l → get_or l i d ≡ get_or l i e
get_d_any [] i d e h = absurd (omega arith)
get_d_any (x ∷ l) zero d e h = refl
get_d_any (x ∷ l) (suc i) d e h = get_d_any l i d e (omega arith)

pub last-is : (b : List ℤ) (v : ℕ) → Laid b → v < vertex_count (state_of b) → last_word b v ≡ get_or (row (rows_of b) first_row) (suc v) (side_count (state_of b))
unfolding Laid offset last_word
last-is b v q h =
    let fs : List ℕ = row (rows_of b) first_row in
    let e : length fs ≡ v_of b = rows-length b first_row (omega arith) in
    elim (dec_lt (v + 1) (vertex_count (state_of b))) [
      | yes k ↦ rw (lt-ltb (v + 1) (vertex_count (state_of b)) k, add-one)
          (get_d_any fs (suc v) 0 (side_count (state_of b)) (omega (arith, e, k, q.counted.vertices)))
      | no k ↦ rw (le-ltb (v + 1) (vertex_count (state_of b)) (omega arith))
          (sym (get_or-eq_default fs (side_count (state_of b)) {n = suc v} (omega (arith, e, k, q.counted.vertices))))
    ]

laid_out : (b : List ℤ) → Laid b → LaidOut b
unfolding Laid
laid_out b q = q

first-length : (b : List ℤ) → Laid b → length (row (rows_of b) first_row) ≡ v_of b
unfolding Laid offset
first-length b q = rows-length b first_row (omega arith)

at_length : (b : List ℤ) → Laid b → length (row (rows_of b) at_row) ≡ 2 * e_of b
unfolding Laid offset
at_length b q = rows-length b at_row (omega arith)

pub laid-sides : (b : List ℤ) → Laid b → side_count (state_of b) ≤ 8192
unfolding Laid
laid-sides b q = omega arith

sides-stretch : (b : List ℤ) (v : ℕ) → v < length (row (rows_of b) first_row)
    → sides_at (state_of b) v
    ≡ take (get_or (row (rows_of b) first_row) (suc v) (length (row (rows_of b) at_row)) - first_word b v)
    (drop (first_word b v) (row (rows_of b) at_row))
unfolding state_of state_from
sides-stretch b v h = stretches-at (row (rows_of b) first_row) (row (rows_of b) at_row) v h

-- the sides at v stand in `at`
pub record Around (b : List ℤ) (v : ℕ) : Type 0 where
  pub rising : first_word b v ≤ last_word b v
  pub within : last_word b v ≤ side_count (state_of b)
  pub list : sides_at (state_of b) v ≡ take (last_word b v - first_word b v) (drop (first_word b v) (row (rows_of b) at_row))
  pub size : length (sides_at (state_of b) v) ≡ last_word b v - first_word b v

pub around-of : (b : List ℤ) (v : ℕ) → Laid b → Rising b → v < vertex_count (state_of b) → Around b v
around-of b v q rs h =
    let fs : List ℕ = row (rows_of b) first_row in
    let l : List ℕ = row (rows_of b) at_row in
    let z : LaidOut b = laid_out b q in
    let l₄ : length fs ≡ v_of b = first-length b q in
    let l₉ : length l ≡ 2 * e_of b = at_length b q in
    let p : last_word b v ≡ get_or fs (suc v) (2 * e_of b) = last-is b v q h ∙ ap (get_or fs (suc v)) z.counted.sides in
    let r = rising-at fs (2 * e_of b) v rs (omega (arith, l₄, h, z.counted.vertices)) in
    let x : sides_at (state_of b) v ≡ take (last_word b v - first_word b v) (drop (first_word b v) l) =
    rw (p, ← l₉) (sides-stretch b v (omega (arith, l₄, h, z.counted.vertices))) in
    record {
      rising = omega (arith, p, r.0);
      within = omega (arith, p, r.1, z.counted.sides);
      list = x;
      size = ap length x
          ∙ length-take-le (last_word b v - first_word b v) (drop (first_word b v) l)
          (rw (length-drop (first_word b v) l) (omega (arith, p, r.1, l₉)));
    }

pub side-entry : (b : List ℤ) (v i : ℕ) → Around b v → i < last_word b v - first_word b v
    → get_or (row (rows_of b) at_row) (first_word b v + i) 0 ≡ get_or (sides_at (state_of b) v) i 0
side-entry b v i q j =
    rw (
      q.list,
      get_or-take (last_word b v - first_word b v) (drop (first_word b v) (row (rows_of b) at_row)) i 0 j,
      get_or-drop (first_word b v) (row (rows_of b) at_row) i 0,
    )

-- ---- of a block in form

pub rising-of : (b : List ℤ) → Wired b → Rising b
unfolding Wired
rising-of b w = rw (header-get b 1 (omega arith)) at w.firsts

sides-below : (ends vs : List ℕ) (v i : ℕ) → i < length (get_or (map (sides_of ends) vs) v []) → get_or (get_or (map (sides_of ends) vs) v []) i 0 < length ends
sides-below ends [] v i h = absurd (omega arith)
sides-below ends (w ∷ vs) zero i h = (sides-of-out ends w (get_or (sides_of ends w) i 0) (member-at (sides_of ends w) i 0 h)).0
sides-below ends (w ∷ vs) (suc v) i h = sides-below ends vs v i h

sides-are : (b : List ℤ) → Wired b → (state_of b).graph.at ≡ map (sides_of (state_of b).graph.end) (below (get_or (row (rows_of b) header_row) 0 0))
unfolding Wired state_of state_from
sides-are b w = w.sides

pub vertex-side-below : (b : List ℤ) (v i : ℕ) → Wired b → i < length (sides_at (state_of b) v) → get_or (sides_at (state_of b) v) i 0 < side_count (state_of b)
vertex-side-below b v i w h =
    let e = sides-are b w in
    rw e (sides-below (state_of b).graph.end (below (get_or (row (rows_of b) header_row) 0 0)) v i (rw e at h))
