-- No call reads a free word: with another one in its place the block holds the same state and is refused, or not, as before.
use Rattle.std.specs.Prelude.{ℕ, zero, suc, ◌+◌, ◌-◌, ◌≤◌, ◌<◌, ◌≡◌, ◌≢◌, Bool, true, false, ◌&&◌, ◌||◌, List, [], ◌∷◌, ℤ, leb, eqb, length, drop, set}
use Rattle.std.proofs.Common.{arith, sym, ap, ◌∙◌, get_or-set_same, get_or-set_other, eqb-true, leb-true}
use Rattle.std.proofs.Math.Decide.{ℕ_discrete as dec_eq}
use Rattle.std.proofs.Math.Path.{refl}
use Rattle.std.proofs.Math.Logic.{by_cases}
use Rattle.std.proofs.Math.ListN.{take, get_or, length-set}
use Rattle.std.proofs.lemmas.List.{take-set-le, drop-set-add}
use Rattle.graph.specs.Sound.{entries}
use Rattle.graph.specs.Layout.{count_of, active_count_of, sizes_of, rows_of, row, boundaries, stacks, state_from, state_of, sized, packed, block_sound, memory_fits, block_refusal, memory_refusal}
use Rattle.graph.specs.State.{node_count}
use Rattle.graph.specs.Word.{to_nat, word_at}
use Rattle.graph.specs.Rows.{offset, header_row, boundary_length_row, overgrown_length_row, store_row, active_row, original_row}
use Rattle.graph.specs.Form.{Laid, Formed}
use Rattle.graph.specs.Free.{free_place}
use Rattle.graph.specs.laws.Cut.{total-sum}
use Rattle.graph.specs.inner.Cut.{sum_of_lists}
use Rattle.graph.specs.laws.Members.{or_cases}
use Rattle.graph.specs.laws.State.{and_left, and_right}
use Rattle.graph.specs.laws.Row.{word-other, rows_with, rows-any, rows-count, header-get}
use Rattle.graph.specs.inner.Found.{InRow}
use Rattle.graph.specs.laws.Used.{entries-total}

-- ---- the lists of the nodes are read from the front of the store

drop-behind : (n : ℕ) (l : List ℕ) (i j x : ℕ) → i ≡ n + j → drop n (set l i x) ≡ set (drop n l) j x
drop-behind n l i j x e = rw e (drop-set-add n l j x)

boundaries-front : (bs os l : List ℕ) (i x : ℕ) → sum_of_lists bs os ≤ i → boundaries bs os (set l i x) ≡ boundaries bs os l
unfolding boundaries sum_of_lists
boundaries-front [] os l i x h = refl
boundaries-front (b ∷ bs) [] l i x h = refl
boundaries-front (b ∷ bs) (o ∷ os) l i x h =
    let d = drop-behind (b + o) l i (i - (b + o)) x (omega arith) in
    rw (take-set-le b l i x (omega arith), d, boundaries-front bs os (drop (b + o) l) (i - (b + o)) x (omega arith)) refl

stacks-front : (bs os l : List ℕ) (i x : ℕ) → sum_of_lists bs os ≤ i → stacks bs os (set l i x) ≡ stacks bs os l
unfolding stacks sum_of_lists
stacks-front [] os l i x h = refl
stacks-front (b ∷ bs) [] l i x h = refl
stacks-front (b ∷ bs) (o ∷ os) l i x h =
    let d = drop-behind (b + o) l i (i - (b + o)) x (omega arith) in
    let g = drop-behind b l i (i - b) x (omega arith) in
    rw (g, take-set-le o (drop b l) (i - b) x (omega arith), d, stacks-front bs os (drop (b + o) l) (i - (b + o)) x (omega arith)) refl

-- ---- rows that are read alike

-- all that the state and the tests of a block read of its rows
record ReadAlike (r q : List (List ℕ)) : Type 0 where
  pub header : (i : ℕ) → i < 7 → get_or (row q header_row) i 0 ≡ get_or (row r header_row) i 0
  pub fixed : (k : ℕ) → 1 ≤ k → k ≤ 10 → row q k ≡ row r k
  pub nodes : (k : ℕ) → 11 ≤ k → k ≤ 17 → take (get_or (row r header_row) 4 0) (row q k) ≡ take (get_or (row r header_row) 4 0) (row r k)
  pub boundary : (bs os : List ℕ) → bs ≡ take (get_or (row r header_row) 4 0) (row r boundary_length_row) → os ≡ take (get_or (row r header_row) 4 0) (row r overgrown_length_row)
      → boundaries bs os (row q store_row) ≡ boundaries bs os (row r store_row)
  pub overgrown : (bs os : List ℕ) → bs ≡ take (get_or (row r header_row) 4 0) (row r boundary_length_row) → os ≡ take (get_or (row r header_row) 4 0) (row r overgrown_length_row)
      → stacks bs os (row q store_row) ≡ stacks bs os (row r store_row)
  pub active : take (get_or (row r header_row) 5 0) (row q active_row) ≡ take (get_or (row r header_row) 5 0) (row r active_row)
  pub original : row q original_row ≡ row r original_row

state-alike : (r q : List (List ℕ)) → ReadAlike r q → state_from q ≡ state_from r
unfolding state_from
state-alike r q a =
    let h = a.header in
    let f = a.fixed in
    let n = a.nodes in
    rw (
      h 4 (omega arith),
      h 0 (omega arith),
      h 2 (omega arith),
      h 3 (omega arith),
      h 5 (omega arith),
      h 6 (omega arith),
      f 1 (omega arith) (omega arith),
      f 2 (omega arith) (omega arith),
      f 3 (omega arith) (omega arith),
      f 4 (omega arith) (omega arith),
      f 5 (omega arith) (omega arith),
      f 6 (omega arith) (omega arith),
      f 7 (omega arith) (omega arith),
      f 8 (omega arith) (omega arith),
      f 9 (omega arith) (omega arith),
      f 10 (omega arith) (omega arith),
      n 11 (omega arith) (omega arith),
      n 12 (omega arith) (omega arith),
      n 13 (omega arith) (omega arith),
      n 14 (omega arith) (omega arith),
      n 16 (omega arith) (omega arith),
      n 17 (omega arith) (omega arith),
      a.boundary _ _ refl refl,
      a.overgrown _ _ refl refl,
      a.active,
      a.original,
    )
    refl

-- ---- a free place

module _ (r : List (List ℕ)) (k i x : ℕ) where
  abbrev with : List (List ℕ)
  with = set r k (set (row r k) i x)

  row_other : (j : ℕ) → j ≢ k → row with j ≡ row r j
  row_other j h = get_or-set_other r k j (set (row r k) i x) [] h

  row_here : (j : ℕ) → j ≡ k → j < length r → row with j ≡ set (row r j) i x
  row_here j e h = rw (← e) (get_or-set_same r j (set (row r j) i x) [] h)

  header-alike : k ≡ 0 → 7 ≤ i → 0 < length r → ReadAlike r with
  header-alike e h l = record {
    header = λ j b. ap (λ z. get_or z j 0) (row_here 0 (sym e) l) ∙ get_or-set_other (row r header_row) i j x 0 (λ z. omega arith);
    fixed = λ j b d. row_other j (λ z. omega arith);
    nodes = λ j b d. ap (take (get_or (row r header_row) 4 0)) (row_other j (λ z. omega arith));
    boundary = λ bs os p q. ap (boundaries bs os) (row_other 18 (λ z. omega arith));
    overgrown = λ bs os p q. ap (stacks bs os) (row_other 18 (λ z. omega arith));
    active = ap (take (get_or (row r header_row) 5 0)) (row_other 19 (λ z. omega arith));
    original = row_other 20 (λ z. omega arith);
  }

  nodes-alike : 11 ≤ k → k ≤ 17 → get_or (row r header_row) 4 0 ≤ i → k < length r → ReadAlike r with
  nodes-alike low high h l = record {
    header = λ j b. ap (λ z. get_or z j 0) (row_other 0 (λ z. omega arith));
    fixed = λ j b d. row_other j (λ z. omega arith);
    nodes = λ j b d.
        by_cases (dec_eq j k)
        (λ e. rw e (ap (take (get_or (row r header_row) 4 0)) (row_here k refl l) ∙ take-set-le (get_or (row r header_row) 4 0) (row r k) i x h))
        (λ e. ap (take (get_or (row r header_row) 4 0)) (row_other j e));
    boundary = λ bs os p q. ap (boundaries bs os) (row_other 18 (λ z. omega arith));
    overgrown = λ bs os p q. ap (stacks bs os) (row_other 18 (λ z. omega arith));
    active = ap (take (get_or (row r header_row) 5 0)) (row_other 19 (λ z. omega arith));
    original = row_other 20 (λ z. omega arith);
  }

  store-alike : k ≡ 18 → sum_of_lists (take (get_or (row r header_row) 4 0) (row r boundary_length_row)) (take (get_or (row r header_row) 4 0) (row r overgrown_length_row)) ≤ i → k < length r → ReadAlike r with
  store-alike e h l = record {
    header = λ j b. ap (λ z. get_or z j 0) (row_other 0 (λ z. omega arith));
    fixed = λ j b d. row_other j (λ z. omega arith);
    nodes = λ j b d. ap (take (get_or (row r header_row) 4 0)) (row_other j (λ z. omega arith));
    boundary = λ bs os p q. ap (boundaries bs os) (row_here 18 (sym e) (omega arith)) ∙ boundaries-front bs os (row r store_row) i x (rw (p, q) h);
    overgrown = λ bs os p q. ap (stacks bs os) (row_here 18 (sym e) (omega arith)) ∙ stacks-front bs os (row r store_row) i x (rw (p, q) h);
    active = ap (take (get_or (row r header_row) 5 0)) (row_other 19 (λ z. omega arith));
    original = row_other 20 (λ z. omega arith);
  }

  active-alike : k ≡ 19 → get_or (row r header_row) 5 0 ≤ i → k < length r → ReadAlike r with
  active-alike e h l = record {
    header = λ j b. ap (λ z. get_or z j 0) (row_other 0 (λ z. omega arith));
    fixed = λ j b d. row_other j (λ z. omega arith);
    nodes = λ j b d. ap (take (get_or (row r header_row) 4 0)) (row_other j (λ z. omega arith));
    boundary = λ bs os p q. ap (boundaries bs os) (row_other 18 (λ z. omega arith));
    overgrown = λ bs os p q. ap (stacks bs os) (row_other 18 (λ z. omega arith));
    active = ap (take (get_or (row r header_row) 5 0)) (row_here 19 (sym e) (omega arith)) ∙ take-set-le (get_or (row r header_row) 5 0) (row r active_row) i x h;
    original = row_other 20 (λ z. omega arith);
  }

free-alike : (b : List ℤ) → Formed b → (k i x : ℕ) → free_place b k i ≡ true → ReadAlike (rows_of b) (rows_with b k i x)
unfolding free_place
free-alike b f k i x h =
    let n : length (rows_of b) ≡ 21 = rows-count b in
    let c : get_or (row (rows_of b) header_row) 4 0 ≡ count_of b = header-get b 4 (omega arith) in
    let m : get_or (row (rows_of b) header_row) 5 0 ≡ active_count_of b = header-get b 5 (omega arith) in
    or_cases (eqb k 0 && leb 7 i) _ h
    (λ e.
    let k₀ = eqb-true k 0 (and_left (eqb k 0) _ e) in
    header-alike (rows_of b) k i x k₀ (leb-true 7 i (and_right (eqb k 0) _ e)) (omega arith))
    (λ e.
    or_cases (leb 11 k && (leb k 17 && leb (count_of b) i)) _ e
    (λ d.
    let low = leb-true 11 k (and_left (leb 11 k) _ d) in
    let d₂ = and_right (leb 11 k) _ d in
    let high = leb-true k 17 (and_left (leb k 17) _ d₂) in
    nodes-alike (rows_of b) k i x low high (omega (arith, leb-true (count_of b) i (and_right (leb k 17) _ d₂))) (omega arith))
    (λ d.
    or_cases (eqb k 18 && leb (entries (state_of b)) i) _ d
    (λ g.
    let k₁ = eqb-true k 18 (and_left (eqb k 18) _ g) in
    let le = leb-true (entries (state_of b)) i (and_right (eqb k 18) _ g) in
    let t = entries-total b f.laid f.listed (count_of b) (count-nodes b f) in
    store-alike (rows_of b) k i x k₁
    (rw c (omega (arith, total-sum 0 (take (count_of b) (row (rows_of b) boundary_length_row)) (take (count_of b) (row (rows_of b) overgrown_length_row))))) (omega arith))
    (λ g.
    let k₂ = eqb-true k 19 (and_left (eqb k 19) _ g) in
    active-alike (rows_of b) k i x k₂ (omega (arith, leb-true (active_count_of b) i (and_right (eqb k 19) _ g))) (omega arith))))
  where
    count-nodes : (b : List ℤ) → Formed b → count_of b ≡ node_count (state_of b)
    count-nodes b f = unfold Laid in (sym f.laid.counted.nodes)

-- a free place stands behind the seven numbers of the header
free-behind : (b : List ℤ) (k i p : ℕ) → p ≡ offset (sizes_of b) k + i → free_place b k i ≡ true → 7 ≤ p
unfolding free_place offset
free-behind b zero i p e h = let l = leb-true 7 i (first (leb 7 i) h) in omega arith
  where
    first : (t : Bool) → t || false ≡ true → t ≡ true
    first true h = refl
    first false h = h
free-behind b (suc k) i p e h = omega arith

-- ---- the block

module _ (b : List ℤ) (f : Formed b) (k i p : ℕ) (s : InRow b k i p) (free : free_place b k i ≡ true) (z : ℤ) where
  behind : 7 ≤ p
  behind = free-behind b k i p s.place free

  alike : ReadAlike (rows_of b) (rows_of (set b p z))
  alike = rw (rows-any b k i p z s (omega (arith, behind))) (free-alike b f k i (to_nat z) free)

  pub free-word-state : state_of (set b p z) ≡ state_of b
  unfolding state_of
  free-word-state = state-alike (rows_of b) (rows_of (set b p z)) alike

  word_same : (j : ℕ) → j < 7 → word_at (set b p z) j ≡ word_at b j
  word_same j h = word-other b p j z (λ q. omega (arith, behind))

  pub free-word-sized : sized (set b p z) ≡ sized b
  unfolding sized
  free-word-sized = rw (word_same 0 (omega arith), word_same 1 (omega arith), word_same 2 (omega arith), word_same 3 (omega arith), length-set b p z) refl

  free-word-packed : packed (set b p z) ≡ packed b
  unfolding packed
  free-word-packed =
      let c : get_or (row (rows_of b) header_row) 4 0 ≡ count_of b = header-get b 4 (omega arith) in
      let n : (j : ℕ) → 11 ≤ j → j ≤ 17
      → take (count_of b) (row (rows_of (set b p z)) j) ≡ take (count_of b) (row (rows_of b) j) =
      λ j l h. rw c at (alike.nodes j l h) in
      rw (
        word_same 3 (omega arith),
        word_same 4 (omega arith),
        n 15 (omega arith) (omega arith),
        n 16 (omega arith) (omega arith),
        n 17 (omega arith) (omega arith),
      )
      refl

  free-word-sound : block_sound (set b p z) ≡ block_sound b
  unfolding block_sound
  free-word-sound =
      rw (
        word_same 4 (omega arith),
        word_same 5 (omega arith),
        word_same 2 (omega arith),
        free-word-packed,
        alike.fixed 4 (omega arith) (omega arith),
        word_same 1 (omega arith),
        free-word-state,
      )
      refl

  -- with any word z at a free place the block is refused as before, and holds the same state
  pub free-word-unread : (t : List ℤ) → (memory_refusal (set b p z) t ≡ memory_refusal b t) × (state_of (set b p z) ≡ state_of b)
  unfolding memory_refusal block_refusal memory_fits
  free-word-unread t = (rw (free-word-sized, free-word-sound, word_same 0 (omega arith), word_same 1 (omega arith)) refl, free-word-state)
