-- Laws of the circle of a blossom: what refuses it, and its store.
use Rattle.std.specs.Prelude.{ℕ, zero, suc, ◌+◌, ◌*◌, ◌%◌, ◌≤◌, ◌<◌, ◌≡◌, refl, Bool, true, false, not, ◌&&◌, ◌||◌, List, [], ◌∷◌, map, ℤ, ltb, eqb, length, get_or, set, drop, replicate, ◌≢◌}
use Rattle.std.proofs.Common.{add-one, arith, pos, ap, ◌∙◌, drop_of_length-le, drop-cons}
use Rattle.std.proofs.lemmas.List.{length-map}
use borrow.Author.Tests.{lt-ltb, le-leb, lt-leb, not-false, eq-eqb, ne_eqb}
use Rattle.graph.specs.Basic.{all, any, member, distinct, sum_below}
use Rattle.graph.specs.State.{State, vertex_count, side_count, node_count, boundary_of}
use Rattle.graph.specs.Sound.{entries_of, entries}
use Rattle.graph.specs.Word.{to_nat, word_at}
use Rattle.graph.specs.Layout.{state_of}
use Rattle.graph.specs.Form.{Formed}
use Rattle.graph.specs.inner.Form.{sides_ok}
use Rattle.graph.specs.inner.Scans.{once_all, Stamped}
use Rattle.graph.specs.laws.Form.{laid-shape, formed-vertices}
use Rattle.graph.specs.laws.Used.{entries-within}
use Rattle.graph.specs.laws.Members.{by-test, or-neither-right, all_from, member-at, member-head, member-tail, distinct_head, distinct_tail, distinct-length, none-member}
use Rattle.graph.specs.laws.Stamp.{stamped-none, stamped-more, stamped-fails, stamped-all}
use Rattle.graph.specs.laws.Opened.{get_d-zeros}
use Rattle.pass.specs.inner.Ready.{Shrinkable}
use Rattle.pass.proofs.laws.Ready.{sound-shrinkable}
use Rattle.calls.specs.Refuse.{bad_node, in_blossom, entries_unless, entries_but, store_short}
use Rattle.calls.specs.Insert.{no_circle, blossom_refusal}
use Rattle.blossom.specs.inner.Circle.{Joinable}
use Rattle.calls.specs.inner.Reply.{Usable}
use Rattle.calls.proofs.laws.Refuse.{good-inside}
use Rattle.calls.proofs.laws.Accepted.{BlossomAccepted, store-room, entries-named, entries_none}
use Rattle.graph.specs.laws.List.{store-max}
use Rattle.graph.specs.laws.Number.{word-entry}

-- ---- its members are nodes

module _ (c : State) (ms : List ℕ) (h : any (bad_node c) ms ≡ false) where
  pub all-nodes : (m : ℕ) → member m ms ≡ true → m < node_count c
  all-nodes m k = good-inside c m (none-member (bad_node c) ms m h k)

  pub nodes-small : node_count c ≤ 1024 → all (λ m. ltb m 1024) ms ≡ true
  nodes-small k = all_from (λ m. ltb m 1024) ms (λ m i. lt-ltb m 1024 (omega (arith, all-nodes m i)))

  -- and at most 1024
  pub circle-size : node_count c ≤ 1024 → distinct ms ≡ true → length ms ≤ 1024
  circle-size k o = distinct-length 1024 ms o (nodes-small k)

-- a circle handed on as words: word i is a member
pub circle-member : (l : List ℤ) (i : ℕ) → i < length l → member (word_at l i) (map to_nat l) ≡ true
circle-member l i h = rw (word-entry l i) (member-at (map to_nat l) i 0 (rw (length-map l to_nat) h))

-- ---- no number twice

-- the marks of the first i numbers
abbrev pub Met : List ℕ → ℕ → List ℕ → Type 0
Met l i m = Stamped 1 (λ x. true) l i m

any-number : (l : List ℕ) → all (λ x. true) l ≡ true
unfolding all
any-number [] = refl
any-number (x ∷ l) = any-number l

once_is : (l : List ℕ) → once_all (λ x. true) l ≡ distinct l
unfolding once_all
once_is l = rw (any-number l) (last (distinct l))
  where
    last : (t : Bool) → t && true ≡ t
    last true = refl
    last false = refl

pub met-none : (n : ℕ) (l : List ℕ) → Met l 0 (replicate n 0)
met-none n l = stamped-none 0 (λ x. true) l _ (λ x. omega (arith, get_d-zeros n x))

module _ {l : List ℕ} {i : ℕ} {m : List ℕ} (s : Met l i m) where
  pub met_all : length l ≤ i → false ≡ not (distinct l)
  met_all h = ap not (stamped-all 1 (λ x. true) l i m s h ∙ once_is l)

  module _ (y : ℕ) (h : i < length l) (e : y ≡ get_or l i 0) (small : y < length m) where
    pub met-more : get_or m y 0 ≢ 1 → Met l (i + 1) (set m y 1)
    met-more f = stamped-more 1 (λ x. true) l i m s y h e small (rw (ne_eqb (get_or m y 0) 1 f))

    pub met-twice : get_or m y 0 ≡ 1 → true ≡ not (distinct l)
    met-twice f = ap not (stamped-fails 1 (λ x. true) l i m s y h e small (rw (eq-eqb (get_or m y 0) 1 f)) ∙ once_is l)

-- ---- the count

-- a circle has no repeat
pub circle-once : (ms : List ℕ) → no_circle ms ≡ false → distinct ms ≡ true
unfolding no_circle
circle-once ms h = not-false (distinct ms) (or-neither-right (eqb (length ms % 2) 0 || ltb (length ms) 3 || ltb 63 (length ms)) (not (distinct ms)) h)

module _ (l : List ℤ) where
  pub no-circle-count : eqb (length l % 2) 0 || ltb (length l) 3 || ltb 63 (length l) ≡ true → true ≡ no_circle (map to_nat l)
  unfolding no_circle
  no-circle-count h = rw (length-map l to_nat, h)

  pub no-circle-repeat : eqb (length l % 2) 0 || ltb (length l) 3 || ltb 63 (length l) ≡ false → not (distinct (map to_nat l)) ≡ no_circle (map to_nat l)
  unfolding no_circle
  no-circle-repeat h = rw (length-map l to_nat, h)

-- ---- the store

-- a block in form has at most 65536 entries
pub formed-entries : (b : List ℤ) → Formed b → entries (state_of b) ≤ 65536
formed-entries b f = omega (arith, entries-within b f.laid f.listed, store-max b f.laid)

sum-le : (f g : ℕ → ℕ) (n : ℕ) → ((i : ℕ) → f i ≤ g i) → sum_below f n ≤ sum_below g n
unfolding sum_below
sum-le f g zero h = omega arith
sum-le f g (suc n) h = omega (arith, sum-le f g n h, h n)

pub entries-but-le : (c : State) (ms : List ℕ) → entries_but c ms ≤ entries c
unfolding entries_but entries entries_unless
entries-but-le c ms = sum-le (entries_unless c ms) (entries_of c) (node_count c) (λ i. by-test (member i ms) (λ e. rw e (omega arith)) (λ e. rw e (omega arith)))

distinct-drop : (l : List ℕ) (i : ℕ) → distinct l ≡ true → distinct (drop i l) ≡ true
distinct-drop l zero h = h
distinct-drop [] (suc i) h = h
distinct-drop (x ∷ l) (suc i) h = distinct-drop l i (distinct_tail x l h)

-- `sum` entries in the lists of the first i members
module _ (c : State) (ms : List ℕ) (i sum : ℕ) (e : sum + entries_but c ms ≡ entries_but c (drop i ms)) where
  pub entries-more : (m : ℕ) → i < length ms → m ≡ get_or ms i 0 → m < node_count c → distinct ms ≡ true
      → sum + entries_of c m + entries_but c ms ≡ entries_but c (drop (i + 1) ms)
  entries-more m h q k o =
      let d : drop i ms ≡ m ∷ drop (i + 1) ms = rw (add-one, q) (drop-cons ms i 0 h) in
      let own : entries_but c (drop (i + 1) ms) ≡ entries_but c (m ∷ drop (i + 1) ms) + entries_of c m =
      entries-named c m (drop (i + 1) ms) k (distinct_head m (drop (i + 1) ms) (rw d at (distinct-drop ms i o))) in
      let e' : sum + entries_but c ms ≡ entries_but c (m ∷ drop (i + 1) ms) = e ∙ ap (entries_but c) d in
      omega (arith, own, e')

  pub entries-end : length ms ≤ i → sum + entries_but c ms ≡ entries c
  entries-end h = e ∙ rw (drop_of_length-le ms h) (entries_none c)

  pub entries-small : sum ≤ entries c
  entries-small = omega (arith, e, entries-but-le c (drop i ms))

pub short-circle : (c : State) (l : List ℤ) (u : ℕ) → u ≡ entries_but c (map to_nat l)
    → ltb c.store_limit (u + (length l + 1) * (side_count c + vertex_count c))
    ≡ store_short c (map to_nat l) (length (map to_nat l) + 1)
unfolding store_short
short-circle c l u e = rw (e, length-map l to_nat)

-- the lists of members that have at most k entries each
pub entries-members : (c : State) (k : ℕ) (ms : List ℕ) → distinct ms ≡ true
    → ((m : ℕ) → member m ms ≡ true → m < node_count c) → ((m : ℕ) → member m ms ≡ true → entries_of c m ≤ k)
    → entries c ≤ entries_but c ms + length ms * k
entries-members c k [] d b le = omega (arith, entries_none c)
entries-members c k (m ∷ ms) d b le =
    let ih : entries c ≤ entries_but c ms + length ms * k =
    entries-members c k ms (distinct_tail m ms d) (λ i j. b i (member-tail i m ms j))
    (λ i j. le i (member-tail i m ms j)) in
    let e : entries_but c ms ≡ entries_but c (m ∷ ms) + entries_of c m = entries-named c m ms (b m (member-head m ms)) (distinct_head m ms d) in
    let q : suc (length ms) * k ≡ length ms * k + k = omega arith in
    let l : entries_of c m ≤ k = le m (member-head m ms) in
    omega arith

-- ---- the refusal

module _ (c : State) (x : ℕ) (ms : List ℕ) where
  pub blossom-refusal-3 : ltb 2 x || any (bad_node c) ms ≡ true → 3 ≡ blossom_refusal c x ms
  unfolding blossom_refusal
  blossom-refusal-3 h = rw h

  module _ (e : ltb 2 x || any (bad_node c) ms ≡ false) where
    pub blossom-refusal-6 : any (in_blossom c) ms ≡ true → 6 ≡ blossom_refusal c x ms
    unfolding blossom_refusal
    blossom-refusal-6 h = rw (e, h)

    module _ (o : any (in_blossom c) ms ≡ false) where
      pub blossom-refusal-7 : no_circle ms ≡ true → 7 ≡ blossom_refusal c x ms
      unfolding blossom_refusal
      blossom-refusal-7 h = rw (e, o, h)

      module _ (q : no_circle ms ≡ false) where
        pub blossom-refusal-8 : c.node_limit ≤ node_count c → 8 ≡ blossom_refusal c x ms
        unfolding blossom_refusal
        blossom-refusal-8 h = rw (e, o, q, le-leb c.node_limit (node_count c) h)

        module _ (k : node_count c < c.node_limit) where
          pub blossom-refusal-9 : store_short c ms (length ms + 1) ≡ true → 9 ≡ blossom_refusal c x ms
          unfolding blossom_refusal
          blossom-refusal-9 h = rw (e, o, q, lt-leb c.node_limit (node_count c) k, h)

          pub blossom-refusal-0 : store_short c ms (length ms + 1) ≡ false → 0 ≡ blossom_refusal c x ms
          unfolding blossom_refusal
          blossom-refusal-0 h = rw (e, o, q, lt-leb c.node_limit (node_count c) k, h)

-- ---- a circle that may be joined

-- the lists of a node that may be shrunk hold at most 2 E sides and V vertices
shrinkable-entries : (c : State) (m : ℕ) → Shrinkable c m → entries_of c m ≤ side_count c + vertex_count c
unfolding entries_of sides_ok
shrinkable-entries c m s = omega (arith, distinct-length (side_count c) (boundary_of c m) s.once s.sides, s.size)

-- the store has room for 2 E + V entries more
pub joinable-room : {c : State} {circle : List ℕ} → Joinable c circle → entries c + (side_count c + vertex_count c) ≤ c.store_limit
joinable-room {c} {circle} j =
    let s : ℕ = side_count c + vertex_count c in
    let k : entries c ≤ entries_but c circle + length circle * s =
    entries-members c s circle j.once j.inside (λ m h. shrinkable-entries c m (j.lists m h)) in
    let r : entries_but c circle + (length circle + 1) * s ≤ c.store_limit = j.room in
    let q : (length circle + 1) * s ≡ length circle * s + s = omega arith in
    omega (arith, k, r, q)

-- an accepted circle in a sound state
pub accepted-joinable : {b t : List ℤ} {x : ℕ} {circle : List ℕ} → Usable b t → BlossomAccepted (state_of b) x circle → Joinable (state_of b) circle
accepted-joinable {b} {t} {x} {circle} u a = record {
  inside = a.inside;
  once = a.once;
  lists = λ m h. sound-shrinkable (state_of b) (laid-shape b u.formed.laid) (formed-vertices b u.formed) m
      (a.inside m h) (record { sounds = u.sounds; outer = a.outer m h });
  count = a.count;
  room = store-room (state_of b) circle (length circle + 1) a.room;
}

-- the number that an entry of a circle stands for, read as the entry goes by
pub item : (l : List ℤ) (i : ℕ) {z : ℤ} {m : ℕ} → m ≡ to_nat z → z ≡ get_or l i (pos 0) → m ≡ word_at l i
unfolding word_at
item l i e f = e ∙ ap to_nat f
