-- What every scan of the soundness test does: one more passes, one fails, all passed.
use Prim.Native.Nat.{ℕ, zero, suc, ◌+◌, ◌-◌, ◌*◌, ◌/◌, ◌≤◌, ◌<◌}
use Rattle.std.proofs.Common.{arith, add-one, sym, ◌∙◌, take-suc, take_all, get_or-take, leb-true, lt-ltb, eq-eqb, ne_eqb}
use Rattle.std.proofs.Math.Decide.{ℕ_discrete as dec_eq}
use Rattle.std.specs.Prelude.{◌≡◌, ◌≢◌, Bool, true, false, ◌&&◌, ◌||◌, not, ℤ, eqb, leb, ltb, length, get_or, take, if◌then◌else◌}
use Rattle.std.proofs.Math.Path.{refl}
use mathlib.Core.List.{List, [], ◌∷◌, map}
use Rattle.graph.specs.Basic.{all_below, all}
use Rattle.graph.specs.State.{State, defect_vertex, blossom, removed, removed_place, class_of, vertex_count, edge_count, side_count, node_count, end_at, parent_of, overgrown_of}
use Rattle.graph.specs.Sound.{is_defect, is_removed, edge_sound, vertex_sound, class_sound, over_sound, own_lists, node_sound}
use Rattle.graph.specs.laws.State.{and_left, and_right, by-parity}
use Rattle.graph.specs.laws.Class.{is_removed_lem}
use Rattle.graph.specs.laws.Members.{all-below-at, all_snoc}
use Rattle.graph.specs.laws.Shape.{edge-facts}
use Rattle.graph.specs.Shape.{SoundEdge}
use Rattle.graph.specs.Layout.{rows_of, row, class_from, state_from, state_of}
use Rattle.graph.specs.Form.{Laid}
use Rattle.graph.specs.inner.Form.{sides_ok}
use Rattle.graph.specs.laws.Row.{header-get}
use Rattle.graph.specs.inner.Scans.{vertex_numbers, node_numbers, wired_at}
use Rattle.graph.specs.Rows.{header_row, class_row, parent_row}

pub and-false : (t : Bool) → t && false ≡ false
and-false true = refl
and-false false = refl

-- ---- over the numbers below n

pub all_more : (p : ℕ → Bool) (n : ℕ) → all_below p n ≡ true → p n ≡ true → all_below p (n + 1) ≡ true
unfolding all_below
all_more p n h q = rw (add-one, h, q)

pub all-fails : (p : ℕ → Bool) (n i : ℕ) → i < n → p i ≡ false → all_below p n ≡ false
unfolding all_below
all-fails p zero i l q = absurd (omega arith)
all-fails p (suc n) i l q = elim (dec_eq i n) [ yes e ↦ (rw (← e, q) (and-false (all_below p i))) | no e ↦ rw (all-fails p n i (omega arith) q) ]

pub all_same : (p q : ℕ → Bool) (n : ℕ) → ((i : ℕ) → i < n → p i ≡ q i) → all_below p n ≡ all_below q n
unfolding all_below
all_same p q zero h = refl
all_same p q (suc n) h = rw (all_same p q n (λ i k. h i (omega arith)), h n (omega arith))

pub all-front : (p : ℕ → Bool) (n : ℕ) → all_below p (suc n) ≡ p 0 && all_below (λ i. p (suc i)) n
unfolding all_below
all-front p zero = one (p 0)
  where
    one : (t : Bool) → true && t ≡ t && true
    one true = refl
    one false = refl
all-front p (suc n) = rw (all-front p n) (assoc (p 0) (all_below (λ i. p (suc i)) n) (p (suc n)))
  where
    assoc : (a b d : Bool) → (a && b) && d ≡ a && (b && d)
    assoc true b d = refl
    assoc false b d = refl

-- ---- over the entries of a list

module _ {A : Type 0} (p : A → Bool) where
  pub list-more : (l : List A) (i : ℕ) (d : A) → i < length l → all p (take i l) ≡ true → p (get_or l i d) ≡ true → all p (take (i + 1) l) ≡ true
  list-more l i d h a q = rw (add-one, take-suc l i d h) (all_snoc p (take i l) (get_or l i d) a q)

  pub list-fails : (l : List A) (i : ℕ) (d : A) → i < length l → p (get_or l i d) ≡ false → all p l ≡ false
  unfolding all
  list-fails [] i d h q = absurd (omega arith)
  list-fails (x ∷ l) zero d h q = rw q
  list-fails (x ∷ l) (suc i) d h q = rw (list-fails l i d (omega arith) q) (and-false (p x))

  pub list_done : (l : List A) (i : ℕ) → length l ≤ i → all p (take i l) ≡ true → true ≡ all p l
  list_done l i h a = sym (rw (take_all i l h) at a)

  pub list_at : (l : List A) (i : ℕ) (d : A) → all p l ≡ true → i < length l → p (get_or l i d) ≡ true
  unfolding all
  list_at [] i d h k = absurd (omega arith)
  list_at (x ∷ l) zero d h k = and_left (p x) (all p l) h
  list_at (x ∷ l) (suc i) d h k = list_at l i d (and_right (p x) (all p l) h) (omega arith)

  pub list-from : (l : List A) (d : A) → ((i : ℕ) → i < length l → p (get_or l i d) ≡ true) → all p l ≡ true
  unfolding all
  list-from [] d h = refl
  list-from (x ∷ l) d h = rw (h 0 (omega arith), list-from l d (λ i k. h (suc i) (omega arith)))

-- ---- edges and vertices

-- a vertex is sound where its numbers and its sides are
pub vertices-both : (c : State) (n : ℕ) → all_below (vertex_sound c) n ≡ all_below (vertex_numbers c) n && all_below (wired_at c) n
unfolding all_below vertex_sound vertex_numbers wired_at
vertices-both c zero = refl
vertices-both c (suc n) = rw (vertices-both c n) (swap (all_below (vertex_numbers c) n) (all_below (wired_at c) n) _ _)
  where
    swap : (a b x y : Bool) → (a && b) && (x && y) ≡ (a && x) && (b && y)
    swap true true x y = refl
    swap true false true y = refl
    swap true false false y = refl
    swap false b x y = refl

-- every end is a vertex where all edges are sound
pub ends_of : (b : List ℤ) → Laid b → all_below (edge_sound (state_of b)) (edge_count (state_of b)) ≡ true → (s : ℕ)
    → s < side_count (state_of b) → end_at (state_of b) s < vertex_count (state_of b)
unfolding Laid
ends_of b q h s k =
    let f : SoundEdge (state_of b) (s / 2) =
    edge-facts (state_of b) (s / 2)
    (all-below-at (edge_sound (state_of b)) (edge_count (state_of b)) (s / 2) h (omega (arith, k, q.counted))) in
    by-parity (end_at (state_of b) s < vertex_count (state_of b)) s
    (λ e. let z : 2 * (s / 2) ≡ s = omega arith in rw z at f.left)
    (λ e. let z : 2 * (s / 2) + 1 ≡ s = omega arith in rw z at f.right)

-- ---- nodes

-- word n of a row over nodes, cut at their number
pub node-get : (b : List ℤ) (k n : ℕ) → Laid b → n < node_count (state_of b)
    → get_or (take (get_or (row (rows_of b) header_row) 4 0) (row (rows_of b) k)) n 0 ≡ get_or (row (rows_of b) k) n 0
unfolding Laid
node-get b k n q h = get_or-take (get_or (row (rows_of b) header_row) 4 0) (row (rows_of b) k) n 0 (omega (arith, h, q.counted.nodes, header-get b 4 (omega arith)))

class-map : (v : ℕ) (l : List ℕ) (n : ℕ) → 1 ≤ v → get_or (map (class_from v) l) n (defect_vertex 0) ≡ class_from v (get_or l n 0)
unfolding class_from
class-map v [] n h = rw (lt-ltb 0 v h)
class-map v (x ∷ l) zero h = refl
class-map v (x ∷ l) (suc n) h = class-map v l n h

-- the class of node n, as it is stored
pub class-get : (b : List ℤ) (n : ℕ) → Laid b → n < node_count (state_of b)
    → class_of (state_of b) n ≡ class_from (vertex_count (state_of b)) (get_or (row (rows_of b) class_row) n 0)
unfolding Laid state_of state_from
class-get b n q h =
    let e : get_or (row (rows_of b) header_row) 0 0 ≡ vertex_count (state_of b) = header-get b 0 (omega arith) ∙ sym q.counted.vertices in
    class-map (get_or (row (rows_of b) header_row) 0 0) (take (get_or (row (rows_of b) header_row) 4 0) (row (rows_of b) class_row)) n
    (omega (arith, q.sized.v-min, header-get b 0 (omega arith)))
    ∙ rw (e, node-get b 11 n q h)

is-defect : (v x : ℕ) → is_defect (class_from v x) ≡ ltb x v
unfolding class_from is_defect
is-defect v x = go (ltb x v) (eqb x (v + removed_place))
  where
    go : (t r : Bool) → is_defect (if t then defect_vertex x else if r then removed else blossom (x - v)) ≡ t
    go true r = refl
    go false true = refl
    go false false = refl

-- a node is a removed one where its class word is V + 1024
pub removed-node : (b : List ℤ) (n : ℕ) → Laid b → n < node_count (state_of b)
    → is_removed (class_of (state_of b) n) ≡ eqb (get_or (row (rows_of b) class_row) n 0) (vertex_count (state_of b) + removed_place)
removed-node b n q h = rw (class-get b n q h) (is_removed_lem (vertex_count (state_of b)) (get_or (row (rows_of b) class_row) n 0))

-- a node is a defect node where its class word is a vertex
pub defect-node : (b : List ℤ) (n : ℕ) → Laid b → n < node_count (state_of b)
    → is_defect (class_of (state_of b) n) ≡ ltb (get_or (row (rows_of b) class_row) n 0) (vertex_count (state_of b))
defect-node b n q h = rw (class-get b n q h) (is-defect (vertex_count (state_of b)) (get_or (row (rows_of b) class_row) n 0))

-- its class is sound where that word x is a vertex, V + 1024, or V + a node below it
abbrev pub class_test : ℕ → ℕ → ℕ → Bool
class_test v n x = if ltb x v then true else if eqb x (v + removed_place) then true else ltb (x - v) n

pub class-test : (b : List ℤ) (n : ℕ) → Laid b → n < node_count (state_of b)
    → class_sound (state_of b) n (class_of (state_of b) n) ≡ class_test (vertex_count (state_of b)) n (get_or (row (rows_of b) class_row) n 0)
unfolding class_sound class_from
class-test b n q h =
    let v : ℕ = vertex_count (state_of b) in
    let x : ℕ = get_or (row (rows_of b) class_row) n 0 in
    rw (class-get b n q h) (go x (ltb x v) (eqb x (v + removed_place)) refl)
  where
    go : (x : ℕ) (t r : Bool) → ltb x (vertex_count (state_of b)) ≡ t
        → class_sound (state_of b) n (if t then defect_vertex x else if r then removed else blossom (x - vertex_count (state_of b)))
        ≡ (if t then true else if r then true else ltb (x - vertex_count (state_of b)) n)
    go x true r e = e
    go x false true e = refl
    go x false false e = refl

pub both-le : (x m : ℕ) → leb 1 x && leb x m ≡ true → (1 ≤ x) × (x ≤ m)
both-le x m h = (leb-true 1 x (and_left (leb 1 x) (leb x m) h), leb-true x m (and_right (leb 1 x) (leb x m) h))

-- a node is sound where its numbers and what its lists hold are in range, and its lists are its own if it is an outermost node
abbrev pub node_range : State → ℕ → Bool
node_range c n = node_numbers c n && sides_ok c n && all (over_sound c) (overgrown_of c n)

node-parts : (c : State) (n : ℕ) → node_sound c n ≡ node_range c n && (not (eqb (parent_of c n) 0) || own_lists c n)
unfolding node_sound node_numbers sides_ok
node-parts c n = refl

pub node-fails : (c : State) (n : ℕ) → node_range c n ≡ false → false ≡ node_sound c n
node-fails c n h = rw (node-parts c n, h)

pub node-inner : (c : State) (n : ℕ) → node_range c n ≡ true → parent_of c n ≢ 0 → true ≡ node_sound c n
node-inner c n h p = rw (node-parts c n, h, ne_eqb (parent_of c n) 0 p)

pub node-outermost : (c : State) (n : ℕ) → node_range c n ≡ true → parent_of c n ≡ 0 → own_lists c n ≡ node_sound c n
node-outermost c n h p = rw (node-parts c n, h, eq-eqb (parent_of c n) 0 p)

-- the parent of node n, as it is stored
pub parent-get : (b : List ℤ) (n : ℕ) → Laid b → n < node_count (state_of b) → parent_of (state_of b) n ≡ get_or (row (rows_of b) parent_row) n 0
unfolding state_of state_from
parent-get b n q h = node-get b 13 n q h
