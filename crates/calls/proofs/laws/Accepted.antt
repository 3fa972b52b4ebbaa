-- What an accepted call has shown: each refusal that is not given, as a fact.
use Rattle.std.specs.Prelude.{◌≡◌, ℕ, ◌+◌, ◌*◌, ◌%◌, ◌<◌, ◌≤◌, Bool, true, false, not, ◌||◌, ltb, ◌≢◌, List, [], ◌∷◌, length, ◌==◌, nat_eq, nat_le, nat_lt}
use native.Mathlib.Omega.{arith}
use Rattle.std.specs.Prelude.{refl}
use Rattle.std.proofs.Common.{ap, ◌∙◌, eqb-true, ne_eqb, ltb-false, leb-false}
use Rattle.std.proofs.lemmas.Bool.{eqb-false, not-false}
use Rattle.graph.specs.Basic.{any, member, distinct, sum_below}
use Rattle.graph.specs.State.{State, vertex_count, side_count, node_count, holder_at, sides_at, virtual_at, defect_at, vertex_holder_at, parent_of, class_of, shrinking}
use Rattle.graph.specs.Sound.{entries_of, entries, is_removed}
use Rattle.graph.specs.laws.State.{passed}
use Rattle.graph.specs.laws.Sums.{sum_same, sum-apart}
use Rattle.graph.specs.laws.Members.{by-test, clash, or-neither-left, or-neither-right, member-head, none-member}
use Rattle.pass.proofs.laws.Passes.{Passed}
use Rattle.answers.specs.Outcome.{Refused}
use Rattle.answers.specs.Answer.{Reply, says}
use Rattle.calls.specs.Refuse.{bad_node, in_blossom, entries_unless, entries_but, store_short, node_refusal, unless}
use Rattle.calls.specs.Insert.{occupied, defect_refusal, no_circle, blossom_refusal}

-- what holds of the refusal and of the accepted reply holds of the reply
pub unless-cases : (P : Reply → Type 0) (k : ℕ) (c : State) (r : Reply) → (k ≢ 0 → P (says (Refused k) c)) → (k ≡ 0 → P r) → P (unless k c r)
unfolding unless
unless-cases P k c r bad good = by-test (k == 0) (λ e. rw e (good (eqb-true k 0 e))) (λ e. rw e (bad (eqb-false k 0 e)))

-- ---- a call on a node

pub record NodeAccepted (c : State) (n : ℕ) (wrong short : Bool) : Type 0 where
  pub inside : n < node_count c
  pub live : is_removed (class_of c n) ≡ false
  pub right : wrong ≡ false
  pub outer : parent_of c n ≡ 0
  pub room : short ≡ false

pub node-accepted : (c : State) (n : ℕ) (wrong short : Bool) → node_refusal c n wrong short ≡ 0 → NodeAccepted c n wrong short
unfolding node_refusal bad_node in_blossom
node-accepted c n wrong short h =
    let p₁ = passed (nat_le (node_count c) n || is_removed (class_of c n) || wrong) 2 _ h in
    let p₀ = or-neither-left (nat_le (node_count c) n || is_removed (class_of c n)) wrong p₁.0 in
    let p₂ = passed (not (parent_of c n == 0)) 5 _ p₁.1 in
    let p₃ = passed short 8 _ p₂.1 in
    record {
      inside = leb-false _ _ (or-neither-left (nat_le (node_count c) n) (is_removed (class_of c n)) p₀);
      live = or-neither-right (nat_le (node_count c) n) (is_removed (class_of c n)) p₀;
      right = or-neither-right (nat_le (node_count c) n || is_removed (class_of c n)) wrong p₁.0;
      outer = eqb-true _ _ (not-false _ p₂.0);
      room = p₃.0;
    }

-- ---- the store

-- enough store is left
pub store-room : (c : State) (named : List ℕ) (k : ℕ) → store_short c named k ≡ false → entries_but c named + k * (side_count c + vertex_count c) ≤ c.store_limit
unfolding store_short
store-room c named k h = ltb-false _ _ h

member-other : (i m : ℕ) (ms : List ℕ) → i ≢ m → member i (m ∷ ms) ≡ member i ms
unfolding member any
member-other i m ms h = rw (ne_eqb i m h)

-- one more name: its entries no longer count
pub entries-named : (c : State) (m : ℕ) (ms : List ℕ) → m < node_count c → member m ms ≡ false → entries_but c ms ≡ entries_but c (m ∷ ms) + entries_of c m
unfolding entries_but entries_unless
entries-named c m ms b h =
    let own : entries_unless c ms m ≡ entries_of c m = rw h in
    let none : entries_unless c (m ∷ ms) m ≡ 0 = rw (member-head m ms) in
    omega (arith, own, none, sum-apart (entries_unless c (m ∷ ms)) (entries_unless c ms) (node_count c) m b (λ i ne. rw (member-other i m ms ne)))

pub entries_none : (c : State) → entries_but c [] ≡ entries c
unfolding entries_but entries
entries_none c = sum_same (entries_unless c []) (entries_of c) (node_count c) (λ i b. unfold entries_unless member any in refl)

-- what is not named is not changed by the preparation of a named node
pub entries-passed : (c d : State) (n : ℕ) → Passed n c d → (named : List ℕ) → member n named ≡ true → entries_but d named ≡ entries_but c named
unfolding entries_but entries_unless entries_of
entries-passed c d n p named h =
    ap (sum_below (entries_unless d named)) (ap (λ (l : List ℕ). length l) p.grow_state)
    ∙ sum_same (entries_unless d named) (entries_unless c named) (node_count c) (λ i b. each i)
  where
    each : (i : ℕ) → entries_unless d named i ≡ entries_unless c named i
    each i =
        by-test (member i named)
        (λ e. rw e)
        (λ e.
        let ne : i ≢ n = λ q. clash (member n named) h (rw q at e) in
        rw (e, p.boundaries i ne, p.overgrowns i ne))

-- so the lists stay within L where one node is prepared and its own lists are no longer than 2 E + V
pub store_kept : (c d : State) (n : ℕ) → Passed n c d → n < node_count c → store_short c (n ∷ []) 1 ≡ false
    → entries_of d n ≤ side_count c + vertex_count c → entries d ≤ d.store_limit
store_kept c d n p b room le =
    let inside : n < node_count d = rw p.grow_state b in
    let all-d : entries_but d [] ≡ entries_but d (n ∷ []) + entries_of d n = entries-named d n [] inside (unfold member any in refl) in
    let same : entries_but d (n ∷ []) ≡ entries_but c (n ∷ []) = entries-passed c d n p (n ∷ []) (member-head n []) in
    let enough : entries_but c (n ∷ []) + 1 * (side_count c + vertex_count c) ≤ c.store_limit = store-room c (n ∷ []) 1 room in
    let limit : d.store_limit ≡ c.store_limit = p.store_limit in
    let whole : entries_but d [] ≡ entries d = entries_none d in
    omega arith

-- ---- insertion

pub record DefectAccepted (c : State) (v x : ℕ) : Type 0 where
  pub inside : v < vertex_count c
  pub grow_state : x ≤ 2
  pub real : virtual_at c v ≡ 0
  pub new : defect_at c v ≡ 0
  pub free : vertex_holder_at c v ≡ 0
  pub sides : (t : ℕ) → member t (sides_at c v) ≡ true → holder_at c t ≡ 0
  pub count : node_count c < c.node_limit
  pub room : store_short c [] 1 ≡ false

-- a negated test of 0 that fails
zero_of : (x : ℕ) → not (x == 0) ≡ false → x ≡ 0
zero_of x h = eqb-true x 0 (not-false (x == 0) h)

pub defect-accepted : (c : State) (v x : ℕ) → defect_refusal c v x ≡ 0 → DefectAccepted c v x
unfolding defect_refusal occupied
defect-accepted c v x h =
    let p₁ = passed (nat_le (vertex_count c) v || nat_lt shrinking x) 2 _ h in
    let p₂ = passed (occupied c v) 4 _ p₁.1 in
    let p₃ = passed (nat_le c.node_limit (node_count c)) 7 _ p₂.1 in
    let p₄ = passed (store_short c [] 1) 8 _ p₃.1 in
    let a = not (virtual_at c v == 0) in
    let b = not (defect_at c v == 0) in
    let d = not (vertex_holder_at c v == 0) in
    let e = any (λ t. not (holder_at c t == 0)) (sides_at c v) in
    let q₁ = or-neither-left (a || b || d) e p₂.0 in
    let q₂ = or-neither-left (a || b) d q₁ in
    record {
      inside = leb-false _ _ (or-neither-left (nat_le (vertex_count c) v) (nat_lt shrinking x) p₁.0);
      grow_state = ltb-false _ _ (or-neither-right (nat_le (vertex_count c) v) (nat_lt shrinking x) p₁.0);
      real = zero_of _ (or-neither-left a b q₂);
      new = zero_of _ (or-neither-right a b q₂);
      free = zero_of _ (or-neither-right (a || b) d q₁);
      sides = λ t m. zero_of _ (none-member (λ t. not (holder_at c t == 0)) (sides_at c v) t (or-neither-right (a || b || d) e p₂.0) m);
      count = leb-false _ _ p₃.0;
      room = p₄.0;
    }

pub record BlossomAccepted (c : State) (x : ℕ) (circle : List ℕ) : Type 0 where
  pub grow_state : x ≤ 2
  pub inside : (m : ℕ) → member m circle ≡ true → m < node_count c
  pub live : (m : ℕ) → member m circle ≡ true → is_removed (class_of c m) ≡ false
  pub outer : (m : ℕ) → member m circle ≡ true → parent_of c m ≡ 0
  pub odd : length circle % 2 ≢ 0
  pub three : 3 ≤ length circle
  pub short : length circle ≤ 63
  pub once : distinct circle ≡ true
  pub count : node_count c < c.node_limit
  pub room : store_short c circle (length circle + 1) ≡ false

pub blossom-accepted : (c : State) (x : ℕ) (circle : List ℕ) → blossom_refusal c x circle ≡ 0 → BlossomAccepted c x circle
unfolding blossom_refusal no_circle bad_node in_blossom
blossom-accepted c x circle h =
    let p₁ = passed (nat_lt shrinking x || any (bad_node c) circle) 2 _ h in
    let p₂ = passed (any (in_blossom c) circle) 5 _ p₁.1 in
    let p₃ = passed (no_circle circle) 6 _ p₂.1 in
    let p₄ = passed (nat_le c.node_limit (node_count c)) 7 _ p₃.1 in
    let p₅ = passed (store_short c circle (length circle + 1)) 8 _ p₄.1 in
    let a = nat_eq (length circle % 2) 0 in
    let b = ltb (length circle) 3 in
    let s = ltb 63 (length circle) in
    let d = not (distinct circle) in
    let q₁ = or-neither-left (a || b || s) d p₃.0 in
    let q₂ = or-neither-left (a || b) s q₁ in
    record {
      grow_state = ltb-false _ _ (or-neither-left (nat_lt shrinking x) (any (bad_node c) circle) p₁.0);
      inside = λ m k.
          leb-false _ _
          (or-neither-left (nat_le (node_count c) m) (is_removed (class_of c m))
          (none-member (bad_node c) circle m (or-neither-right (nat_lt shrinking x) (any (bad_node c) circle) p₁.0) k));
      live = λ m k.
          or-neither-right (nat_le (node_count c) m) (is_removed (class_of c m))
          (none-member (bad_node c) circle m (or-neither-right (nat_lt shrinking x) (any (bad_node c) circle) p₁.0) k);
      outer = λ m k. zero_of _ (none-member (in_blossom c) circle m p₂.0 k);
      odd = eqb-false _ _ (or-neither-left a b q₂);
      three = ltb-false _ _ (or-neither-right a b q₂);
      short = ltb-false _ _ (or-neither-right (a || b) s q₁);
      once = not-false _ (or-neither-right (a || b || s) d p₃.0);
      count = leb-false _ _ p₄.0;
      room = p₅.0;
    }
