-- The memory before the opening holds what was gathered: at the start, after an edge, after a virtual vertex.
use Rattle.std.specs.Prelude.{ℕ, ◌+◌, ◌-◌, ◌*◌, min, ◌≤◌, ◌<◌, ◌≡◌, refl, Bool, ◌&&◌, ◌||◌, List, [], ◌∷◌, ◌++◌, map, ℤ, pos, negsuc, leb, get_or, set, take}
use Rattle.std.proofs.Common.{add-one, arith, ◌∙◌, length-append, take-suc-set, length-take-le}
use Rattle.std.proofs.Math.Decide.{ℕ_discrete as dec_eq}
use Rattle.std.proofs.Math.Path.{sym, ap}
use Rattle.std.proofs.Math.Bool.{true, false, not}
use Rattle.std.proofs.Math.Dec.{eqb, ltb}
use Rattle.std.proofs.Math.ListN.{length, length-set, get_or-append}
use Rattle.std.proofs.lemmas.List.{length-map}
use Rattle.std.proofs.Math.Seq.{get_or-set_same, get_or-set_other, get_or-append_seam}
use borrow.Author.Tests.{ne_eqb, lt-ltb, le-ltb, leb-true, leb-false, ltb-true, ltb-false, not-true, not-false}
use Rattle.graph.specs.Basic.{all, any, member, distinct}
use Rattle.graph.specs.Word.{to_nat}
use Rattle.graph.specs.Open.{Edge}
use Rattle.graph.specs.Opening.{given_at, edge_at, virtuals_from}
use Rattle.graph.specs.laws.State.{and_left, and_right}
use Rattle.graph.specs.laws.Members.{by-test, all_snoc, distinct_snoc, distinct-length}
use Rattle.records.specs.Run.{Gathered, with_edge, with_virtual}
use Rattle.records.specs.declared.setup.Setup.{Setup}
use Rattle.records.specs.Setup.{from_sizes, counted_edge, edge_added, stored_edge, new_virtual, virtual_added, stored_virtual, stored_of, no_edge, SetupHolds}
use Rattle.records.specs.laws.Setup.{virtual-out, virtual-new, virtual-old}

-- ---- the start

-- sizes alone
unfoldable pub only_sizes : ℕ → ℕ → ℕ → ℕ → Gathered
only_sizes v e n l = record { v = v; e = e; n = n; l = l; edges = []; virtuals = [] }

pub holding-start : (v e n l : ℕ) (edges virtuals : List ℤ) → SetupHolds (from_sizes v e n l) edges virtuals (only_sizes v e n l)
unfolding from_sizes only_sizes virtuals_from all distinct
holding-start v e n l edges virtuals =
    record {
      vertices = refl;
      edge-size = refl;
      node-limit = refl;
      store-limit = refl;
      count = refl;
      edge = λ i h k. absurd (omega arith);
      room = omega arith;
      small = refl;
      inside = refl;
      once = refl;
      same = λ x h k. refl;
      bad = refl;
    }

-- ---- an edge

module _ (words : List ℤ) (k a b c : ℕ) (h : 3 * k + 2 < length words) where
  -- the words with edge k
  with3 : List ℤ
  with3 = set (set (set words (3 * k) (pos a)) (3 * k + 1) (pos b)) (3 * k + 2) (pos c)

  edge-put-same : edge_at with3 k ≡ record { left = a; right = b; weight = c }
  unfolding with3 edge_at given_at to_nat
  edge-put-same =
      let l₁ : length (set words (3 * k) (pos a)) ≡ length words = length-set words (3 * k) (pos a) in
      let l₂ : length (set (set words (3 * k) (pos a)) (3 * k + 1) (pos b)) ≡ length words = length-set (set words (3 * k) (pos a)) (3 * k + 1) (pos b) ∙ l₁ in
      rw (
        get_or-set_same (set (set words (3 * k) (pos a)) (3 * k + 1) (pos b)) (3 * k + 2) (pos c) (negsuc 0) (omega arith),
        get_or-set_other (set (set words (3 * k) (pos a)) (3 * k + 1) (pos b)) (3 * k + 2) (3 * k + 1) (pos c) (negsuc 0) (λ q. omega arith),
        get_or-set_other (set (set words (3 * k) (pos a)) (3 * k + 1) (pos b)) (3 * k + 2) (3 * k) (pos c) (negsuc 0) (λ q. omega arith),
        get_or-set_same (set words (3 * k) (pos a)) (3 * k + 1) (pos b) (negsuc 0) (omega arith),
        get_or-set_other (set words (3 * k) (pos a)) (3 * k + 1) (3 * k) (pos b) (negsuc 0) (λ q. omega arith),
        get_or-set_same words (3 * k) (pos a) (negsuc 0) (omega arith),
      )

  given-other : (j : ℕ) → (j ≡ 3 * k → ⊥) → (j ≡ 3 * k + 1 → ⊥) → (j ≡ 3 * k + 2 → ⊥) → given_at with3 j ≡ given_at words j
  unfolding with3 given_at
  given-other j p q r =
      rw (
        get_or-set_other (set (set words (3 * k) (pos a)) (3 * k + 1) (pos b)) (3 * k + 2) j (pos c) (negsuc 0) r,
        get_or-set_other (set words (3 * k) (pos a)) (3 * k + 1) j (pos b) (negsuc 0) q,
        get_or-set_other words (3 * k) j (pos a) (negsuc 0) p,
      )

  edge-put-other : (i : ℕ) → (i ≡ k → ⊥) → edge_at with3 i ≡ edge_at words i
  unfolding edge_at
  edge-put-other i ne =
      rw (
        given-other (3 * i) (λ q. ne (omega arith)) (λ q. omega arith) (λ q. omega arith),
        given-other (3 * i + 1) (λ q. omega arith) (λ q. ne (omega arith)) (λ q. omega arith),
        given-other (3 * i + 2) (λ q. omega arith) (λ q. omega arith) (λ q. ne (omega arith)),
      )

counted-more : (m : ℕ) → counted_edge (min m 1000000) ≡ min (m + 1) 1000000
unfolding counted_edge
counted-more m =
    by-test (ltb (min m 1000000) 1000000)
    (λ e. let q : min m 1000000 < 1000000 = ltb-true (min m 1000000) 1000000 e in rw e (omega arith))
    (λ e. let q : 1000000 ≤ min m 1000000 = ltb-false (min m 1000000) 1000000 e in rw e (omega arith))

-- the edges with one more, in words
edge-stored : (words : List ℤ) (es : List Edge) (x : Edge) → 384 ≤ length words → ((i : ℕ) → i < length es → i < 128 → edge_at words i ≡ get_or es i no_edge)
    → (i : ℕ) → i < length es + 1 → i < 128
    → edge_at (stored_edge words (min (length es) 1000000) x.left x.right x.weight) i
    ≡ get_or (es ++ (x ∷ [])) i no_edge
unfolding stored_edge with3
edge-stored words es x size held i h k =
    by-test (ltb (min (length es) 1000000) 128)
    (λ e.
    let q : min (length es) 1000000 < 128 = ltb-true (min (length es) 1000000) 128 e in
    let z : min (length es) 1000000 ≡ length es = omega arith in
    rw (e, z)
    (elim (dec_eq i (length es)) [
      | yes r ↦ rw r (edge-put-same words (length es) x.left x.right x.weight (omega arith) ∙ sym (get_or-append_seam es x [] no_edge))
      | no r ↦
          let below : i < length es = omega arith in
          edge-put-other words (length es) x.left x.right x.weight (omega arith) i r ∙ held i below k
          ∙ sym (get_or-append es (x ∷ []) no_edge i below)
    ]))
    (λ e.
    let q : 128 ≤ min (length es) 1000000 = ltb-false (min (length es) 1000000) 128 e in
    let below : i < length es = omega arith in
    rw e (held i below k ∙ sym (get_or-append es (x ∷ []) no_edge i below)))

pub holding-edge : {s : Setup} {edges virtuals : List ℤ} {g : Gathered} (x : Edge) → 384 ≤ length edges → SetupHolds s edges virtuals g
    → SetupHolds (edge_added s) (stored_edge edges s.edges x.left x.right x.weight) virtuals (with_edge g x)
unfolding edge_added with_edge
holding-edge {s} {edges} {virtuals} {g} x size p =
    let len : length (g.edges ++ (x ∷ [])) ≡ length g.edges + 1 = length-append g.edges (x ∷ []) in
    record {
      vertices = p.vertices;
      edge-size = p.edge-size;
      node-limit = p.node-limit;
      store-limit = p.store-limit;
      count = rw (p.count, len) (counted-more (length g.edges));
      edge = rw (p.count, len) (edge-stored edges g.edges x size p.edge);
      room = p.room;
      small = p.small;
      inside = p.inside;
      once = p.once;
      same = p.same;
      bad = p.bad;
    }

-- ---- a virtual vertex

member-snoc : (y x : ℕ) (l : List ℕ) → member y (l ++ (x ∷ [])) ≡ (member y l || eqb y x)
unfolding member any
member-snoc y x [] = by-test (eqb y x) (λ e. rw e) (λ e. rw e)
member-snoc y x (z ∷ l) = by-test (eqb y z) (λ e. rw e) (λ e. rw e (member-snoc y x l))

all-with : (p : ℕ → Bool) (l : List ℕ) (x : ℕ) → all p (l ++ (x ∷ [])) ≡ (all p l && p x)
unfolding all
all-with p [] x = by-test (p x) (λ e. rw e) (λ e. rw e)
all-with p (z ∷ l) x = by-test (p z) (λ e. rw e (all-with p l x)) (λ e. rw e)

or-false : (t : Bool) → (t || false) ≡ t
or-false true = refl
or-false false = refl

and-false : (t : Bool) → (t && false) ≡ false
and-false true = refl
and-false false = refl

and-true : (t : Bool) → (t && true) ≡ t
and-true true = refl
and-true false = refl

-- another number than x is no more a member than before
member_apart : (y x : ℕ) (l : List ℕ) → (y ≡ x → ⊥) → member y (l ++ (x ∷ [])) ≡ member y l
member_apart y x l ne = member-snoc y x l ∙ ap (λ t. member y l || t) (ne_eqb y x ne) ∙ or-false (member y l)

-- a member given again
member-again : (y x : ℕ) (l : List ℕ) → member x l ≡ true → member y (l ++ (x ∷ [])) ≡ member y l
member-again y x l h = elim (dec_eq y x) [ yes e ↦ rw e (member-snoc x x l ∙ rw h) | no e ↦ member_apart y x l e ]

-- the stored numbers with one more
stored_more : (words : List ℤ) (n x : ℕ) → n < length words → virtuals_from (take (n + 1) (set words n (pos x))) ≡ virtuals_from (take n words) ++ (x ∷ [])
unfolding virtuals_from to_nat
stored_more words n x h = rw (add-one, take-suc-set words n (pos x) h) (map_snoc (take n words))
  where
    map_snoc : (l : List ℤ) → map to_nat (l ++ (pos x ∷ [])) ≡ map to_nat l ++ (x ∷ [])
    map_snoc [] = refl
    map_snoc (z ∷ l) = ap (λ r. to_nat z ∷ r) (map_snoc l)

-- no more than 64 are stored
pub stored-few : {s : Setup} {edges virtuals : List ℤ} {g : Gathered} → SetupHolds s edges virtuals g → s.virtuals ≤ 64
unfolding virtuals_from
stored-few {s} {edges} {virtuals} {g} p =
    let few : length (stored_of s virtuals) ≤ 64 = distinct-length 64 (stored_of s virtuals) p.once p.small in
    omega (arith, length-map (take s.virtuals virtuals) to_nat, length-take-le s.virtuals virtuals p.room)

module _ (s : Setup) (edges virtuals : List ℤ) (g : Gathered) (x : ℕ) (p : SetupHolds s edges virtuals g) where
  -- the test that the virtual vertices are in range, with one more
  bad_more : not (all (λ y. ltb y g.v) (g.virtuals ++ (x ∷ []))) ≡ not (all (λ y. ltb y g.v) g.virtuals && ltb x g.v)
  bad_more = ap not (all-with (λ y. ltb y g.v) g.virtuals x)

  held_out : s.v ≤ x → SetupHolds (virtual_added s virtuals x) edges (stored_virtual s virtuals x) (with_virtual g x)
  unfolding with_virtual
  held_out h =
      let out = virtual-out s virtuals x h in
      let v : g.v ≤ x = omega (arith, p.vertices) in
      rw (← out.0, ← out.1)
      (record {
        vertices = p.vertices;
        edge-size = p.edge-size;
        node-limit = p.node-limit;
        store-limit = p.store-limit;
        count = p.count;
        edge = p.edge;
        room = p.room;
        small = p.small;
        inside = p.inside;
        once = p.once;
        same = λ y i j. p.same y i j ∙ sym (member_apart y x g.virtuals (λ q. omega arith));
        bad = sym
            (bad_more ∙ ap (λ t. not (all (λ y. ltb y g.v) g.virtuals && t)) (le-ltb x g.v v)
            ∙ ap not (and-false (all (λ y. ltb y g.v) g.virtuals)));
      })

  -- in range: the test stays as it was
  bad-still : x < s.v → s.bad ≡ not (all (λ y. ltb y g.v) (g.virtuals ++ (x ∷ [])))
  bad-still h =
      let v : x < g.v = omega (arith, p.vertices) in
      p.bad
      ∙ sym
      (bad_more ∙ ap (λ t. not (all (λ y. ltb y g.v) g.virtuals && t)) (lt-ltb x g.v v)
      ∙ ap not (and-true (all (λ y. ltb y g.v) g.virtuals)))

  held_new : x < s.v → s.virtuals < length virtuals → new_virtual virtuals s.virtuals x ≡ true
      → SetupHolds (virtual_added s virtuals x) edges (stored_virtual s virtuals x) (with_virtual g x)
  unfolding with_virtual new_virtual
  held_new h r t =
      let new = virtual-new s virtuals x h t in
      let v : x < g.v = omega (arith, p.vertices) in
      let low : ltb x 64 ≡ true = and_left (ltb x 64) (not (member x (stored_of s virtuals))) t in
      let apart : member x (stored_of s virtuals) ≡ false =
      not-true (member x (stored_of s virtuals)) (and_right (ltb x 64) (not (member x (stored_of s virtuals))) t) in
      let more : virtuals_from (take (s.virtuals + 1) (set virtuals s.virtuals (pos x)))
      ≡ stored_of s virtuals ++ (x ∷ []) =
      stored_more virtuals s.virtuals x r in
      rw (← new.0, ← new.1)
      (record {
        vertices = p.vertices;
        edge-size = p.edge-size;
        node-limit = p.node-limit;
        store-limit = p.store-limit;
        count = p.count;
        edge = p.edge;
        room = omega (arith, length-set virtuals s.virtuals (pos x));
        small = rw more (all_snoc (λ y. ltb y 64) (stored_of s virtuals) x p.small low);
        inside = rw more (all_snoc (λ y. ltb y g.v) (stored_of s virtuals) x p.inside (lt-ltb x g.v v));
        once = rw more (distinct_snoc (stored_of s virtuals) x p.once apart);
        same = λ y i j. rw more (member-snoc y x (stored_of s virtuals) ∙ ap (λ t. t || eqb y x) (p.same y i j) ∙ sym (member-snoc y x g.virtuals));
        bad = bad-still h;
      })

  held-old : x < s.v → new_virtual virtuals s.virtuals x ≡ false
      → SetupHolds (virtual_added s virtuals x) edges (stored_virtual s virtuals x) (with_virtual g x)
  unfolding with_virtual new_virtual
  held-old h t =
      let old = virtual-old s virtuals x h t in
      rw (← old.0, ← old.1)
      (record {
        vertices = p.vertices;
        edge-size = p.edge-size;
        node-limit = p.node-limit;
        store-limit = p.store-limit;
        count = p.count;
        edge = p.edge;
        room = p.room;
        small = p.small;
        inside = p.inside;
        once = p.once;
        same = λ y i j. p.same y i j ∙ sym (still y i);
        bad = bad-still h;
      })
    where
      still : (y : ℕ) → y < 64 → member y (g.virtuals ++ (x ∷ [])) ≡ member y g.virtuals
      still y i =
          by-test (ltb x 64)
          (λ e.
          let low : x < 64 = ltb-true x 64 e in
          let again : member x (stored_of s virtuals) ≡ true = not-false (member x (stored_of s virtuals)) (rw e at t) in
          member-again y x g.virtuals (sym (p.same x low (omega (arith, p.vertices))) ∙ again))
          (λ e. let high : 64 ≤ x = ltb-false x 64 e in member_apart y x g.virtuals (λ q. omega arith))

pub holding-virtual : {s : Setup} {edges virtuals : List ℤ} {g : Gathered} (x : ℕ) → 65 ≤ length virtuals
    → SetupHolds s edges virtuals g
    → SetupHolds (virtual_added s virtuals x) edges (stored_virtual s virtuals x) (with_virtual g x)
holding-virtual {s} {edges} {virtuals} {g} x size p =
    by-test (leb s.v x)
    (λ e. held_out s edges virtuals g x p (leb-true s.v x e))
    (λ e.
    let low : x < s.v = leb-false s.v x e in
    by-test (new_virtual virtuals s.virtuals x)
    (λ t. held_new s edges virtuals g x p low (omega (arith, stored-few p)) t)
    (λ t. held-old s edges virtuals g x p low t))
