-- No number twice in a list, by marks: those of the list that were met are marked 1, and of what other nodes hold only what earlier ones do.
use Rattle.std.specs.Prelude.{ℕ, ◌+◌, ◌≤◌, ◌<◌, ◌≡◌, refl, ◌≢◌, Bool, true, false, ◌&&◌, not, List, eqb, length, get_or, set, replicate}
use Rattle.std.proofs.Common.{arith, sym, ap, ◌∙◌, length-set, get_or-set_same, get_or-set_other, eq-eqb, ne_eqb, eqb-true}
use Rattle.std.proofs.Math.Decide.{ℕ_discrete as dec_eq}
use Rattle.std.proofs.lemmas.List.{length-replicate}
use Rattle.graph.specs.State.{State, vertex_count, side_count, parent_of, boundary_of, overgrown_of}
use Rattle.graph.specs.Basic.{all}
use Rattle.graph.specs.Sound.{over_sound, own_lists, node_sound}
use Rattle.graph.specs.inner.Form.{sides_ok}
use Rattle.graph.specs.inner.Scans.{node_numbers, side_held, vertex_held, overgrown_vertices, once_all, Stamped}
use Rattle.graph.specs.laws.Members.{by-test}
use Rattle.graph.specs.laws.State.{and_left}
use Rattle.graph.specs.laws.Opened.{get_d-zeros}
use Rattle.graph.specs.laws.Scan.{node_range, node-fails, node-inner, node-outermost}
use Rattle.graph.specs.laws.Stamp.{fresh, stamped-none, stamped-more, stamped-fails, stamped-all, own-both}
use Rattle.node_tests.specs.inner.Marks.{Unmarked, Marks}

-- ---- the loop over one list

module _ (holder : ℕ → ℕ) (n : ℕ) (l : List ℕ) where
  -- held by node n
  abbrev pub held : ℕ → Bool
  held x = eqb (holder x) (n + 1)

  -- the first i entries are held by the node, none of them twice, and of what it holds they alone are marked: with stamps n + 1, as if no other node had marked
  pub record Marked (i : ℕ) (m : List ℕ) : Type 0 where
    pub stamps : List ℕ
    pub stamped : Stamped (n + 1) held l i stamps
    pub size : length stamps ≡ length m
    pub alike : (x : ℕ) → x < length m → holder x ≡ n + 1 → eqb (get_or m x 0) 1 ≡ eqb (get_or stamps x 0) (n + 1)
    pub later : Unmarked holder (n + 1) m

  pub marked-none : (m : List ℕ) → Unmarked holder n m → Marked 0 m
  marked-none m u = record {
    stamps = replicate (length m) 0;
    stamped = stamped-none n held l (replicate (length m) 0) (λ x. omega (arith, get_d-zeros (length m) x));
    size = length-replicate {A = ℕ} (length m) 0;
    alike = λ x h e. rw (u x (omega (arith, e)), get_d-zeros (length m) x, ne_eqb 0 (n + 1) (λ z. omega (arith, z)));
    later = λ x h. u x (omega (arith, h));
  }

  module _ (i : ℕ) (m : List ℕ) (s : Marked i m) where
    pub marked_all : length l ≤ i → true ≡ once_all held l
    marked_all h = stamped-all (n + 1) held l i s.stamps s.stamped h

    module _ (y : ℕ) (h : i < length l) (e : y ≡ get_or l i 0) (small : y < length m) where
      -- the test of a mark says what that of a stamp would
      same_test : fresh (n + 1) held s.stamps y ≡ held y && not (eqb (get_or m y 0) 1)
      same_test =
          elim (dec_eq (holder y) (n + 1)) [
            | yes q ↦ rw (s.alike y small q)
            | no q ↦ rw (ne_eqb (holder y) (n + 1) q)
          ]

      pub marked-fails : held y && not (eqb (get_or m y 0) 1) ≡ false → false ≡ once_all held l
      marked-fails f = stamped-fails (n + 1) held l i s.stamps s.stamped y h e (omega (arith, small, s.size)) (same_test ∙ f)

      pub marked_more : held y && not (eqb (get_or m y 0) 1) ≡ true → Marked (i + 1) (set m y 1)
      marked_more f = record {
        stamps = set s.stamps y (n + 1);
        stamped = stamped-more (n + 1) held l i s.stamps s.stamped y h e (omega (arith, small, s.size)) (same_test ∙ f);
        size = length-set s.stamps y (n + 1) ∙ s.size ∙ sym (length-set m y 1);
        alike = alike';
        later = λ x k. get_or-set_other m y x 1 0 (λ z. omega (arith, k, mine, ap holder z)) ∙ s.later x k;
      }
        where
          mine : holder y ≡ n + 1
          mine = eqb-true (holder y) (n + 1) (and_left (held y) (not (eqb (get_or m y 0) 1)) f)

          alike' : (x : ℕ) → x < length (set m y 1) → holder x ≡ n + 1 → eqb (get_or (set m y 1) x 0) 1 ≡ eqb (get_or (set s.stamps y (n + 1)) x 0) (n + 1)
          alike' x k q =
              elim (dec_eq x y) [
                | yes z ↦
                    rw (z, get_or-set_same m y 1 0 small, get_or-set_same s.stamps y (n + 1) 0 (omega (arith, small, s.size)), eq-eqb (n + 1) (n + 1) refl)
                | no z ↦
                    rw (get_or-set_other m y x 1 0 z, get_or-set_other s.stamps y x (n + 1) 0 z)
                    (s.alike x (rw (length-set m y 1) at k) q)
              ]

-- ---- the marks of all nodes

-- at first nothing is marked
pub marks-none : (c : State) (m k : ℕ) → side_count c ≤ m → vertex_count c ≤ k → Marks c 0 (replicate m 0) (replicate k 0)
marks-none c m k h j = record {
  sides-room = rw (length-replicate {A = ℕ} m 0) h;
  vertices-room = rw (length-replicate {A = ℕ} k 0) j;
  sides-left = λ x l. get_d-zeros m x;
  vertices-left = λ x l. get_d-zeros k x;
}

-- a node that marks nothing
pub marks-still : (c : State) (n : ℕ) (sides vertices : List ℕ) → Marks c n sides vertices → Marks c (n + 1) sides vertices
marks-still c n sides vertices s = record {
  sides-room = s.sides-room;
  vertices-room = s.vertices-room;
  sides-left = λ x l. s.sides-left x (omega (arith, l));
  vertices-left = λ x l. s.vertices-left x (omega (arith, l));
}

-- ---- a node

-- both lists of an outermost node, list by list
pub own-lists-both : (c : State) (n : ℕ) → (sides_ok c n && once_all (side_held c n) (boundary_of c n))
    && (all (over_sound c) (overgrown_of c n) && once_all (vertex_held c n) (overgrown_vertices c n))
    ≡ sides_ok c n && all (over_sound c) (overgrown_of c n) && own_lists c n
own-lists-both c n =
    rw (own-both c n)
    (swap (sides_ok c n) (all (over_sound c) (overgrown_of c n)) (once_all (side_held c n) (boundary_of c n)) (once_all (vertex_held c n) (overgrown_vertices c n)))
  where
    swap : (a d x y : Bool) → (a && x) && (d && y) ≡ a && d && (x && y)
    swap true true x y = refl
    swap true false true y = refl
    swap true false false y = refl
    swap false d x y = refl

module _ (c : State) (n : ℕ) where
  range-is : node_numbers c n ≡ true → node_range c n ≡ sides_ok c n && all (over_sound c) (overgrown_of c n)
  range-is e = rw e

  pub numbers-fail : node_numbers c n ≡ false → false ≡ node_sound c n
  numbers-fail e = node-fails c n (rw e)

  -- a node that lies in a blossom is sound where its lists hold sides and vertices
  pub inner-node : node_numbers c n ≡ true → parent_of c n ≢ 0 → sides_ok c n && all (over_sound c) (overgrown_of c n) ≡ node_sound c n
  inner-node e p =
      by-test (sides_ok c n && all (over_sound c) (overgrown_of c n))
      (λ t. t ∙ node-inner c n (range-is e ∙ t) p)
      (λ t. t ∙ node-fails c n (range-is e ∙ t))

  -- an outermost one where its lists also are its own
  pub outermost-node : node_numbers c n ≡ true → parent_of c n ≡ 0 → sides_ok c n && all (over_sound c) (overgrown_of c n) && own_lists c n ≡ node_sound c n
  outermost-node e p =
      by-test (sides_ok c n && all (over_sound c) (overgrown_of c n))
      (λ t. rw t (node-outermost c n (range-is e ∙ t) p))
      (λ t. rw t (node-fails c n (range-is e ∙ t)))
