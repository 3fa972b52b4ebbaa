-- No number twice in a list, by stamps: an array over numbers in which every number of the list that was seen carries k. One array serves
-- list after list with rising k, for no stamp from before is above k - 1.
use Rattle.std.specs.Prelude.{ℕ, zero, suc, ◌+◌, ◌≤◌, ◌<◌, ◌≡◌, Bool, ◌&&◌, ◌||◌, List, [], ◌∷◌, ◌++◌, map, eqb, length, get_or, set}
use Rattle.std.proofs.Common.{arith, add-one, ap, ◌∙◌, length-set, take-suc, get_or-set_same, get_or-set_other}
use Rattle.std.proofs.Math.Decide.{ℕ_discrete as dec_eq}
use Rattle.std.proofs.Math.Path.{refl, sym}
use Rattle.std.proofs.Math.Bool.{true, false, not}
use Rattle.std.proofs.Math.ListN.{take, get_or-map}
use Rattle.std.proofs.lemmas.List.{length-map}
use Rattle.std.proofs.Math.Seq.{take_all}
use borrow.Author.Tests.{eq-eqb, ne_eqb, not-true, not-false}
use Rattle.graph.specs.Basic.{all, any, member, distinct}
use Rattle.graph.specs.laws.State.{and_left, and_right}
use Rattle.graph.specs.laws.Members.{both, member-nil, member-cons, member-at, distinct_snoc, all_snoc}
use Rattle.graph.specs.State.{State, Overgrown, boundary_of, overgrown_of}
use Rattle.graph.specs.Sound.{own_lists}
use Rattle.graph.specs.Layout.{overgrown_from}
use Rattle.graph.specs.inner.Scans.{side_held, vertex_held, overgrown_vertices, once_all, AtMost, Carry, Stamped}
use Rattle.graph.specs.laws.Scan.{and-false, list-fails}

-- ---- lists

member-snoc : (x : ℕ) (l : List ℕ) (y : ℕ) → member x (l ++ (y ∷ [])) ≡ member x l || eqb x y
unfolding member any
member-snoc x [] y = last (eqb x y)
  where
    last : (t : Bool) → t || false ≡ t
    last true = refl
    last false = refl
member-snoc x (z ∷ l) y = rw (member-snoc x l y) (assoc (eqb x z) (member x l) (eqb x y))
  where
    assoc : (a b d : Bool) → a || (b || d) ≡ (a || b) || d
    assoc true b d = refl
    assoc false b d = refl

or-none : (t : Bool) → t ≡ t || false
or-none true = refl
or-none false = refl

or_yes : (t : Bool) → true ≡ t || true
or_yes true = refl
or_yes false = refl

-- an entry that stands before it already stands twice
twice : (l : List ℕ) (i : ℕ) → i < length l → member (get_or l i 0) (take i l) ≡ true → distinct l ≡ false
unfolding distinct
twice [] i h m = absurd (omega arith)
twice (x ∷ l) zero h m = member-nil x m
twice (x ∷ l) (suc i) h m =
    member-cons (get_or l i 0) x (take i l) m
    (λ e. let r : member x l ≡ true = rw (← e) (member-at l i 0 (omega arith)) in rw r)
    (λ e. rw (twice l i (omega arith) e) (and-false (not (member x l))))

-- ---- the loop over one list

module _ (k : ℕ) (l : List ℕ) (i : ℕ) (m : List ℕ) (y : ℕ) (h : i < length l) (e : y ≡ get_or l i 0) (small : y < length m) where
  next-entry : take (i + 1) l ≡ take i l ++ (y ∷ [])
  next-entry = rw (add-one, take-suc l i 0 h, e)

  -- entry i carries k too
  pub carry-more : Carry k l i m → Carry k l (i + 1) (set m y k)
  carry-more c x j =
      rw (next-entry, member-snoc x (take i l) y)
      (elim (dec_eq x y) [
        | yes q ↦ rw (q, get_or-set_same m y k 0 small, eq-eqb k k refl, eq-eqb y y refl) (or_yes (member y (take i l)))
        | no q ↦ rw (get_or-set_other m y x k 0 q, ne_eqb x y q) (c x (rw (length-set m y k) at j) ∙ or-none (member x (take i l)))
      ])

pub stamped-none : (n : ℕ) (p : ℕ → Bool) (l m : List ℕ) → AtMost m n → Stamped (n + 1) p l 0 m
unfolding member any distinct all
stamped-none n p l m a = record {
  within = omega arith;
  most = λ x. omega (arith, a x);
  marks = λ x h. ne_eqb (get_or m x 0) (n + 1) (λ e. omega (arith, a x, e));
  once = refl;
  pass = refl;
}

-- the test of entry y: it passes and does not carry k yet
abbrev pub fresh : (k : ℕ) (p : ℕ → Bool) (m : List ℕ) (y : ℕ) → Bool
fresh k p m y = p y && not (eqb (get_or m y 0) k)

module _ (k : ℕ) (p : ℕ → Bool) (l : List ℕ) (i : ℕ) (m : List ℕ) (s : Stamped k p l i m) where
  pub stamped-all : length l ≤ i → true ≡ once_all p l
  unfolding once_all
  stamped-all h = let e : take i l ≡ l = take_all i l h in sym (both (distinct l) (all p l) (rw e at s.once) (rw e at s.pass))

  module _ (y : ℕ) (h : i < length l) (e : y ≡ get_or l i 0) (small : y < length m) where
    pub stamped-more : fresh k p m y ≡ true → Stamped k p l (i + 1) (set m y k)
    stamped-more f = record {
      within = omega arith;
      most = most';
      marks = carry-more k l i m y h e small s.marks;
      once = rw next once';
      pass = rw next (all_snoc p (take i l) y s.pass (and_left (p y) (not (eqb (get_or m y 0) k)) f));
    }
      where
        next : take (i + 1) l ≡ take i l ++ (y ∷ [])
        next = next-entry k l i m y h e small

        most' : (x : ℕ) → get_or (set m y k) x 0 ≤ k
        most' x = elim (dec_eq x y) [ yes q ↦ rw (q, get_or-set_same m y k 0 small) (omega arith) | no q ↦ rw (get_or-set_other m y x k 0 q) (s.most x) ]

        once' : distinct (take i l ++ (y ∷ [])) ≡ true
        once' = distinct_snoc (take i l) y s.once (sym (s.marks y small) ∙ not-true (eqb (get_or m y 0) k) (and_right (p y) (not (eqb (get_or m y 0) k)) f))

    pub stamped-fails : fresh k p m y ≡ false → false ≡ once_all p l
    unfolding once_all
    stamped-fails f = sym (go (p y) refl f)
      where
        go : (t : Bool) → p y ≡ t → t && not (eqb (get_or m y 0) k) ≡ false → distinct l && all p l ≡ false
        go true a b = rw (twice l i h (rw (← e) (sym (s.marks y small) ∙ not-false (eqb (get_or m y 0) k) b)))
        go false a b = rw (list-fails p l i 0 h (rw (← e) a)) (and-false (distinct l))

-- ---- the lists of one node

own-swap : (a b d e : Bool) → (a && d) && (b && e) ≡ a && b && d && e
own-swap true true d e = refl
own-swap true false true e = refl
own-swap true false false e = refl
own-swap false b d e = refl

all-mapped : {A B : Type 0} (p : B → Bool) (f : A → B) (l : List A) → all (λ x. p (f x)) l ≡ all p (map f l)
unfolding all
all-mapped p f [] = refl
all-mapped p f (x ∷ l) = ap (λ t. p (f x) && t) (all-mapped p f l)

-- what an outermost node's lists must have, list by list
pub own-both : (c : State) (n : ℕ) → own_lists c n ≡ once_all (side_held c n) (boundary_of c n) && once_all (vertex_held c n) (overgrown_vertices c n)
unfolding own_lists once_all side_held vertex_held
own-both c n =
    rw (all-mapped (vertex_held c n) (λ (o : Overgrown). o.vertex) (overgrown_of c n))
    (sym
    (own-swap (distinct (boundary_of c n)) (distinct (overgrown_vertices c n)) (all (side_held c n) (boundary_of c n))
    (all (vertex_held c n) (overgrown_vertices c n))))

pub overgrown-vertex : (c : State) (n i : ℕ) → get_or (overgrown_vertices c n) i 0 ≡ (get_or (overgrown_of c n) i (overgrown_from 0)).vertex
unfolding overgrown_from
overgrown-vertex c n i = get_or-map (λ (o : Overgrown). o.vertex) (overgrown_of c n) i (overgrown_from 0)

pub overgrown-count : (c : State) (n : ℕ) → length (overgrown_vertices c n) ≡ length (overgrown_of c n)
overgrown-count c n = length-map (overgrown_of c n) (λ (o : Overgrown). o.vertex)
