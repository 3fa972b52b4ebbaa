-- The list and the rule, both directions; the edges rise.
use Rattle.std.specs.Prelude.{ℕ, zero, suc, ◌+◌, ◌*◌, ◌≤◌, ◌<◌, ◌≡◌, refl, true, not, ◌&&◌, List, [], ◌∷◌, ◌++◌, map, eqb, if◌then◌else◌}
use Rattle.std.proofs.Common.{arith, add-one, ◌∙◌, eqb-true, eq-eqb, ne_eqb}
use Rattle.std.proofs.lemmas.Bool.{eqb-false, not-true}
use Rattle.graph.specs.Basic.{member, only, below}
use Rattle.graph.specs.State.{State, edge_count, end_at, growth_at, holder_at, weight_at, virtual_at, vertex_holder_at}
use Rattle.graph.specs.laws.State.{and_left, and_right}
use Rattle.graph.specs.laws.Members.{by-test, both, member-cons, member-nil, member-head, member-tail, member-only, only-member, member_below, below-member}
use Rattle.calls.specs.Contacts.{Contact, FreeVirtual, Joins, two-nodes, virtual-right, virtual-left, IsContact, side_node, touches, free_virtual, joins_nodes, is_contact, contact_of, contacts}
use Rattle.contacts.specs.Rule.{AmongContacts, first, later, EdgesRise, none, next}
use Rattle.contacts.specs.laws.Listed.{contacts_below, below_none, below-yes, below-no}

-- ---- the tests say what the rule says

free-is : (c : State) (s : ℕ) → free_virtual c s ≡ true → FreeVirtual c s
unfolding free_virtual
free-is c s h =
    let a = eqb (holder_at c s) 0 in
    let b = eqb (vertex_holder_at c (end_at c s)) 0 in
    let d = not (eqb (virtual_at c (end_at c s)) 0) in
    let r = and_left (a && b) d h in
    record {
      side = eqb-true _ _ (and_left a b r);
      vertex = eqb-true _ _ (and_right a b r);
      virtual = eqb-false _ _ (not-true _ (and_right (a && b) d h));
    }

is_free : (c : State) (s : ℕ) → FreeVirtual c s → free_virtual c s ≡ true
unfolding free_virtual
is_free c s p = rw (p.side, p.vertex, ne_eqb (virtual_at c (end_at c s)) 0 p.virtual)

side-none : (c : State) (s : ℕ) → holder_at c s ≡ 0 → side_node c s ≡ 0
unfolding side_node
side-none c s e = rw (eq-eqb (holder_at c s) 0 e)

joins-is : (c : State) (e p q : ℕ) → joins_nodes c e p q ≡ true → Joins c e p q
unfolding joins_nodes
joins-is c e p q h =
    by-test (eqb p 0)
    (λ z.
    let k : not (eqb q 0) && free_virtual c (2 * e) ≡ true = rw z at h in
    virtual-left (eqb-false q 0 (not-true _ (and_left (not (eqb q 0)) _ k))) (free-is c (2 * e) (and_right (not (eqb q 0)) _ k)))
    (λ z.
    let k : (if eqb q 0 then free_virtual c (2 * e + 1) else not (eqb p q)) ≡ true = rw z at h in
    by-test (eqb q 0) (λ y. virtual-right (eqb-false p 0 z) (free-is c (2 * e + 1) (rw y at k)))
    (λ y. two-nodes (eqb-false p 0 z) (eqb-false q 0 y) (eqb-false p q (not-true _ (rw y at k)))))

is-joins : (c : State) (e p q : ℕ) → p ≡ side_node c (2 * e) → q ≡ side_node c (2 * e + 1) → Joins c e p q → joins_nodes c e p q ≡ true
unfolding joins_nodes
is-joins c e p q l r (two-nodes a b d) = rw (ne_eqb p 0 a, ne_eqb q 0 b, ne_eqb p q d)
is-joins c e p q l r (virtual-right a f) = rw (ne_eqb p 0 a, eq-eqb q 0 (r ∙ side-none c (2 * e + 1) f.side), is_free c (2 * e + 1) f)
is-joins c e p q l r (virtual-left b f) = rw (eq-eqb p 0 (l ∙ side-none c (2 * e) f.side), ne_eqb q 0 b, is_free c (2 * e) f)

contact-is : (c : State) (e : ℕ) → e < edge_count c → is_contact c e ≡ true → IsContact c (contact_of c e)
unfolding is_contact contact_of touches
contact-is c e b h =
    let t = eqb (growth_at c (2 * e) + growth_at c (2 * e + 1)) (weight_at c e) in
    let j = joins_nodes c e (side_node c (2 * e)) (side_node c (2 * e + 1)) in
    record {
      in_graph = b;
      full = eqb-true _ _ (and_left t j h);
      left-node = refl;
      right-node = refl;
      joins = joins-is c e _ _ (and_right t j h);
    }

is-contact : (c : State) (x : Contact) → IsContact c x → is_contact c x.edge ≡ true
unfolding is_contact touches
is-contact c x p =
    both _ _ (eq-eqb _ _ p.full)
    (rw (← p.left-node, ← p.right-node) (is-joins c x.edge x.left x.right p.left-node p.right-node p.joins))

same-contact : (c : State) (x : Contact) → IsContact c x → contact_of c x.edge ≡ x
unfolding contact_of
same-contact c x p = rw (← p.left-node, ← p.right-node) refl

-- ---- the list

-- a contact in a list is its first or stands behind it
among-split : {P : Type 0} (x y : Contact) (l : List Contact) → AmongContacts x (y ∷ l) → (y ≡ x → P) → (AmongContacts x l → P) → P
among-split x y l first k h = k refl
among-split x y l (later a) k h = h a

-- a contact in the list is that of an edge
module _ (f : ℕ → Contact) where
  among-map : {P : Type 0} (x : Contact) (l : List ℕ) → AmongContacts x (map f l) → ((e : ℕ) → member e l ≡ true → f e ≡ x → P) → P
  among-map {P = P} x [] a k = elim a [ ]
  among-map x (e ∷ l) a k = among-split x (f e) (map f l) a (λ q. k e (member-head e l) q) (λ b. among-map x l b (λ i m q. k i (member-tail i e l m) q))

  map-among : (e : ℕ) (l : List ℕ) → member e l ≡ true → AmongContacts (f e) (map f l)
  map-among e [] m = member-nil e m
  map-among e (y ∷ l) m = member-cons e y l m (λ q. rw q first) (λ r. later (map-among e l r))

pub among-is : (c : State) (x : Contact) → AmongContacts x (contacts c) → IsContact c x
unfolding contacts
among-is c x a =
    among-map (contact_of c) x (only (is_contact c) (below (edge_count c))) a
    (λ e m q.
    let k = member-only (is_contact c) (below (edge_count c)) e m in
    rw q at (contact-is c e (below-member (edge_count c) e k.0) k.1))

pub is_among : (c : State) (x : Contact) → IsContact c x → AmongContacts x (contacts c)
unfolding contacts
is_among c x p =
    let m =
    only-member (is_contact c) (below (edge_count c)) x.edge (member_below (edge_count c) x.edge p.in_graph) (is-contact c x p) in
    rw (same-contact c x p) at (map-among (contact_of c) x.edge (only (is_contact c) (below (edge_count c))) m)

-- ---- rising edges

wider : {m k : ℕ} (n : ℕ) (l : List Contact) → m ≤ n → EdgesRise m k l → EdgesRise n k l
wider {m} {k} n [] h (none b) = none {k = k} (omega arith)
wider {m = m} {k = k} n (x ∷ l) h (next b r) = next b (wider {k = x.edge + 1} n l h r)

rise-snoc : {m k : ℕ} (l : List Contact) (x : Contact) → m ≤ x.edge → EdgesRise m k l → EdgesRise (x.edge + 1) k (l ++ (x ∷ []))
rise-snoc {m} {k} [] x h (none b) = next {k = k} {x = x} (omega arith) (none {k = x.edge + 1} (omega arith))
rise-snoc {m = m} {k = k} (y ∷ l) x h (next b r) = next b (rise-snoc {k = y.edge + 1} l x h r)

one_more : (c : State) (e : ℕ) → EdgesRise e 0 (contacts_below c e) → EdgesRise (e + 1) 0 (contacts_below c (e + 1))
unfolding contact_of
one_more c e r =
    by-test (is_contact c e)
    (λ h. rw (below-yes c e h) (rise-snoc (contacts_below c e) (contact_of c e) (omega arith) r))
    (λ h. rw (below-no c e h) (wider (e + 1) (contacts_below c e) (omega arith) r))

pub below-rise : (c : State) (e : ℕ) → EdgesRise e 0 (contacts_below c e)
below-rise c zero = rw (below_none c) (none {k = 0} (omega arith))
below-rise c (suc e) = rw (← add-one) (one_more c e (below-rise c e))
