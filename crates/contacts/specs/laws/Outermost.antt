-- The walk up the parents: on a sound state more fuel changes nothing, and it stays among the nodes.
use Rattle.std.specs.Prelude.{ℕ, zero, suc, ◌+◌, ◌-◌, ◌≤◌, ◌<◌, ◌≡◌, refl, true, ◌≢◌, eqb, leb, ltb}
use Rattle.std.proofs.Common.{arith, ◌∙◌}
use Rattle.std.proofs.Math.Path.{sym}
use borrow.Author.Tests.{eqb-true, eqb-false, eq-eqb, ne_eqb, ltb-true, leb-true}
use Rattle.graph.specs.State.{State, node_count, parent_of}
use Rattle.graph.specs.Sound.{parent_sound, node_or_none, sound}
use Rattle.graph.specs.laws.State.{and_left, and_right}
use Rattle.graph.specs.laws.Members.{or_cases, by-test}
use Rattle.graph.specs.laws.Shape.{node-facts, sound-node}
use Rattle.calls.specs.Contacts.{outermost_by, outermost_of}

-- one step, by the parent of the node
up_none : (f : ℕ) (c : State) (n : ℕ) → parent_of c n ≡ 0 → outermost_by f c n ≡ n
unfolding outermost_by
up_none zero c n e = refl
up_none (suc f) c n e = rw (eq-eqb (parent_of c n) 0 e)

up_one : (f : ℕ) (c : State) (n : ℕ) → parent_of c n ≢ 0 → outermost_by (suc f) c n ≡ outermost_by f c (parent_of c n - 1)
unfolding outermost_by
up_one f c n e = rw (ne_eqb (parent_of c n) 0 e)

module _ (c : State) (h : sound c ≡ true) where
  -- a parent is a node that is numbered above
  pub parent_above : (n : ℕ) → n < node_count c → parent_of c n ≢ 0 → (n + 1 < parent_of c n) × (parent_of c n ≤ node_count c)
  unfolding parent_sound node_or_none
  parent_above n b e =
      or_cases (eqb (parent_of c n) 0) _ (node-facts c n (sound-node c h n b)).parent (λ z. absurd (e (eqb-true _ _ z)))
      (λ z. (
        ltb-true _ _ (and_left (ltb (n + 1) (parent_of c n)) (leb (parent_of c n) (node_count c)) z),
        leb-true _ _ (and_right (ltb (n + 1) (parent_of c n)) (leb (parent_of c n) (node_count c)) z),
      ))

  fuel : (f g n : ℕ) → n < node_count c → node_count c ≤ n + f → node_count c ≤ n + g → outermost_by f c n ≡ outermost_by g c n
  fuel zero g n b hf hg = absurd (omega arith)
  fuel (suc f) zero n b hf hg = absurd (omega arith)
  fuel (suc f) (suc g) n b hf hg =
      by-test (eqb (parent_of c n) 0)
      (λ z. let e = eqb-true (parent_of c n) 0 z in up_none (suc f) c n e ∙ sym (up_none (suc g) c n e))
      (λ z.
      let e : parent_of c n ≢ 0 = eqb-false (parent_of c n) 0 z in
      let k = parent_above n b e in
      up_one f c n e
      ∙ fuel f g (parent_of c n - 1) (omega (arith, k.0, k.1)) (omega (arith, k.0)) (omega (arith, k.0))
      ∙ sym (up_one g c n e))

  -- the loop: from a node and from its parent the walk ends at the same node
  pub outermost-up : (n : ℕ) → n < node_count c → parent_of c n ≢ 0 → outermost_of c (parent_of c n - 1) ≡ outermost_of c n
  unfolding outermost_of
  outermost-up n b e =
      let k = parent_above n b e in
      fuel (node_count c) (node_count c - 1) (parent_of c n - 1) (omega (arith, k.0, k.1)) (omega (arith, k.0)) (omega (arith, k.0))
      ∙ sym (up_one (node_count c - 1) c n e)
      ∙ fuel (suc (node_count c - 1)) (node_count c) n b (omega arith) (omega arith)

pub outermost-here : (c : State) (n : ℕ) → parent_of c n ≡ 0 → n ≡ outermost_of c n
unfolding outermost_of
outermost-here c n e = sym (up_none (node_count c) c n e)
