-- The call that opens a blossom: what it leaves on every state, what 15 says, and that without the blossom it changes nothing.
use Rattle.std.specs.Prelude.{◌≡◌, ℕ, false, ◌≢◌, ◌⊎◌, [], ◌∷◌}
use Rattle.std.proofs.Common.{arith, ◌∙◌, inl, inr, eq-eqb}
use Rattle.std.proofs.Math.Decide.{ℕ_discrete as dec_eq}
use Rattle.std.specs.Prelude.{refl}
use Rattle.std.proofs.Math.Logic.{by_cases}
use Rattle.graph.specs.Basic.{fold}
use Rattle.graph.specs.State.{State, class_of, dual_of, with_nodes, with_class, with_grow_state, with_boundary, with_overgrown, down}
use Rattle.graph.specs.laws.State.{if-both, fold-keeps}
use Rattle.graph.specs.laws.Members.{by-test, clash}
use Rattle.calls.specs.Refuse.{bad_node, in_blossom, store_short}
use Rattle.answers.specs.Answer.{Reply, says}
use Rattle.pass.specs.Prepare.{prepare_node}
use Rattle.pass.proofs.laws.Passes.{Passed}
use Rattle.pass.proofs.laws.Prepare.{prepare-passed}
use Rattle.calls.proofs.laws.Accepted.{unless-cases}
use Rattle.calls.specs.Remove.{members_of, is_blossom, remove_refusal, unheld, stops_opening, member_step, removed_node, opened_blossom, open_prepared, remove_blossom}
use Rattle.calls.proofs.laws.Remove.{RemoveAccepted, remove-accepted, Rest, rest-trans, one-rest, unheld-held}

-- ---- on every state

-- what the call leaves as it is
pub record OpeningKeeps (c d : State) : Type 0 where
  pub graph : d.graph ≡ c.graph
  pub growth : d.sides.growth ≡ c.sides.growth
  pub node_limit : d.node_limit ≡ c.node_limit
  pub store_limit : d.store_limit ≡ c.store_limit

keeps-refl : (c : State) → OpeningKeeps c c
keeps-refl c = record { graph = refl; growth = refl; node_limit = refl; store_limit = refl }

prepared-keeps : (c : State) (n : ℕ) → OpeningKeeps c (prepare_node c n down).state
prepared-keeps c n =
    let p : Passed n c (prepare_node c n down).state = prepare-passed c n down in
    record { graph = p.graph; growth = p.growth; node_limit = p.node_limit; store_limit = p.store_limit }

opened-keeps : (b c : State) (n : ℕ) → OpeningKeeps b c → OpeningKeeps b (opened_blossom c n)
unfolding opened_blossom removed_node with_class with_grow_state with_boundary with_overgrown with_nodes
opened-keeps b c n k =
    let f : Rest c (unheld c n) = (unheld-held c n).rest in
    let g : Rest c (fold member_step (unheld c n) (members_of c n)) =
    fold-keeps member_step (Rest c) (λ d m r. rest-trans r (one-rest d m)) (unheld c n) (members_of c n) f in
    record { graph = g.graph ∙ k.graph; growth = g.growth ∙ k.growth; node_limit = g.node_limit ∙ k.node_limit; store_limit = g.store_limit ∙ k.store_limit }

pub remove-keeps : (c : State) (n : ℕ) → OpeningKeeps c (remove_blossom c n).state
unfolding remove_blossom open_prepared says
remove-keeps c n =
    unless-cases (λ (r : Reply). OpeningKeeps c r.state) (remove_refusal c n) c _ (λ e. keeps-refl c)
    (λ e.
    if-both (λ (r : Reply). OpeningKeeps c r.state) (stops_opening (prepare_node c n down).state n) (prepared-keeps c n)
    (opened-keeps c (prepare_node c n down).state n (prepared-keeps c n)))

-- ---- the answers

-- a refusal is one of 3, 6, 15, 9
pub remove-refused-by : (c : State) (n k : ℕ) → remove_refusal c n ≡ k → k ≡ 15 → (is_blossom (class_of c n) ≡ false) ⊎ (dual_of c n ≢ 0)
unfolding remove_refusal
remove-refused-by c n k e f =
    by-test (bad_node c n) (λ b. absurd (let w : 3 ≡ k = rw b at e in omega arith))
    (λ b.
    by-test (in_blossom c n) (λ i. absurd (let w : 6 ≡ k = rw (b, i) at e in omega arith))
    (λ i.
    by-test (is_blossom (class_of c n))
    (λ h.
    by_cases (dec_eq (dual_of c n) 0)
    (λ y.
    absurd
    (by-test (store_short c (n ∷ []) 1)
    (λ s. let w : 9 ≡ k = rw (b, i, h, eq-eqb (dual_of c n) 0 y, s) at e in omega arith)
    (λ s. let w : 0 ≡ k = rw (b, i, h, eq-eqb (dual_of c n) 0 y, s) at e in omega arith)))
    (λ y. inr y))
    (λ h. inl h)))

-- ---- without the blossom

-- where n is no blossom the call is refused and leaves all as it is
remove-plain : (c : State) (n : ℕ) → is_blossom (class_of c n) ≡ false → remove_refusal c n ≢ 0
remove-plain c n h e = let a : RemoveAccepted c n = remove-accepted c n e in clash (is_blossom (class_of c n)) a.blossom-class h

pub remove-nothing : (c : State) (n : ℕ) → is_blossom (class_of c n) ≡ false → (remove_blossom c n).state ≡ c
unfolding remove_blossom says
remove-nothing c n h = unless-cases (λ (r : Reply). r.state ≡ c) (remove_refusal c n) c _ (λ e. refl) (λ e. absurd (remove-plain c n h e))
