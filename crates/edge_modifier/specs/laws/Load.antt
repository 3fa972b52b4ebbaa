-- The tests of all pairs, and the weights set pair by pair.
use Rattle.std.specs.Prelude.{ℕ, zero, suc, ◌+◌, ◌*◌, ◌/◌, ◌≤◌, ◌<◌, ◌≡◌, refl, ◌≢◌, Bool, false, ◌&&◌, ◌||◌, not, List, [], ◌∷◌, ℤ, eqb, length, get_or, take, if◌then◌else◌}
use native.Mathlib.Omega.{arith}
use Rattle.std.proofs.Common.{sym, ◌∙◌}
use Rattle.std.proofs.Math.Path.{ap, subst}
use Rattle.std.proofs.Math.Bool.{true}
use Rattle.std.proofs.Math.ListN.{length-map}
use borrow.Author.Tests.{ltb-true, lt-ltb, le-ltb, leb-true, le-leb, lt-leb}
use Rattle.graph.specs.Basic.{fold, all, below}
use Rattle.graph.specs.State.{State, edge_count, node_count, with_edge_weight, with_reweighted}
use Rattle.graph.specs.Opening.{given_at}
use Rattle.graph.specs.Layout.{state_of}
use Rattle.graph.specs.Form.{Formed}
use Rattle.graph.specs.inner.Form.{Becomes}
use Rattle.graph.specs.laws.Members.{length-below, all_first, all_others}
use Rattle.graph.specs.laws.State.{fold_more, fold_done}
use Rattle.graph.specs.laws.Opened.{get_d-tabled}
use Rattle.graph.specs.laws.Row.{becomes-none, becomes-then}
use Rattle.open_graph.specs.laws.Open.{Rest, rest_more, rest-fails, rest_all}
use Rattle.answers.specs.Outcome.{Done, Refused}
use Rattle.calls.specs.Erasures.{EdgeWeight, edge_weight_at, pairs_in, pairs_from, names_edge, weight_in_range, weights_bound, modifier_refusal, reweigh, reweighed, load_edge_modifier}
use Rattle.calls.specs.inner.Reply.{Replies}
use Rattle.calls.proofs.laws.Replies.{replies-refused, replies-accepted}
use Rattle.edge_modifier.specs.inner.Refusals.{refusal_of_mark, refusal_of_weights}

-- ---- the chain

pub refusal-links : (c : State) (pairs : List EdgeWeight)
    → modifier_refusal c pairs ≡ (if all (names_edge c) pairs then refusal_of_weights c pairs else 3)
unfolding modifier_refusal refusal_of_weights refusal_of_mark weights_bound
refusal-links c pairs = go (all (names_edge c) pairs) (all weight_in_range pairs) (eqb (node_count c) 0) (eqb c.graph.reweighted 0)
  where
    go : (x y n m : Bool)
        → ◌≡◌ {A = ℕ} (if not x then 3 else if not y then 4 else if not n || not m then 16 else 0)
        (if x then (if y then (if n && m then 0 else 16) else 4) else 3)
    go true true true true = refl
    go true true true false = refl
    go true true false m = refl
    go true false n m = refl
    go false y n m = refl

-- ---- the pairs

all_get_d : {A : Type 0} (p : A → Bool) (l : List A) (i : ℕ) (d : A) → all p l ≡ true → i < length l → p (get_or l i d) ≡ true
all_get_d p [] i d h k = absurd (omega arith)
all_get_d p (x ∷ l) zero d h k = all_first p x l h
all_get_d p (x ∷ l) (suc i) d h k = all_get_d p l i d (all_others p x l h) (omega arith)

module _ (words : List ℤ) where
  pub pairs-count : length (pairs_from words) ≡ pairs_in words
  unfolding pairs_from
  pairs-count = length-map (below (pairs_in words)) (edge_weight_at words) ∙ length-below (pairs_in words)

  pub pairs-get : (i : ℕ) → i < pairs_in words → get_or (pairs_from words) i (edge_weight_at words 0) ≡ edge_weight_at words i
  unfolding pairs_from
  pairs-get i h = get_d-tabled (edge_weight_at words) (pairs_in words) i (edge_weight_at words 0) h

  -- a test of every pair: what remains decides the whole
  module _ (p : EdgeWeight → Bool) (i : ℕ) (r : Rest p (pairs_from words) i) (h : i < pairs_in words) where
    pub pairs-more : p (edge_weight_at words i) ≡ true → Rest p (pairs_from words) (i + 1)
    pairs-more e = rest_more p (pairs_from words) i (edge_weight_at words 0) r (rw pairs-count h) (ap p (pairs-get i h) ∙ e)

    pub pairs-fails : p (edge_weight_at words i) ≡ false → false ≡ all p (pairs_from words)
    pairs-fails e = rest-fails p (pairs_from words) i (edge_weight_at words 0) r (rw pairs-count h) (ap p (pairs-get i h) ∙ e)

  pub pairs-all : (p : EdgeWeight → Bool) (i : ℕ) → Rest p (pairs_from words) i → pairs_in words ≤ i → true ≡ all p (pairs_from words)
  pairs-all p i r h = rest_all p (pairs_from words) i r (rw pairs-count h)

-- what a loop finds of pair i
module _ (words : List ℤ) (i : ℕ) where
  pub names-edge : (c : State) → given_at words (2 * i) < edge_count c → names_edge c (edge_weight_at words i) ≡ true
  unfolding names_edge edge_weight_at
  names-edge c h = lt-ltb _ _ h

  pub names-no-edge : (c : State) → edge_count c ≤ given_at words (2 * i) → names_edge c (edge_weight_at words i) ≡ false
  unfolding names_edge edge_weight_at
  names-no-edge c h = le-ltb _ _ h

  pub in-range : given_at words (2 * i + 1) ≤ 1000000 → weight_in_range (edge_weight_at words i) ≡ true
  unfolding weight_in_range edge_weight_at
  in-range h = le-leb _ _ h

  pub out_of_range : 1000000 < given_at words (2 * i + 1) → weight_in_range (edge_weight_at words i) ≡ false
  unfolding weight_in_range edge_weight_at
  out_of_range h = lt-leb _ _ h

-- ---- the weights set

-- after b₀, the first i pairs have set their weights
pub record WeightsSet (b₀ b : List ℤ) (words : List ℤ) (i : ℕ) : Type 0 where
  pub block : Becomes b₀ b (fold reweigh (state_of b₀) (take i (pairs_from words)))
  pub within : i ≤ pairs_in words

pub set-none : {b : List ℤ} (words : List ℤ) → Formed b → WeightsSet b b words 0
unfolding fold
set-none {b} words f = record { block = becomes-none b (state_of b) f refl; within = omega arith }

module _ {b₀ b words : List ℤ} {i : ℕ} (p : WeightsSet b₀ b words i) where
  -- the pair names an edge, and its weight is in range
  pub pair-edge : all (names_edge (state_of b₀)) (pairs_from words) ≡ true → i < pairs_in words → given_at words (2 * i) < edge_count (state_of b)
  unfolding names_edge edge_weight_at
  pair-edge h k =
      let t : names_edge (state_of b₀) (edge_weight_at words i) ≡ true =
      subst (λ x. names_edge (state_of b₀) x ≡ true) (pairs-get words i k)
      (all_get_d (names_edge (state_of b₀)) (pairs_from words) i (edge_weight_at words 0) h (rw (pairs-count words) k)) in
      let l : given_at words (2 * i) < edge_count (state_of b₀) = ltb-true _ _ t in
      omega (arith, l, p.block.edges)

  pub pair-weight : all weight_in_range (pairs_from words) ≡ true → i < pairs_in words → given_at words (2 * i + 1) ≤ 1000000
  unfolding weight_in_range edge_weight_at
  pair-weight h k =
      let t : weight_in_range (edge_weight_at words i) ≡ true =
      subst (λ x. weight_in_range x ≡ true) (pairs-get words i k)
      (all_get_d weight_in_range (pairs_from words) i (edge_weight_at words 0) h (rw (pairs-count words) k)) in
      leb-true _ _ t

  pub set_more : {b' : List ℤ} → i < pairs_in words → Becomes b b' (with_edge_weight (state_of b) (given_at words (2 * i)) (given_at words (2 * i + 1)))
      → WeightsSet b₀ b' words (i + 1)
  unfolding reweigh edge_weight_at
  set_more {b'} h q =
      let w : with_edge_weight (state_of b) (given_at words (2 * i)) (given_at words (2 * i + 1)) ≡ fold reweigh (state_of b₀) (take (i + 1) (pairs_from words)) =
      rw p.block.state
      (sym (fold_more reweigh (state_of b₀) (pairs_from words) i (edge_weight_at words 0) (rw (pairs-count words) h)
      ∙ ap (reweigh (fold reweigh (state_of b₀) (take i (pairs_from words)))) (pairs-get words i h))) in
      record { block = becomes-then p.block (subst (Becomes b b') w q); within = omega arith }

  pub set_all : pairs_in words ≤ i → Becomes b₀ b (fold reweigh (state_of b₀) (pairs_from words))
  set_all h = rw (← fold_done reweigh (state_of b₀) (pairs_from words) i (rw (pairs-count words) h)) p.block

-- ---- the call

pub pairs-none : (words : List ℤ) → length words < 2 → pairs_from words ≡ []
unfolding pairs_from below
pairs-none words h = let z : length words / 2 ≡ 0 = omega arith in rw z

reweighed-some : (c : State) (ps : List EdgeWeight) → 0 < length ps → reweighed c ps ≡ with_reweighted (fold reweigh c ps) 1
unfolding reweighed
reweighed-some c [] h = absurd (omega arith)
reweighed-some c (p ∷ ps) h = refl

pub load-refused : (b : List ℤ) (pairs : List EdgeWeight) (k : ℕ) → k ≡ modifier_refusal (state_of b) pairs → Formed b → k ≢ 0
    → Replies b b (Refused k) (load_edge_modifier (state_of b) pairs)
unfolding load_edge_modifier
load-refused b pairs k e f h = rw (← e) (replies-refused b (record { answer = Done; state = reweighed (state_of b) pairs }) k f h)

module _ {b₀ : List ℤ} (words : List ℤ) (f : Formed b₀) (h : modifier_refusal (state_of b₀) (pairs_from words) ≡ 0) where
  pub load-nothing : length words < 2 → Replies b₀ b₀ Done (load_edge_modifier (state_of b₀) (pairs_from words))
  unfolding load_edge_modifier reweighed
  load-nothing k =
      replies-accepted (modifier_refusal (state_of b₀) (pairs_from words)) h
      (record { answer = refl; block = becomes-none b₀ _ f (rw (pairs-none words k)) })

  pub load-done : {b b' : List ℤ} → 2 ≤ length words → Becomes b₀ b (fold reweigh (state_of b₀) (pairs_from words))
      → Becomes b b' (with_reweighted (state_of b) 1) → Replies b₀ b' Done (load_edge_modifier (state_of b₀) (pairs_from words))
  unfolding load_edge_modifier
  load-done {b} {b'} k p q =
      replies-accepted (modifier_refusal (state_of b₀) (pairs_from words)) h
      (record {
        answer = refl;
        block =
            rw (reweighed-some (state_of b₀) (pairs_from words) (omega (arith, pairs-count words)))
            (becomes-then p (subst (Becomes b b') (ap (λ (c : State). with_reweighted c 1) p.state) q));
      })
