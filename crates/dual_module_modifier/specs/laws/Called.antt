-- What a change of weights on lent memory leaves: a refusal with nothing changed, or what its core leaves.
use Rattle.std.specs.Prelude.{ℕ, ◌%◌, ◌<◌, ◌≡◌, true, List, ℤ, eqb}
use native.Mathlib.Omega.{arith}
use Rattle.std.proofs.Math.Decide.{dec_lt}
use Rattle.std.proofs.Common.{sym, subst}
use Rattle.std.proofs.Math.Logic.{by_cases}
use Rattle.std.proofs.Math.ListN.{length}
use borrow.Author.Tests.{eq-eqb, ne_eqb}
use Rattle.graph.specs.Layout.{state_of, memory_refusal}
use Rattle.graph.specs.laws.Members.{by-test}
use Rattle.memory_tests.specs.laws.Memory.{Lendable}
use Rattle.answers.specs.Outcome.{Answer}
use Rattle.calls.specs.Erasures.{pairs_from, modifier_refusal, load_edge_modifier}
use Rattle.calls.specs.inner.Reply.{Replies}
use Rattle.edge_modifier.specs.laws.Load.{pairs-count}
use Rattle.dual_module.specs.Called.{Called}
use Rattle.dual_module.proofs.laws.Called.{memory-lendable, call_same, call-done}
use Rattle.dual_module_modifier.specs.Called.{pairs_refusal, modifier_writes}

-- block and scratch, where nothing that is lent is refused
pub pairs-lendable : (b t : List ℤ) (m : ℕ) {k : ℕ} → k ≡ pairs_refusal b t m → k ≡ 0 → Lendable b t
unfolding pairs_refusal
pairs-lendable b t m {k} e h =
    by-test (eqb (m % 2) 0) (λ q. memory-lendable b t (rw q at e) h) (λ q. absurd (let z : k ≡ 1 = rw q at e in omega arith))

module _ {j k : ℕ} (e : j ≡ k) (h : j ≡ 0) (b words : List ℤ) {b' : List ℤ} {a : Answer} (z : modifier_refusal (state_of b) (pairs_from words) ≡ 0)
    (p : Replies b b' a (load_edge_modifier (state_of b) (pairs_from words))) (u : length words < 2 → b' ≡ b) where
  writes : (length words < 2 → ⊥) → modifier_writes (state_of b) (pairs_from words) ≡ true
  unfolding modifier_writes
  writes l = rw (eq-eqb _ _ z, ne_eqb (length (pairs_from words)) 0 (λ q. omega (arith, q, pairs-count words, many l)))
    where
      many : (length words < 2 → ⊥) → 1 < length words
      many l = omega arith

  -- the core has run; an empty list leaves every word
  pub call-loaded : Called k b b' a (modifier_writes (state_of b) (pairs_from words)) (load_edge_modifier (state_of b) (pairs_from words))
  call-loaded =
      by_cases (dec_lt (length words) 2)
      (λ l. subst (λ (x : List ℤ). Called k b x a (modifier_writes (state_of b) (pairs_from words)) (load_edge_modifier (state_of b) (pairs_from words))) (sym (u l))
      (call_same e h b (subst (λ (x : List ℤ). Replies b x a (load_edge_modifier (state_of b) (pairs_from words))) (u l) p)))
      (λ l. call-done e h b (writes l) p)
