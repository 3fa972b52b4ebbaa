-- What an accepted growth has shown: each refusal that is not given, as a fact.
use Rattle.std.specs.Prelude.{ℕ, ◌+◌, ◌≤◌, ◌≡◌, ◌≢◌, Bool, true, false, ◌&&◌, ◌||◌, not, List, eqb, ltb, if◌then◌else◌}
use Rattle.std.proofs.Common.{ne_eqb, ltb-false}
use Rattle.graph.specs.Basic.{any, member}
use Rattle.graph.specs.State.{State, Overgrown, opposite, growth_at, holder_at, dual_of, boundary_of, overgrown_of, grown_over, weight_over, up}
use Rattle.graph.specs.Open.{dual_limit, growth_limit}
use Rattle.graph.specs.laws.State.{passed}
use Rattle.graph.specs.laws.Members.{or-neither-left, or-neither-right, none-member}
use Rattle.growth.specs.Growth.{top_is, passes_weight, passes_limit, falls_short, grow_check}

-- the top amount, if any, does not pass the test
abbrev pub TopNot : (ℕ → Bool) → List Overgrown → Type 0
TopNot p o = top_is p o ≡ false

pub record GrowAccepted (c : State) (n l : ℕ) : Type 0 where
  pub within : (s : ℕ) → member s (boundary_of c n) ≡ true → holder_at c (opposite s) ≢ n + 1 → grown_over c s + l ≤ weight_over c s
  pub dual : dual_of c n + l ≤ dual_limit
  pub top : TopNot (λ a. ltb dual_limit (a + l)) (overgrown_of c n)
  pub growth : (s : ℕ) → member s (boundary_of c n) ≡ true → growth_at c s + l ≤ growth_limit

-- one of two tests that fail together
not-both : (a b : Bool) → a && b ≡ false → a ≡ true → b ≡ false
not-both true b h e = h
not-both false b h e = cc

pub grow-accepted : (c : State) (n d l : ℕ) → eqb d up ≡ true → grow_check c n d l ≡ 0 → GrowAccepted c n l
unfolding grow_check passes_limit passes_weight
grow-accepted c n d l u h =
    let h₀ : ◌≡◌ {A = ℕ} (if any (passes_weight c n l) (boundary_of c n) then 10 else if passes_limit c n l then 12 else 0) 0 = rw u at h in
    let p₁ = passed (any (passes_weight c n l) (boundary_of c n)) 9 _ h₀ in
    let p₂ = passed (passes_limit c n l) 11 _ p₁.1 in
    let a = ltb dual_limit (dual_of c n + l) in
    let b = top_is (λ a. ltb dual_limit (a + l)) (overgrown_of c n) in
    let e = any (λ s. ltb growth_limit (growth_at c s + l)) (boundary_of c n) in
    let q = or-neither-left (a || b) e p₂.0 in
    record {
      within = λ s m ne. ltb-false _ _
          (not-both (not (eqb (holder_at c (opposite s)) (n + 1))) (ltb (weight_over c s) (grown_over c s + l))
          (none-member (passes_weight c n l) (boundary_of c n) s p₁.0 m) (rw (ne_eqb _ _ ne)));
      dual = ltb-false _ _ (or-neither-left a b q);
      top = or-neither-right a b q;
      growth = λ s m. ltb-false _ _ (none-member (λ s. ltb growth_limit (growth_at c s + l)) (boundary_of c n) s (or-neither-right (a || b) e p₂.0) m);
    }

pub record ShrinkAccepted (c : State) (n l : ℕ) : Type 0 where
  pub dual : l ≤ dual_of c n
  pub top : TopNot (λ a. ltb a l) (overgrown_of c n)
  pub growth : (s : ℕ) → member s (boundary_of c n) ≡ true → l ≤ growth_at c s

pub shrink-accepted : (c : State) (n d l : ℕ) → eqb d up ≡ false → grow_check c n d l ≡ 0 → ShrinkAccepted c n l
unfolding grow_check falls_short
shrink-accepted c n d l u h =
    let h₀ : ◌≡◌ {A = ℕ} (if falls_short c n l then 11 else 0) 0 = rw u at h in
    let p = passed (falls_short c n l) 10 _ h₀ in
    let a = ltb (dual_of c n) l in
    let b = top_is (λ a. ltb a l) (overgrown_of c n) in
    let e = any (λ s. ltb (growth_at c s) l) (boundary_of c n) in
    let q = or-neither-left (a || b) e p.0 in
    record {
      dual = ltb-false _ _ (or-neither-left a b q);
      top = or-neither-right a b q;
      growth = λ s m. ltb-false _ _ (none-member (λ s. ltb (growth_at c s) l) (boundary_of c n) s (or-neither-right (a || b) e p.0) m);
    }
