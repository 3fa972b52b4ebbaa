-- A circle that is too long to be accepted.
use Rattle.std.specs.Prelude.{◌≡◌, ℕ, zero, suc, ◌+◌, ◌-◌, ◌%◌, ◌<◌, ◌≤◌, Bool, true, false, not, ◌||◌, ltb, List, ◌∷◌, length, ◌==◌, nat_lt, if◌then◌else◌}
use Rattle.std.proofs.Common.{ap}
use native.Mathlib.Omega.{arith}
use Rattle.std.proofs.Math.Path.{refl}
use borrow.Author.Tests.{lt-ltb}
use Rattle.graph.specs.Basic.{any, distinct}
use Rattle.graph.specs.State.{State, shrinking}
use Rattle.calls.specs.Refuse.{bad_node, in_blossom}
use Rattle.calls.specs.Insert.{no_circle, blossom_refusal}
use Rattle.records.specs.Record.{field, fields}
use Rattle.record_call.specs.inner.Long.{rest_refusal}

-- ---- tests

or_assoc : (p q r : Bool) → p || (q || r) ≡ (p || q) || r
or_assoc true q r = refl
or_assoc false q r = refl

or-false : (p : Bool) → p || false ≡ p
or-false true = refl
or-false false = refl

third-true : (p q r : Bool) → p || q || true || r ≡ true
third-true true q r = refl
third-true false true r = refl
third-true false false r = refl

fields-many : (n : ℕ) (body : List ℕ) (i : ℕ) → length (fields n body i) ≡ n
unfolding fields
fields-many zero body i = refl
fields-many (suc n) body i = ap suc (fields-many n body (i + 1))

-- ---- entry by entry

module _ (c : State) (body : List ℕ) (k : ℕ) where
  next_field : (i : ℕ) → i < k → fields (k - i) body (i + 1) ≡ field body (i + 1) ∷ fields (k - (i + 1)) body (i + 1 + 1)
  unfolding fields
  next_field i h = let e : k - i ≡ suc (k - (i + 1)) = omega arith in rw e refl

  pub rest-none : rest_refusal c false (fields (k - 0) body (0 + 1)) ≡ rest_refusal c false (fields k body 1)
  rest-none = let e : k - 0 ≡ k = omega arith in rw e refl

  module _ (inner : Bool) {i m : ℕ} (h : i < k) (e : m ≡ field body (i + 1)) where
    pub rest-bad : bad_node c m ≡ true → rest_refusal c inner (fields (k - i) body (i + 1)) ≡ 3
    unfolding rest_refusal any
    rest-bad t = rw (next_field i h, ← e, t) refl

    pub rest-next : bad_node c m ≡ false
        → rest_refusal c inner (fields (k - i) body (i + 1)) ≡ rest_refusal c (inner || in_blossom c m) (fields (k - (i + 1)) body (i + 1 + 1))
    unfolding rest_refusal any
    rest-next t = rw (next_field i h, ← e, t, or_assoc inner (in_blossom c m) (any (in_blossom c) (fields (k - (i + 1)) body (i + 1 + 1)))) refl

  pub rest-done : (inner : Bool) (i : ℕ) → k ≤ i → rest_refusal c inner (fields (k - i) body (i + 1)) ≡ (if inner then 6 else 7)
  unfolding rest_refusal any fields
  rest-done inner i h = let e : k - i ≡ 0 = omega arith in rw (e, or-false inner) refl

-- ---- the whole circle

module _ (c : State) (x : ℕ) (body : List ℕ) (n : ℕ) where
  pub long-state : ltb shrinking x ≡ true → blossom_refusal c x (fields n body 1) ≡ 3
  unfolding blossom_refusal
  long-state t = rw t refl

  pub long-circle : ltb shrinking x ≡ false → 63 < n → blossom_refusal c x (fields n body 1) ≡ rest_refusal c false (fields n body 1)
  unfolding blossom_refusal no_circle rest_refusal
  long-circle t h =
      let l = fields n body 1 in
      let m : ltb 63 (length l) ≡ true = lt-ltb 63 (length l) (rw (fields-many n body 1) h) in
      rw (t, m, third-true (length l % 2 == 0) (nat_lt (length l) 3) (not (distinct l))) refl
