-- The verdict, case by case.
use Rattle.std.specs.Prelude.{ℕ, suc, ◌≡◌, ◌≢◌, ◌↔◌, Bool, true, false, List, ℤ, if◌then◌else◌}
use Rattle.std.proofs.Common.{arith, sym, ◌∙◌, eq-eqb, ne_eqb}
use Rattle.std.proofs.Math.Decide.{ℕ_discrete}
use Rattle.std.proofs.Math.Path.{ap}
use Rattle.std.proofs.Math.Logic.{by_cases}
use Rattle.graph.specs.laws.Members.{by-test, clash}
use Rattle.table_words.specs.Handed.{handed}
use Rattle.table_check.specs.Verdict.{right, Right, verdict_by, table_verdict}
use Rattle.table_refuse.specs.Refuse.{table_refusal}
use Rattle.table_check.specs.Outcome.{Verdict, Yes, No, Refused}
use Rattle.table_check.specs.laws.Accepted.{accepted-of}
use Rattle.table_check.specs.laws.Right.{exactly}

-- a verdict as a number: 0 no, 1 yes, 2 and more refused
number : Verdict → ℕ
number Yes = 1
number No = 0
number (Refused k) = suc (suc k)

module _ (k : ℕ) (t : Bool) where
  by_right : k ≡ 0 → verdict_by k t ≡ (if t then Yes else No)
  unfolding verdict_by
  by_right e = rw (eq-eqb k 0 e)

  by-refusal : k ≢ 0 → verdict_by k t ≡ Refused k
  unfolding verdict_by
  by-refusal e = rw (ne_eqb k 0 e)

  -- one of three cases
  by-case : {P : Type 0} → (k ≡ 0 → t ≡ true → verdict_by k t ≡ Yes → P) → (k ≡ 0 → t ≡ false → verdict_by k t ≡ No → P)
      → (k ≢ 0 → verdict_by k t ≡ Refused k → P) → P
  by-case yes' no' refused' =
      by_cases (ℕ_discrete k 0)
      (λ z. by-test t (λ y. yes' z y (by_right z ∙ ap choose y)) (λ y. no' z y (by_right z ∙ ap choose y)))
      (λ z. refused' z (by-refusal z))
    where
      choose : Bool → Verdict
      choose b = if b then Yes else No

-- the verdicts differ
yes-no : {P : Type 0} → Yes ≡ No → P
unfolding number
yes-no q = let z : ◌≡◌ {A = ℕ} 1 0 = ap number q in absurd (omega arith)

yes-refused : {P : Type 0} (k : ℕ) → Yes ≡ Refused k → P
unfolding number
yes-refused k q = let z : ◌≡◌ {A = ℕ} 1 (suc (suc k)) = ap number q in absurd (omega arith)

no-refused : {P : Type 0} (k : ℕ) → No ≡ Refused k → P
unfolding number
no-refused k q = let z : ◌≡◌ {A = ℕ} 0 (suc (suc k)) = ap number q in absurd (omega arith)

refused-same : (j k : ℕ) → Refused j ≡ Refused k → j ≡ k
unfolding number
refused-same j k q = let z : suc (suc j) ≡ suc (suc k) = ap number q in omega arith

module _ (v e : ℕ) (edges virtuals defects duals growths distances : List ℤ) where
  abbrev K : ℕ
  K = table_refusal v e edges virtuals defects duals growths distances

  abbrev R : Bool
  R = right (handed v edges virtuals defects duals growths distances)

  abbrev RightHere : Type 0
  RightHere = Right (handed v edges virtuals defects duals growths distances)

  -- where nothing refuses the call, the test says what the definition says
  says : K ≡ 0 → (R ≡ true) ↔ RightHere
  says z = exactly v e edges virtuals defects duals growths distances (accepted-of v e edges virtuals defects duals growths distances z)

  pub verdict-yes : (table_verdict v e edges virtuals defects duals growths distances ≡ Yes) ↔ ((K ≡ 0) × RightHere)
  unfolding table_verdict
  verdict-yes = (
    λ h. by-case K R
        (λ z y q. (z, (says z).0 y))
        (λ z y q. yes-no (sym h ∙ q))
        (λ z q. yes-refused K (sym h ∙ q)),
    λ r. by-case K R
        (λ z y q. q)
        (λ z y q. clash R ((says r.0).1 r.1) y)
        (λ z q. absurd (z r.0)),
  )

  pub verdict-no : (table_verdict v e edges virtuals defects duals growths distances ≡ No) ↔ ((K ≡ 0) × ¬ RightHere)
  unfolding table_verdict
  verdict-no = (
    λ h. by-case K R
        (λ z y q. yes-no (sym q ∙ h))
        (λ z y q. (z, λ r. clash R ((says z).1 r) y))
        (λ z q. no-refused K (sym h ∙ q)),
    λ r. by-case K R
        (λ z y q. absurd (r.1 ((says r.0).0 y)))
        (λ z y q. q)
        (λ z q. absurd (z r.0)),
  )

  pub verdict-refused : (j : ℕ) → (table_verdict v e edges virtuals defects duals growths distances ≡ Refused j) ↔ ((K ≡ j) × (j ≢ 0))
  unfolding table_verdict
  verdict-refused j = (
    λ h. by-case K R
        (λ z y q. yes-refused j (sym q ∙ h))
        (λ z y q. no-refused j (sym q ∙ h))
        (λ z q. let s = refused-same K j (sym q ∙ h) in (s, λ y. z (s ∙ y))),
    λ r. by-case K R
        (λ z y q. absurd (r.1 (sym r.0 ∙ z)))
        (λ z y q. absurd (r.1 (sym r.0 ∙ z)))
        (λ z q. q ∙ ap (λ (i : ℕ). Refused i) r.0),
  )
