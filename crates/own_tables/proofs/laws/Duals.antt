-- The dual variables of the vertices, as the history and as the check have them.
use Rattle.std.specs.Prelude.{ℕ, suc, ◌<◌, ◌≡◌, refl, [], ◌∷◌, map, pos, length}
use Rattle.std.proofs.Common.{arith, sym, ap, eq-eqb, ne_eqb}
use Rattle.std.proofs.Math.Decide.{ℕ_discrete}
use Rattle.std.proofs.Math.Logic.{by_cases}
use Rattle.graph.specs.Word.{to_nat}
use Rattle.table_theorem.specs.History.{Entry, History, entry_at, dual_at, natural}
use Rattle.table_check.specs.Verdict.{given_dual_of}

-- where no dual variable is below 0
pub duals-agree : (h : History) (a : ℕ) → ((n : ℕ) → n < length h → (entry_at h n).y ≡ pos (natural (entry_at h n).y))
    → given_dual_of (map (λ (x : Entry). x.vertex) h) (map to_nat (map (λ (x : Entry). x.y) h)) a ≡ natural (dual_at h a)
unfolding given_dual_of dual_at natural to_nat
duals-agree [] a f = refl
duals-agree (x ∷ h) a f =
    by_cases (ℕ_discrete a x.vertex)
    (λ q. rw (eq-eqb a x.vertex q, eq-eqb x.vertex a (sym q)) (ap to_nat (f 0 (omega arith))))
    (λ q. rw (ne_eqb a x.vertex q, ne_eqb x.vertex a (λ z. q (sym z))) (duals-agree h a (λ n l. f (suc n) (omega arith))))
