-- The dual variables in a state are those of its book.
use Rattle.std.specs.Prelude.{ℕ, suc, ◌+◌, ◌<◌, ◌≡◌, refl, [], ◌∷◌, pos, eqb, length, if◌then◌else◌}
use Rattle.std.proofs.Common.{arith}
use Rattle.graph.specs.State.{State, defect_vertex, class_of, dual_of}
use Rattle.graph.specs.laws.Members.{by-test}
use Rattle.table_theorem.specs.History.{History, entry_at, dual_at}
use Rattle.table_theorem.specs.Runs.{SameNodes}
use Rattle.table_claim.specs.Carried.{is_defect_at, carried_from, carried}

carried_from_lem : (c : State) (a n : ℕ) (h : History)
    →
    ((i : ℕ) → i < length h
    → (class_of c (n + i) ≡ defect_vertex (entry_at h i).vertex) × (pos (dual_of c (n + i)) ≡ (entry_at h i).y))
    → pos (carried_from c (length h) n a) ≡ dual_at h a
unfolding carried_from dual_at
carried_from_lem c a n [] f = refl
carried_from_lem c a n (e ∷ es) f =
    let z : n + 0 ≡ n = omega arith in
    let here = rw z at (f 0 (omega arith)) in
    let there = carried_from_lem c a (suc n) es (λ i k. let s : suc n + i ≡ n + suc i = omega arith in rw s (f (suc i) (omega arith))) in
    rw here.0 (first here there)
  where
    first : (class_of c n ≡ defect_vertex e.vertex) × (pos (dual_of c n) ≡ e.y) → pos (carried_from c (length es) (suc n) a) ≡ dual_at es a
        → pos (if is_defect_at (defect_vertex e.vertex) a then dual_of c n else carried_from c (length es) (suc n) a)
        ≡ (if eqb e.vertex a then e.y else dual_at es a)
    first p q = unfold is_defect_at in (by-test (eqb e.vertex a) (λ t. rw t p.1) (λ t. rw t q))

pub carried-is : (c : State) (h : History) → SameNodes c h → (a : ℕ) → pos (carried c a) ≡ dual_at h a
unfolding carried
carried-is c h s a =
    rw s.count
    (carried_from_lem c a 0 h
    (λ i k. let z : 0 + i ≡ i = omega arith in
    rw z ((s.agrees i (rw s.count k)).vertex, (s.agrees i (rw s.count k)).dual)))
