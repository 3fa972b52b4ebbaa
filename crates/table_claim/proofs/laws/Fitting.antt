-- Lines that fit stand in the written bytes behind the lines before them.
use Rattle.std.specs.Prelude.{ℕ, ◌+◌, ◌-◌, ◌≤◌, ◌≡◌, refl, leb}
use Rattle.std.proofs.Common.{arith, sym, ◌∙◌, length-append, le-leb}
use Rattle.std.proofs.Math.Path.{ap}
use mathlib.Core.List.{List, [], ◌∷◌, ◌++◌, append_assoc}
use Rattle.std.proofs.Math.ListN.{length, take, drop}
use Rattle.std.proofs.Math.Seq.{take-append_seam, drop-append_seam}
use Rattle.graph.specs.laws.Members.{by-test}
use Rattle.records.specs.Lines.{joined_lines, fitting, over}
use Rattle.table_claim.specs.Tables.{fit_count}

pub joined-append : (p q : List (List ℕ)) → joined_lines (p ++ q) ≡ joined_lines p ++ joined_lines q
unfolding joined_lines
joined-append [] q = refl
joined-append (l ∷ p) q = ap (λ (r : List ℕ). l ++ r) (joined-append p q) ∙ sym (append_assoc l (joined_lines p) (joined_lines q))

-- lines in front that fit are written whole
fitting-front : (space : ℕ) (p q : List (List ℕ)) → length (joined_lines p) ≤ space
    → fitting space (p ++ q) ≡ joined_lines p ++ fitting (space - length (joined_lines p)) q
unfolding fitting joined_lines
fitting-front space [] q h = let z : space - 0 ≡ space = omega arith in rw z refl
fitting-front space (l ∷ p) q h =
    let len : length (l ++ joined_lines p) ≡ length l + length (joined_lines p) = length-append l (joined_lines p) in
    let z : space - length l - length (joined_lines p) ≡ space - length (l ++ joined_lines p) = omega arith in
    rw (le-leb (length l) space (omega arith), fitting-front (space - length l) p q (omega arith), z)
    (sym (append_assoc l (joined_lines p) (fitting (space - length (l ++ joined_lines p)) q)))

-- of lines p, then t, then q: where p and t fit, the bytes of t stand behind those of p, and what is written reaches that far
module _ (p t q : List (List ℕ)) (out : List ℕ) (h : length (joined_lines (p ++ t)) ≤ length out) where
  parts : fitting (length out) (p ++ (t ++ q)) ≡ joined_lines p ++ (joined_lines t ++ fitting (length out - length (joined_lines (p ++ t))) q)
  parts =
      ap (fitting (length out)) (sym (append_assoc p t q))
      ∙ fitting-front (length out) (p ++ t) q h
      ∙ ap (λ (x : List ℕ). x ++ fitting (length out - length (joined_lines (p ++ t))) q) (joined-append p t)
      ∙ append_assoc (joined_lines p) (joined_lines t) _

  pub stands-behind : take (length (joined_lines t)) (drop (length (joined_lines p)) (over (fitting (length out) (p ++ (t ++ q))) out)) ≡ joined_lines t
  unfolding over
  stands-behind =
      let rest = fitting (length out - length (joined_lines (p ++ t))) q in
      let tail = drop (length (fitting (length out) (p ++ (t ++ q)))) out in
      let e : fitting (length out) (p ++ (t ++ q)) ++ tail ≡ joined_lines p ++ (joined_lines t ++ (rest ++ tail))
      =
      ap (λ (x : List ℕ). x ++ tail) parts ∙ append_assoc (joined_lines p) (joined_lines t ++ rest) tail
      ∙ ap (λ (x : List ℕ). joined_lines p ++ x) (append_assoc (joined_lines t) rest tail) in
      ap (λ (x : List ℕ). take (length (joined_lines t)) (drop (length (joined_lines p)) x)) e
      ∙ ap (take (length (joined_lines t))) (drop-append_seam (joined_lines p) (joined_lines t ++ (rest ++ tail)))
      ∙ take-append_seam (joined_lines t) (rest ++ tail)

  pub written-so-far : length (joined_lines (p ++ t)) ≤ length (fitting (length out) (p ++ (t ++ q)))
  written-so-far =
      let rest = fitting (length out - length (joined_lines (p ++ t))) q in
      let one : length (joined_lines (p ++ t)) ≡ length (joined_lines p ++ joined_lines t) = ap length (joined-append p t) in
      rw parts
      (omega (
        arith,
        one,
        length-append (joined_lines p) (joined_lines t ++ rest),
        length-append (joined_lines t) rest,
        length-append (joined_lines p) (joined_lines t),
      ))

-- what fits are the first lines, as many as are counted
fitting-counted : (space : ℕ) (ls : List (List ℕ)) → fitting space ls ≡ joined_lines (take (fit_count space ls) ls)
unfolding fitting fit_count joined_lines
fitting-counted space [] = refl
fitting-counted space (l ∷ ls) =
    by-test (leb (length l) space)
    (λ e. rw e (ap (λ (x : List ℕ). l ++ x) (fitting-counted (space - length l) ls)))
    (λ e. rw e refl)

pub fitted-front : (ls : List (List ℕ)) (out : List ℕ)
    → take (length (fitting (length out) ls)) (over (fitting (length out) ls) out)
    ≡ joined_lines (take (fit_count (length out) ls) ls)
unfolding over
fitted-front ls out = take-append_seam (fitting (length out) ls) (drop (length (fitting (length out) ls)) out) ∙ fitting-counted (length out) ls
