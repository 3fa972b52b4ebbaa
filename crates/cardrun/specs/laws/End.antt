-- The end of the input, behind blocks that join to it.
use Rattle.std.specs.Prelude.{ℕ, ◌+◌, ◌<◌, ◌≡◌, refl, ◌≢◌, false, List, [], ◌++◌, length}
use Rattle.std.proofs.Common.{arith, ◌∙◌, append-nil, lt-ltb, ne_eqb}
use Rattle.std.proofs.Math.Path.{ap}
use Rattle.records.specs.Record.{ill_formed, next, next_record, pair_at}
use Rattle.records.specs.Lines.{joined_lines}
use Rattle.records.specs.Run.{Stage, fresh, gathering, running, ended, record_step, ends, lines_of}
use Rattle.records.specs.laws.Lines.{lines_from, lines-from-end, lines-in-start, next-none, run-ended}
use Rattle.record_step.specs.Standing.{Memory, Stands}
use Rattle.record_step.specs.laws.Standing.{stands-fresh, turn-ill}
use Rattle.lines_export.specs.Whole.{whole_at}
use Rattle.lines_export.specs.laws.Stream.{cut-ends}
use Rattle.cardrun.specs.Blocks.{lines_after, BlockRun}
use Rattle.cardrun.specs.laws.Blocks.{lines-after-step}

-- ---- what a run still writes

after_nothing : (k : ℕ) (s : Stage) (b : List ℕ) → length b ≡ 0 → lines_after k s b ≡ []
unfolding lines_after lines_from joined_lines
after_nothing k s b e = ap joined_lines (lines-from-end k s b (next-none b e))

after-ended : (m : Memory) (k : ℕ) (s : Stage) (b : List ℕ) → Stands m s → m.stage ≡ 3 → lines_after k s b ≡ []
unfolding Stands lines_after joined_lines
after-ended m k fresh b p e = absurd (omega arith)
after-ended m k (gathering g) b p e = absurd (omega (arith, p.0))
after-ended m k (running c) b p e = absurd (omega (arith, p.0))
after-ended m k ended b p e = ap joined_lines (run-ended (length b) k b)

next-part : (b : List ℕ) → length b ≢ 0 → whole_at b 0 ≡ false → next_record b ≡ next ill_formed []
unfolding next_record
next-part b some part =
    let q : length b < 0 + 2 + pair_at b 0 = cut-ends b 0 part in
    rw (ne_eqb (length b) 0 some, lt-ltb (length b) (2 + pair_at b 0) (omega arith))

after-cut : (m : Memory) (k : ℕ) (s : Stage) (b : List ℕ) → Stands m s → m.stage < 3 → length b ≢ 0 → whole_at b 0 ≡ false
    → lines_after k s b ≡ joined_lines (ends k 3).lines
after-cut m k s b p on some part =
    lines-after-step k s b ill_formed [] (next-part b some part)
    ∙ ap (λ l. joined_lines (record_step k s ill_formed).lines ++ l) (after_nothing (k + 1) (record_step k s ill_formed).stage [] refl)
    ∙ append-nil (joined_lines (record_step k s ill_formed).lines) ∙ ap (λ x. joined_lines x.lines) (turn-ill m k s p on)

-- ---- all that the program writes

module _ {k : ℕ} {m m' : Memory} {b rest out : List ℕ} (p : BlockRun 0 k m m' b rest out) (e : m.stage ≡ 0) where
  start : lines_of b ≡ lines_after 1 fresh b
  unfolding lines_of lines_after lines_from
  start = ap joined_lines (lines-in-start b)

  so_far : lines_of b ≡ out ++ lines_after (k + 1) (p.ran fresh (stands-fresh m e)).at rest
  so_far = start ∙ rw (append-nil b, append-nil rest) at ((p.ran fresh (stands-fresh m e)).lines [])

  told-so : (w : List ℕ) → lines_after (k + 1) (p.ran fresh (stands-fresh m e)).at rest ≡ w → lines_of b ≡ out ++ w
  told-so w q = so_far ∙ ap (λ l. out ++ l) q

  pub all-told-ended : m'.stage ≡ 3 → lines_of b ≡ out
  all-told-ended q =
      let a = p.ran fresh (stands-fresh m e) in
      told-so [] (after-ended m' (k + 1) a.at rest a.stands q) ∙ append-nil out

  pub all-told-nothing : length rest ≡ 0 → lines_of b ≡ out
  all-told-nothing q = told-so [] (after_nothing (k + 1) (p.ran fresh (stands-fresh m e)).at rest q) ∙ append-nil out

  pub all-told-cut : m'.stage < 3 → length rest ≢ 0 → whole_at rest 0 ≡ false → lines_of b ≡ out ++ joined_lines (ends (k + 1) 3).lines
  all-told-cut on some part =
      let a = p.ran fresh (stands-fresh m e) in
      told-so (joined_lines (ends (k + 1) 3).lines) (after-cut m' (k + 1) a.at rest a.stands on some part)
