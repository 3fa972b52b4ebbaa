-- A block of whole records, record by record, and blocks one after another.
use Rattle.std.specs.Prelude.{ℕ, ◌+◌, ◌-◌, ◌*◌, ◌≤◌, ◌<◌, ◌≡◌, refl, Bool, true, false, ◌&&◌, List, [], ◌∷◌, ◌++◌, ℤ, leb, ltb, take, drop}
use Rattle.std.proofs.Common.{arith, sym, ◌∙◌, append_assoc, take_at, length-take-le, ltb-true, leb-true, lt-ltb, le-leb}
use Rattle.std.proofs.Math.Decide.{ℕ_discrete as dec_eq}
use Rattle.std.proofs.Math.Path.{ap}
use Rattle.std.proofs.Math.ListN.{length, length-append}
use Rattle.std.proofs.Math.Seq.{sets, sets-eq, length-sets}
use Rattle.graph.specs.Basic.{fold}
use Rattle.graph.specs.laws.Members.{clash}
use Rattle.graph.specs.laws.State.{and_left, and_right}
use Rattle.records.specs.Record.{Record, next, next_record, pair_at, decoded}
use Rattle.records.specs.Lines.{joined_lines}
use Rattle.records.specs.Run.{Stage, record_step}
use Rattle.records.specs.Write.{Page, page, put_line, put_lines, LinesPut}
use Rattle.records.specs.laws.Lines.{lines_from, lines-from-step, fitting-all}
use Rattle.records.specs.laws.Write.{put-fitting, short-joined}
use Rattle.record_step.specs.Standing.{Memory, Stands, Standing, MemorySuffices, RecordStepped}
use Rattle.record_step.specs.laws.Few.{turn-few}
use Rattle.record_step.specs.laws.Standing.{roomy-kept}
use Rattle.lines_export.specs.Whole.{whole_at}
use Rattle.lines_export.specs.laws.Stream.{next-whole}
use Rattle.cardrun.specs.Blocks.{lines_after, RanTo, BlockRun, BlockRan, BlockLost}

-- ---- lines behind others, where all of them fit

pub lines-append : (p q : List (List ℕ)) → joined_lines (p ++ q) ≡ joined_lines p ++ joined_lines q
unfolding joined_lines
lines-append [] q = refl
lines-append (l ∷ p) q = ap (λ r. l ++ r) (lines-append p q) ∙ sym (append_assoc l (joined_lines p) (joined_lines q))

record Open (p : Page) : Type 0 where
  is : p.full ≡ false

put-open : (b : List ℕ) (n : ℕ) (ls : List (List ℕ)) → n + length (joined_lines ls) ≤ length b → Open (put_lines (page b n false) ls)
unfolding put_lines fold put_line page joined_lines
put-open b n [] h = record { is = refl }
put-open b n (l ∷ ls) h =
    let len : length (l ++ joined_lines ls) ≡ length l + length (joined_lines ls) = length-append l (joined_lines ls) in
    let same : length (sets b n l) ≡ length b = length-sets b n l in
    rw (le-leb (n + length l) (length b) (omega arith)) (put-open (sets b n l) (n + length l) ls (omega arith))

module _ {b c : List ℕ} {n m : ℕ} {full stopped : Bool} (ls : List (List ℕ)) (t : LinesPut b n full c m stopped ls) (e : full ≡ false)
    (h : n ≤ length b) (room : 128 * length ls ≤ length b - n) where
  joined-fits : length (joined_lines ls) ≤ length b - n
  joined-fits = omega (arith, short-joined ls t.short)

  pub told-behind : take m c ≡ take n b ++ joined_lines ls
  unfolding page
  told-behind =
      let f = rw (fitting-all (length b - n) ls joined-fits) at (put-fitting b n ls h) in
      let q = rw e at t.page-is in
      let place : m ≡ n + length (joined_lines ls) = ap (λ p. p.at) q ∙ f.at in
      let bytes : c ≡ sets b n (joined_lines ls) = ap (λ p. p.bytes) q ∙ f.bytes in
      let fits : n + length (joined_lines ls) ≤ length b = omega (arith, joined-fits) in
      let long : length (take n b ++ joined_lines ls) ≡ n + length (joined_lines ls) =
      length-append (take n b) (joined_lines ls) ∙ ap (λ k. k + length (joined_lines ls)) (length-take-le n b h) in
      rw (bytes, place, sets-eq (joined_lines ls) b n fits)
      (take_at (take n b ++ joined_lines ls) (drop (n + length (joined_lines ls)) b) (n + length (joined_lines ls)) long)

  pub told-open : stopped ≡ false
  unfolding page
  told-open = ap (λ p. p.full) (rw e at t.page-is) ∙ (put-open b n ls (omega (arith, joined-fits))).is

-- ---- one record

pub lines-after-step : (k : ℕ) (s : Stage) (b : List ℕ) (r : Record) (rest : List ℕ) → next_record b ≡ next r rest
    → lines_after k s b ≡ joined_lines (record_step k s r).lines ++ lines_after (k + 1) (record_step k s r).stage rest
unfolding lines_after lines_from
lines-after-step k s b r rest e =
    ap joined_lines (lines-from-step k s b r rest e)
    ∙ lines-append (record_step k s r).lines (lines_from (k + 1) (record_step k s r).stage rest)

pub block_none : {k : ℕ} {m : Memory} {b : List ℕ} → BlockRun k k m m b b []
block_none = record { ran = λ s p. record { at = s; stands = p; lines = λ more. refl } }

module _ (k : ℕ) (input : List ℕ) (i j : ℕ) {m m' : Memory} {lines lines' : List ℕ} {n n' : ℕ} {full stopped : Bool}
    (t : RecordStepped (k + 1) m m' lines n full lines' n' stopped (decoded (take (j - (i + 2)) (drop (i + 2) input)))) (e : full ≡ false)
    (h : n ≤ length lines) (room : 16384 ≤ length lines - n) (edges : 384 ≤ length m.edges) where
  abbrev said : Record
  said = decoded (take (j - (i + 2)) (drop (i + 2) input))

  few : (s : Stage) → Stands m s → 128 * length (record_step (k + 1) s said).lines ≤ length lines - n
  few s p = omega (arith, turn-few (k + 1) m said s p edges)

  pub stays_open : Standing m → stopped ≡ false
  stays_open p = told-open (record_step (k + 1) p.at said).lines (t.told p.at p.stands) e h (few p.at p.stands)

  pub block-step : {k₀ : ℕ} {m₀ : Memory} {b₀ : List ℕ} → j ≡ i + 2 + pair_at input i → j ≤ length input
      → BlockRun k₀ k m₀ m b₀ (drop i input) (take n lines) → BlockRun k₀ (k + 1) m₀ m' b₀ (drop j input) (take n' lines')
  block-step {k₀} {m₀} {b₀} ej hj p = record { ran = go }
    where
      go : (s : Stage) → Stands m₀ s → RanTo k₀ s b₀ (k + 1) m' (drop j input) (take n' lines')
      go s q =
          let a = p.ran s q in
          let out = joined_lines (record_step (k + 1) a.at said).lines in
          record {
            at = (record_step (k + 1) a.at said).stage;
            stands = t.stands a.at a.stands;
            lines = λ more.
                a.lines more
                ∙ ap (λ l. take n lines ++ l)
                (lines-after-step (k + 1) a.at (drop i input ++ more) said (drop j input ++ more) (next-whole input more i j ej hj))
                ∙ sym (append_assoc (take n lines) out (lines_after (k + 1 + 1) (record_step (k + 1) a.at said).stage (drop j input ++ more)))
                ∙ ap (λ l. l ++ lines_after (k + 1 + 1) (record_step (k + 1) a.at said).stage (drop j input ++ more))
                (sym
                (told-behind (record_step (k + 1) a.at said).lines (t.told a.at a.stands) e h (few a.at a.stands)));
          }

-- ---- the loop over the records of a block

-- at place i, behind k records: where the run stands, and what was told since place i₀
pub record Along (input : List ℕ) (i₀ k₀ : ℕ) (m₀ : Memory) (scratch₀ : List ℤ) (i k : ℕ) (m : Memory) (scratch : List ℤ) (lines : List ℕ) (n : ℕ)
    (full : Bool) : Type 0 where
  pub run : BlockRun k₀ k m₀ m (drop i₀ input) (drop i input) (take n lines)
  pub standing : Standing m
  pub fits : full ≡ false
  pub room : n ≤ length lines
  pub place : i ≤ length input
  pub from : i₀ ≤ i
  pub counted : k + i₀ ≤ k₀ + i
  pub suffices : MemorySuffices m.block scratch m.edges m.virtuals
  pub kept : scratch ≡ scratch₀
  pub first : i ≡ i₀ → (n ≡ 0) × (m.stage ≡ m₀.stage)

-- whether there is one more, and what follows where there is
pub more-there : (stage at space : ℕ) (whole : Bool) → ltb stage 3 && leb 16384 (space - at) && whole ≡ true
    → (stage < 3) × (16384 ≤ space - at) × (whole ≡ true)
more-there stage at space whole h =
    let both = and_left (ltb stage 3 && leb 16384 (space - at)) whole h in (
      ltb-true stage 3 (and_left (ltb stage 3) (leb 16384 (space - at)) both),
      leb-true 16384 (space - at) (and_right (ltb stage 3) (leb 16384 (space - at)) both),
      and_right (ltb stage 3 && leb 16384 (space - at)) whole h,
    )

-- where there is room, a run that has not ended stops only before a record that is not whole
pub none-whole : (stage at space : ℕ) (whole : Bool) → ltb stage 3 && leb 16384 (space - at) && whole ≡ false
    → 16384 ≤ space - at → stage < 3 → whole ≡ false
none-whole stage at space whole h room on = rw (lt-ltb stage 3 on, le-leb 16384 (space - at) room) at h

module _ {input lines : List ℕ} {i₀ k₀ i k n : ℕ} {m₀ m : Memory} {scratch₀ scratch : List ℤ} {full : Bool}
    (p : Along input i₀ k₀ m₀ scratch₀ i k m scratch lines n full) where
  pub along-step : {j k' n' : ℕ} {m' : Memory} {scratch' : List ℤ} {lines' : List ℕ} {full' : Bool}
      → RecordStepped (k + 1) m m' lines n full lines' n' full' (decoded (take (j - (i + 2)) (drop (i + 2) input)))
      → j ≡ i + 2 + pair_at input i → j ≤ length input → k' ≡ k + 1 → scratch' ≡ scratch → 16384 ≤ length lines - n
      → length m'.block ≡ length m.block → length m'.edges ≡ length m.edges
      → length m'.virtuals ≡ length m.virtuals
      → Along input i₀ k₀ m₀ scratch₀ j k' m' scratch' lines' n' full'
  along-step {j} t ej hj ek es room lb le lv = record {
    run = rw ek (block-step k input i j t p.fits p.room room p.suffices.edge-words ej hj p.run);
    standing = record { at = _; stands = t.stands p.standing.at p.standing.stands };
    fits = stays_open k input i j t p.fits p.room room p.suffices.edge-words p.standing;
    room = (t.told p.standing.at p.standing.stands).room;
    place = hj;
    from = omega (arith, p.from);
    counted = omega (arith, p.counted);
    suffices = roomy-kept p.suffices lb es le lv;
    kept = es ∙ p.kept;
    first = λ e. absurd (omega (arith, p.from));
  }

  -- the first record was whole, so the place has moved
  pub along-moved : whole_at input i₀ ≡ true → m₀.stage < 3 → 16384 ≤ length lines
      → ltb m.stage 3 && leb 16384 (length lines - n) && whole_at input i ≡ false → i₀ < i
  along-moved w on long h = elim (dec_eq i i₀) [ yes e ↦ clash (whole_at input i₀) w (rw e at (open-still e)) | no e ↦ omega (arith, p.from) ]
    where
      open-still : i ≡ i₀ → whole_at input i ≡ false
      open-still e =
          let f = p.first e in
          none-whole m.stage n (length lines) (whole_at input i) h (omega (arith, f.0)) (rw f.1 on)

pub along-start : (input lines : List ℕ) (i k : ℕ) (m : Memory) (scratch : List ℤ) → Standing m → i ≤ length input
    → MemorySuffices m.block scratch m.edges m.virtuals → Along input i k m scratch i k m scratch lines 0 false
along-start input lines i k m scratch p h r = record {
  run = block_none;
  standing = p;
  fits = refl;
  room = omega arith;
  place = h;
  from = omega arith;
  counted = omega arith;
  suffices = r;
  kept = refl;
  first = λ e. (refl, refl);
}

-- ---- blocks one after another

pub block-then : {k k' k'' : ℕ} {m m' m'' : Memory} {b rest rest' out out' : List ℕ}
    → BlockRun k k' m m' b rest out → BlockRun k' k'' m' m'' rest rest' out' → BlockRun k k'' m m'' b rest' (out ++ out')
block-then {k} {k'} {k''} {m} {m'} {m''} {b} {rest} {rest'} {out} {out'} p q = record { ran = go }
  where
    go : (s : Stage) → Stands m s → RanTo k s b k'' m'' rest' (out ++ out')
    go s x =
        let a = p.ran s x in
        let c = q.ran a.at a.stands in
        record {
          at = c.at;
          stands = c.stands;
          lines = λ more.
              a.lines more ∙ ap (λ l. out ++ l) (c.lines more)
              ∙ sym (append_assoc out out' (lines_after (k'' + 1) c.at (rest' ++ more)));
        }

pub ran-none : {k : ℕ} {m : Memory} {b : List ℕ} → BlockRan k k m m b b
ran-none = record { out = []; run = block_none }

pub ran_then : {k k' k'' : ℕ} {m m' m'' : Memory} {b rest rest' : List ℕ} → BlockRan k k' m m' b rest
    → BlockRan k' k'' m' m'' rest rest' → BlockRan k k'' m m'' b rest'
ran_then p q = record { out = p.out ++ q.out; run = block-then p.run q.run }

-- the same where the lines of the second are lost
pub lost_then : {k k' : ℕ} {m m' : Memory} {block edges virtuals : List ℤ} {b rest : List ℕ} → BlockRan k k' m m' b rest
    → BlockLost k' m' block edges virtuals rest → BlockLost k m block edges virtuals b
lost_then p q = record { count = q.count; stage = q.stage; setup = q.setup; rest = q.rest; ran = ran_then p q.ran }

-- where the run stands behind a block
pub ran-standing : {k k' : ℕ} {m m' : Memory} {b rest : List ℕ} → BlockRan k k' m m' b rest → Standing m → Standing m'
ran-standing p s = let a = p.run.ran s.at s.stands in record { at = a.at; stands = a.stands }

-- the bytes that follow are there already
pub block-before : {k k' : ℕ} {m m' : Memory} {b rest out : List ℕ} (more : List ℕ) → BlockRun k k' m m' b rest out
    → BlockRun k k' m m' (b ++ more) (rest ++ more) out
block-before {k} {k'} {m} {m'} {b} {rest} {out} more p = record { ran = go }
  where
    go : (s : Stage) → Stands m s → RanTo k s (b ++ more) k' m' (rest ++ more) out
    go s x =
        let a = p.ran s x in
        record {
          at = a.at;
          stands = a.stands;
          lines = λ l.
              rw (append_assoc b more l, append_assoc rest more l) (a.lines (more ++ l));
        }
