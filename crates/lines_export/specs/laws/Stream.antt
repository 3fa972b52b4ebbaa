-- The records of an input one after the other: what is told so far, followed by the lines of the rest, is the whole.
use Rattle.std.specs.Prelude.{ℕ, ◌+◌, ◌-◌, ◌≤◌, ◌<◌, ◌≡◌, refl, Bool, ◌&&◌, not, List, [], ◌++◌, ℤ, eqb, take, drop}
use native.Mathlib.Omega.{arith}
use Rattle.std.proofs.Common.{sym, ◌∙◌, length-append, get_or-drop}
use Rattle.std.proofs.Math.Path.{ap}
use Rattle.std.proofs.Math.Bool.{true, false}
use Rattle.std.proofs.Math.Dec.{ltb}
use Rattle.std.proofs.Math.ListN.{length, length-drop, drop_of_length-le, get_or-append}
use Rattle.std.proofs.Math.Seq.{drop-drop}
use Rattle.std.proofs.lemmas.List.{drop-append-le, take-append-le}
use borrow.Author.Tests.{ltb-true, ltb-false, lt-ltb, le-ltb, ne_eqb, leb-true, leb-false, le-leb, lt-leb}
use Rattle.graph.specs.Basic.{fold}
use Rattle.graph.specs.laws.State.{and_left, and_right}
use Rattle.graph.specs.laws.Members.{by-test, clash}
use Rattle.records.specs.Record.{ill_formed, next, pair_at, decoded, next_record}
use Rattle.records.specs.Run.{Stage, fresh, gathering, running, ended, record_step, ends, lines_in, fitted_lines, filled}
use Rattle.records.specs.declared.setup.Setup.{Setup}
use Rattle.record_step.specs.Standing.{Memory, memory, Stands, MemorySuffices, RecordStepped, Stepped}
use Rattle.records.specs.Write.{page, put_lines, LinesPut}
use Rattle.records.specs.laws.Lines.{lines_from, lines-from-end, lines-from-step, lines-in-start, next-none, run-ended}
use Rattle.records.specs.laws.Write.{put_full, put-over}
use Rattle.records.specs.laws.Table.{Telling, telling-none, telling-more}
use Rattle.lines_export.specs.Whole.{whole_at}
use Rattle.record_step.specs.laws.Standing.{stands-fresh, roomy-kept, turn-ill, turned-stop}

-- ---- the next record

pub pair-later : (b : List ℕ) (i : ℕ) → pair_at (drop i b) 0 ≡ pair_at b i
unfolding pair_at
pair-later b i =
    let z : i + 0 ≡ i = omega arith in
    rw (get_or-drop i b 0 0, get_or-drop i b 1 0, z)

module _ (b : List ℕ) (i : ℕ) (h : i < length b) where
  rest_some : eqb (length (drop i b)) 0 ≡ false
  rest_some = ne_eqb (length (drop i b)) 0 (λ q. omega (arith, length-drop i b))

  -- input that ends inside it
  pub next-cut : length b - i < 2 + pair_at b i → next_record (drop i b) ≡ next ill_formed (drop (length b) b)
  unfolding next_record
  next-cut k =
      let e : ltb (length (drop i b)) (2 + pair_at (drop i b) 0) ≡ true =
      lt-ltb (length (drop i b)) (2 + pair_at (drop i b) 0) (rw (pair-later b i) (omega (arith, length-drop i b))) in
      rw (rest_some, e, drop_of_length-le b {i = length b} (omega arith))

  pub next-body : (j : ℕ) → j ≡ i + 2 + pair_at b i → j ≤ length b → next_record (drop i b) ≡ next (decoded (take (j - (i + 2)) (drop (i + 2) b))) (drop j b)
  unfolding next_record
  next-body j ej k =
      let e : ltb (length (drop i b)) (2 + pair_at (drop i b) 0) ≡ false =
      le-ltb (length (drop i b)) (2 + pair_at (drop i b) 0) (rw (pair-later b i) (omega (arith, length-drop i b))) in
      let x : j - (i + 2) ≡ pair_at b i = omega arith in
      let y : i + (2 + pair_at b i) ≡ j = omega arith in
      rw (rest_some, e, pair-later b i, drop-drop 2 i b, drop-drop (2 + pair_at b i) i b, x, y)

-- where a record is whole, it is the next one whatever bytes follow
module _ (b more : List ℕ) (i j : ℕ) (e : j ≡ i + 2 + pair_at b i) (h : j ≤ length b) where
  pair-before : pair_at (b ++ more) i ≡ pair_at b i
  unfolding pair_at
  pair-before = rw (get_or-append b more 0 i (omega arith), get_or-append b more 0 (i + 1) (omega arith))

  pub next-whole : next_record (drop i b ++ more) ≡ next (decoded (take (j - (i + 2)) (drop (i + 2) b))) (drop j b ++ more)
  next-whole =
      let long : length (b ++ more) ≡ length b + length more = length-append b more in
      let room : j - (i + 2) ≤ length (drop (i + 2) b) = omega (arith, length-drop (i + 2) b) in
      rw (
        drop-append-le i b more (omega arith),
        drop-append-le (i + 2) b more (omega arith),
        drop-append-le j b more h,
        take-append-le (j - (i + 2)) (drop (i + 2) b) more room,
      )
      at
      (next-body (b ++ more) i (omega arith) j (rw pair-before e) (omega arith))

-- a record is whole where it ends within the bytes
module _ (b : List ℕ) (i : ℕ) where
  pub whole-yes : i + 2 + pair_at b i ≤ length b → whole_at b i ≡ true
  unfolding whole_at
  whole-yes h = le-leb (i + 2 + pair_at b i) (length b) h

  pub whole-no : length b < i + 2 + pair_at b i → whole_at b i ≡ false
  unfolding whole_at
  whole-no h = lt-leb (i + 2 + pair_at b i) (length b) h

  pub whole-ends : whole_at b i ≡ true → i + 2 + pair_at b i ≤ length b
  unfolding whole_at
  whole-ends h = leb-true (i + 2 + pair_at b i) (length b) h

  pub cut-ends : whole_at b i ≡ false → length b < i + 2 + pair_at b i
  unfolding whole_at
  cut-ends h = leb-false (i + 2 + pair_at b i) (length b) h

module _ {b : List ℕ} {i : ℕ} {k : ℕ} {m m' : Memory} {p q : List ℕ} {n l : ℕ} {full stopped : Bool} (h : i < length b) where
  pub stepped-cut : {j : ℕ} → m.stage < 3 → length b - i < 2 + pair_at b i → j ≡ length b
      → LinesPut p n full q l stopped (ends k 3).lines → m'.stage ≡ 3 → Stepped b i j k m m' p n full q l stopped
  stepped-cut g short ej t e = rw ej (record {
    said = ill_formed;
    is-next = next-cut b i h short;
    turned = turned-stop 3 (λ s x. turn-ill m k s x g) t e;
    on = h;
    within = omega arith;
  })

  pub stepped-body : {j : ℕ} → j ≡ i + 2 + pair_at b i → j ≤ length b
      → RecordStepped k m m' p n full q l stopped (decoded (take (j - (i + 2)) (drop (i + 2) b)))
      → Stepped b i j k m m' p n full q l stopped
  stepped-body {j} e g t = record {
    said = decoded (take (j - (i + 2)) (drop (i + 2) b));
    is-next = next-body b i h j e g;
    turned = t;
    on = omega arith;
    within = g;
  }

-- ---- all records

-- at place i, behind k records: where the run stands, and that the lines told and those of the rest are all
pub record Progress (b lines₀ : List ℕ) (i k : ℕ) (m : Memory) (scratch : List ℤ) (lines : List ℕ) (n : ℕ) (full : Bool) : Type 0 where
  pub at : Stage
  pub stands : Stands m at
  pub telling : Telling lines₀ 0 false lines n full (lines_in b) (lines_from (k + 1) at (drop i b))
  pub place : i ≤ length b
  pub counted : k ≤ i
  pub roomy : MemorySuffices m.block scratch m.edges m.virtuals
  pub same : length lines ≡ length lines₀

pub progress_start : (b lines : List ℕ) (k j : ℕ) (t : Setup) (block scratch edges virtuals : List ℤ) → k ≡ 0 → j ≡ 0
    → MemorySuffices block scratch edges virtuals
    → Progress b lines 0 k (memory j t block edges virtuals) scratch lines 0 false
progress_start b lines k j t block scratch edges virtuals ek ej r = record {
  at = fresh;
  stands = stands-fresh _ ej;
  telling = telling-none (omega arith) (rw ek (sym (lines-in-start b)));
  place = omega arith;
  counted = omega arith;
  roomy = r;
  same = refl;
}

module _ {b lines₀ : List ℕ} {i k : ℕ} {m : Memory} {scratch : List ℤ} {lines : List ℕ} {n : ℕ} {full : Bool}
    (p : Progress b lines₀ i k m scratch lines n full) where
  -- the next record
  pub progress_step : {j k' : ℕ} {m' : Memory} {scratch' : List ℤ} {lines' : List ℕ} {n' : ℕ} {full' : Bool}
      → Stepped b i j (k + 1) m m' lines n full lines' n' full' → k' ≡ k + 1 → scratch' ≡ scratch
      → length m'.block ≡ length m.block → length m'.edges ≡ length m.edges
      → length m'.virtuals ≡ length m.virtuals → length lines' ≡ length lines
      → Progress b lines₀ j k' m' scratch' lines' n' full'
  progress_step {j} q ek es lb le lv ll = record {
    at = (record_step (k + 1) p.at q.said).stage;
    stands = q.turned.stands p.at p.stands;
    telling = rw ek
        (telling-more p.telling (lines-from-step (k + 1) p.at (drop i b) q.said (drop j b) q.is-next)
        (q.turned.told p.at p.stands));
    place = q.within;
    counted = omega (arith, p.counted, q.on);
    roomy = roomy-kept p.roomy lb es le lv;
    same = ll ∙ p.same;
  }

  -- nothing is left to tell at the end of the input
  rest-at-end : length b ≤ i → lines_from (k + 1) p.at (drop i b) ≡ []
  rest-at-end h = lines-from-end (k + 1) p.at (drop i b) (next-none (drop i b) (omega (arith, length-drop i b)))

  -- nor where the run has ended
  rest_ended : (s : Stage) → Stands m s → 3 ≤ m.stage → lines_from (k + 1) s (drop i b) ≡ []
  unfolding Stands lines_from
  rest_ended fresh q h = absurd (omega arith)
  rest_ended (gathering g) q h = absurd (omega (arith, q.0))
  rest_ended (running c) q h = absurd (omega (arith, q.0))
  rest_ended ended q h = run-ended (length (drop i b)) (k + 1) (drop i b)

  put_rest : lines_from (k + 1) p.at (drop i b) ≡ [] → page lines n full ≡ put_lines (page lines₀ 0 false) (lines_in b)
  unfolding put_lines fold
  put_rest e = ap (put_lines (page lines n full)) (sym e) ∙ p.telling.goes_on

  -- and behind a line that does not fit nothing is put
  put-when-full : full ≡ true → page lines n full ≡ put_lines (page lines₀ 0 false) (lines_in b)
  put-when-full e = rw e (sym (put_full lines n (lines_from (k + 1) p.at (drop i b)))) ∙ p.telling.goes_on

  put_all : ltb i (length b) && ltb m.stage 3 && not full ≡ false → page lines n full ≡ put_lines (page lines₀ 0 false) (lines_in b)
  put_all h =
      by-test full (λ e. put-when-full e) (λ e.
      by-test (ltb m.stage 3)
      (λ f. by-test (ltb i (length b)) (λ g. clash true refl (rw (e, f, g) at h)) (λ g. put_rest (rest-at-end (ltb-false i (length b) g))))
      (λ f. put_rest (rest_ended p.at p.stands (ltb-false m.stage 3 f))))

  pub progress-done : ltb i (length b) && ltb m.stage 3 && not full ≡ false → (lines ≡ filled b lines₀) × (n ≡ length (fitted_lines b (length lines₀)))
  unfolding filled fitted_lines
  progress-done h = put-over lines₀ lines n full (lines_in b) (put_all h)

-- while there are bytes, the run has not ended and all lines fit
pub goes_on : (i n s : ℕ) (full : Bool) → ltb i n && ltb s 3 && not full ≡ true → (i < n) × (s < 3)
goes_on i n s full h =
    let both = and_left (ltb i n && ltb s 3) (not full) h in
    (ltb-true i n (and_left (ltb i n) (ltb s 3) both), ltb-true s 3 (and_right (ltb i n) (ltb s 3) both))
