-- Laws of the digits of a number, of a run record by record, and of the lines that fit.
use Rattle.std.specs.Prelude.{ℕ, zero, suc, ◌+◌, ◌-◌, ◌/◌, ◌%◌, ◌≤◌, ◌<◌, ◌≡◌, refl, Bool, true, false, List, [], ◌∷◌, ◌++◌, eqb, leb, ltb, length}
use Rattle.std.proofs.Common.{arith, sym, ap, ◌∙◌, length-append, length-drop, eq-eqb, ltb-true, ltb-false, le-leb, leb-true}
use Rattle.std.proofs.lemmas.Bool.{eqb-false}
use Rattle.graph.specs.laws.Members.{by-test, clash}
use Rattle.records.specs.Text.{digits_by, decimal}
use Rattle.records.specs.Record.{Record, Next, nothing, next, next_record, pair_at}
use Rattle.records.specs.Lines.{joined_lines, fitting}
use Rattle.records.specs.Run.{Stage, fresh, ended, record_step, run_from, lines_in}

-- ---- digits

pub digits_last : (f n : ℕ) → n < 10 → digits_by (suc f) n ≡ (48 + n) ∷ []
unfolding digits_by
digits_last f n h = by-test (ltb n 10) (λ e. rw (digits_by, e)) (λ e. let q : 10 ≤ n = ltb-false n 10 e in absurd (omega arith))

pub digits_more : (f n : ℕ) → 10 ≤ n → digits_by (suc f) n ≡ digits_by f (n / 10) ++ ((48 + n % 10) ∷ [])
unfolding digits_by
digits_more f n h = by-test (ltb n 10) (λ e. let q : n < 10 = ltb-true n 10 e in absurd (omega arith)) (λ e. rw (digits_by, e))

-- more fuel than is needed changes nothing
pub digits-fuel : (f g n : ℕ) → n < f → n < g → digits_by f n ≡ digits_by g n
digits-fuel zero g n h k = absurd (omega arith)
digits-fuel (suc f) zero n h k = absurd (omega arith)
digits-fuel (suc f) (suc g) n h k =
    by-test (ltb n 10)
    (λ e. let q : n < 10 = ltb-true n 10 e in digits_last f n q ∙ sym (digits_last g n q))
    (λ e. let q : 10 ≤ n = ltb-false n 10 e in
    digits_more f n q ∙ ap (λ l. l ++ ((48 + n % 10) ∷ [])) (digits-fuel f g (n / 10) (omega arith) (omega arith))
    ∙ sym (digits_more g n q))

pub decimal-last : (n : ℕ) → n < 10 → decimal n ≡ (48 + n) ∷ []
unfolding decimal
decimal-last n h = digits_last n n h

pub decimal-more : (n : ℕ) → 10 ≤ n → decimal n ≡ decimal (n / 10) ++ ((48 + n % 10) ∷ [])
unfolding decimal
decimal-more n h = digits_more n n h ∙ ap (λ l. l ++ ((48 + n % 10) ∷ [])) (digits-fuel n (suc (n / 10)) (n / 10) (omega arith) (omega arith))

-- ---- a run

pub run_end : (f k : ℕ) (s : Stage) (b : List ℕ) → next_record b ≡ nothing → run_from (suc f) k s b ≡ []
unfolding run_from
run_end f k s b e = rw (run_from, e)

pub run_step : (f k : ℕ) (s : Stage) (b : List ℕ) (r : Record) (rest : List ℕ) → next_record b ≡ next r rest
    → run_from (suc f) k s b ≡ (record_step k s r).lines ++ run_from f (k + 1) (record_step k s r).stage rest
unfolding run_from
run_step f k s b r rest e = rw (run_from, e)

-- a record takes some bytes
rest_of : Next → List ℕ
rest_of nothing = []
rest_of (next r rest) = rest

is_next : Next → Bool
is_next nothing = false
is_next (next r rest) = true

rest-shorter : (b : List ℕ) → is_next (next_record b) ≡ true → length (rest_of (next_record b)) < length b
unfolding next_record is_next rest_of
rest-shorter b h =
    by-test (eqb (length b) 0)
    (λ e. clash false (rw e at h) refl)
    (λ e.
    let ne : length b ≡ 0 → ⊥ = eqb-false (length b) 0 e in
    by-test (ltb (length b) (2 + pair_at b 0))
    (λ q. rw (e, q) (omega arith))
    (λ q. rw (e, q) (omega (arith, length-drop (2 + pair_at b 0) b))))

pub next-shorter : (b : List ℕ) (r : Record) (rest : List ℕ) → next_record b ≡ next r rest → length rest < length b
unfolding is_next rest_of
next-shorter b r rest e = rw e at (rest-shorter b (ap is_next e))

pub next-none : (b : List ℕ) → length b ≡ 0 → next_record b ≡ nothing
unfolding next_record
next-none b e = rw (eq-eqb (length b) 0 e)

pub run_none : (k : ℕ) (s : Stage) (b : List ℕ) → run_from zero k s b ≡ []
unfolding run_from
run_none k s b = refl

-- no more fuel is needed than there are bytes
pub run-fuel : (f g k : ℕ) (s : Stage) (b : List ℕ) → length b ≤ f → length b ≤ g → run_from f k s b ≡ run_from g k s b
run-fuel zero zero k s b h i = refl
run-fuel zero (suc g) k s b h i = run_none k s b ∙ sym (run_end g k s b (next-none b (omega arith)))
run-fuel (suc f) zero k s b h i = run_end f k s b (next-none b (omega arith)) ∙ sym (run_none k s b)
run-fuel (suc f) (suc g) k s b h i = go (next_record b) refl (λ k s b h i. run-fuel f g k s b h i)
  where
    go : (x : Next) → next_record b ≡ x
        → ((k : ℕ) (s : Stage) (b : List ℕ) → length b ≤ f → length b ≤ g → run_from f k s b ≡ run_from g k s b)
        → run_from (suc f) k s b ≡ run_from (suc g) k s b
    go nothing e ih = run_end f k s b e ∙ sym (run_end g k s b e)
    go (next r rest) e ih =
        let short : length rest < length b = next-shorter b r rest e in
        run_step f k s b r rest e
        ∙ ap (λ l. (record_step k s r).lines ++ l) (ih (k + 1) (record_step k s r).stage rest (omega arith) (omega arith))
        ∙ sym (run_step g k s b r rest e)

-- the lines from record k on, with as much fuel as there are bytes: what a loop over the records still has to write
unfoldable pub lines_from : ℕ → Stage → List ℕ → List (List ℕ)
lines_from k s b = run_from (length b) k s b

pub lines-from-end : (k : ℕ) (s : Stage) (b : List ℕ) → next_record b ≡ nothing → lines_from k s b ≡ []
unfolding lines_from
lines-from-end k s b e = run-fuel (length b) (suc (length b)) k s b (omega arith) (omega arith) ∙ run_end (length b) k s b e

pub lines-from-step : (k : ℕ) (s : Stage) (b : List ℕ) (r : Record) (rest : List ℕ) → next_record b ≡ next r rest
    → lines_from k s b ≡ (record_step k s r).lines ++ lines_from (k + 1) (record_step k s r).stage rest
unfolding lines_from
lines-from-step k s b r rest e =
    let short : length rest < length b = next-shorter b r rest e in
    run-fuel (length b) (suc (length b)) k s b (omega arith) (omega arith)
    ∙ run_step (length b) k s b r rest e
    ∙ ap (λ l. (record_step k s r).lines ++ l) (run-fuel (length b) (length rest) (k + 1) (record_step k s r).stage rest (omega arith) (omega arith))

pub lines-in-start : (b : List ℕ) → lines_in b ≡ lines_from 1 fresh b
unfolding lines_in lines_from
lines-in-start b = refl

-- a run that has ended writes nothing more
pub run-ended : (f k : ℕ) (b : List ℕ) → run_from f k ended b ≡ []
run-ended zero k b = run_none k ended b
run-ended (suc f) k b = go (next_record b) refl (λ k b. run-ended f k b)
  where
    go : (x : Next) → next_record b ≡ x → ((k : ℕ) (b : List ℕ) → run_from f k ended b ≡ []) → run_from (suc f) k ended b ≡ []
    go nothing e ih = run_end f k ended b e
    go (next r rest) e ih = run_step f k ended b r rest e ∙ (unfold record_step in (ih (k + 1) rest))

-- ---- lines that fit

pub fitting-le : (space : ℕ) (ls : List (List ℕ)) → length (fitting space ls) ≤ space
unfolding fitting
fitting-le space [] = omega arith
fitting-le space (l ∷ ls) =
    let ih : length (fitting (space - length l) ls) ≤ space - length l = fitting-le (space - length l) ls in
    by-test (leb (length l) space)
    (λ e. let q : length l ≤ space = leb-true (length l) space e in rw e (omega (arith, length-append l (fitting (space - length l) ls))))
    (λ e. rw e (omega arith))

pub fitting-all : (space : ℕ) (ls : List (List ℕ)) → length (joined_lines ls) ≤ space → fitting space ls ≡ joined_lines ls
unfolding fitting joined_lines
fitting-all space [] h = refl
fitting-all space (l ∷ ls) h =
    let len : length (l ++ joined_lines ls) ≡ length l + length (joined_lines ls) = length-append l (joined_lines ls) in
    rw (le-leb (length l) space (omega arith)) (ap (λ r. l ++ r) (fitting-all (space - length l) ls (omega arith)))
