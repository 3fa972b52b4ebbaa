-- Laws on text written into bytes, and on lines that fit.
use Rattle.std.specs.Prelude.{ℕ, zero, suc, ◌+◌, ◌-◌, ◌*◌, ◌/◌, ◌%◌, ◌≤◌, ◌<◌, ◌≡◌, refl, Bool, true, false, ◌&&◌, not, List, [], ◌∷◌, ◌++◌, ℤ, pos, negsuc, nat_abs, leb, ltb, length, take, drop, set, get_or}
use Rattle.std.proofs.Common.{add-one, arith, sym, ap, ◌∙◌, append_assoc, append-nil, length-append, take-append-drop, take-suc, take_at, ltb-true, ltb-false, leb-true, leb-false, le-leb}
use Rattle.std.specs.Int.Signed.{non_neg}
use Rattle.std.proofs.lemmas.List.Edits.{sets, sets-eq}
use Rattle.std.proofs.Math.Seq.{length-sets}
use Rattle.std.proofs.lemmas.Bool.{lt-leb, not-true}
use Rattle.graph.specs.Basic.{fold, all}
use Rattle.graph.specs.laws.Members.{by-test, clash}
use Rattle.graph.specs.laws.State.{and_left, and_right}
use Rattle.records.specs.Text.{decimal, signed_text, spaced}
use Rattle.records.specs.Lines.{line, joined_lines, fitting, over}
use Rattle.records.specs.Write.{Written, Page, page, put_line, put_lines, short_lines, LinesPut}
use Rattle.records.specs.laws.Lines.{decimal-last, decimal-more, fitting-le, fitting-all}

-- ---- lengths of numbers

-- a number below 10 ^ k
tens : ℕ → ℕ
tens zero = 1
tens (suc k) = 10 * tens k

digits-few : (k n : ℕ) → n < tens (suc k) → length (decimal n) ≤ suc k
unfolding tens
digits-few zero n h = rw (decimal-last n (omega arith)) (omega arith)
digits-few (suc k) n h =
    by-test (ltb n 10)
    (λ e. let q : n < 10 = ltb-true n 10 e in rw (decimal-last n q) (omega arith))
    (λ e.
    let q : 10 ≤ n = ltb-false n 10 e in
    let ih : length (decimal (n / 10)) ≤ suc k = digits-few k (n / 10) (omega arith) in
    rw (decimal-more n q) (omega (arith, length-append (decimal (n / 10)) ((48 + n % 10) ∷ []))))

-- a machine's number has at most 20 digits
pub decimal-short : (n : ℕ) → n < 18446744073709551616 → length (decimal n) ≤ 20
unfolding tens
decimal-short n h = digits-few 19 n (omega arith)

-- a number has a digit, and one more than its tenth
pub decimal-shorter : (n : ℕ) → 10 ≤ n → length (decimal n) ≡ length (decimal (n / 10)) + 1
decimal-shorter n h = rw (decimal-more n h) (length-append (decimal (n / 10)) ((48 + n % 10) ∷ []))

pub decimal-some : (n : ℕ) → 1 ≤ length (decimal n)
decimal-some n =
    by-test (ltb n 10)
    (λ e. rw (decimal-last n (ltb-true n 10 e)) (omega arith))
    (λ e. omega (arith, decimal-shorter n (ltb-false n 10 e)))

-- by two digits
pub decimal-two : (n : ℕ) → 10 ≤ n → n < 100 → decimal n ≡ (48 + n / 10) ∷ (48 + n % 10) ∷ []
decimal-two n h k = rw (decimal-more n h, decimal-last (n / 10) (omega arith)) refl

pub decimal-hundreds : (n : ℕ) → 100 ≤ n → decimal n ≡ decimal (n / 100) ++ ((48 + n % 100 / 10) ∷ (48 + n % 100 % 10) ∷ [])
decimal-hundreds n h =
    let a : n / 10 / 10 ≡ n / 100 = omega arith in
    let b : n / 10 % 10 ≡ n % 100 / 10 = omega arith in
    let d : n % 10 ≡ n % 100 % 10 = omega arith in
    rw (decimal-more n (omega arith), decimal-more (n / 10) (omega arith), a, b, d)
    (append_assoc (decimal (n / 100)) ((48 + n % 100 / 10) ∷ []) ((48 + n % 100 % 10) ∷ []))

pub two-long : (n : ℕ) → 10 ≤ n → n < 100 → length (decimal n) ≡ 2
two-long n h k = ap length (decimal-two n h k)

pub hundreds-long : (n : ℕ) → 100 ≤ n → length (decimal n) ≡ length (decimal (n / 100)) + 2
hundreds-long n h = ap length (decimal-hundreds n h) ∙ length-append (decimal (n / 100)) ((48 + n % 100 / 10) ∷ (48 + n % 100 % 10) ∷ [])

-- ---- text behind text

sets-append : (b : List ℕ) (n : ℕ) (w v : List ℕ) → sets b n (w ++ v) ≡ sets (sets b n w) (n + length w) v
sets-append b n [] v = let z : n + 0 ≡ n = omega arith in rw z
sets-append b n (x ∷ w) v = let z : n + suc (length w) ≡ suc n + length w = omega arith in rw z (sets-append (set b n x) (suc n) w v)

pub written_none : (b : List ℕ) (n : ℕ) → Written b n b n []
written_none b n = record { bytes = refl; place = omega arith }

pub written_then : {b c d w v : List ℕ} {n m k : ℕ} → Written b n c m w → Written c m d k v → Written b n d k (w ++ v)
written_then {b} {c} {d} {w} {v} {n} {m} {k} p q =
    record { bytes = q.bytes ∙ rw (p.bytes, p.place) (sym (sets-append b n w v)); place = rw (length-append w v) (omega (arith, p.place, q.place)) }

-- the same text, written otherwise
pub written_as : {b c w v : List ℕ} {n m : ℕ} → Written b n c m w → w ≡ v → Written b n c m v
written_as {b} {c} {w} {v} {n} {m} p e = rw (← e) p

pub written-length : {b c w : List ℕ} {n m : ℕ} → Written b n c m w → length c ≡ length b
written-length {b} {c} {w} {n} {m} p = rw p.bytes (length-sets b n w)

-- text written from the start on is what stands before its end
pub written-front : {b c w : List ℕ} {m : ℕ} → Written b 0 c m w → length w ≤ length b → take m c ≡ w
written-front {b} {c} {w} {m} p h =
    let e : m ≡ length w = omega (arith, p.place) in
    rw (e, p.bytes, sets-eq w b 0 (omega arith)) (take_at w (drop (0 + length w) b) (length w) refl)

-- ---- words and numbers

pub written-more : {b c d : List ℕ} {n m k : ℕ} (w : List ℕ) (i : ℕ) → i < length w → Written b n c m (take i w)
    → Written c m d k (get_or w i 0 ∷ []) → Written b n d k (take (i + 1) w)
written-more w i h p q = written_as (written_then p q) (rw (add-one) (sym (take-suc w i 0 h)))

pub spaced-append : (xs ys : List ℕ) → spaced (xs ++ ys) ≡ spaced xs ++ spaced ys
unfolding spaced
spaced-append [] ys = refl
spaced-append (x ∷ xs) ys = rw (spaced-append xs ys) (sym (append_assoc (32 ∷ decimal x) (spaced xs) (spaced ys)))

pub spaced-one : (x : ℕ) → spaced (x ∷ []) ≡ 32 ∷ decimal x
unfolding spaced
spaced-one x = append-nil (32 ∷ decimal x)

-- one number more
pub spaced-more : (ns : List ℕ) (i : ℕ) → i < length ns → spaced (take (i + 1) ns) ≡ spaced (take i ns) ++ (32 ∷ decimal (get_or ns i 0))
spaced-more ns i h = rw (add-one, take-suc ns i 0 h, spaced-append (take i ns) (get_or ns i 0 ∷ []), spaced-one (get_or ns i 0))

pub numbers_more : {b c d : List ℕ} {n m k : ℕ} (ns : List ℕ) (i : ℕ) → i < length ns
    → Written b n c m (spaced (take i ns)) → Written c m d k (32 ∷ decimal (get_or ns i 0))
    → Written b n d k (spaced (take (i + 1) ns))
numbers_more ns i h p q = written_as (written_then p q) (sym (spaced-more ns i h))

-- the first numbers take no more than all
pub spaced-le : (ns : List ℕ) (i : ℕ) → length (spaced (take i ns)) ≤ length (spaced ns)
spaced-le ns i =
    let e : length (spaced (take i ns ++ drop i ns)) ≡ length (spaced (take i ns)) + length (spaced (drop i ns)) =
    ap length (spaced-append (take i ns) (drop i ns)) ∙ length-append (spaced (take i ns)) (spaced (drop i ns)) in
    let s : length (spaced ns) ≡ length (spaced (take i ns)) + length (spaced (drop i ns)) = rw (take-append-drop i ns) at e in
    omega arith

-- so there is room for the next number
pub number_fits : (ns : List ℕ) (i : ℕ) → i < length ns → length (spaced (take i ns)) + (1 + length (decimal (get_or ns i 0))) ≤ length (spaced ns)
number_fits ns i h =
    let e : length (spaced (take (i + 1) ns)) ≡ length (spaced (take i ns)) + length (32 ∷ decimal (get_or ns i 0)) =
    ap length (spaced-more ns i h) ∙ length-append (spaced (take i ns)) (32 ∷ decimal (get_or ns i 0)) in
    omega (arith, spaced-le ns (i + 1))

-- ---- signed numbers

pub signed-plain : (z : ℤ) → non_neg z ≡ true → signed_text z ≡ decimal (nat_abs z)
unfolding signed_text
signed-plain (pos n) h = refl
signed-plain (negsuc n) h = clash false h refl

pub signed-minus : (z : ℤ) → non_neg z ≡ false → signed_text z ≡ 45 ∷ decimal (nat_abs z)
unfolding signed_text
signed-minus (pos n) h = clash true refl h
signed-minus (negsuc n) h = rw (add-one)

-- ---- a line

pub line-start : (k : ℕ) (w : List ℕ) → decimal k ++ (32 ∷ []) ++ w ≡ decimal k ++ (32 ∷ w)
line-start k w = append_assoc (decimal k) (32 ∷ []) w

pub line-parts : (k : ℕ) (w v : List ℕ) → decimal k ++ (32 ∷ w) ++ v ++ (10 ∷ []) ≡ line k (w ++ v)
unfolding line
line-parts k w v = ap (λ l. l ++ (10 ∷ [])) (append_assoc (decimal k) (32 ∷ w) v)

-- ---- lines that fit

one_line : (l : List ℕ) → length l ≤ 128 → short_lines (l ∷ []) ≡ true
unfolding short_lines all
one_line l h = rw (le-leb (length l) 128 h)

-- all lines before did fit, and any line fits behind place n
pub room-here : (full : Bool) (m n : ℕ) → not full && leb 128 (m - n) ≡ true → (full ≡ false) × (128 ≤ m - n)
room-here full m n e =
    (not-true full (and_left (not full) (leb 128 (m - n)) e), leb-true 128 (m - n) (and_right (not full) (leb 128 (m - n)) e))

pub told-full : (b : List ℕ) (n : ℕ) (full : Bool) (l : List ℕ) → full ≡ true → n ≤ length b → length l ≤ 128 → LinesPut b n full b n full (l ∷ [])
unfolding page put_line put_lines fold
told-full b n full l e h s = record { page-is = rw e; short = one_line l s; room = h }

pub told_over : (b : List ℕ) (n : ℕ) (full : Bool) (l : List ℕ) → full ≡ false → n ≤ length b → length b - n < length l
    → length l ≤ 128 → LinesPut b n full b n true (l ∷ [])
unfolding page put_line put_lines fold
told_over b n full l e h k s = record { page-is = rw (e, lt-leb (n + length l) (length b) (omega arith)); short = one_line l s; room = h }

pub told-fits : (b : List ℕ) (n : ℕ) (full : Bool) (c : List ℕ) (m : ℕ) (l : List ℕ) → full ≡ false → n ≤ length b
    → length l ≤ length b - n → length l ≤ 128 → Written b n c m l → LinesPut b n full c m false (l ∷ [])
unfolding page put_line put_lines fold
told-fits b n full c m l e h k s p =
    record {
      short = one_line l s;
      page-is = rw (e, le-leb (n + length l) (length b) (omega arith), p.bytes, p.place);
      room = omega (arith, written-length p, p.place);
    }

-- the same lines, given otherwise
pub told-lines : {b c : List ℕ} {n m : ℕ} {full stopped : Bool} {ls ks : List (List ℕ)}
    → LinesPut b n full c m stopped ls → ls ≡ ks → LinesPut b n full c m stopped ks
told-lines {b} {c} {n} {m} {full} {stopped} {ls} {ks} p e = rw (← e) p

pub told-as : {b c l v : List ℕ} {n m : ℕ} {full stopped : Bool} → LinesPut b n full c m stopped (l ∷ []) → l ≡ v → LinesPut b n full c m stopped (v ∷ [])
told-as p e = told-lines p (ap (λ x. x ∷ []) e)

pub told_none : {b : List ℕ} {n : ℕ} {full : Bool} → n ≤ length b → LinesPut b n full b n full []
unfolding put_lines fold short_lines all
told_none h = record { page-is = refl; short = refl; room = h }

-- ---- all the lines

-- after a line that did not fit none is put
pub put_full : (b : List ℕ) (n : ℕ) (ls : List (List ℕ)) → put_lines (page b n true) ls ≡ page b n true
unfolding put_lines fold put_line page
put_full b n [] = refl
put_full b n (l ∷ ls) = put_full b n ls

-- the text w was written from place n on, and so far
pub record Fitted (b : List ℕ) (n : ℕ) (w : List ℕ) (p : Page) : Type 0 where
  pub bytes : p.bytes ≡ sets b n w
  pub at : p.at ≡ n + length w

-- the lines that fit
pub put-fitting : (b : List ℕ) (n : ℕ) (ls : List (List ℕ)) → n ≤ length b → Fitted b n (fitting (length b - n) ls) (put_lines (page b n false) ls)
unfolding put_lines fold put_line page fitting
put-fitting b n [] h = record { bytes = refl; at = omega arith }
put-fitting b n (l ∷ ls) h =
    by-test (leb (n + length l) (length b))
    (λ e.
    let q : n + length l ≤ length b = leb-true (n + length l) (length b) e in
    let len : length (sets b n l) ≡ length b = length-sets b n l in
    let ih : Fitted (sets b n l) (n + length l) (fitting (length (sets b n l) - (n + length l)) ls)
    (put_lines (page (sets b n l) (n + length l) false) ls) =
    put-fitting (sets b n l) (n + length l) ls (omega arith) in
    let space : length b - n - length l ≡ length b - (n + length l) = omega arith in
    rw (e, le-leb (length l) (length b - n) (omega arith), space)
    (record {
      bytes = rw len at ih.bytes ∙ sym (sets-append b n l (fitting (length b - (n + length l)) ls));
      at = rw (length-append l (fitting (length b - (n + length l)) ls)) (rw len at ih.at ∙ omega arith);
    }))
    (λ e.
    let q : length b < n + length l = leb-false (n + length l) (length b) e in
    rw (e, lt-leb (length l) (length b - n) (omega arith), put_full b n ls) (record { bytes = refl; at = omega arith }))

-- lines put from the start on: the bytes are written over with those that fit
pub put-over : (b c : List ℕ) (m : ℕ) (stopped : Bool) (ls : List (List ℕ))
    → page c m stopped ≡ put_lines (page b 0 false) ls
    → (c ≡ over (fitting (length b) ls) b) × (m ≡ length (fitting (length b) ls))
unfolding over page
put-over b c m stopped ls t =
    let z : length b - 0 ≡ length b = omega arith in
    let f = put-fitting b 0 ls (omega arith) in
    let le = fitting-le (length b) ls in
    let y : 0 + length (fitting (length b) ls) ≡ length (fitting (length b) ls) = omega arith in
    (ap (λ p. p.bytes) t ∙ rw z at f.bytes ∙ sets-eq (fitting (length b) ls) b 0 (omega arith) ∙ rw y, ap (λ p. p.at) t ∙ rw (z, y) at f.at)

-- how long short lines are together
pub short-joined : (ls : List (List ℕ)) → short_lines ls ≡ true → length (joined_lines ls) ≤ 128 * length ls
unfolding short_lines all joined_lines
short-joined [] h = omega arith
short-joined (l ∷ ls) h =
    let one : length l ≤ 128 = leb-true (length l) 128 (and_left (leb (length l) 128) (short_lines ls) h) in
    omega (arith, length-append l (joined_lines ls), short-joined ls (and_right (leb (length l) 128) (short_lines ls) h))

-- so few lines all fit
pub told-few : {b c : List ℕ} {m : ℕ} {stopped : Bool} (ls : List (List ℕ)) → LinesPut b 0 false c m stopped ls
    → 128 * length ls ≤ length b → take m c ≡ joined_lines ls
unfolding over
told-few {b} {c} {m} {stopped} ls t h =
    let o = put-over b c m stopped ls t.page-is in
    let e : fitting (length b) ls ≡ joined_lines ls = fitting-all (length b) ls (omega (arith, short-joined ls t.short)) in
    rw (o.0, o.1, e) (take_at (joined_lines ls) (drop (length (joined_lines ls)) b) (length (joined_lines ls)) refl)
