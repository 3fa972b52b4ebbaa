-- The growths are read back from the lines of a table.
use Rattle.std.specs.Prelude.{ℕ, zero, suc, ◌+◌, ◌-◌, ◌*◌, ◌/◌, ◌%◌, ◌≤◌, ◌<◌, ◌≡◌, ◌↔◌, Bool, true, false, ◌&&◌, not, leb, ltb, eqb, length}
use Rattle.std.proofs.Common.{arith, sym, ◌∙◌, ltb-true, ltb-false, le-leb, ne_eqb}
use Rattle.std.proofs.Math.Path.{refl, ap}
use mathlib.Core.List.{List, [], ◌∷◌, ◌++◌, map, append_assoc}
use Rattle.std.proofs.lemmas.Bool.{not-true}
use Rattle.graph.specs.Basic.{all}
use Rattle.graph.specs.laws.State.{and_left, and_right}
use Rattle.graph.specs.laws.Members.{by-test, both, all_append}
use Rattle.records.specs.Text.{ascii, digits_by, decimal, spaced}
use Rattle.records.specs.Lines.{line, edge_lines, joined_lines}
use Rattle.records.specs.laws.Lines.{digits_last, digits_more}
use Rattle.table_claim.specs.Reading.{is_digit, read_on, behind_space, number_at, growths_in, in_front, text_lines}

-- ---- a number

read-digit : (m d : ℕ) (rest : List ℕ) → d < 10 → read_on m ((48 + d) ∷ rest) ≡ read_on (10 * m + d) rest
unfolding read_on is_digit
read-digit m d rest h =
    let e : leb 48 (48 + d) && leb (48 + d) 57 ≡ true =
    both (leb 48 (48 + d)) (leb (48 + d) 57) (le-leb 48 (48 + d) (omega arith)) (le-leb (48 + d) 57 (omega arith)) in
    let z : 48 + d - 48 ≡ d = omega arith in
    rw (e, z) refl

read-digits : (f n : ℕ) (rest : List ℕ) → n < f → read_on 0 (digits_by f n ++ rest) ≡ read_on n rest
read-digits zero n rest h = absurd (omega arith)
read-digits (suc f) n rest h =
    by-test (ltb n 10)
    (λ e. let q : n < 10 = ltb-true n 10 e in let z : 10 * 0 + n ≡ n = omega arith in rw (digits_last f n q) (read-digit 0 n rest q ∙ rw z refl))
    (λ e.
    let q : 10 ≤ n = ltb-false n 10 e in
    let z : 10 * (n / 10) + n % 10 ≡ n = omega arith in
    rw (digits_more f n q, append_assoc (digits_by f (n / 10)) ((48 + n % 10) ∷ []) rest, read-digits f (n / 10) ((48 + n % 10) ∷ rest) (omega arith))
    (read-digit (n / 10) (n % 10) rest (omega arith) ∙ rw z refl))

skip-digits : (f n : ℕ) (rest : List ℕ) → behind_space (digits_by f n ++ rest) ≡ behind_space rest
skip-digits zero n rest = unfold digits_by in refl
skip-digits (suc f) n rest =
    by-test (ltb n 10)
    (λ e. let q : n < 10 = ltb-true n 10 e in rw (digits_last f n q) (skip n))
    (λ e.
    let q : 10 ≤ n = ltb-false n 10 e in
    rw (digits_more f n q, append_assoc (digits_by f (n / 10)) ((48 + n % 10) ∷ []) rest, skip-digits f (n / 10) ((48 + n % 10) ∷ rest)) (skip (n % 10)))
  where
    skip : (d : ℕ) → behind_space ((48 + d) ∷ rest) ≡ behind_space rest
    skip d = unfold behind_space in (rw (ne_eqb (48 + d) 32 (λ e. omega arith)) refl)

-- a number, with others and more behind it
read_first : (n : ℕ) (ns : List ℕ) (t : List ℕ) → read_on 0 (decimal n ++ spaced ns ++ t) ≡ read_on n (spaced ns ++ t)
unfolding decimal
read_first n ns t = rw (append_assoc (digits_by (suc n) n) (spaced ns) t) (read-digits (suc n) n (spaced ns ++ t) (omega arith))

skip_first : (n : ℕ) (ns : List ℕ) (t : List ℕ) → behind_space (decimal n ++ spaced ns ++ t) ≡ behind_space (spaced ns ++ t)
unfolding decimal
skip_first n ns t = rw (append_assoc (digits_by (suc n) n) (spaced ns) t) (skip-digits (suc n) n (spaced ns ++ t))

-- ---- a line

behind-number : (k : ℕ) (w : List ℕ) → behind_space (line k w) ≡ w ++ (10 ∷ [])
unfolding line decimal
behind-number k w =
    ap behind_space (append_assoc (digits_by (suc k) k) (32 ∷ w) (10 ∷ []))
    ∙ skip-digits (suc k) k (32 ∷ w ++ (10 ∷ []))
    ∙ (unfold behind_space in refl)

module _ (k e l r : ℕ) where
  edge-words : behind_space (behind_space (line k (ascii "edge" ++ spaced (e ∷ l ∷ r ∷ [])))) ≡ decimal e ++ spaced (l ∷ r ∷ []) ++ (10 ∷ [])
  unfolding ascii spaced behind_space
  edge-words = ap behind_space (behind-number k (ascii "edge" ++ spaced (e ∷ l ∷ r ∷ [])))

  left-words : behind_space (behind_space (behind_space (line k (ascii "edge" ++ spaced (e ∷ l ∷ r ∷ []))))) ≡ decimal l ++ spaced (r ∷ []) ++ (10 ∷ [])
  left-words = ap behind_space edge-words ∙ skip_first e (l ∷ r ∷ []) (10 ∷ []) ∙ (unfold spaced behind_space in refl)

  right-words : behind_space (behind_space (behind_space (behind_space (line k (ascii "edge" ++ spaced (e ∷ l ∷ r ∷ [])))))) ≡ decimal r ++ spaced [] ++ (10 ∷ [])
  right-words = ap behind_space left-words ∙ skip_first l (r ∷ []) (10 ∷ []) ∙ (unfold spaced behind_space in refl)

  left-read : number_at 3 (line k (ascii "edge" ++ spaced (e ∷ l ∷ r ∷ []))) ≡ l
  unfolding number_at
  left-read = ap (read_on 0) left-words ∙ read_first l (r ∷ []) (10 ∷ []) ∙ (unfold spaced read_on is_digit in refl)

  right-read : number_at 4 (line k (ascii "edge" ++ spaced (e ∷ l ∷ r ∷ []))) ≡ r
  unfolding number_at
  right-read = ap (read_on 0) right-words ∙ read_first r [] (10 ∷ []) ∙ (unfold spaced read_on is_digit in refl)

-- ---- a table

-- two growths for each of m edges
pub growths-read : (k e m : ℕ) (gs : List ℕ) → length gs ≡ 2 * m → growths_in (edge_lines k e gs) ≡ gs
unfolding growths_in edge_lines
growths-read k e m [] h = refl
growths-read k e m (l ∷ []) h = absurd (omega arith)
growths-read k e zero (l ∷ r ∷ gs) h = absurd (omega arith)
growths-read k e (suc m) (l ∷ r ∷ gs) h = rw (left-read k e l r, right-read k e l r, growths-read k (e + 1) m gs (omega arith)) refl

-- ---- lines without their number

-- growths are read behind the number of the record
growths-behind : (ls ks : List (List ℕ)) → map behind_space ls ≡ map behind_space ks → growths_in ls ≡ growths_in ks
unfolding growths_in number_at
growths-behind [] [] e = refl
growths-behind [] (k ∷ ks) e = let z : ◌≡◌ {A = ℕ} 0 (suc (length (map behind_space ks))) = ap length e in absurd (omega arith)
growths-behind (l ∷ ls) [] e = let z : ◌≡◌ {A = ℕ} (suc (length (map behind_space ls))) 0 = ap length e in absurd (omega arith)
growths-behind (l ∷ ls) (k ∷ ks) e =
    let h : behind_space l ≡ behind_space k = cc in
    let t : map behind_space ls ≡ map behind_space ks = cc in
    rw (h, growths-behind ls ks t) refl

-- the lines of one table under two numbers differ only in these
same-behind : (k j e : ℕ) (gs : List ℕ) → map behind_space (edge_lines k e gs) ≡ map behind_space (edge_lines j e gs)
unfolding edge_lines
same-behind k j e [] = refl
same-behind k j e (l ∷ []) = refl
same-behind k j e (l ∷ r ∷ gs) =
    rw (behind-number k (ascii "edge" ++ spaced (e ∷ l ∷ r ∷ [])), behind-number j (ascii "edge" ++ spaced (e ∷ l ∷ r ∷ [])), same-behind k j (e + 1) gs) refl

-- Two tables of growths for m and n edges: their lines without numbers are the same exactly when they are.
pub lines-tell-growths : (k j m n : ℕ) (gs hs : List ℕ) → length gs ≡ 2 * m → length hs ≡ 2 * n
    → (map behind_space (edge_lines k 0 gs) ≡ map behind_space (edge_lines j 0 hs)) ↔ (gs ≡ hs)
lines-tell-growths k j m n gs hs p q = (
  λ e. sym (growths-read k 0 m gs p) ∙ growths-behind (edge_lines k 0 gs) (edge_lines j 0 hs) e ∙ growths-read j 0 n hs q,
  λ e. same-behind k j 0 gs ∙ ap (λ (x : List ℕ). map behind_space (edge_lines j 0 x)) e,
)

-- ---- bytes as lines

-- no line feed
plain : List ℕ → Bool
plain w = all (λ x. not (eqb x 10)) w

unfeed : (x : ℕ) → (x ≡ 10 → ⊥) → not (eqb x 10) ≡ true
unfeed x h = rw (ne_eqb x 10 h) refl

line_first : (w rest : List ℕ) → plain w ≡ true → text_lines (w ++ (10 ∷ rest)) ≡ (w ++ (10 ∷ [])) ∷ text_lines rest
unfolding plain all text_lines in_front
line_first [] rest h = refl
line_first (x ∷ w) rest h =
    let e : eqb x 10 ≡ false = not-true (eqb x 10) (and_left (not (eqb x 10)) (plain w) h) in
    rw (e, line_first w rest (and_right (not (eqb x 10)) (plain w) h)) refl

plain-append : (w u : List ℕ) → plain w ≡ true → plain u ≡ true → plain (w ++ u) ≡ true
unfolding plain
plain-append w u h k = all_append (λ x. not (eqb x 10)) w u h k

plain-digit : (d : ℕ) → plain ((48 + d) ∷ []) ≡ true
unfolding plain all
plain-digit d = both (not (eqb (48 + d) 10)) true (unfeed (48 + d) (λ e. omega arith)) refl

plain-digits : (f n : ℕ) → plain (digits_by f n) ≡ true
plain-digits zero n = unfold digits_by plain all in refl
plain-digits (suc f) n =
    by-test (ltb n 10)
    (λ e. let q : n < 10 = ltb-true n 10 e in rw (digits_last f n q) (plain-digit n))
    (λ e. let q : 10 ≤ n = ltb-false n 10 e in
    rw (digits_more f n q)
    (plain-append (digits_by f (n / 10)) ((48 + n % 10) ∷ []) (plain-digits f (n / 10)) (plain-digit (n % 10))))

plain-decimal : (n : ℕ) → plain (decimal n) ≡ true
unfolding decimal
plain-decimal n = plain-digits (suc n) n

plain-spaced : (ns : List ℕ) → plain (spaced ns) ≡ true
unfolding spaced plain all
plain-spaced [] = refl
plain-spaced (n ∷ ns) = plain-append (decimal n) (spaced ns) (plain-decimal n) (plain-spaced ns)

plain-edge : (k : ℕ) (ns : List ℕ) → plain (decimal k ++ (32 ∷ ascii "edge" ++ spaced ns)) ≡ true
unfolding ascii plain all
plain-edge k ns = plain-append (decimal k) (32 ∷ ascii "edge" ++ spaced ns) (plain-decimal k) (plain-spaced ns)

text-first : (k : ℕ) (ns rest : List ℕ) → text_lines (line k (ascii "edge" ++ spaced ns) ++ rest) ≡ line k (ascii "edge" ++ spaced ns) ∷ text_lines rest
unfolding line
text-first k ns rest =
    ap text_lines (append_assoc (decimal k ++ (32 ∷ ascii "edge" ++ spaced ns)) (10 ∷ []) rest)
    ∙ line_first (decimal k ++ (32 ∷ ascii "edge" ++ spaced ns)) rest (plain-edge k ns)

-- The bytes of a table are cut into its lines.
pub table-lines : (k e : ℕ) (gs : List ℕ) → text_lines (joined_lines (edge_lines k e gs)) ≡ edge_lines k e gs
unfolding edge_lines joined_lines
table-lines k e [] = unfold text_lines in refl
table-lines k e (l ∷ []) = unfold text_lines in refl
table-lines k e (l ∷ r ∷ gs) =
    text-first k (e ∷ l ∷ r ∷ []) (joined_lines (edge_lines k (e + 1) gs))
    ∙ ap (λ (x : List (List ℕ)). line k (ascii "edge" ++ spaced (e ∷ l ∷ r ∷ [])) ∷ x) (table-lines k (e + 1) gs)
