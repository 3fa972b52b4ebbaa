-- Laws on when a body is a record, and which.
use Rattle.std.specs.Prelude.{ℕ, zero, suc, ◌+◌, ◌-◌, ◌*◌, ◌/◌, ◌%◌, ◌≤◌, ◌<◌, ◌≡◌, Bool, false, ◌&&◌, ◌||◌, List, eqb, leb, length, get_or}
use Rattle.std.proofs.Common.{arith, sym, ap, ◌∙◌, eqb-true, leb-true}
use Rattle.std.proofs.Math.Path.{refl}
use Rattle.std.proofs.Math.Bool.{true}
use Rattle.graph.specs.laws.State.{if-both, if-cases, and_left, and_right}
use Rattle.graph.specs.laws.Members.{by-test, clash, or_cases}
use Rattle.records.specs.Record.{Record, sizes, an_edge, a_virtual, ask, ill_formed, pair_at, field, field_counts, fields_fit, ask_length, record_of, decoded}
use Rattle.records.specs.Decode.{is_record, well_formed, length_fits}

-- ---- how many fields there are

-- a kind without fields
pub fields-none : (k : ℕ) → (k ≡ 1 → ⊥) → (k ≡ 2 → ⊥) → (k ≡ 3 → ⊥) → (k ≡ 4 → ⊥) → (k ≡ 5 → ⊥) → (k ≡ 6 → ⊥)
    → (k ≡ 7 → ⊥) → (k ≡ 8 → ⊥) → (k ≡ 9 → ⊥) → (k ≡ 11 → ⊥) → get_or field_counts k 0 ≡ 0
unfolding field_counts
fields-none zero a b c d e f g h i j = refl
fields-none (suc zero) a b c d e f g h i j = absurd (a refl)
fields-none (suc (suc zero)) a b c d e f g h i j = absurd (b refl)
fields-none (suc (suc (suc zero))) a b c d e f g h i j = absurd (c refl)
fields-none (suc (suc (suc (suc zero)))) a b c d e f g h i j = absurd (d refl)
fields-none (suc (suc (suc (suc (suc zero))))) a b c d e f g h i j = absurd (e refl)
fields-none (suc (suc (suc (suc (suc (suc zero)))))) a b c d e f g h i j = absurd (f refl)
fields-none (suc (suc (suc (suc (suc (suc (suc zero))))))) a b c d e f g h i j = absurd (g refl)
fields-none (suc (suc (suc (suc (suc (suc (suc (suc zero)))))))) a b c d e f g h i j = absurd (h refl)
fields-none (suc (suc (suc (suc (suc (suc (suc (suc (suc zero))))))))) a b c d e f g h i j = absurd (i refl)
fields-none (suc (suc (suc (suc (suc (suc (suc (suc (suc (suc zero)))))))))) a b c d e f g h i j = refl
fields-none (suc (suc (suc (suc (suc (suc (suc (suc (suc (suc (suc zero))))))))))) a b c d e f g h i j = absurd (j refl)
fields-none (suc (suc (suc (suc (suc (suc (suc (suc (suc (suc (suc (suc zero)))))))))))) a b c d e f g h i j = refl
fields-none (suc (suc (suc (suc (suc (suc (suc (suc (suc (suc (suc (suc (suc zero))))))))))))) a b c d e f g h i j = refl
fields-none (suc (suc (suc (suc (suc (suc (suc (suc (suc (suc (suc (suc (suc (suc k)))))))))))))) a b c d e f g h i j = refl

-- what the length of a body whose kind and length fit is: exactly so many fields, or one and more where the kind is 5
pub record Lengthy (b : List ℕ) : Type 0 where
  pub kind : 2 ≤ length b
  pub kinds : (1 ≤ pair_at b 0) × (pair_at b 0 ≤ 13)
  pub whole : (length b - 2) % 4 ≡ 0
  pub exact : (pair_at b 0 ≡ 5 → ⊥) → (length b - 2) / 4 ≡ get_or field_counts (pair_at b 0) 0
  pub circle : pair_at b 0 ≡ 5 → 1 ≤ (length b - 2) / 4

fit-lengthy : (b : List ℕ) (k n : ℕ) → 2 ≤ length b → pair_at b 0 ≡ k → length b - 2 ≡ n → fields_fit k n ≡ true → Lengthy b
unfolding fields_fit field_counts
fit-lengthy b k n two ek en h =
    let C : Bool = eqb (n / 4) (get_or field_counts k 0) || eqb k 5 && leb 1 (n / 4) in
    let abc : leb 1 k && leb k 13 && eqb (n % 4) 0 ≡ true = and_left (leb 1 k && leb k 13 && eqb (n % 4) 0) C h in
    let ab : leb 1 k && leb k 13 ≡ true = and_left (leb 1 k && leb k 13) (eqb (n % 4) 0) abc in
    let last : C ≡ true = and_right (leb 1 k && leb k 13 && eqb (n % 4) 0) C h in
    record {
      kind = two;
      kinds = rw ek (leb-true 1 k (and_left (leb 1 k) (leb k 13) ab), leb-true k 13 (and_right (leb 1 k) (leb k 13) ab));
      whole = rw en (eqb-true (n % 4) 0 (and_right (leb 1 k && leb k 13) (eqb (n % 4) 0) abc));
      exact = rw (ek, en)
          (λ ne. or_cases (eqb (n / 4) (get_or field_counts k 0)) (eqb k 5 && leb 1 (n / 4)) last
          (λ q. eqb-true (n / 4) (get_or field_counts k 0) q)
          (λ q. absurd (ne (eqb-true k 5 (and_left (eqb k 5) (leb 1 (n / 4)) q)))));
      circle = rw (ek, en) (λ e. or_cases (eqb (n / 4) (get_or field_counts k 0)) (eqb k 5 && leb 1 (n / 4)) last
          (λ q. let z : n / 4 ≡ 1 = rw e at (eqb-true (n / 4) (get_or field_counts k 0) q) in omega arith)
          (λ q. leb-true 1 (n / 4) (and_right (eqb k 5) (leb 1 (n / 4)) q)));
    }

pub lengthy : (b : List ℕ) → length_fits b ≡ true → Lengthy b
unfolding length_fits
lengthy b h =
    fit-lengthy b (pair_at b 0) (length b - 2)
    (leb-true 2 (length b) (and_left (leb 2 (length b)) (fields_fit (pair_at b 0) (length b - 2)) h)) refl refl
    (and_right (leb 2 (length b)) (fields_fit (pair_at b 0) (length b - 2)) h)

-- a body of kind 8 has three fields
pub three-fields : (b : List ℕ) → length_fits b ≡ true → pair_at b 0 ≡ 8 → 13 < length b
unfolding field_counts
three-fields b h e =
    let l = lengthy b h in
    let x : (length b - 2) / 4 ≡ get_or field_counts (pair_at b 0) 0 = l.exact (λ q. omega arith) in
    let y : (length b - 2) / 4 ≡ 3 = rw e at x in omega arith

-- ---- which record it is

-- the record by its kind, where kind and length fit; else none
pub decoded-fits : (b : List ℕ) → length_fits b ≡ true → decoded b ≡ record_of (pair_at b 0) b ((length b - 2) / 4)
unfolding decoded length_fits
decoded-fits b h = rw h

pub decoded-none : (b : List ℕ) → length_fits b ≡ false → decoded b ≡ ill_formed
unfolding decoded length_fits
decoded-none b h = rw h

-- only the length of a node can be ill-formed
kind-record : (k : ℕ) (b : List ℕ) (n : ℕ) → (k ≡ 8 → ⊥) → is_record (record_of k b n) ≡ true
unfolding record_of is_record
kind-record k b n ne =
    if-both P (eqb k 1) refl
    (if-both P (eqb k 2) refl
    (if-both P (eqb k 3) refl
    (if-both P (eqb k 4) refl (if-both P (eqb k 5) refl (if-both P (eqb k 6) refl (if-both P (eqb k 7) refl
    (if-cases P (eqb k 8) (λ e. absurd (ne (eqb-true k 8 e))) (λ e.
    if-both P (eqb k 9) refl (if-both P (eqb k 10) refl (if-both P (eqb k 11) refl (if-both P (eqb k 12) refl refl)))))))))))
  where
    P : Record → Type 0
    P r = is_record r ≡ true

pub formed-none : (b : List ℕ) → length_fits b ≡ false → well_formed b ≡ false
unfolding well_formed is_record
formed-none b h = rw (decoded-none b h)

pub formed-plain : (b : List ℕ) → length_fits b ≡ true → (pair_at b 0 ≡ 8 → ⊥) → well_formed b ≡ true
unfolding well_formed
formed-plain b h ne = rw (decoded-fits b h) (kind-record (pair_at b 0) b ((length b - 2) / 4) ne)

asked-length : (n d first : ℕ) → is_record (ask_length n d first) ≡ leb first 1
unfolding ask_length is_record
asked-length n d first = by-test (leb first 1) (λ e. rw e) (λ e. rw e)

pub formed-length : (b : List ℕ) → length_fits b ≡ true → pair_at b 0 ≡ 8 → well_formed b ≡ leb (field b 2) 1
unfolding well_formed record_of
formed-length b h e = rw (decoded-fits b h, e) (asked-length (field b 0) (field b 1) (field b 2))

-- a record's kind and length fit
pub formed-fits : (b : List ℕ) → well_formed b ≡ true → length_fits b ≡ true
formed-fits b h = by-test (length_fits b) (λ e. e) (λ e. clash (well_formed b) h (formed-none b e))

-- ---- the record of each kind, and how long its body is

-- a record that has exactly the fields of its kind
pub fields-there : (b : List ℕ) (k : ℕ) → well_formed b ≡ true → pair_at b 0 ≡ k → (k ≡ 5 → ⊥) → length b ≡ 2 + 4 * get_or field_counts k 0
fields-there b k h e ne =
    let l = lengthy b (formed-fits b h) in
    let x : (length b - 2) / 4 ≡ get_or field_counts (pair_at b 0) 0 = l.exact (λ q. ne (sym e ∙ q)) in
    let y : (length b - 2) / 4 ≡ get_or field_counts k 0 = rw e at x in
    omega (arith, l.kind, l.whole)

-- a circle's record has a field for the state, and one for each entry
pub circle-there : (b : List ℕ) → well_formed b ≡ true → pair_at b 0 ≡ 5 → (6 ≤ length b) × (length b ≡ 2 + 4 * ((length b - 2) / 4))
circle-there b h e =
    let l = lengthy b (formed-fits b h) in
    let x : 1 ≤ (length b - 2) / 4 = l.circle e in
    (omega (arith, l.kind), omega (arith, l.kind, l.whole))

-- the record of kind k
pub decoded-kind : (b : List ℕ) (k : ℕ) → well_formed b ≡ true → pair_at b 0 ≡ k → decoded b ≡ record_of k b ((length b - 2) / 4)
decoded-kind b k h e = decoded-fits b (formed-fits b h) ∙ ap (λ x. record_of x b ((length b - 2) / 4)) e

-- the kinds there are
pub kind-range : (b : List ℕ) → well_formed b ≡ true → (1 ≤ pair_at b 0) × (pair_at b 0 ≤ 13)
kind-range b h = (lengthy b (formed-fits b h)).kinds

-- a body that is none
pub decoded-ill : (b : List ℕ) → well_formed b ≡ false → decoded b ≡ ill_formed
unfolding well_formed
decoded-ill b h = go (decoded b) h
  where
    go : (r : Record) → is_record r ≡ false → r ≡ ill_formed
    go (sizes v e n l) q = clash true refl (unfold is_record in q)
    go (an_edge x) q = clash true refl (unfold is_record in q)
    go (a_virtual x) q = clash true refl (unfold is_record in q)
    go (ask c) q = clash true refl (unfold is_record in q)
    go ill_formed q = refl
