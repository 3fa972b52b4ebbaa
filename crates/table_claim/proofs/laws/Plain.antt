-- No record of an input asks for a change of weights.
use Rattle.std.specs.Prelude.{ℕ, zero, suc, ◌+◌, ◌-◌, ◌/◌, ◌≡◌, Bool, false, ◌&&◌, not, leb, eqb, ltb, length, take, drop, if◌then◌else◌}
use Rattle.std.proofs.Math.Path.{refl}
use Rattle.std.proofs.Common.{subst}
use Rattle.std.proofs.Math.Bool.{true}
use mathlib.Core.List.{List, [], ◌∷◌}
use Rattle.graph.specs.Basic.{all, any}
use Rattle.graph.specs.laws.State.{if-both}
use Rattle.graph.specs.laws.Members.{both, neither, all_first, all_others, all_left}
use Rattle.std.proofs.lemmas.Bool.{not-true}
use Rattle.records.specs.Record.{Record, sizes, an_edge, a_virtual, ask, ill_formed, pair_at, fields_fit, ask_length, record_of, decoded, Next, nothing, next, next_record}
use Rattle.table_theorem.specs.History.{changes_weights}
use Rattle.table_claim.specs.Input.{records_by, records_in, calls_in, In}
use Rattle.table_claim.specs.Tables.{OpenAfter, PlainAfter, OpenAt}
use Rattle.table_claim.specs.Program.{said}

-- the record is no change of weights
unfoldable plain_record : Record → Bool
plain_record (sizes v e n l) = true
plain_record (an_edge x) = true
plain_record (a_virtual v) = true
plain_record (ask k) = not (changes_weights k)
plain_record ill_formed = true

abbrev IsPlain : Record → Type 0
IsPlain r = plain_record r ≡ true

length-plain : (n d first : ℕ) → IsPlain (ask_length n d first)
unfolding ask_length plain_record changes_weights
length-plain n d first = if-both IsPlain (leb first 1) refl refl

record-plain : (kind : ℕ) (b : List ℕ) (n : ℕ) → IsPlain (record_of kind b n)
unfolding record_of plain_record changes_weights
record-plain kind b n =
    if-both IsPlain (eqb kind 1) refl
    (if-both IsPlain (eqb kind 2) refl
    (if-both IsPlain (eqb kind 3) refl
    (if-both IsPlain (eqb kind 4) refl
    (if-both IsPlain (eqb kind 5) refl
    (if-both IsPlain (eqb kind 6) refl
    (if-both IsPlain (eqb kind 7) refl
    (if-both IsPlain (eqb kind 8) (length-plain _ _ _)
    (if-both IsPlain (eqb kind 9) refl
    (if-both IsPlain (eqb kind 10) refl
    (if-both IsPlain (eqb kind 11) refl
    (if-both IsPlain (eqb kind 12) refl refl)))))))))))

decoded-plain : (b : List ℕ) → IsPlain (decoded b)
unfolding decoded
decoded-plain b =
    go (leb 2 (length b) && fields_fit (pair_at b 0) (length b - 2)) (record_of (pair_at b 0) b ((length b - 2) / 4))
    (record-plain (pair_at b 0) b ((length b - 2) / 4))
  where
    go : (t : Bool) (r : Record) → IsPlain r → IsPlain (if t then r else ill_formed)
    go true r h = h
    go false r h = unfold plain_record in refl

-- ---- lists of records

said_all : (bodies : List (List ℕ)) → all plain_record (said bodies) ≡ true
unfolding all
said_all [] = refl
said_all (b ∷ bs) = both (plain_record (decoded b)) (all plain_record (said bs)) (decoded-plain b) (said_all bs)

-- the records that are read from here on are plain
abbrev NextPlain : ℕ → Next → Type 0
NextPlain fuel x = all plain_record (elim x [ nothing ↦ [] | next r rest ↦ r ∷ records_by fuel rest ]) ≡ true

records-all : (fuel : ℕ) (b : List ℕ) → all plain_record (records_by fuel b) ≡ true
unfolding records_by next_record
records-all zero b = unfold all in refl
records-all (suc fuel) b =
    if-both (NextPlain fuel) (eqb (length b) 0) (unfold all in refl)
    (if-both (NextPlain fuel) (ltb (length b) (2 + pair_at b 0)) (one fuel ill_formed [] (unfold plain_record in refl) (records-all fuel []))
    (one fuel (decoded (take (pair_at b 0) (drop 2 b))) (drop (2 + pair_at b 0) b) (decoded-plain _) (records-all fuel (drop (2 + pair_at b 0) b))))
  where
    one : (fuel : ℕ) (r : Record) (rest : List ℕ) → IsPlain r → all plain_record (records_by fuel rest) ≡ true → all plain_record (r ∷ records_by fuel rest) ≡ true
    one fuel r rest h k = unfold all in (both (plain_record r) (all plain_record (records_by fuel rest)) h k)

calls-plain : (rs : List Record) → all plain_record rs ≡ true → any changes_weights (calls_in rs) ≡ false
unfolding calls_in plain_record any
calls-plain [] h = refl
calls-plain (sizes v e n l ∷ rs) h = calls-plain rs (all_others plain_record (sizes v e n l) rs h)
calls-plain (an_edge x ∷ rs) h = calls-plain rs (all_others plain_record (an_edge x) rs h)
calls-plain (a_virtual v ∷ rs) h = calls-plain rs (all_others plain_record (a_virtual v) rs h)
calls-plain (ill_formed ∷ rs) h = calls-plain rs (all_others plain_record ill_formed rs h)
calls-plain (ask k ∷ rs) h =
    neither (changes_weights k) (any changes_weights (calls_in rs)) (not-true _ (all_first plain_record (ask k) rs h))
    (calls-plain rs (all_others plain_record (ask k) rs h))

-- ---- records behind which a table is asked for

plain-after : {rs : List Record} → OpenAfter rs → all plain_record rs ≡ true → PlainAfter rs
plain-after {rs} o h = record { is_open = o.is_open; blossomless = o.blossomless; plain = calls-plain rs h }

pub plain_at : {b : List ℕ} {x : Record} (p : In b x) → OpenAt p → PlainAfter p.before
unfolding records_in
plain_at {b} {x} p o =
    plain-after o (all_left plain_record p.before (x ∷ p.behind) (subst (λ (l : List Record). all plain_record l ≡ true) p.is (records-all (length b) b)))

pub plain-said : (bodies : List (List ℕ)) → OpenAfter (said bodies) → PlainAfter (said bodies)
plain-said bodies o = plain-after o (said_all bodies)
