-- Laws on the lines of a table and of contacts, edge by edge.
use Rattle.std.specs.Prelude.{ℕ, suc, ◌+◌, ◌-◌, ◌*◌, ◌≤◌, ◌<◌, ◌≡◌, refl, Bool, true, false, List, [], ◌∷◌, ◌++◌, map, ℤ, leb, length, drop}
use Rattle.std.proofs.Common.{add-one, arith, sym, ap, ◌∙◌, drop_of_length-le, drop-cons}
use Rattle.graph.specs.Basic.{only, below, fold, all as every}
use Rattle.graph.specs.State.{State, growth_at, edge_count}
use Rattle.graph.specs.Layout.{state_of}
use Rattle.graph.specs.Form.{Formed}
use Rattle.graph.specs.laws.Members.{by-test, length-below, all_append}
use Rattle.graph.specs.laws.Opened.{get_d-below}
use Rattle.graph.specs.laws.Form.{formed-growths}
use Rattle.graph.specs.laws.State.{fold-append}
use Rattle.calls.specs.Contacts.{side_node, is_contact, contact_of, contacts}
use Rattle.calls.specs.Calls.{growths, touching, growth_table}
use Rattle.records.specs.Text.{ascii, spaced}
use Rattle.records.specs.Lines.{line, edge_lines, contact_line, lines_for}
use Rattle.records.specs.inner.Table.{edge_line, lines_at}
use Rattle.records.specs.Write.{page, put_line, put_lines, short_lines, LinesPut}

-- ---- counts

pub growths-even : (b : List ℤ) → Formed b → length (growth_table (state_of b)) ≡ 2 * edge_count (state_of b)
unfolding growth_table
growths-even b f = formed-growths b f

-- ---- the line of an edge

pub edge-line : (k : ℕ) (c : State) (e x y : ℕ) → x ≡ growth_at c (2 * e) → y ≡ growth_at c (2 * e + 1)
    → line k (ascii "edge" ++ spaced (e ∷ x ∷ y ∷ [])) ≡ edge_line k c e
unfolding edge_line
edge-line k c e x y p q = rw (p, q)

pub lines-contact : (k : ℕ) (c : State) (e p q : ℕ) → is_contact c e ≡ true → p ≡ side_node c (2 * e) → q ≡ side_node c (2 * e + 1)
    → contact_line k (record { edge = e; left = p; right = q }) ∷ [] ≡ lines_at k c e
unfolding lines_at contact_of
lines-contact k c e p q t l r = rw (t, l, r)

pub lines-apart : (k : ℕ) (c : State) (e : ℕ) → is_contact c e ≡ false → [] ≡ lines_at k c e
unfolding lines_at
lines-apart k c e t = rw t

-- ---- what remains to be told

-- the lines from edge e on
unfoldable pub table_from : ℕ → State → ℕ → List (List ℕ)
table_from k c e = edge_lines k e (drop (2 * e) (growth_table c))

unfoldable pub contacts_from : ℕ → State → ℕ → List (List ℕ)
contacts_from k c e = map (contact_line k) (map (contact_of c) (only (is_contact c) (drop e (below (edge_count c)))))

pub table-start : (k : ℕ) (c : State) → table_from k c 0 ≡ lines_for k (growths (growth_table c))
unfolding table_from lines_for
table-start k c = refl

pub table_more : (k : ℕ) (c : State) (e : ℕ) → 2 * e + 1 < length (growth_table c) → table_from k c e ≡ edge_line k c e ∷ table_from k c (e + 1)
unfolding table_from edge_lines edge_line growth_table
table_more k c e h =
    let z : 2 * (e + 1) ≡ suc (suc (2 * e)) = omega arith in
    let y : 2 * e + 1 ≡ suc (2 * e) = omega arith in
    rw (z, y, drop-cons (growth_table c) (2 * e) 0 (omega arith), drop-cons (growth_table c) (suc (2 * e)) 0 (omega arith))

pub table-end : (k : ℕ) (c : State) (e : ℕ) → length (growth_table c) ≤ 2 * e → table_from k c e ≡ []
unfolding table_from edge_lines
table-end k c e h = rw (drop_of_length-le (growth_table c) h)

pub contacts-start : (k : ℕ) (c : State) → contacts_from k c 0 ≡ lines_for k (touching (contacts c))
unfolding contacts_from lines_for contacts
contacts-start k c = refl

pub contacts-more : (k : ℕ) (c : State) (e : ℕ) → e < edge_count c → contacts_from k c e ≡ lines_at k c e ++ contacts_from k c (e + 1)
unfolding contacts_from lines_at only
contacts-more k c e h =
    let n : e < length (below (edge_count c)) = omega (arith, length-below (edge_count c)) in
    by-test (is_contact c e)
    (λ t. rw (add-one, drop-cons (below (edge_count c)) e 0 n, get_d-below (edge_count c) e 0 h, t))
    (λ t. rw (add-one, drop-cons (below (edge_count c)) e 0 n, get_d-below (edge_count c) e 0 h, t))

pub contacts-end : (k : ℕ) (c : State) (e : ℕ) → edge_count c ≤ e → contacts_from k c e ≡ []
unfolding contacts_from only
contacts-end k c e h = let n : length (below (edge_count c)) ≤ e = omega (arith, length-below (edge_count c)) in rw (drop_of_length-le (below (edge_count c)) n)

-- ---- a loop over lines

-- so much is told that the lines rest, told as well, are all
pub record Telling (b : List ℕ) (n : ℕ) (full : Bool) (c : List ℕ) (m : ℕ) (stopped : Bool) (all rest : List (List ℕ)) : Type 0 where
  pub goes_on : put_lines (page c m stopped) rest ≡ put_lines (page b n full) all
  pub short : short_lines rest ≡ true → short_lines all ≡ true
  pub room : m ≤ length c

pub telling-none : {b : List ℕ} {n : ℕ} {full : Bool} {all rest : List (List ℕ)} → n ≤ length b → rest ≡ all → Telling b n full b n full all rest
telling-none {b} {n} {full} {all} {rest} h e = record { goes_on = rw e; short = λ s. rw (← e) s; room = h }

pub telling-more : {b c d : List ℕ} {n m k : ℕ} {full stopped ended : Bool} {all rest ls more : List (List ℕ)}
    → Telling b n full c m stopped all rest → rest ≡ ls ++ more → LinesPut c m stopped d k ended ls
    → Telling b n full d k ended all more
unfolding put_lines short_lines
telling-more {b} {c} {d} {n} {m} {k} {full} {stopped} {ended} {all} {rest} {ls} {more} p e t =
    record {
      goes_on = ap (λ q. put_lines q more) t.page-is ∙ sym (fold-append put_line (page c m stopped) ls more)
          ∙ ap (put_lines (page c m stopped)) (sym e) ∙ p.goes_on;
      short = λ s. p.short (rw e (all_append (λ l. leb (length l) 128) ls more t.short s));
      room = t.room;
    }

pub telling-all : {b c : List ℕ} {n m : ℕ} {full stopped : Bool} {all rest : List (List ℕ)}
    → Telling b n full c m stopped all rest → rest ≡ [] → LinesPut b n full c m stopped all
unfolding put_lines fold short_lines every
telling-all {b} {c} {n} {m} {full} {stopped} {all} {rest} p e =
    record { page-is = ap (put_lines (page c m stopped)) (sym e) ∙ p.goes_on; short = p.short (rw e refl); room = p.room }
