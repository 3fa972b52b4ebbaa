-- Laws behind the calls that only read: a refusal of what is lent, or the list filled.
use Rattle.std.specs.Prelude.{ℕ, ◌*◌, ◌≡◌, ◌≢◌, true, false, List, map, ℤ, pos, eqb, length, if◌then◌else◌}
use Rattle.std.proofs.Common.{sym, ◌∙◌, eq-eqb, ne_eqb}
use Rattle.graph.specs.State.{State, edge_count}
use Rattle.graph.specs.Layout.{state_of}
use Rattle.graph.specs.laws.Form.{laid-shape}
use Rattle.memory_tests.specs.laws.Memory.{Lendable}
use Rattle.answers.specs.Outcome.{Done, Vertex, Refused}
use Rattle.answers.specs.Numbers.{OnPaper}
use Rattle.answers.specs.Answer.{says}
use Rattle.calls.specs.Refuse.{bad_node, unless}
use Rattle.calls.specs.Reply.{placed}
use Rattle.calls.specs.Calls.{growth_table, representative_vertex_of, representative_vertex}
use Rattle.dual_module.proofs.laws.Called.{placed-all}
use Rattle.dual_module_read.specs.Read.{ListRead}

module _ {j k : ℕ} (e : j ≡ k) (h : j ≡ 0) (c : State) (n : ℕ) where
  pub vertex-beyond : bad_node c n ≡ true → OnPaper (Refused 3) (unless k c (representative_vertex c n)).answer
  unfolding unless representative_vertex says
  vertex-beyond q = rw (sym e ∙ h, q)

  pub vertex-told : bad_node c n ≡ false → {v : ℕ} → v ≡ representative_vertex_of c n → OnPaper (Vertex v) (unless k c (representative_vertex c n)).answer
  unfolding unless representative_vertex says
  vertex-told q {v} x = rw (sym e ∙ h, q, x)

-- the growth of every side in a list of two words for each edge
pub table-placed : {b t : List ℤ} (list : List ℤ) {list' : List ℤ} → Lendable b t
    → length list ≡ 2 * edge_count (state_of b) → list' ≡ placed (growth_table (state_of b)) list
    → list' ≡ map pos (growth_table (state_of b))
unfolding growth_table
table-placed {b} list l h e = e ∙ placed-all (growth_table (state_of b)) list ((laid-shape b l.formed.laid).growth ∙ l.formed.pairs ∙ sym h)

module _ {j k : ℕ} (e : j ≡ k) where
  pub list-refused : {b list filled : List ℤ} → j ≢ 0 → ListRead b list list filled k (Refused j)
  unfolding unless says
  list-refused h = rw (← e) (record { answer = rw (ne_eqb j 0 h); listed = rw (ne_eqb j 0 h) })

  pub list-filled : {b list list' filled : List ℤ} → j ≡ 0 → list' ≡ filled → ListRead b list list' filled k Done
  unfolding unless says
  list-filled h x = rw (← e) (record { answer = rw (eq-eqb j 0 h); listed = rw (eq-eqb j 0 h) x })

  pub count_none : (m : ℕ) → j ≢ 0 → 0 ≡ (if eqb k 0 then m else 0)
  count_none m h = rw (← e, ne_eqb j 0 h)

  pub count-so : {m n : ℕ} → j ≡ 0 → n ≡ m → n ≡ (if eqb k 0 then m else 0)
  count-so h x = rw (← e, eq-eqb j 0 h) x
