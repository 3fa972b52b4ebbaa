-- Memory that is refused: every call is, and changes nothing.
use Rattle.std.specs.Prelude.{ℕ, ◌≤◌, ◌≡◌, refl, ◌≢◌, List, ℤ, length}
use borrow.Author.Tests.{ne_eqb}
use Rattle.graph.specs.Layout.{state_of, memory_refusal}
use Rattle.answers.specs.Outcome.{Refused}
use Rattle.answers.specs.Numbers.{answer_numbers, Tells}
use Rattle.dual_module.proofs.laws.Called.{lent-refused, lent-refused-scratch, refusal-answered}
use Rattle.dual_module_node.specs.Outcome.{Refused as NodeRefused}
use Rattle.dual_module_node.specs.laws.ReadNode.{memory-refused}
use Rattle.dual_module_gap.specs.Outcome.{Refused as GapRefused}
use Rattle.c_api.specs.laws.Words.{told-all}
use Rattle.c_api_node.specs.Told.{read_node_numbers}
use Rattle.c_api_gap.specs.Told.{gap_numbers}
use Rattle.c_api_calls.specs.ListCall.{ListCall, list_defect, list_blossom, list_state, list_prepare, list_length, list_grow, list_advance, list_clear, list_vertex, list_node, list_gap, list_other}
use Rattle.c_api_calls.specs.Told.{other_refusal, ListedTold, OneTold}

module _ (b t : List ℤ) {j : ℕ} (e : j ≡ memory_refusal b t) (h : j ≢ 0) {part part' : List ℕ} {k : ℕ} (r : 5 ≤ length part)
    (p : Tells (answer_numbers (Refused j)) part part' k) where
  promised : (c : ListCall) → ListedTold b t c b t part part' k
  unfolding ListedTold other_refusal read_node_numbers gap_numbers
  promised (list_defect v x) = told-all r (Refused j) (lent-refused-scratch e h b t _ _) p
  promised (list_blossom x circle) = told-all r (Refused j) (lent-refused-scratch e h b t _ _) p
  promised (list_state n x) = (told-all r (Refused j) (lent-refused e h b _ _) p, refl)
  promised (list_prepare n d) = told-all r (Refused j) (lent-refused-scratch e h b t _ _) p
  promised (list_length n d first) = told-all r (Refused j) (lent-refused-scratch e h b t _ _) p
  promised (list_grow n l) = told-all r (Refused j) (lent-refused-scratch e h b t _ _) p
  promised (list_advance n) = told-all r (Refused j) (lent-refused-scratch e h b t _ _) p
  promised list_clear = (told-all r (Refused j) (lent-refused e h b _ _) p, refl)
  promised (list_vertex n) = (told-all r (Refused j) (refusal-answered e h (state_of b) _) p, (refl, refl))
  promised (list_node n) = (told-all r (NodeRefused j) (memory-refused e (state_of b) n h) p, (refl, refl))
  promised (list_gap x) = (told-all r (GapRefused j) (rw (← e, ne_eqb j 0 h) refl) p, (refl, refl))
  promised list_other = (told-all r (Refused j) (rw (← e, ne_eqb j 0 h) refl) p, (refl, refl))

  pub refused-told : (c : ListCall) → OneTold b t c b t part part'
  refused-told c = record { count = k; promise = promised c }
