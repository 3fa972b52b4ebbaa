-- On every state: a call that names a removed node is refused 3 and changes nothing.
use Rattle.std.specs.Prelude.{ℕ, zero, suc, ◌≡◌, Bool, ◌&&◌, List, [], ◌∷◌, ℤ, pos, negsuc, leb, ltb}
use Rattle.std.proofs.Math.Path.{refl, ap}
use Rattle.std.proofs.Math.Bool.{true, false}
use Rattle.std.proofs.Common.{eqb-true}
use Rattle.graph.specs.Basic.{any, member}
use Rattle.graph.specs.State.{State, removed, node_count, class_of, shrinking, up}
use Rattle.graph.specs.Sound.{is_removed}
use Rattle.graph.specs.laws.Members.{by-test, clash, or_right, none-member}
use Rattle.answers.specs.Outcome.{Refused}
use Rattle.answers.specs.Answer.{Reply, says}
use Rattle.calls.specs.Refuse.{bad_node, store_short, node_refusal, unless}
use Rattle.calls.specs.Insert.{insert_blossom, blossom_refusal}
use Rattle.calls.specs.Remove.{remove_refusal, remove_blossom}
use Rattle.calls.specs.Calls.{set_grow_state, prepare_dual_node_growth, max_update_length, grow_toward, grow_dual_node, advance, representative_vertex, Call, InsertDefect, InsertBlossom, SetGrowState, Prepare, UpdateLength, Grow, ReadTable, Advance, Contacts, RepresentativeVertex, Clear, RenewActiveList, PrepareAll, GroupLength, Round, RemoveBlossom, LoadEdgeModifier, response, respond}
use Rattle.reachable.specs.Opening.{names}

module _ (c : State) (n : ℕ) (is_removed_lem : class_of c n ≡ removed) where
  bad : bad_node c n ≡ true
  unfolding bad_node is_removed
  bad = or_right (leb (node_count c) n) _ (rw is_removed_lem)

  node-refused : (wrong short : Bool) → node_refusal c n wrong short ≡ 3
  unfolding node_refusal
  node-refused wrong short = rw bad

  circle-refused : (x : ℕ) (circle : List ℕ) → member n circle ≡ true → blossom_refusal c x circle ≡ 3
  unfolding blossom_refusal
  circle-refused x circle m =
      let a : any (bad_node c) circle ≡ true = by-test (any (bad_node c) circle) (λ e. e) (λ e. clash (bad_node c n) bad (none-member (bad_node c) circle n e m)) in
      rw (or_right (ltb shrinking x) (any (bad_node c) circle) a)

  remove-refused : remove_refusal c n ≡ 3
  unfolding remove_refusal
  remove-refused = rw bad

  three : (k : ℕ) (r : Reply) → k ≡ 3 → unless k c r ≡ says (Refused 3) c
  unfolding unless says
  three k r e = rw e refl

  grow-refused : (l : ℤ) → grow_dual_node c n l ≡ says (Refused 3) c
  unfolding grow_dual_node grow_toward
  grow-refused (pos zero) = three (node_refusal c n false false) _ (node-refused false false)
  grow-refused (pos (suc l)) = three (node_refusal c n false (store_short c (n ∷ []) 1)) _ (node-refused false _)
  grow-refused (negsuc l) = three (node_refusal c n false (store_short c (n ∷ []) 1)) _ (node-refused false _)

  pub named-refused : (k : Call) → names n k ≡ true → respond c k ≡ response (says (Refused 3) c)
  unfolding names respond insert_blossom set_grow_state prepare_dual_node_growth max_update_length advance representative_vertex remove_blossom
  named-refused (InsertBlossom x circle) h = ap response (three (blossom_refusal c x circle) _ (circle-refused x circle h))
  named-refused (SetGrowState m x) h = rw (eqb-true m n h) (ap response (three (node_refusal c n (ltb shrinking x) false) _ (node-refused _ false)))
  named-refused (Prepare m d) h = rw (eqb-true m n h) (ap response (three (node_refusal c n (ltb up d) (store_short c (n ∷ []) 1)) _ (node-refused _ _)))
  named-refused (UpdateLength m d first) h =
      rw (eqb-true m n h) (ap response (three (node_refusal c n (ltb up d) (first && store_short c (n ∷ []) 1)) _ (node-refused _ _)))
  named-refused (Grow m l) h = rw (eqb-true m n h) (ap response (grow-refused l))
  named-refused (Advance m) h = rw (eqb-true m n h) (ap response (three (node_refusal c n false false) _ (node-refused false false)))
  named-refused (RepresentativeVertex m) h = rw (eqb-true m n h, bad) refl
  named-refused (RemoveBlossom m) h = rw (eqb-true m n h) (ap response (three (remove_refusal c n) _ remove-refused))
  named-refused (InsertDefect v x) h = clash false h refl
  named-refused ReadTable h = clash false h refl
  named-refused Contacts h = clash false h refl
  named-refused Clear h = clash false h refl
  named-refused RenewActiveList h = clash false h refl
  named-refused PrepareAll h = clash false h refl
  named-refused GroupLength h = clash false h refl
  named-refused (Round l) h = clash false h refl
  named-refused (LoadEdgeModifier pairs) h = clash false h refl
