-- Reading a node, as the code does it: the refusals, and a class word that stands for a defect or for a blossom.
use Rattle.std.specs.Prelude.{ℕ, ◌-◌, ◌≤◌, ◌<◌, ◌≡◌, refl, ◌≢◌, true, false, leb}
use Rattle.std.proofs.Common.{sym, ◌∙◌}
use borrow.Author.Tests.{ne_eqb}
use Rattle.graph.specs.State.{State, vertex_count, node_count, class_of, grow_state_of, parent_of, dual_of}
use Rattle.graph.specs.Sound.{is_removed}
use Rattle.graph.specs.Layout.{class_from}
use Rattle.graph.specs.laws.Class.{class-defect, class-first}
use Rattle.graph.specs.laws.Members.{or-neither-right}
use Rattle.calls.specs.Refuse.{bad_node}
use Rattle.dual_module_node.specs.Outcome.{Defect, Blossom, Refused}
use Rattle.dual_module_node.specs.ReadNode.{node_told, read_node, read_unless}

module _ {j k : ℕ} (e : j ≡ k) (c : State) (n : ℕ) where
  -- what is lent is refused
  pub memory-refused : j ≢ 0 → Refused j ≡ read_unless k c n
  unfolding read_unless
  memory-refused h = rw (← e, ne_eqb j 0 h)

  -- no such node
  pub node-refused : j ≡ 0 → bad_node c n ≡ true → Refused 3 ≡ read_unless k c n
  unfolding read_unless read_node
  node-refused h q = rw (sym e ∙ h, q)

  pub node-read : j ≡ 0 → read_node c n ≡ read_unless k c n
  unfolding read_unless
  node-read h = rw (sym e ∙ h)

-- a node that is not refused, of the class word w
module _ (c : State) (n w : ℕ) (e : class_from (vertex_count c) w ≡ class_of c n) (q : bad_node c n ≡ false)
    {x p y : ℕ} (hx : x ≡ grow_state_of c n) (hp : p ≡ parent_of c n) (hy : y ≡ dual_of c n) where
  pub defect-told : w < vertex_count c → Defect w x p y ≡ read_node c n
  unfolding read_node node_told
  defect-told h = rw (q, ← e, class-defect (vertex_count c) w h, hx, hp, hy)

  stands : is_removed (class_from (vertex_count c) w) ≡ false
  unfolding bad_node
  stands = rw e (or-neither-right (leb (node_count c) n) (is_removed (class_of c n)) q)

  pub blossom-told : vertex_count c ≤ w → Blossom (w - vertex_count c) x p y ≡ read_node c n
  unfolding read_node node_told
  blossom-told h = rw (q, ← e, class-first (vertex_count c) w h stands, hx, hp, hy)
