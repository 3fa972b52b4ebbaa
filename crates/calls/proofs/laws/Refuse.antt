-- The tests that refuse a call, as the code makes them.
use Rattle.std.specs.Prelude.{◌≡◌, ℕ, ◌+◌, ◌*◌, ◌<◌, ◌≤◌, Bool, true, false, ◌||◌, [], ◌∷◌, nat_le, nat_lt}
use Rattle.std.proofs.Common.{arith, sym, ◌∙◌, le-leb, leb-false}
use Rattle.std.specs.Prelude.{refl}
use Rattle.std.proofs.lemmas.Bool.{lt-leb}
use Rattle.graph.specs.Basic.{any, member}
use Rattle.graph.specs.State.{State, side_count, vertex_count, node_count, class_of}
use Rattle.graph.specs.Sound.{entries_of, entries, is_removed}
use Rattle.calls.specs.Refuse.{bad_node, in_blossom, entries_but, store_short, node_refusal}
use Rattle.graph.specs.laws.Members.{or-neither-left}
use Rattle.calls.proofs.laws.Accepted.{entries-named, entries_none}

-- the entries of one node are some of all
pub entries_with : (c : State) (n : ℕ) → n < node_count c → entries c ≡ entries_but c (n ∷ []) + entries_of c n
entries_with c n h = sym (entries_none c) ∙ entries-named c n [] h (unfold member any in refl)

pub short-node : (c : State) (n u : ℕ) → n < node_count c → u + entries_of c n ≡ entries c
    → nat_lt c.store_limit (u + 1 * (side_count c + vertex_count c)) ≡ store_short c (n ∷ []) 1
unfolding store_short
short-node c n u h e = let q : u ≡ entries_but c (n ∷ []) = omega (arith, e, entries_with c n h) in rw q

pub short-new : (c : State) (u : ℕ) → u ≡ entries c → nat_lt c.store_limit (u + 1 * (side_count c + vertex_count c)) ≡ store_short c [] 1
unfolding store_short
short-new c u e = rw (e, ← entries_none c)

-- ---- the refusal of a call on a node

pub bad-outside : (c : State) (n : ℕ) → node_count c ≤ n → true ≡ bad_node c n
unfolding bad_node
bad-outside c n h = rw (le-leb (node_count c) n h)

pub bad-removed : (c : State) (n : ℕ) → n < node_count c → is_removed (class_of c n) ≡ bad_node c n
unfolding bad_node
bad-removed c n h = rw (lt-leb (node_count c) n h)

pub good-inside : (c : State) (n : ℕ) → bad_node c n ≡ false → n < node_count c
unfolding bad_node
good-inside c n h = leb-false _ _ (or-neither-left (nat_le (node_count c) n) (is_removed (class_of c n)) h)

module _ (c : State) (n : ℕ) (wrong short : Bool) where
  pub refuses-number : bad_node c n || wrong ≡ true → 3 ≡ node_refusal c n wrong short
  unfolding node_refusal
  refuses-number e = rw e

  pub refuses-inner : bad_node c n || wrong ≡ false → in_blossom c n ≡ true → 6 ≡ node_refusal c n wrong short
  unfolding node_refusal
  refuses-inner e i = rw (e, i)

  pub refuses-store : bad_node c n || wrong ≡ false → in_blossom c n ≡ false → short ≡ true → 9 ≡ node_refusal c n wrong short
  unfolding node_refusal
  refuses-store e i s = rw (e, i, s)

  pub refuses-not : bad_node c n || wrong ≡ false → in_blossom c n ≡ false → short ≡ false → 0 ≡ node_refusal c n wrong short
  unfolding node_refusal
  refuses-not e i s = rw (e, i, s)
