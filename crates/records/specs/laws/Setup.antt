-- Laws on what is read before the opening.
use Rattle.std.specs.Prelude.{ℕ, ◌+◌, ◌-◌, ◌≤◌, ◌<◌, ◌≡◌, true, false, List, ℤ, pos, length, get_or, set, drop}
use Rattle.std.proofs.Common.{add-one, sym, drop_of_length-le}
use Rattle.std.proofs.Math.Seq.{drop-cons}
use borrow.Author.Tests.{eq-eqb, ne_eqb, le-leb, lt-leb}
use Rattle.graph.specs.Basic.{any, member}
use Rattle.graph.specs.Word.{to_nat, word_at}
use Rattle.graph.specs.Opening.{virtuals_from}
use Rattle.records.specs.declared.setup.Setup.{Setup}
use Rattle.records.specs.Setup.{new_virtual, virtual_added, stored_virtual}

-- ---- a number among the words

module _ (words : List ℤ) (x i : ℕ) where
  pub member-found : i < length words → word_at words i ≡ x → member x (virtuals_from (drop i words)) ≡ true
  unfolding member any virtuals_from word_at
  member-found h e = rw (drop-cons words i (pos 0) h, eq-eqb x (to_nat (get_or words i (pos 0))) (sym e))

  pub member-later : i < length words → (word_at words i ≡ x → ⊥) → member x (virtuals_from (drop i words)) ≡ member x (virtuals_from (drop (i + 1) words))
  unfolding member any virtuals_from word_at
  member-later h e = rw (add-one, drop-cons words i (pos 0) h, ne_eqb x (to_nat (get_or words i (pos 0))) (λ q. e (sym q)))

  pub member-none : length words ≤ i → member x (virtuals_from (drop i words)) ≡ false
  unfolding member any virtuals_from
  member-none h = rw (drop_of_length-le words {i = i} h)

-- ---- a virtual vertex: out of range, new, or given before

module _ (s : Setup) (words : List ℤ) (x : ℕ) where
  pub virtual-out : s.v ≤ x
      →
      (record { v = s.v; e = s.e; n = s.n; l = s.l; edges = s.edges; virtuals = s.virtuals; bad = true }
      ≡ virtual_added s words x)
      × (words ≡ stored_virtual s words x)
  unfolding virtual_added stored_virtual
  virtual-out h = let e = le-leb s.v x h in (rw e, rw e)

  pub virtual-new : x < s.v → new_virtual words s.virtuals x ≡ true
      →
      (record { v = s.v; e = s.e; n = s.n; l = s.l; edges = s.edges; virtuals = s.virtuals + 1; bad = s.bad }
      ≡ virtual_added s words x)
      × (set words s.virtuals (pos x) ≡ stored_virtual s words x)
  unfolding virtual_added stored_virtual
  virtual-new h k = let e = lt-leb s.v x h in (rw (e, k), rw (e, k))

  pub virtual-old : x < s.v → new_virtual words s.virtuals x ≡ false → (s ≡ virtual_added s words x) × (words ≡ stored_virtual s words x)
  unfolding virtual_added stored_virtual
  virtual-old h k = let e = lt-leb s.v x h in (rw (e, k), rw (e, k))
