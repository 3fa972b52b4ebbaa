-- Laws of the end of a shrinking pass: the marks are taken away, the scratch is cleared, and the lists are written.
use Rattle.std.specs.Prelude.{ℕ, zero, suc, ◌+◌, ◌-◌, ◌*◌, ◌≤◌, ◌<◌, ◌≡◌, refl, true, List, [], ◌∷◌, ℤ, pos, ltb, get_or, set, replicate}
use Rattle.std.proofs.Common.{add-one, arith, ap, subst₂, ◌∙◌, length-set, drop-cons, ltb-true}
use Rattle.std.proofs.Math.Path.{sym}
use Rattle.std.proofs.Math.ListN.{length, drop}
use Rattle.std.proofs.Math.Seq.{drop-length}
use Rattle.graph.specs.Basic.{distinct, sum_below}
use Rattle.graph.specs.State.{State, Nodes, vertex_count, side_count, overgrown_of}
use Rattle.graph.specs.Word.{word_at, numbers_at}
use Rattle.graph.specs.Sound.{entries, entries_of}
use Rattle.graph.specs.Layout.{state_of, stack_from, scratch_size}
use Rattle.graph.specs.inner.Form.{Becomes}
use Rattle.graph.specs.inner.Replace.{with_lists}
use Rattle.graph.specs.laws.Row.{word-other, becomes-then}
use Rattle.graph.specs.inner.Kept.{SameButHolders}
use Rattle.graph.specs.laws.Members.{all-member, member-at, distinct_tail}
use Rattle.pass.specs.Work.{Work, finish_pass}
use Rattle.pass.specs.Shrink.{empty_tops, shrink_pass}
use Rattle.pass.specs.inner.Another.{called}
use Rattle.pass.specs.inner.Once.{shrink_pass_once, Alike}
use Rattle.pass.proofs.laws.Once.{shrink-alike}
use Rattle.pass.specs.Scratch.{zero_scratch}
use Rattle.pass.specs.inner.Scratch.{note_limit, ScratchHolds, wiped}
use Rattle.pass.proofs.laws.Scratch.{first_entry, first-numbers, change-second, drop-second, wipe-first, wipe-third, zero-holding}
use Rattle.pass.specs.inner.Ready.{Ready, Shrinkable, AfterPass}
use Rattle.pass.proofs.laws.Fits.{shrink-over}
use Rattle.pass.proofs.laws.Passes.{shrink-pass-keeps}
use Rattle.shrink_pass.specs.inner.Shrinking.{marks, HasShrinkWork, KeptMarked, unmarked}
use Rattle.shrink_pass.specs.laws.Mark.{marks-length, marks-take, marks-none}
use Rattle.shrink_pass.specs.laws.Top.{tops-le, below-tops, over-kept}
use Rattle.shrink_pass.specs.declared.keep.ShrinkProgress.{ShrinkProgress}

-- ---- the marks

pub marked-of : {b t : List ℤ} {m : ℕ} {p : ShrinkProgress} {w : Work} → HasShrinkWork b t m p w → KeptMarked t m p 0
marked-of {b} {w = w} h =
    record {
      limit = note_limit (state_of b);
      kept = w.kept;
      noted = w.noted;
      scratch = h.scratch;
      keeps = h.kept;
      notes = h.noted;
      inside = h.inside;
      once = h.once;
      size = h.scratch.size;
      room = omega (arith, h.kept, h.scratch.keeps);
      space = omega (arith, h.noted, h.scratch.notes);
    }

distinct-drop : (l : List ℕ) (i : ℕ) → distinct l ≡ true → distinct (drop i l) ≡ true
distinct-drop l zero h = h
distinct-drop [] (suc i) h = h
distinct-drop (x ∷ l) (suc i) h = distinct-drop l i (distinct_tail x l h)

-- no mark less, one less, and what stands below the marks
pub unmark-none : (t : List ℤ) (m : ℕ) → t ≡ unmarked t m 0
unfolding unmarked
unmark-none t m = refl

pub unmark-word : (t : List ℤ) (m i j : ℕ) → j < m → word_at (unmarked t m i) j ≡ word_at t j
unfolding unmarked
unmark-word t m zero j h = refl
unmark-word t m (suc i) j h = word-other (unmarked t m i) (m + word_at t i) j (pos 0) (omega arith) ∙ unmark-word t m i j h

pub unmark-more : (t : List ℤ) (m i : ℕ) → i < m → set (unmarked t m i) (m + word_at (unmarked t m i) i) (pos 0) ≡ unmarked t m (i + 1)
unfolding unmarked
unmark-more t m i h = rw (add-one, unmark-word t m i i h)

unmark-length : (t : List ℤ) (m i : ℕ) → length (unmarked t m i) ≡ length t
unfolding unmarked
unmark-length t m zero = refl
unmark-length t m (suc i) = length-set (unmarked t m i) (m + word_at t i) (pos 0) ∙ unmark-length t m i

-- kept side i is a side
pub kept-below : {t : List ℤ} {m : ℕ} {p : ShrinkProgress} → KeptMarked t m p 0 → (i : ℕ) → i < p.kept → word_at t i < m
kept-below {m = m} q i h =
    rw (first_entry q.scratch i (omega (arith, q.keeps)))
    (ltb-true (get_or q.kept i 0) m (all-member (λ s. ltb s m) q.kept (get_or q.kept i 0) q.inside (member-at q.kept i 0 (omega (arith, q.keeps)))))

-- the marks go with their sides
marked-less : {t : List ℤ} {m : ℕ} {p : ShrinkProgress} (i s : ℕ) (q : KeptMarked t m p i) → i < p.kept
    → s ≡ get_or q.kept i 0 → KeptMarked (set t (m + s) (pos 0)) m p (i + 1)
marked-less {t} {m} {p} i s q h e =
    let l : i < length q.kept = omega (arith, h, q.keeps) in
    let k : drop i q.kept ≡ s ∷ drop (i + 1) q.kept = rw (add-one, e) (drop-cons q.kept i 0 l) in
    let b : s < m = rw e (ltb-true (get_or q.kept i 0) m (all-member (λ x. ltb x m) q.kept (get_or q.kept i 0) q.inside (member-at q.kept i 0 l))) in
    let r : set (marks m (drop i q.kept)) s 0 ≡ marks m (drop (i + 1) q.kept) =
    rw k (marks-take m s (drop (i + 1) q.kept) b (rw k at (distinct-drop q.kept i q.once))) in
    let held : ScratchHolds (set t (m + s) (pos 0)) m q.limit q.kept (marks m (drop (i + 1) q.kept)) q.noted =
    rw (← r) (change-second q.scratch s 0 (rw (marks-length m (drop i q.kept)) b)) in
    record {
      limit = q.limit;
      kept = q.kept;
      noted = q.noted;
      scratch = held;
      keeps = q.keeps;
      notes = q.notes;
      inside = q.inside;
      once = q.once;
      size = held.size;
      room = q.room;
      space = q.space;
    }

marked_more : (t : List ℤ) (m : ℕ) (p : ShrinkProgress) (i : ℕ) → i < p.kept → KeptMarked (unmarked t m i) m p i
    → KeptMarked (unmarked t m (suc i)) m p (suc i)
unfolding unmarked
marked_more t m p i h r =
    let e : word_at t i ≡ get_or r.kept i 0 = sym (unmark-word t m i i (omega (arith, h, r.room))) ∙ first_entry r.scratch i (omega (arith, h, r.keeps)) in
    let u : suc i ≡ i + 1 = omega arith in
    rw u (marked-less i (word_at t i) r h e)

marked-without : (t : List ℤ) (m : ℕ) (p : ShrinkProgress) → KeptMarked t m p 0 → (i : ℕ) → i ≤ p.kept → KeptMarked (unmarked t m i) m p i
unfolding unmarked
marked-without t m p q zero h = q
marked-without t m p q (suc i) h = marked_more t m p i (omega arith) (marked-without t m p q i (omega arith))

-- without marks, the scratch is cleared by its entries
pub cleared-scratch : {t : List ℤ} {m : ℕ} {p : ShrinkProgress} → KeptMarked t m p 0
    → wiped (wiped (unmarked t m p.kept) 0 p.kept) (2 * m) p.noted ≡ zero_scratch (length t)
cleared-scratch {t} {m} {p} h =
    let q = marked-without t m p h p.kept (omega arith) in
    cleared-without q ∙ ap zero_scratch (sym q.size ∙ unmark-length t m p.kept)
  where
    cleared-without : {t : List ℤ} (q : KeptMarked t m p p.kept) → wiped (wiped t 0 p.kept) (2 * m) p.noted ≡ zero_scratch (2 * m + q.limit)
    cleared-without {t} q =
        let none : marks m (drop p.kept q.kept) ≡ replicate m 0 = rw (q.keeps, drop-length q.kept) (marks-none m) in
        let zero : wiped (wiped t 0 (length q.kept)) (2 * m) (length q.noted) ≡ zero_scratch (2 * m + q.limit) =
        zero-holding _ m q.limit (wipe-third (wipe-first (drop-second q.scratch m none))) in
        subst₂ (λ i j. wiped (wiped t 0 i) (2 * m) j ≡ zero_scratch (2 * m + q.limit)) (sym q.keeps) (sym q.notes) zero

-- ---- the lists

-- the entries of the lists, by what is stored of the nodes
abbrev entries_in : Nodes → ℕ → ℕ
entries_in x n = length (get_or x.boundary n []) + length (get_or x.overgrown n [])

entries_by : (c : State) → entries c ≡ sum_below (entries_in c.nodes) (length c.nodes.grow_state)
unfolding entries entries_of
entries_by c = refl

entries-kept : {c d : State} → SameButHolders c d → entries d ≡ entries c
entries-kept {c} {d} k = entries_by d ∙ ap (λ (x : Nodes). sum_below (entries_in x) (length x.grow_state)) k.nodes ∙ sym (entries_by c)

entries-of-kept : {c d : State} (n : ℕ) → SameButHolders c d → entries_of d n ≡ entries_of c n
unfolding entries_of
entries-of-kept n k = ap (λ (x : Nodes). entries_in x n) k.nodes

module _ {b₀ t₀ b t : List ℤ} {n m z : ℕ} {p : ShrinkProgress} (r : Ready b₀ t₀ n) (s : Shrinkable (state_of b₀) n) (size : m ≡ side_count (state_of b₀))
    (tops : z ≡ length (empty_tops (overgrown_of (state_of b₀) n))) (q : HasShrinkWork b t m p (shrink_pass_once (state_of b₀) n)) where
  alike : Alike (shrink_pass_once (state_of b₀) n) (shrink_pass (state_of b₀) n)
  alike = shrink-alike (state_of b₀) n

  keeps : SameButHolders (state_of b₀) (state_of b)
  keeps = rw (q.state, alike.state) (shrink-pass-keeps (state_of b₀) n)

  same_over : overgrown_of (state_of b) n ≡ overgrown_of (state_of b₀) n
  same_over = over-kept n keeps

  -- they fit
  pub tops_fit : z ≤ length (overgrown_of (state_of b) n)
  tops_fit = rw same_over (omega (arith, tops, tops-le (overgrown_of (state_of b₀) n)))

  pub lists-fit : (o : ℕ) → o ≡ length (overgrown_of (state_of b) n)
      → entries (state_of b) + (p.kept + (o - z) + 0) ≤ (state_of b).store_limit + entries_of (state_of b) n
  lists-fit o e =
      let l : o ≤ vertex_count (state_of b₀) = rw (e, same_over) s.size in
      rw (entries-kept keeps, entries-of-kept n keeps, keeps.store_limit)
      (omega (arith, r.room, l, q.kept, q.scratch.keeps, size))

  -- what is written is what the pass finishes with
  written : with_lists (state_of b) n (numbers_at t 0 p.kept) (length (overgrown_of (state_of b) n) - z) (numbers_at t 0 0)
      ≡ finish_pass (shrink_pass (state_of b₀) n) n
  unfolding with_lists finish_pass stack_from numbers_at
  written =
      let kept : numbers_at t 0 p.kept ≡ (shrink_pass (state_of b₀) n).kept = rw q.kept (first-numbers q.scratch) ∙ alike.kept in
      let state : state_of b ≡ (shrink_pass (state_of b₀) n).state = q.state ∙ alike.state in
      let less : length (overgrown_of (state_of b₀) n) - (length (overgrown_of (state_of b₀) n) - z) ≡ z =
      omega (arith, tops, tops-le (overgrown_of (state_of b₀) n)) in
      let over : drop (length (overgrown_of (state_of b₀) n) - (length (overgrown_of (state_of b₀) n) - z))
      (overgrown_of (state_of b₀) n)
      ≡ (shrink_pass (state_of b₀) n).over =
      rw (less, tops) (sym (below-tops (overgrown_of (state_of b₀) n)) ∙ sym (shrink-over (state_of b₀) n)) in
      rw (kept, same_over, over, state)

  pub after-shrink : {b' t' : List ℤ} (o : ℕ) → o ≡ length (overgrown_of (state_of b) n) → Becomes b₀ b (state_of b)
      → Becomes b b' (with_lists (state_of b) n (numbers_at t 0 p.kept) (o - z) (numbers_at t 0 0))
      → t' ≡ zero_scratch (length t) → AfterPass b₀ b' t₀ t' n (shrink_pass (state_of b₀) n) (called p.another)
  after-shrink o e first last clear =
      let long : length t ≡ scratch_size (state_of b₀) = omega (arith, q.scratch.size, size, first.vertices, first.sides, r.formed.pairs) in
      record {
        block = rw (← written) (becomes-then first (rw e at last));
        scratch = clear ∙ ap zero_scratch long ∙ sym r.scratch;
        another = q.another ∙ alike.another;
      }
