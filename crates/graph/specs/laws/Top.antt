-- The top of a node's overgrown stack: its amount set, where no other list changes, and its amount read.
use Prim.Native.Nat.{ℕ, suc, ◌+◌, ◌-◌, ◌*◌, ◌/◌, ◌%◌, ◌≤◌, ◌<◌}
use Rattle.std.proofs.Common.{arith, ◌∙◌, length-drop, get_or-set_same, take-suc, take_all, lt-ltb, le-ltb, eq-eqb, ne_eqb}
use Rattle.std.proofs.Math.Decide.{ℕ_discrete as dec_eq, dec_lt}
use Rattle.std.specs.Prelude.{◌≡◌, refl, ℤ, set, drop}
use Rattle.std.proofs.Math.Path.{sym, ap}
use mathlib.Core.List.{List, [], ◌∷◌, ◌++◌, reverse, reverse-cons}
use Rattle.std.proofs.Math.ListN.{length, get_or, take, length-set}
use Rattle.std.proofs.Math.Seq.{get_or-take, get_or-drop, get_or-set_other, ext_get_or, length-take-le}
use Rattle.std.proofs.lemmas.List.{set_at, set-get_or}
use Rattle.graph.specs.State.{Overgrown, node_count, boundary_of, overgrown_of, with_nodes, with_overgrown}
use Rattle.graph.specs.Rows.{rows, store_row}
use Rattle.graph.specs.Layout.{rows_of, class_from, overgrown_from, stack_from, boundaries, stacks, state_from, state_of}
use Rattle.graph.specs.Form.{Listed, Wired, Formed}
use Rattle.graph.specs.inner.Form.{Rowed, Becomes}
use Rattle.graph.specs.Node.{with_top, top_amount, class_number}
use Rattle.graph.specs.laws.Row.{becomes-row}
use Rattle.graph.specs.laws.List.{store_length, Lists, lists_of}
use Rattle.graph.specs.inner.Lists.{store_of, olen_word, blen_word, start_word}
use Rattle.graph.specs.laws.Cut.{parts-sum, agree-take, Local, cut, cut-replaced, boundaries-cut, stacks-cut, boundary-local, stack-local}
use Rattle.graph.specs.inner.Cut.{start_at, sum_of_lists, olens, blens}
use Rattle.graph.specs.laws.Used.{length-bs, length-os, blen-is, olen-is, start_is, sum-entries, entries-within}

-- ---- a stack in words, its top last

reverse_snoc : (l : List ℕ) (y : ℕ) → reverse (l ++ (y ∷ [])) ≡ y ∷ reverse l
reverse_snoc [] y = refl
reverse_snoc (x ∷ l) y = reverse-cons x (l ++ (y ∷ [])) ∙ ap (λ r. r ++ (x ∷ [])) (reverse_snoc l y) ∙ ap (λ r. y ∷ r) (sym (reverse-cons x l))

stack_snoc : (l : List ℕ) (y : ℕ) → stack_from (l ++ (y ∷ [])) ≡ overgrown_from y ∷ stack_from l
unfolding stack_from
stack_snoc l y = rw (reverse_snoc l y)

stack_top : (l : List ℕ) (m x : ℕ) → length l ≡ suc m → stack_from (set l m (x * 1024 + get_or l m 0 % 1024)) ≡ with_top x (stack_from l)
unfolding with_top overgrown_from
stack_top l m x h =
    let e : l ≡ take m l ++ (get_or l m 0 ∷ []) = sym (take_all (suc m) l (omega arith)) ∙ take-suc l m 0 (omega arith) in
    let k : length (take m l) ≡ m = length-take-le m l (omega arith) in
    let y : ℕ = get_or l m 0 in
    let v : (x * 1024 + y % 1024) % 1024 ≡ y % 1024 = omega arith in
    let a : (x * 1024 + y % 1024) / 1024 ≡ x = omega arith in
    ap (λ z. stack_from (set z m (x * 1024 + y % 1024))) e
    ∙ ap stack_from (set_at (take m l) y [] (x * 1024 + y % 1024) m k)
    ∙ stack_snoc (take m l) (x * 1024 + y % 1024)
    ∙ rw (v, a) (sym (ap (with_top x) (ap stack_from e ∙ stack_snoc (take m l) y)))

-- ---- the store with that word changed

module _ (b₀ b : List ℤ) (n x p : ℕ) (f : Formed b₀) (h : n < node_count (state_of b₀)) (some : 0 < olen_word b₀ n)
    (at : p ≡ start_word b₀ n + blen_word b₀ n + (olen_word b₀ n - 1)) where
  bs : List ℕ
  bs = blens b₀

  os : List ℕ
  os = olens b₀

  l : List ℕ
  l = store_of b₀

  l' : List ℕ
  l' = set l p (x * 1024 + get_or l p 0 % 1024)

  lists : Lists b₀ n
  lists = lists_of b₀ n f.laid f.listed h

  k-is : get_or bs n 0 ≡ blen_word b₀ n
  unfolding bs
  k-is = blen-is b₀ f.laid f.listed n h

  o_is : get_or os n 0 ≡ olen_word b₀ n
  unfolding os
  o_is = olen-is b₀ f.laid f.listed n h

  a-is : start_at bs os n ≡ start_word b₀ n
  unfolding bs os
  a-is = sym (start_is b₀ f.laid f.listed n h)

  size : length l ≡ (state_of b₀).store_limit
  unfolding l
  size = store_length b₀ f.laid

  size' : length l' ≡ length l
  unfolding l'
  size' = length-set l p (x * 1024 + get_or l p 0 % 1024)

  used : sum_of_lists bs os ≤ length l
  unfolding bs os
  used = omega (arith, size, sum-entries b₀ f.laid f.listed, entries-within b₀ f.laid f.listed)

  other : (i : ℕ) → (i ≡ p → ⊥) → get_or l' i 0 ≡ get_or l i 0
  unfolding l'
  other i ne = get_or-set_other l p i (x * 1024 + get_or l p 0 % 1024) 0 ne

  inside-bs : n < length bs
  unfolding bs
  inside-bs = omega (arith, length-bs b₀ f.laid f.listed, h)

  inside-os : n < length os
  unfolding os
  inside-os = omega (arith, length-os b₀ f.laid f.listed, h)

  -- of each node the part g of its lists, where node n alone is touched
  parts-now : {A : Type 0} (g : ℕ → ℕ → List ℕ → A) → Local g
      → cut g bs os l' ≡ set (cut g bs os l) n (g (blen_word b₀ n) (olen_word b₀ n) (drop (start_word b₀ n) l'))
  parts-now g loc =
      let k : ℕ = blen_word b₀ n in
      let o : ℕ = olen_word b₀ n in
      let a : ℕ = start_word b₀ n in
      let s : set bs n k ≡ bs = rw (← k-is) (set-get_or bs n 0) in
      let t : set os n o ≡ os = rw (← o_is) (set-get_or os n 0) in
      let whole : sum_of_lists (set bs n k) (set os n o) ≤ length l' = rw (s, t, size') used in
      let sum = parts-sum bs os n inside-bs inside-os in
      let r : cut g (set bs n k) (set os n o) l' ≡ set (cut g bs os l) n (g k o (drop a l')) =
      cut-replaced g loc bs os n k o l l' (drop a l') inside-bs inside-os
      (λ i z. other i (λ e. omega (arith, a-is, at)))
      (λ i z. rw a-is)
      (λ i z. rw (a-is, k-is, o_is)
      (get_or-drop (a + (k + o)) l' i 0 ∙ other (a + (k + o) + i) (λ e. omega (arith, at, some))
      ∙ sym (get_or-drop (a + (k + o)) l i 0)))
      used whole (rw (length-drop a l', size') (omega (arith, used, sum, a-is, k-is, o_is))) in
      ap (λ z. cut g z os l') (sym s) ∙ ap (λ z. cut g (set bs n k) z l') (sym t) ∙ r

  -- the boundary of node n does not reach the word
  boundary-now : take (blen_word b₀ n) (drop (start_word b₀ n) l') ≡ boundary_of (state_of b₀) n
  boundary-now =
      let k : ℕ = blen_word b₀ n in
      let a : ℕ = start_word b₀ n in
      agree-take k (drop a l') (drop a l) (rw (length-drop a l', size') (omega (arith, size, lists.within)))
      (rw (length-drop a l) (omega (arith, size, lists.within)))
      (λ i z. get_or-drop a l' i 0 ∙ other (a + i) (λ e. omega (arith, at)) ∙ sym (get_or-drop a l i 0))
      ∙ unfold l in sym lists.boundary

  words : List ℕ
  words = take (olen_word b₀ n) (drop (start_word b₀ n + blen_word b₀ n) l)

  words-length : length words ≡ olen_word b₀ n
  unfolding words
  words-length =
      length-take-le (olen_word b₀ n) (drop (start_word b₀ n + blen_word b₀ n) l)
      (rw (length-drop (start_word b₀ n + blen_word b₀ n) l) (omega (arith, size, lists.within)))

  word_at : (i : ℕ) → i < olen_word b₀ n → get_or words i 0 ≡ get_or l (start_word b₀ n + blen_word b₀ n + i) 0
  unfolding words
  word_at i z = get_or-take (olen_word b₀ n) (drop (start_word b₀ n + blen_word b₀ n) l) i 0 z ∙ get_or-drop (start_word b₀ n + blen_word b₀ n) l i 0

  word-now : (i : ℕ) → i < olen_word b₀ n
      → get_or (take (olen_word b₀ n) (drop (blen_word b₀ n) (drop (start_word b₀ n) l'))) i 0
      ≡ get_or l' (start_word b₀ n + blen_word b₀ n + i) 0
  word-now i z =
      let e : start_word b₀ n + (blen_word b₀ n + i) ≡ start_word b₀ n + blen_word b₀ n + i = omega arith in
      get_or-take (olen_word b₀ n) (drop (blen_word b₀ n) (drop (start_word b₀ n) l')) i 0 z
      ∙ get_or-drop (blen_word b₀ n) (drop (start_word b₀ n) l') i 0 ∙ get_or-drop (start_word b₀ n) l' (blen_word b₀ n + i) 0
      ∙ ap (λ j. get_or l' j 0) e

  length-now : length (take (olen_word b₀ n) (drop (blen_word b₀ n) (drop (start_word b₀ n) l'))) ≡ olen_word b₀ n
  length-now =
      length-take-le (olen_word b₀ n) (drop (blen_word b₀ n) (drop (start_word b₀ n) l'))
      (rw (length-drop (blen_word b₀ n) (drop (start_word b₀ n) l'), length-drop (start_word b₀ n) l', size') (omega (arith, size, lists.within)))

  -- of its stack the last word alone
  stack-now : take (olen_word b₀ n) (drop (blen_word b₀ n) (drop (start_word b₀ n) l'))
      ≡ set words (olen_word b₀ n - 1) (x * 1024 + get_or words (olen_word b₀ n - 1) 0 % 1024)
  unfolding l'
  stack-now =
      let o : ℕ = olen_word b₀ n in
      let v : get_or words (o - 1) 0 ≡ get_or l p 0 = word_at (o - 1) (omega (arith, some)) ∙ ap (λ j. get_or l j 0) (sym at) in
      let y : ℕ = x * 1024 + get_or words (o - 1) 0 % 1024 in
      let within : p < length l = omega (arith, at, size, lists.within, some) in
      ext_get_or 0 (take o (drop (blen_word b₀ n) (drop (start_word b₀ n) l'))) (set words (o - 1) y) (length-now ∙ sym (length-set words (o - 1) y ∙ words-length))
      (λ i z.
      let m : i < o = omega (arith, z, length-now) in
      elim (dec_eq i (o - 1)) [
        | yes e ↦
            let here : start_word b₀ n + blen_word b₀ n + i ≡ p = omega (arith, at, e) in
            let then : get_or l' (start_word b₀ n + blen_word b₀ n + i) 0 ≡ y = rw (here, v) (get_or-set_same l p (x * 1024 + get_or l p 0 % 1024) 0 within) in
            let last : get_or (set words (o - 1) y) i 0 ≡ y = rw e (get_or-set_same words (o - 1) y 0 (omega (arith, words-length, some))) in
            word-now i m ∙ then ∙ sym last
        | no e ↦ word-now i m ∙ other (start_word b₀ n + blen_word b₀ n + i) (λ q. e (omega (arith, at, q, some)))
            ∙ sym (word_at i m) ∙ sym (get_or-set_other words (o - 1) i y 0 e)
      ])

  stack_is : stack_from words ≡ overgrown_of (state_of b₀) n
  unfolding words l
  stack_is = sym lists.overgrown

  boundaries-now : boundaries bs os l' ≡ boundaries bs os l
  boundaries-now =
      let same : get_or (boundaries bs os l) n [] ≡ boundary_of (state_of b₀) n = (unfold bs os l state_of state_from in refl) in
      boundaries-cut bs os l' ∙ parts-now (λ b o l. take b l) boundary-local
      ∙ rw (← boundaries-cut bs os l, boundary-now, ← same) (set-get_or (boundaries bs os l) n [])

  stacks-now : stacks bs os l' ≡ set (stacks bs os l) n (with_top x (overgrown_of (state_of b₀) n))
  stacks-now =
      let m : length words ≡ suc (olen_word b₀ n - 1) = omega (arith, words-length, some) in
      stacks-cut bs os l' ∙ parts-now (λ b o l. stack_from (take o (drop b l))) stack-local
      ∙ rw (← stacks-cut bs os l, stack-now, stack_top words (olen_word b₀ n - 1) x m, stack_is)

  pub top-put : Rowed store_row b₀ b (set (store_of b₀) p (x * 1024 + get_or (store_of b₀) p 0 % 1024))
      → Becomes b₀ b (with_overgrown (state_of b₀) n (with_top x (overgrown_of (state_of b₀) n)))
  unfolding Listed Wired rows_of rows state_of state_from with_overgrown with_nodes bs os l l'
  top-put q = becomes-row q f.listed f.wired (rw (boundaries-now, stacks-now))

-- ---- what is read

pub amount-none : (o : List Overgrown) → length o ≡ 0 → top_amount o ≡ 0
unfolding top_amount
amount-none [] h = refl
amount-none (x ∷ o) h = absurd (omega arith)

pub amount-some : (o : List Overgrown) (d : Overgrown) → 0 < length o → (get_or o 0 d).amount ≡ top_amount o
unfolding top_amount
amount-some [] d h = absurd (omega arith)
amount-some (x ∷ o) d h = refl

pub class-number : (v x : ℕ) → class_number v (class_from v x) ≡ x
unfolding class_from class_number
class-number v x =
    elim (dec_lt x v) [
      | yes h ↦ rw (lt-ltb x v h)
      | no h ↦ rw (le-ltb x v (omega arith))
          (elim (dec_eq x (v + 1024)) [
            | yes e ↦ rw (eq-eqb x (v + 1024) e) (sym e)
            | no e ↦ rw (ne_eqb x (v + 1024) e) (omega arith)
          ])
    ]
