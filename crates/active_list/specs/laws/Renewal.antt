-- The loop of the renewal: the entries that are kept stand in front, those to come where they stood.
use Rattle.std.specs.Prelude.{ℕ, ◌+◌, ◌≤◌, ◌<◌, ◌≡◌, ◌≢◌, Bool, List, [], ◌∷◌, ◌++◌, ℤ, ltb, length, get_or, set, take, drop, if◌then◌else◌}
use Rattle.std.proofs.Common.{arith, add-one, sym, ◌∙◌, length-set, take-suc, take_all, take-suc-set, drop-set-lt, drop-drop, get_or-drop, ltb-true, eq-eqb, ne_eqb}
use Rattle.std.proofs.Math.Path.{refl, ap}
use Rattle.std.proofs.Math.Bool.{true, false}
use Rattle.std.proofs.Math.Dec.{eqb}
use Rattle.graph.specs.Basic.{only}
use Rattle.graph.specs.State.{State, node_count, grow_state_of, with_active, stay}
use Rattle.graph.specs.Sound.{active_sound}
use Rattle.graph.specs.Active.{is_active, renewed}
use Rattle.graph.specs.Layout.{state_of}
use Rattle.graph.specs.Form.{Formed}
use Rattle.graph.specs.inner.Form.{Becomes}
use Rattle.graph.specs.laws.Active.{active-inside}
use Rattle.graph.specs.laws.Row.{becomes-then, becomes-none}
use Rattle.graph.specs.laws.Scan.{list_at}
use Rattle.active_list.specs.inner.Renewal.{kept_at, kept_count}

-- ---- the list alone

pub only-snoc : {A : Type 0} (p : A → Bool) (l : List A) (x : A) → only p (l ++ (x ∷ [])) ≡ (if p x then only p l ++ (x ∷ []) else only p l)
unfolding only
only-snoc p [] x = go (p x)
  where
    go : (t : Bool) → (if t then x ∷ [] else []) ≡ (if t then [] ++ (x ∷ []) else [])
    go true = refl
    go false = refl
only-snoc p (y ∷ l) x = rw (only-snoc p l x) (go (p y) (p x))
  where
    go : (s t : Bool)
        → (if s then y ∷ (if t then only p l ++ (x ∷ []) else only p l) else (if t then only p l ++ (x ∷ []) else only p l))
        ≡ (if t then (if s then y ∷ only p l else only p l) ++ (x ∷ []) else (if s then y ∷ only p l else only p l))
    go true true = refl
    go true false = refl
    go false true = refl
    go false false = refl

-- after i entries of l, of which j are kept, the list is w
pub record Half (p : ℕ → Bool) (l w : List ℕ) (i j : ℕ) : Type 0 where
  pub size : length w ≡ length l
  pub front : take j w ≡ only p (take i l)
  pub rest : drop i w ≡ drop i l
  pub behind : j ≤ i
  pub within : i ≤ length l

pub half-none : (p : ℕ → Bool) (l : List ℕ) → Half p l l 0 0
unfolding only
half-none p l = record { size = refl; front = refl; rest = refl; behind = omega arith; within = omega arith }

module _ (p : ℕ → Bool) (l w : List ℕ) (i j : ℕ) (h : Half p l w i j) (b : i < length l) where
  pub half-entry : get_or w i 0 ≡ get_or l i 0
  half-entry =
      let z : i + 0 ≡ i = omega arith in
      let x : get_or w i 0 ≡ get_or (drop i w) 0 0 = sym (get_or-drop i w 0 0 ∙ ap (λ k. get_or w k 0) z) in
      let y : get_or l i 0 ≡ get_or (drop i l) 0 0 = sym (get_or-drop i l 0 0 ∙ ap (λ k. get_or l k 0) z) in
      x ∙ ap (λ r. get_or r 0 0) h.rest ∙ sym y

  next : take (i + 1) l ≡ take i l ++ (get_or l i 0 ∷ [])
  next = rw (add-one, take-suc l i 0 b)

  rest_more : drop (i + 1) w ≡ drop (i + 1) l
  rest_more = sym (drop-drop 1 i w) ∙ ap (drop 1) h.rest ∙ drop-drop 1 i l

  pub half-keep : p (get_or l i 0) ≡ true → Half p l (set w j (get_or l i 0)) (i + 1) (j + 1)
  half-keep t = record {
    size = length-set w j (get_or l i 0) ∙ h.size;
    front = rw (add-one, take-suc-set w j (get_or l i 0) (omega (arith, h.size, h.behind)), h.front)
        (sym (rw next (only-snoc p (take i l) (get_or l i 0) ∙ rw t refl)));
    rest = drop-set-lt (i + 1) w j (get_or l i 0) (omega (arith, h.behind)) ∙ rest_more;
    behind = omega (arith, h.behind);
    within = omega arith;
  }

  pub half-drop : p (get_or l i 0) ≡ false → Half p l w (i + 1) j
  half-drop t = record {
    size = h.size;
    front = h.front ∙ sym (rw next (only-snoc p (take i l) (get_or l i 0) ∙ rw t refl));
    rest = rest_more;
    behind = omega (arith, h.behind);
    within = omega arith;
  }

pub half-all : (p : ℕ → Bool) (l w : List ℕ) (i j : ℕ) → Half p l w i j → length l ≤ i → take j w ≡ only p l
half-all p l w i j h b = h.front ∙ ap (only p) (take_all i l b)

-- ---- in a block

-- after i entries of the list of b₀, of which j are kept, the block is b
pub record Renewing (b₀ b : List ℤ) (i j : ℕ) : Type 0 where
  pub block : Becomes b₀ b (with_active (state_of b₀) (state_of b).active)
  pub half : Half (is_active (state_of b₀)) (state_of b₀).active (state_of b).active i j

pub renewing-none : (b : List ℤ) → Formed b → Renewing b b 0 0
renewing-none b f = record { block = becomes-none b (with_active (state_of b) (state_of b).active) f (unfold with_active in refl); half = half-none _ _ }

module _ (b₀ b : List ℤ) (i j : ℕ) (r : Renewing b₀ b i j) (h : i < length (state_of b₀).active) (s : active_sound (state_of b₀) ≡ true) where
  -- the next entry is a node
  pub entry-below : get_or (state_of b).active i 0 < node_count (state_of b)
  entry-below =
      let e : get_or (state_of b).active i 0 ≡ get_or (state_of b₀).active i 0 = half-entry _ _ _ i j r.half h in
      let m : node_count (state_of b) ≡ node_count (state_of b₀) = r.block.nodes in
      rw (e, m)
      (ltb-true (get_or (state_of b₀).active i 0) (node_count (state_of b₀))
      (list_at (λ n. ltb n (node_count (state_of b₀))) (state_of b₀).active i 0 (active-inside (state_of b₀) s) h))

  same-state : (n : ℕ) → is_active (state_of b) n ≡ is_active (state_of b₀) n
  unfolding is_active with_active
  same-state n = rw r.block.state refl

  module _ (b' : List ℤ) (k : ℕ) (q : Becomes b b' (with_active (state_of b) (kept_at (state_of b) i j))) (e : k ≡ kept_count (state_of b) i j) where
    list-then : (state_of b').active ≡ kept_at (state_of b) i j
    unfolding with_active
    list-then = ap (λ (c : State). c.active) q.state

    state-then : with_active (state_of b) (kept_at (state_of b) i j) ≡ with_active (state_of b₀) (state_of b').active
    unfolding with_active
    state-then = rw (list-then, r.block.state) refl

    half-then : (t : Bool) → is_active (state_of b₀) (get_or (state_of b₀).active i 0) ≡ t
        → Half (is_active (state_of b₀)) (state_of b₀).active (kept_at (state_of b) i j) (i + 1) (kept_count (state_of b) i j)
    unfolding kept_at kept_count
    half-then true g = rw (half-entry _ _ _ i j r.half h, same-state (get_or (state_of b₀).active i 0), g) (half-keep _ _ _ i j r.half h g)
    half-then false g = rw (half-entry _ _ _ i j r.half h, same-state (get_or (state_of b₀).active i 0), g) (half-drop _ _ _ i j r.half h g)

    pub renewing-more : Renewing b₀ b' (i + 1) k
    renewing-more = record {
      block = becomes-then r.block (rw state-then at q);
      half = rw (e, list-then) (half-then (is_active (state_of b₀) (get_or (state_of b₀).active i 0)) refl);
    }

pub renewing-all : (b₀ b b' : List ℤ) (i j : ℕ) → Renewing b₀ b i j → length (state_of b₀).active ≤ i
    → Becomes b b' (with_active (state_of b) (take j (state_of b).active)) → Becomes b₀ b' (renewed (state_of b₀))
renewing-all b₀ b b' i j r h q = becomes-then r.block (rw whole at q)
  where
    whole : with_active (state_of b) (take j (state_of b).active) ≡ renewed (state_of b₀)
    whole = unfold renewed with_active in (rw (half-all _ _ _ i j r.half h) (rw r.block.state refl))

-- ---- one entry

module _ (b : List ℤ) (i j n x : ℕ) (e : n ≡ get_or (state_of b).active i 0) (g : x ≡ grow_state_of (state_of b) n) where
  pub entry-left : Formed b → x ≡ 0 → Becomes b b (with_active (state_of b) (kept_at (state_of b) i j)) × (j ≡ kept_count (state_of b) i j)
  unfolding kept_at kept_count is_active
  entry-left f z =
      let t : eqb (grow_state_of (state_of b) (get_or (state_of b).active i 0)) stay ≡ true = rw (← e) (eq-eqb (grow_state_of (state_of b) n) stay (sym g ∙ z)) in
      rw t (becomes-none b (with_active (state_of b) (state_of b).active) f (unfold with_active in refl), refl)

  pub entry_kept : {b' : List ℤ} → x ≢ 0 → Becomes b b' (with_active (state_of b) (set (state_of b).active j n))
      → Becomes b b' (with_active (state_of b) (kept_at (state_of b) i j)) × (j + 1 ≡ kept_count (state_of b) i j)
  unfolding kept_at kept_count is_active
  entry_kept z q =
      let t : eqb (grow_state_of (state_of b) (get_or (state_of b).active i 0)) stay ≡ false = rw (← e) (ne_eqb (grow_state_of (state_of b) n) stay (λ w. z (g ∙ w))) in
      rw t (rw e at q, refl)
