-- A growing pass on a sound state: it takes only what is free, for defect nodes. So it leaves a sound state, if its lists are within L.
use Prim.Native.Nat.{ℕ, ◌+◌, ◌-◌, ◌≤◌, ◌<◌}
use Rattle.std.proofs.Common.{arith, sym, ap, ◌∙◌}
use Rattle.std.proofs.Math.Decide.{ℕ_discrete as dec_eq, dec_lt}
use Rattle.std.specs.Prelude.{◌≡◌, ◌≢◌, Bool, ◌&&◌, length, get_or}
use Rattle.std.proofs.Math.Path.{refl}
use Rattle.std.proofs.Math.Bool.{true}
use mathlib.Core.List.{List, [], ◌∷◌, ◌++◌}
use Rattle.std.proofs.Math.Dec.{eqb, leb, ltb}
use Rattle.std.proofs.Math.ListN.{get_or-eq_default}
use Rattle.std.proofs.Math.Seq.{get_or-set_same, get_or-set_other, set_out}
use borrow.Author.Tests.{eqb-true, eq-eqb, leb-true}
use Rattle.graph.specs.Basic.{fold, all}
use Rattle.graph.specs.State.{State, Graph, Overgrown, NodeClass, defect_vertex, blossom, removed, opposite, vertex_count, edge_count, side_count, node_count, end_at, holder_at, grandson_at, sides_at, virtual_at, vertex_holder_at, vertex_grandson_at, class_of, grow_state_of, parent_of, dual_of, boundary_of, overgrown_of, weight_over, grown_over, with_vertices, with_sides, with_nodes, with_holder, with_grandson, with_vertex_holder, with_vertex_grandson, with_boundary, with_overgrown, held_side, held_vertex}
use Rattle.graph.specs.Open.{dual_limit}
use Rattle.graph.specs.Sound.{is_defect, node_or_none, stored_defect, over_sound, entries_of, entries, sound, class_sound, parent_sound}
use Rattle.graph.specs.laws.State.{if-both, if-cases, and_left, and_right, fold-keeps, fold-keeps-rest, kept_refl, kept_trans, kept-held-side, kept-held-vertex}
use Rattle.graph.specs.inner.Kept.{SameButHolders}
use Rattle.graph.specs.laws.Members.{both, all_weaker, all-unmap, all_both, all_snoc, all_first, all_others, all_right}
use Rattle.graph.specs.laws.Shape.{SoundNode, OwnLists, own-facts}
use Rattle.graph.specs.Shape.{SoundSide, SoundVertex, SoundEdge, Shape}
use Rattle.graph.specs.laws.Active.{active-kept}
use Rattle.graph.specs.laws.Sounds.{Sound, sound-facts, sound-test, own-test}
use Rattle.pass.specs.Work.{Work, on_state, keep, note, push, call_another, start_pass, finish_pass}
use Rattle.pass.specs.Grow.{reaches, grow_step, take_side, take_vertex, take_step, grow_scanned, grow_pass}
use Rattle.pass.proofs.laws.Passes.{grow-pass-keeps, Passed, finish-passed}
use Rattle.pass.proofs.laws.Fits.{OwnOver, Holds, Taken, side-holds, own-grow-step, sound-own-sides, sound-grow-taken, sound-grow-fits}
use Rattle.pass.specs.inner.Own.{OwnSides}

-- ---- what is read after a side or a vertex is held

module _ (d : State) (s n g t : ℕ) (P : ℕ → ℕ → Type 0) where
  -- a side: the new holder and grandson at s, the old ones elsewhere
  pub held-side-reads : length d.sides.holder ≡ length d.sides.grandson → (t ≡ s → P (n + 1) g)
      → P (holder_at d t) (grandson_at d t) → P (holder_at (held_side d s n g) t) (grandson_at (held_side d s n g) t)
  unfolding held_side with_grandson with_holder with_sides
  held-side-reads len new old =
      elim (dec_eq t s) [
        | no ne ↦ rw (get_or-set_other d.sides.holder s t (n + 1) 0 ne, get_or-set_other d.sides.grandson s t g 0 ne) old
        | yes e ↦ elim (dec_lt s (length d.sides.holder)) [
          | yes b ↦ rw (e, get_or-set_same d.sides.holder s (n + 1) 0 b, get_or-set_same d.sides.grandson s g 0 (rw (← len) b)) (new e)
          | no b ↦ rw (set_out d.sides.holder s (n + 1) (omega arith), set_out d.sides.grandson s g (omega arith)) old
        ]
      ]

  pub held-vertex-reads : length d.vertices.vertex_holder ≡ length d.vertices.vertex_grandson
      → (t ≡ s → P (n + 1) g) → P (vertex_holder_at d t) (vertex_grandson_at d t)
      → P (vertex_holder_at (held_vertex d s n g) t) (vertex_grandson_at (held_vertex d s n g) t)
  unfolding held_vertex with_vertex_grandson with_vertex_holder with_vertices
  held-vertex-reads len new old =
      elim (dec_eq t s) [
        | no ne ↦ rw (get_or-set_other d.vertices.vertex_holder s t (n + 1) 0 ne, get_or-set_other d.vertices.vertex_grandson s t g 0 ne) old
        | yes e ↦ elim (dec_lt s (length d.vertices.vertex_holder)) [
          | yes b ↦ rw (e, get_or-set_same d.vertices.vertex_holder s (n + 1) 0 b, get_or-set_same d.vertices.vertex_grandson s g 0 (rw (← len) b)) (new e)
          | no b ↦ rw (set_out d.vertices.vertex_holder s (n + 1) (omega arith), set_out d.vertices.vertex_grandson s g (omega arith)) old
        ]
      ]

-- ---- only what is free is taken, for defect nodes

-- d is c with some free sides and vertices held now
pub record Grown (c d : State) : Type 0 where
  pub keeps : SameButHolders c d
  pub stays : (t m : ℕ) → holder_at c t ≡ m + 1 → holder_at d t ≡ m + 1
  pub vstays : (v m : ℕ) → vertex_holder_at c v ≡ m + 1 → vertex_holder_at d v ≡ m + 1
  pub holder : (t : ℕ) → holder_at d t ≤ node_count c
  pub grandson : (t : ℕ) → grandson_at d t ≤ node_count c
  pub defect : (t : ℕ) → holder_at d t ≢ 0 → stored_defect c (grandson_at d t) ≡ true
  pub vertex_holder : (v : ℕ) → vertex_holder_at d v ≤ node_count c
  pub vertex_grandson : (v : ℕ) → vertex_grandson_at d v ≤ node_count c

pub stored-le : (c : State) (g : ℕ) → stored_defect c g ≡ true → g ≤ node_count c
unfolding stored_defect
stored-le c g h =
    leb-true g (node_count c)
    (and_right (leb 1 g) (leb g (node_count c)) (and_left (leb 1 g && leb g (node_count c)) (is_defect (class_of c (g - 1))) h))

-- lengths of the lists that are read together
pub record Paired (c : State) : Type 0 where
  pub sides : length c.sides.holder ≡ length c.sides.grandson
  pub vertices : length c.vertices.vertex_holder ≡ length c.vertices.vertex_grandson

paired-kept : (c d : State) → SameButHolders c d → Paired c → Paired d
paired-kept c d k p = record { sides = k.holder ∙ p.sides ∙ sym k.grandson; vertices = k.vertex_holder ∙ p.vertices ∙ sym k.vertex_grandson }

module _ (c : State) (p : Paired c) (n : ℕ) (b : n < node_count c) (g : ℕ) (ok : stored_defect c g ≡ true) where
  -- a free side is held by node n
  pub grown-side : (d : State) (s : ℕ) → holder_at d s ≡ 0 → Grown c d → Grown c (held_side d s n g)
  grown-side d s z q =
      let len : length d.sides.holder ≡ length d.sides.grandson = (paired-kept c d q.keeps p).sides in
      record {
        keeps = kept_trans q.keeps (kept-held-side d s n g);
        stays = λ t m e. held-side-reads d s n g t (λ h x. h ≡ m + 1) len
            (λ r. let f : holder_at d t ≡ m + 1 = q.stays t m e in
            let f₀ : holder_at d t ≡ 0 = rw r z in
            absurd (omega arith))
            (q.stays t m e);
        vstays = unfold held_side with_grandson with_holder with_sides in q.vstays;
        holder = λ t. held-side-reads d s n g t (λ h x. h ≤ node_count c) len (λ r. omega arith) (q.holder t);
        grandson = λ t. held-side-reads d s n g t (λ h x. x ≤ node_count c) len (λ r. stored-le c g ok) (q.grandson t);
        defect = λ t. held-side-reads d s n g t (λ h x. h ≢ 0 → stored_defect c x ≡ true) len (λ r u. ok) (q.defect t);
        vertex_holder = unfold held_side with_grandson with_holder with_sides in q.vertex_holder;
        vertex_grandson = unfold held_side with_grandson with_holder with_sides in q.vertex_grandson;
      }

  -- a free vertex is held by node n
  pub grown-vertex : (d : State) (v : ℕ) → vertex_holder_at d v ≡ 0 → Grown c d → Grown c (held_vertex d v n g)
  grown-vertex d v z q =
      let len : length d.vertices.vertex_holder ≡ length d.vertices.vertex_grandson = (paired-kept c d q.keeps p).vertices in
      record {
        keeps = kept_trans q.keeps (kept-held-vertex d v n g);
        stays = unfold held_vertex with_vertex_grandson with_vertex_holder with_vertices in q.stays;
        vstays = λ t m e. held-vertex-reads d v n g t (λ h x. h ≡ m + 1) len
            (λ r. let f : vertex_holder_at d t ≡ m + 1 = q.vstays t m e in
            let f₀ : vertex_holder_at d t ≡ 0 = rw r z in
            absurd (omega arith))
            (q.vstays t m e);
        holder = unfold held_vertex with_vertex_grandson with_vertex_holder with_vertices in q.holder;
        grandson = unfold held_vertex with_vertex_grandson with_vertex_holder with_vertices in q.grandson;
        defect = unfold held_vertex with_vertex_grandson with_vertex_holder with_vertices in q.defect;
        vertex_holder = λ t. held-vertex-reads d v n g t (λ h x. h ≤ node_count c) len (λ r. omega arith) (q.vertex_holder t);
        vertex_grandson = λ t. held-vertex-reads d v n g t (λ h x. x ≤ node_count c) len (λ r. stored-le c g ok) (q.vertex_grandson t);
      }

  -- the sides at a taken vertex
  grown-take-side : (w : Work) (t : ℕ) → Grown c w.state → Grown c (take_side n g w t).state
  unfolding take_side call_another keep on_state
  grown-take-side w t q = if-cases (λ (x : Work). Grown c x.state) (eqb (holder_at w.state t) 0) (λ e. grown-side w.state t (eqb-true _ _ e) q) (λ e. q)

  pub grown-take-vertex : (w : Work) (v : ℕ) → vertex_holder_at w.state v ≡ 0 → Grown c w.state → Grown c (take_vertex n g w v).state
  unfolding take_vertex push
  grown-take-vertex w v z q =
      let first : Work = on_state w (held_vertex w.state v n g) in
      let after : Work = fold (take_side n g) first (sides_at w.state v) in
      let r : Grown c after.state =
      fold-keeps (take_side n g) (λ (x : Work). Grown c x.state) grown-take-side first (sides_at w.state v)
      (unfold on_state in (grown-vertex w.state v z q)) in
      if-both (λ (x : Work). Grown c x.state) (eqb (length after.kept) (length w.kept)) r r

-- ---- the two loops

abbrev pub held_by : ℕ → State → ℕ → Bool
held_by n c s = eqb (holder_at c s) (n + 1)

-- node n holds at least as much in d as in c
held_more : (n : ℕ) (c d : State) → Holds n (holder_at c) (holder_at d) → (l : List ℕ) → all (held_by n c) l ≡ true → all (held_by n d) l ≡ true
held_more n c d holds l h = all_weaker (held_by n c) (held_by n d) (λ s e. eq-eqb _ _ (holds s (eqb-true _ _ e))) l h

-- over the boundary, with what is still to come
pub record Scanning (n m : ℕ) (c : State) (w : Work) (r : List ℕ) : Type 0 where
  pub grown : Grown c w.state
  pub own : OwnSides n m w.state (w.kept ++ r)
  pub noted : all (held_by n w.state) w.noted ≡ true

module _ (c : State) (p : Paired c) (n m : ℕ) (b : n < node_count c) where
  scanning-grown : (w : Work) (s : ℕ) (r : List ℕ) → Scanning n m c w (s ∷ r) → Grown c (grow_step n w s).state
  unfolding grow_step reaches note keep on_state
  scanning-grown w s r q =
      let here : holder_at w.state s ≡ n + 1 =
      eqb-true _ _
      (all_first (held_by n w.state) s r (all_right (held_by n w.state) w.kept (s ∷ r) q.own.held)) in
      let full = eqb (grown_over w.state s) (weight_over w.state s) in
      let open-far = eqb (holder_at w.state (opposite s)) 0 in
      let real = eqb (virtual_at w.state (end_at w.state (opposite s))) 0 in
      if-cases (λ (x : Work). Grown c x.state) (reaches w.state s)
      (λ e. grown-side c p n b (grandson_at w.state s) (q.grown.defect s (omega arith)) w.state (opposite s)
      (eqb-true _ _ (and_right full open-far (and_left (full && open-far) real e))) q.grown)
      (λ e. q.grown)

  scanning-noted : (w : Work) (s : ℕ) (r : List ℕ) → Scanning n m c w (s ∷ r) → all (held_by n (grow_step n w s).state) (grow_step n w s).noted ≡ true
  unfolding grow_step note keep on_state
  scanning-noted w s r q =
      let here : held_by n w.state s ≡ true = all_first (held_by n w.state) s r (all_right (held_by n w.state) w.kept (s ∷ r) q.own.held) in
      if-both (λ (x : Work). all (held_by n x.state) x.noted ≡ true) (reaches w.state s)
      (held_more n w.state (held_side w.state (opposite s) n (grandson_at w.state s))
      (side-holds w.state (opposite s) n (grandson_at w.state s)) (w.noted ++ (s ∷ []))
      (all_snoc (held_by n w.state) w.noted s q.noted here))
      q.noted

  scanning-step : (w : Work) (s : ℕ) (r : List ℕ) → Scanning n m c w (s ∷ r) → Scanning n m c (grow_step n w s) r
  scanning-step w s r q = record { grown = scanning-grown w s r q; own = own-grow-step n m w s r q.own; noted = scanning-noted w s r q }

  pub grow-scanned-grown : Grown c c → OwnSides n m c (boundary_of c n) → Scanning n m c (grow_scanned c n) []
  unfolding grow_scanned start_pass all
  grow-scanned-grown g o =
      fold-keeps-rest (grow_step n) (Scanning n m c) scanning-step (start_pass c (overgrown_of c n)) (boundary_of c n)
      (record { grown = g; own = o; noted = refl })

-- over what was noted, with what is still to come
pub record Takings (c : State) (n : ℕ) (w : Work) (r : List ℕ) : Type 0 where
  pub grown : Grown c w.state
  pub rest : all (held_by n w.state) r ≡ true
  pub amounts : all (λ (o : Overgrown). leb o.amount dual_limit) w.over ≡ true

holds-take-side : (n g : ℕ) (c : State) (w : Work) (t : ℕ) → Holds n (holder_at c) (holder_at w.state)
    → Holds n (holder_at c) (holder_at (take_side n g w t).state)
unfolding take_side call_another keep on_state
holds-take-side n g c w t h =
    if-both (λ (x : Work). Holds n (holder_at c) (holder_at x.state)) (eqb (holder_at w.state t) 0)
    (λ s e. side-holds w.state t n g s (h s e)) h

holds-take-vertex : (n g : ℕ) (w : Work) (v : ℕ) → Holds n (holder_at w.state) (holder_at (take_vertex n g w v).state)
unfolding take_vertex push
holds-take-vertex n g w v =
    let first : Work = on_state w (held_vertex w.state v n g) in
    let after : Work = fold (take_side n g) first (sides_at w.state v) in
    let r : Holds n (holder_at w.state) (holder_at after.state) =
    fold-keeps (take_side n g) (λ (x : Work). Holds n (holder_at w.state) (holder_at x.state))
    (holds-take-side n g w.state) first (sides_at w.state v)
    (unfold on_state held_vertex with_vertex_grandson with_vertex_holder with_vertices in (λ t e. e)) in
    if-both (λ (x : Work). Holds n (holder_at w.state) (holder_at x.state)) (eqb (length after.kept) (length w.kept)) r r

abbrev Amounts : Work → Type 0
Amounts w = all (λ (o : Overgrown). leb o.amount dual_limit) w.over ≡ true

amounts-take-side : (n g : ℕ) (w : Work) (t : ℕ) → Amounts w → Amounts (take_side n g w t)
unfolding take_side call_another keep on_state
amounts-take-side n g w t h = if-both Amounts (eqb (holder_at w.state t) 0) h h

amounts-take-vertex : (n g : ℕ) (w : Work) (v : ℕ) → Amounts w → Amounts (take_vertex n g w v)
unfolding take_vertex push all
amounts-take-vertex n g w v h =
    let first : Work = on_state w (held_vertex w.state v n g) in
    let after : Work = fold (take_side n g) first (sides_at w.state v) in
    let r : Amounts after = fold-keeps (take_side n g) Amounts (amounts-take-side n g) first (sides_at w.state v) (unfold on_state in h) in
    if-both Amounts (eqb (length after.kept) (length w.kept))
    (both (leb 0 dual_limit) (all (λ (o : Overgrown). leb o.amount dual_limit) after.over) refl r) r

amounts-grow-step : (n : ℕ) (w : Work) (s : ℕ) → Amounts w → Amounts (grow_step n w s)
unfolding grow_step note keep on_state
amounts-grow-step n w s h = if-both Amounts (reaches w.state s) h h

module _ (c : State) (p : Paired c) (n m : ℕ) (b : n < node_count c) where
  takings-step : (w : Work) (s : ℕ) (r : List ℕ) → Takings c n w (s ∷ r) → Takings c n (take_step n w s) r
  unfolding take_step
  takings-step w s r q =
      let here : holder_at w.state s ≡ n + 1 = eqb-true _ _ (all_first (held_by n w.state) s r q.rest) in
      let others : all (held_by n w.state) r ≡ true = all_others (held_by n w.state) s r q.rest in
      let g : ℕ = grandson_at w.state s in
      let v : ℕ = end_at w.state (opposite s) in
      if-cases (λ (x : Work). Takings c n x r) (eqb (vertex_holder_at w.state (end_at w.state (opposite s))) 0)
      (λ e. record {
        grown = grown-take-vertex c p n b g (q.grown.defect s (omega arith)) w v (eqb-true _ _ e) q.grown;
        rest = held_more n w.state (take_vertex n g w v).state (holds-take-vertex n g w v) r others;
        amounts = amounts-take-vertex n g w v q.amounts;
      })
      (λ e. record { grown = q.grown; rest = others; amounts = q.amounts })

  pub grow-pass-grown : Grown c c → OwnSides n m c (boundary_of c n)
      → all (λ (o : Overgrown). leb o.amount dual_limit) (overgrown_of c n) ≡ true → Takings c n (grow_pass c n) []
  unfolding grow_pass
  grow-pass-grown g o a =
      let s : Scanning n m c (grow_scanned c n) [] = grow-scanned-grown c p n m b g o in
      let h : Amounts (grow_scanned c n) = unfold grow_scanned start_pass in
      (fold-keeps (grow_step n) Amounts (amounts-grow-step n) (start_pass c (overgrown_of c n)) (boundary_of c n) a) in
      fold-keeps-rest (take_step n) (Takings c n) takings-step (grow_scanned c n) (grow_scanned c n).noted
      (record { grown = s.grown; rest = s.noted; amounts = h })

-- ---- a sound state

-- a reading of a list that is all in range, whatever number is asked
pub get_d-bound : (l : List ℕ) (k : ℕ) → ((i : ℕ) → i < length l → get_or l i 0 ≤ k) → (i : ℕ) → get_or l i 0 ≤ k
get_d-bound l k h i = elim (dec_lt i (length l)) [ yes b ↦ h i b | no b ↦ rw (get_or-eq_default l 0 (out i b)) (omega arith) ]
  where
    out : (i : ℕ) → (i < length l → ⊥) → length l ≤ i
    out i b = omega arith

pub sound-paired : (c : State) → Shape c → Paired c
sound-paired c z = record { sides = z.holder ∙ sym z.grandson; vertices = z.vertex_holder ∙ sym z.vertex_grandson }

pub sound-grown : (c : State) → Shape c → Sound c → Grown c c
sound-grown c z f = record {
  keeps = kept_refl c;
  stays = λ t m e. e;
  vstays = λ v m e. e;
  holder = get_d-bound c.sides.holder (node_count c) (λ t b. (f.side t (rw z.holder at b)).holder);
  grandson = get_d-bound c.sides.grandson (node_count c) (λ t b. (f.side t (rw z.grandson at b)).grandson);
  defect = λ t ne. elim (dec_lt t (side_count c)) [ yes b ↦ (f.side t b).defect ne | no b ↦ absurd (ne (get_or-eq_default c.sides.holder 0 (out t b))) ];
  vertex_holder = get_d-bound c.vertices.vertex_holder (node_count c) (λ v b. (f.vertex v (rw z.vertex_holder at b)).vertex_holder);
  vertex_grandson = get_d-bound c.vertices.vertex_grandson (node_count c) (λ v b. (f.vertex v (rw z.vertex_grandson at b)).vertex_grandson);
}
  where
    out : (t : ℕ) → (t < side_count c → ⊥) → length c.sides.holder ≤ t
    out t b = omega (arith, z.holder)

pub finish-boundary : (w : Work) (n : ℕ) → n < length w.state.nodes.boundary → boundary_of (finish_pass w n) n ≡ w.kept
unfolding finish_pass with_overgrown with_boundary with_nodes
finish-boundary w n b = get_or-set_same w.state.nodes.boundary n w.kept [] b

pub finish-overgrown : (w : Work) (n : ℕ) → n < length w.state.nodes.overgrown → overgrown_of (finish_pass w n) n ≡ w.over
unfolding finish_pass with_overgrown with_boundary with_nodes
finish-overgrown w n b = get_or-set_same w.state.nodes.overgrown n w.over [] b

-- the finished state is sound, if the pass took only what was free and its lists are the node's own
module _ (c : State) (z : Shape c) (f : Sound c) (n : ℕ) (b : n < node_count c) (w : Work) (grown : Grown c w.state)
    (own : OwnSides n (side_count c) w.state w.kept) (over : OwnOver n (vertex_count c) w.state w.over)
    (amounts : all (λ (o : Overgrown). leb o.amount dual_limit) w.over ≡ true) where
  left_alone : Passed n c (finish_pass w n)
  left_alone = finish-passed n c w grown.keeps

  boundary-now : boundary_of (finish_pass w n) n ≡ w.kept
  boundary-now = finish-boundary w n (rw (grown.keeps.nodes, z.boundary) b)

  overgrown-now : overgrown_of (finish_pass w n) n ≡ w.over
  overgrown-now = finish-overgrown w n (rw (grown.keeps.nodes, z.overgrown) b)

  sides-count : side_count (finish_pass w n) ≡ side_count c
  sides-count = ap (λ (g : Graph). length g.end) left_alone.graph

  vertices-count : vertex_count (finish_pass w n) ≡ vertex_count c
  vertices-count = ap (λ (g : Graph). length g.virtual) left_alone.graph

  stored_same : (g : ℕ) → stored_defect (finish_pass w n) g ≡ stored_defect c g
  unfolding stored_defect
  stored_same g = rw (left_alone.grow_state, left_alone.class)

  place_same : (m : ℕ) (x : NodeClass) → class_sound (finish_pass w n) m x ≡ class_sound c m x
  unfolding class_sound
  place_same m (defect_vertex v) = rw vertices-count
  place_same m (blossom k) = refl
  place_same m removed = refl

  parent-same : (m : ℕ) → parent_sound (finish_pass w n) m ≡ parent_sound c m
  unfolding parent_sound node_or_none
  parent-same m = rw (left_alone.parent, left_alone.grow_state)

  over-same : (o : Overgrown) → over_sound c o ≡ true → over_sound (finish_pass w n) o ≡ true
  unfolding over_sound
  over-same o h = rw vertices-count h

  passed-edge : (e : ℕ) → e < edge_count (finish_pass w n) → SoundEdge (finish_pass w n) e
  passed-edge e h =
      let q : SoundEdge c e = f.edge e (rw left_alone.graph at h) in
      record {
        left = rw left_alone.graph q.left;
        right = rw left_alone.graph q.right;
        differ = rw left_alone.graph q.differ;
        weight = rw left_alone.graph q.weight;
        original = rw left_alone.graph q.original;
      }

  passed-vertex : (v : ℕ) → v < vertex_count (finish_pass w n) → SoundVertex (finish_pass w n) v
  unfolding finish_pass with_overgrown with_boundary with_nodes
  passed-vertex v h =
      let q : SoundVertex c v = f.vertex v (rw left_alone.graph at h) in
      record {
        virtual = rw left_alone.graph q.virtual;
        defect = rw left_alone.defect q.defect;
        vertex_holder = rw left_alone.grow_state (grown.vertex_holder v);
        vertex_grandson = rw left_alone.grow_state (grown.vertex_grandson v);
        sides = rw left_alone.graph q.sides;
      }

  passed-side : (s : ℕ) → s < side_count (finish_pass w n) → SoundSide (finish_pass w n) s
  unfolding finish_pass with_overgrown with_boundary with_nodes
  passed-side s h =
      let q : SoundSide c s = f.side s (rw left_alone.graph at h) in
      record {
        growth = rw left_alone.growth q.growth;
        holder = rw left_alone.grow_state (grown.holder s);
        grandson = rw left_alone.grow_state (grown.grandson s);
        defect = λ ne. stored_same (grandson_at w.state s) ∙ grown.defect s ne;
      }

  -- the lists of node n, and of every other node
  own-here : OwnLists (finish_pass w n) n
  unfolding finish_pass with_overgrown with_boundary with_nodes
  own-here = record {
    sides-once = rw boundary-now own.once;
    vertices-once = rw overgrown-now over.once;
    sides-held = rw boundary-now own.held;
    vertices-held = rw overgrown-now (all-unmap (λ v. eqb (vertex_holder_at w.state v) (n + 1)) (λ (o : Overgrown). o.vertex) w.over over.held);
  }

  own-there : (m : ℕ) → m ≢ n → OwnLists c m → OwnLists (finish_pass w n) m
  unfolding finish_pass with_overgrown with_boundary with_nodes
  own-there m ne q = record {
    sides-once = rw (left_alone.boundaries m ne) q.sides-once;
    vertices-once = rw (left_alone.overgrowns m ne) q.vertices-once;
    sides-held = rw (left_alone.boundaries m ne)
        (all_weaker (λ s. eqb (holder_at c s) (m + 1)) (λ s. eqb (holder_at w.state s) (m + 1))
        (λ s e. eq-eqb _ _ (grown.stays s m (eqb-true _ _ e))) (boundary_of c m) q.sides-held);
    vertices-held = rw (left_alone.overgrowns m ne)
        (all_weaker (λ (o : Overgrown). eqb (vertex_holder_at c o.vertex) (m + 1))
        (λ (o : Overgrown). eqb (vertex_holder_at w.state o.vertex) (m + 1))
        (λ o e. eq-eqb _ _ (grown.vstays o.vertex m (eqb-true _ _ e))) (overgrown_of c m) q.vertices-held);
  }

  over-here : all (over_sound (finish_pass w n)) w.over ≡ true
  unfolding over_sound
  over-here =
      all_weaker (over_sound c) (over_sound (finish_pass w n)) over-same w.over
      (all_both (λ (o : Overgrown). ltb o.vertex (vertex_count c)) (λ (o : Overgrown). leb o.amount dual_limit)
      w.over
      (all-unmap (λ v. ltb v (vertex_count c)) (λ (o : Overgrown). o.vertex) w.over over.inside) amounts)

  passed-node : (m : ℕ) → m < node_count (finish_pass w n) → SoundNode (finish_pass w n) m
  passed-node m h =
      let q : SoundNode c m = f.node m (rw left_alone.grow_state at h) in
      let class : class_sound (finish_pass w n) m (class_of (finish_pass w n) m) ≡ true =
      ap (λ (l : List NodeClass). class_sound (finish_pass w n) m (get_or l m (defect_vertex 0))) left_alone.class
      ∙ place_same m (class_of c m) ∙ q.class in
      let grow_state : grow_state_of (finish_pass w n) m ≤ 2 = rw left_alone.grow_state q.grow_state in
      let parent : parent_sound (finish_pass w n) m ≡ true = parent-same m ∙ q.parent in
      let dual : dual_of (finish_pass w n) m ≤ dual_limit = rw left_alone.dual q.dual in
      let outer : parent_of (finish_pass w n) m ≡ 0 → parent_of c m ≡ 0 = λ e. rw left_alone.parent at e in
      elim (dec_eq m n) [
        | yes e ↦ record {
          class = class;
          grow_state = grow_state;
          parent = parent;
          dual = dual;
          boundary = rw (e, boundary-now, sides-count) own.inside;
          overgrown = rw (e, overgrown-now) over-here;
          own = λ r. rw e (own-test (finish_pass w n) n own-here);
        }
        | no ne ↦ record {
          class = class;
          grow_state = grow_state;
          parent = parent;
          dual = dual;
          boundary = rw (left_alone.boundaries m ne, sides-count) q.boundary;
          overgrown = rw (left_alone.overgrowns m ne) (all_weaker (over_sound c) (over_sound (finish_pass w n)) over-same (overgrown_of c m) q.overgrown);
          own = λ r. own-test (finish_pass w n) m (own-there m ne (own-facts c m (q.own (outer r))));
        }
      ]

  pub finished-sound : entries (finish_pass w n) ≤ c.store_limit → Sound (finish_pass w n)
  finished-sound store = record {
    count = rw (left_alone.grow_state, left_alone.node_limit) f.count;
    store = omega (arith, left_alone.store_limit);
    edge = passed-edge;
    vertex = passed-vertex;
    side = passed-side;
    node = passed-node;
    active = active-kept c (finish_pass w n) left_alone.active (rw left_alone.grow_state (omega arith)) f.active;
    mark = rw left_alone.graph f.mark;
  }

-- ---- the theorem

module _ (c : State) (z : Shape c) (h : sound c ≡ true) (v1 : 1 ≤ vertex_count c) (n : ℕ) (b : n < node_count c) (outer : parent_of c n ≡ 0) where
  -- a growing pass over an outermost node of a sound state leaves a sound state, if its lists are within L
  pub grow-pass-sound : entries (finish_pass (grow_pass c n) n) ≤ c.store_limit → sound (finish_pass (grow_pass c n) n) ≡ true
  grow-pass-sound store =
      let f : Sound c = sound-facts c h in
      let t : Taken n (side_count c) (vertex_count c) c (grow_pass c n) = sound-grow-taken c z h v1 n b outer in
      let amounts : all (λ (o : Overgrown). leb o.amount dual_limit) (overgrown_of c n) ≡ true = unfold over_sound in
      (all_weaker (over_sound c) (λ (o : Overgrown). leb o.amount dual_limit)
      (λ o e. and_right (ltb o.vertex (vertex_count c)) (leb o.amount dual_limit) e) (overgrown_of c n)
      (f.node n b).overgrown) in
      let g : Takings c n (grow_pass c n) [] =
      grow-pass-grown c (sound-paired c z) n (side_count c) b (sound-grown c z f)
      (sound-own-sides c z h v1 n b outer) amounts in
      sound-test _ (finished-sound c z f n b (grow_pass c n) g.grown t.own t.over g.amounts store)

  -- and its lists are no longer than 2 E + V
  pub grow-pass-entries : entries_of (finish_pass (grow_pass c n) n) n ≤ side_count c + vertex_count c
  unfolding entries_of
  grow-pass-entries =
      let fits = sound-grow-fits c z h v1 n b outer in
      let k : SameButHolders c (grow_pass c n).state = grow-pass-keeps c n in
      let e₁ : boundary_of (finish_pass (grow_pass c n) n) n ≡ (grow_pass c n).kept = finish-boundary (grow_pass c n) n (rw (k.nodes, z.boundary) b) in
      let e₂ : overgrown_of (finish_pass (grow_pass c n) n) n ≡ (grow_pass c n).over = finish-overgrown (grow_pass c n) n (rw (k.nodes, z.overgrown) b) in
      rw (e₁, e₂) (omega (arith, fits.0, fits.1))
