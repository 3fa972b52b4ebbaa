-- The scan of the prepared state, told of the run.
use Rattle.std.specs.Prelude.{ℕ, suc, ◌+◌, ◌≤◌, ◌<◌, ◌≢◌, ◌⊎◌, Bool, true, List, ℤ, pos}
use Rattle.std.proofs.Common.{arith, ◌∙◌, le-leb}
use Rattle.std.proofs.Math.Path.{◌≡◌, refl, sym, subst}
use Rattle.graph.specs.Basic.{fold}
use Rattle.graph.specs.State.{State, defect_vertex, opposite, node_count, end_at, holder_at, class_of, grow_state_of, dual_of, boundary_of, grown_over, weight_over, virtual_at, growing, shrinking, up}
use Rattle.graph.specs.Open.{Edge}
use Rattle.answers.specs.Outcome.{Answer}
use Rattle.answers.specs.Outcome.{Length, Refused}
use Rattle.answers.specs.declared.MaxUpdateLength.TheVariants.{NonZeroGrow, Unlimited, Conflicting, TouchingVirtual}
use Rattle.update_length.specs.Scan.{meets, look_grow, look, Scan, open-ended, within, over, scan_step, is_empty, scan_answer, scan_boundary, scan}
use Rattle.reachable.specs.laws.prepare.Preparation.{invariant-numbers}
use Rattle.distance.specs.Distance.{unreachable, dist}
use Rattle.distance.proofs.laws.Distance.{unreachable-is, dist-walk}
use Rattle.opened_graph.specs.OpenedGraph.{opened_graph, PositiveWeights}
use Rattle.table_theorem.specs.Runs.{Run, end}
use Rattle.table_theorem.proofs.laws.Runs.{defects-only}
use Rattle.table_theorem.proofs.laws.Depth.{DefectsOnly, vertex-inside}
use Rattle.length_theorem.specs.Meaning.{Obstacle, conflicts, touches, growing_length, DefectAt, NoneShrinks, Tight, with-node, with-virtual, ConflictMeans, VirtualMeans, Keeps, FreeBy}
use Rattle.length_theorem.proofs.laws.Long.{long_as, scan_long}
use Rattle.length_theorem.proofs.laws.Met.{Closed, Saw, conflict, virtual, unprepared, Met, saw, Ended, nothing-near, free-by, ended_at, scan-ended}
use Rattle.length_theorem.proofs.laws.Prepared.{prepared, count_same, class_same, state-same, dual-same, length-scans}
use Rattle.length_theorem.proofs.laws.Tight.{far-node, boundary-within, peer-tight, virtual-tight, keeps-node, keeps_virtual}

-- ---- what a met side has, by its answer

record ConflictSeen (c : State) (n s p m : ℕ) : Type 0 where
  pub node : m ≡ n
  pub far : holder_at c (opposite s) ≡ p + 1
  pub other : p ≢ n
  pub closed : Closed c s p

conflict-seen : {c : State} {n s p h m k : ℕ} → Saw c n s (meets (Length (Conflicting p h m k))) → ConflictSeen c n s p m
conflict-seen (conflict q h k far other closed) = record { node = refl; far = far; other = other; closed = closed }

record VirtualSeen (c : State) (n s m u : ℕ) : Type 0 where
  pub node : m ≡ n
  pub is : u ≡ end_at c (opposite s)
  pub free : holder_at c (opposite s) ≡ 0
  pub marked : virtual_at c (end_at c (opposite s)) ≢ 0
  pub full : grown_over c s ≡ weight_over c s

virtual-seen : {c : State} {n s m k u : ℕ} → Saw c n s (meets (Length (TouchingVirtual m k u))) → VirtualSeen c n s m u
virtual-seen (virtual k free marked full) = record { node = refl; is = refl; free = free; marked = marked; full = full }

-- an answer that a side gives is an obstacle, or refusal 13
met-obstacle : {c : State} {n s : ℕ} {a : Answer} → Saw c n s (meets a) → a ≢ Refused 13 → Obstacle n a
met-obstacle (conflict q h k far other closed) h₁ = conflicts q h k
met-obstacle {c} {s = s} (virtual k free marked full) h = touches k (end_at c (opposite s))
met-obstacle unprepared h = absurd (h refl)

-- a scan's own answers are none
obstacle-free : {n : ℕ} {a : Answer} {l : ℤ} {e : Bool} → Obstacle n a → a ≡ Length (NonZeroGrow l e) → ⊥
obstacle-free (conflicts p h k) q = let z : ◌≡◌ {A = ℕ} 0 1 = cc in absurd (omega arith)
obstacle-free (touches k u) q = let z : ◌≡◌ {A = ℕ} 0 1 = cc in absurd (omega arith)

obstacle-unlimited : {n : ℕ} {a : Answer} {e : Bool} → Obstacle n a → a ≡ Length (Unlimited e) → ⊥
obstacle-unlimited (conflicts p h k) q = let z : ◌≡◌ {A = ℕ} 0 1 = cc in absurd (omega arith)
obstacle-unlimited (touches k u) q = let z : ◌≡◌ {A = ℕ} 0 1 = cc in absurd (omega arith)

graph-size : (v : ℕ) (edges : List Edge) (virtuals : List ℕ) → (opened_graph v edges virtuals).size ≡ v
unfolding opened_graph
graph-size v edges virtuals = refl

-- ---- the node of a run

module _ {v : ℕ} {edges : List Edge} {virtuals : List ℕ} (positive : PositiveWeights edges) (r : Run v edges virtuals) {n x : ℕ} (at : DefectAt r n x) where
  abbrev ready : State
  ready = end (prepared r n)

  only-defects : DefectsOnly (opened_graph v edges virtuals) ready
  only-defects = defects-only (prepared r n) positive

  inside : n < node_count ready
  inside = rw (count_same r n) at.inside

  class-is : class_of ready n ≡ defect_vertex x
  class-is = class_same r n n at.inside ∙ at.class

  abbrev scanned : Scan
  scanned = fold (scan_step ready n up) open-ended (boundary_of ready n)

  ended : Ended ready n (boundary_of ready n) scanned
  ended = scan-ended ready n (boundary_of ready n) (boundary-within (opened_graph v edges virtuals) ready only-defects n x inside class-is)

  -- the answer, where it is no refusal
  answered-by : ((k : ℕ) → growing_length r n ≢ Refused k) → growing_length r n ≡ scan_answer (is_empty (boundary_of ready n)) scanned
  answered-by accepted = length-scans r n accepted ∙ (unfold scan scan_boundary in refl)

  -- what the side says at which the scan ended
  met-saw : {a : Answer} (m : Met ready n up (boundary_of ready n) a) → Saw ready n m.side (meets a)
  met-saw m =
      subst (Saw ready n m.side) (looks m.side ∙ m.says)
      (saw ready n m.side
      (boundary-within (opened_graph v edges virtuals) ready only-defects n x inside class-is m.side m.listed))
    where
      looks : (s : ℕ) → look_grow ready n s ≡ look ready n up s
      looks s = unfold look in refl

  -- ---- obstacles

  -- the answer that a scan gives, by what it ended with
  abbrev scan_gives : Scan → Answer
  scan_gives s = scan_answer (is_empty (boundary_of ready n)) s

  -- an answer that is none of a scan's own is that of a side
  side-met : (a : Answer) → ((k : ℕ) → a ≢ Refused k) → ((e : Bool) → a ≢ Length (Unlimited e)) → ((l : ℤ) (e : Bool) → a ≢ Length (NonZeroGrow l e))
      → growing_length r n ≡ a → Met ready n up (boundary_of ready n) a
  side-met a refused unlimited free e = go scanned ended (sym e ∙ answered-by (λ k q. refused k (sym e ∙ q)))
    where
      go : (s : Scan) → Ended ready n (boundary_of ready n) s → a ≡ scan_gives s → Met ready n up (boundary_of ready n) a
      go open-ended nothing-near q = let u : a ≡ Length (Unlimited (is_empty (boundary_of ready n))) = unfold scan_answer in q in absurd (unlimited _ u)
      go (within l) (free-by j) q = let u : a ≡ Length (NonZeroGrow l (is_empty (boundary_of ready n))) = unfold scan_answer in q in absurd (free _ _ u)
      go (over d) (ended_at w) q = let u : a ≡ d = unfold scan_answer in q in subst (Met ready n up (boundary_of ready n)) (sym u) w

  pub conflict-means : {p h m k : ℕ} → growing_length r n ≡ Length (Conflicting p h m k) → ConflictMeans r n x p m
  conflict-means {p} {h} {m} {k} e =
      let w = side-met (Length (Conflicting p h m k)) (λ j q. let z : ◌≡◌ {A = ℕ} 0 1 = cc in absurd (omega arith))
      (λ j q. let z : ◌≡◌ {A = ℕ} 0 1 = cc in absurd (omega arith)) (λ l j q. let z : ◌≡◌ {A = ℕ} 0 1 = cc in absurd (omega arith)) e in
      let s = conflict-seen (met-saw w) in
      let g = opened_graph v edges virtuals in
      let in_p : p < node_count ready = far-node g ready only-defects n x inside class-is w.side p w.listed s.far in
      let there : p < node_count (end r) = rw (← count_same r n) in_p in
      let d = only-defects.defect p in_p in
      record {
        node = s.node;
        other = s.other;
        vertex = d.vertex;
        defect = record { inside = there; class = sym (class_same r n p there) ∙ d.is };
        tight = told d.vertex there
            (peer-tight g ready only-defects n x inside class-is w.side w.listed p d.vertex s.far s.other d.is s.closed);
      }
    where
      told : (z : ℕ) (there : p < node_count (end r))
          → (dual_of ready n + dual_of ready p ≡ dist (opened_graph v edges virtuals) x z)
          ⊎ ((grow_state_of ready p ≡ growing) × (dual_of ready n + dual_of ready p + 1 ≡ dist (opened_graph v edges virtuals) x z))
          → (dual_of (end r) n + dual_of (end r) p ≡ dist (opened_graph v edges virtuals) x z)
          ⊎ ((grow_state_of (end r) p ≡ growing) × (dual_of (end r) n + dual_of (end r) p + 1 ≡ dist (opened_graph v edges virtuals) x z))
      told z there t = rw (← dual-same r n n at.inside, ← dual-same r n p there, ← state-same r n p there) t

  pub virtual-means : {m k u : ℕ} → growing_length r n ≡ Length (TouchingVirtual m k u) → VirtualMeans r n x m u
  virtual-means {m} {k} {u} e =
      let w = side-met (Length (TouchingVirtual m k u)) (λ j q. let z : ◌≡◌ {A = ℕ} 0 1 = cc in absurd (omega arith))
      (λ j q. let z : ◌≡◌ {A = ℕ} 0 1 = cc in absurd (omega arith)) (λ l j q. let z : ◌≡◌ {A = ℕ} 0 1 = cc in absurd (omega arith)) e in
      let s = virtual-seen (met-saw w) in
      let t = virtual-tight (opened_graph v edges virtuals) ready only-defects n x inside class-is w.side w.listed s.free s.marked s.full in
      record {
        node = s.node;
        placed = rw s.is (rw (graph-size v edges virtuals) at t.0);
        virtual = rw s.is t.1;
        tight = rw (s.is, ← dual-same r n n at.inside) t.2;
      }

  -- ---- free lengths

  module _ (none : NoneShrinks r) where
    none-ready : (q : ℕ) → q < node_count ready → grow_state_of ready q ≢ shrinking
    none-ready q b = let there : q < node_count (end r) = rw (← count_same r n) b in rw (state-same r n q there) (none q there)

    keeps-by : (l : ℕ) → 0 < l → scan_long l scanned ≡ true → Keeps r n x l
    keeps-by l above long =
        let g = opened_graph v edges virtuals in
        record {
          nodes = λ p z k ne d walk.
              rw (← dual-same r n n at.inside, ← dual-same r n p d.inside)
              (keeps-node g ready only-defects n x inside class-is none-ready l above long p z k ne
              (rw (count_same r n) d.inside) (class_same r n p d.inside ∙ d.class) walk);
          touching = λ u k b marked walk.
              rw (← dual-same r n n at.inside) (keeps_virtual g ready only-defects n x inside class-is none-ready l above long u k marked walk);
        }

    -- what a scan ended with: an obstacle, or a length by which every constraint is kept
    data Outcome : Scan → Type 0 where
      no-limit : ((l : ℕ) → Keeps r n x (suc l)) → Outcome open-ended
      a-length : (m : ℕ) → Keeps r n x (suc m) → Outcome (within (pos (suc m)))
      at_side : {a : Answer} → (a ≢ Refused 13 → Obstacle n a) → Outcome (over a)

    outcome : Outcome scanned
    outcome = go scanned refl ended
      where
        go : (s : Scan) → scanned ≡ s → Ended ready n (boundary_of ready n) s → Outcome s
        go open-ended e nothing-near = no-limit (λ l. keeps-by (suc l) (omega arith) (rw e (unfold scan_long in refl)))
        go (within l) e (free-by m) =
            a-length m (keeps-by (suc m) (omega arith) (rw e (unfold scan_long long_as in (le-leb (suc m) (suc m) (omega arith)))))
        go (over a) e (ended_at w) = at_side (met-obstacle (met-saw w))

    pub free-keeps : {l : ℤ} {e : Bool} → growing_length r n ≡ Length (NonZeroGrow l e) → FreeBy r n x l
    free-keeps {l} {e} q = go scanned outcome (sym q ∙ answered-by (λ k z. absurd (refused k (sym z ∙ q))))
      where
        refused : (k : ℕ) → Refused k ≡ Length (NonZeroGrow l e) → ⊥
        refused k z = let i : ◌≡◌ {A = ℕ} 0 1 = cc in absurd (omega arith)

        go : (s : Scan) → Outcome s → Length (NonZeroGrow l e) ≡ scan_gives s → FreeBy r n x l
        go open-ended (no-limit f) z =
            let u : Length (NonZeroGrow l e) ≡ Length (Unlimited (is_empty (boundary_of ready n))) = unfold scan_answer in z in
            let i : ◌≡◌ {A = ℕ} 0 1 = cc in absurd (omega arith)
        go (within d) (a-length m keeps) z =
            let u : Length (NonZeroGrow l e) ≡ Length (NonZeroGrow d (is_empty (boundary_of ready n))) = unfold scan_answer in z in
            record { by = m; is = cc; keeps = keeps }
        go (over a) (at_side f) z =
            let u : Length (NonZeroGrow l e) ≡ a = unfold scan_answer in z in
            absurd (obstacle-free (f (λ w. refused 13 (sym w ∙ sym u))) (sym u))

    keeps-less : (l : ℕ) → Keeps r n x (suc l) → Keeps r n x l
    keeps-less l k = record {
      nodes = λ p z j ne d walk. omega (arith, k.nodes p z j ne d walk);
      touching = λ u j b marked walk. omega (arith, k.touching u j b marked walk);
    }

    pub unlimited-keeps : {e : Bool} → growing_length r n ≡ Length (Unlimited e) → (l : ℕ) → Keeps r n x l
    unlimited-keeps {e} q l = go scanned outcome (sym q ∙ answered-by (λ k z. absurd (refused k (sym z ∙ q))))
      where
        refused : (k : ℕ) → Refused k ≡ Length (Unlimited e) → ⊥
        refused k z = let i : ◌≡◌ {A = ℕ} 0 1 = cc in absurd (omega arith)

        go : (s : Scan) → Outcome s → Length (Unlimited e) ≡ scan_gives s → Keeps r n x l
        go open-ended (no-limit f) z = keeps-less l (f l)
        go (within d) (a-length m keeps) z =
            let u : Length (Unlimited e) ≡ Length (NonZeroGrow d (is_empty (boundary_of ready n))) = unfold scan_answer in z in
            let i : ◌≡◌ {A = ℕ} 0 1 = cc in absurd (omega arith)
        go (over a) (at_side f) z =
            let u : Length (Unlimited e) ≡ a = unfold scan_answer in z in
            absurd (obstacle-unlimited (f (λ w. refused 13 (sym w ∙ sym u))) (sym u))

    -- ---- a tight constraint leaves no room

    in_graph : x < (opened_graph v edges virtuals).size
    in_graph = vertex-inside (opened_graph v edges virtuals) ready only-defects n x inside class-is

    dual-small : (m : ℕ) → m < node_count (end r) → dual_of (end r) m ≤ 1000000000
    dual-small m b = rw (← dual-same r n m b) ((invariant-numbers only-defects.good).nodes m (rw (count_same r n) b)).dual

    no_room : Tight r n x → (l : ℕ) → Keeps r n x (suc l) → ⊥
    no_room (with-node p z ne d tight) l keeps =
        let far : dist (opened_graph v edges virtuals) x z < unreachable = omega (arith, unreachable-is, dual-small n at.inside, dual-small p d.inside) in
        omega (arith, keeps.nodes p z _ ne d (dist-walk (opened_graph v edges virtuals) only-defects.formed x in_graph z far))
    no_room (with-virtual u b marked tight) l keeps =
        let far : dist (opened_graph v edges virtuals) x u < unreachable = omega (arith, unreachable-is, dual-small n at.inside) in
        omega (arith, keeps.touching u _ b marked (dist-walk (opened_graph v edges virtuals) only-defects.formed x in_graph u far))

    pub tight-meets : Tight r n x → ((k : ℕ) → growing_length r n ≢ Refused k) → Obstacle n (growing_length r n)
    tight-meets tight accepted = go scanned outcome (answered-by accepted)
      where
        go : (s : Scan) → Outcome s → growing_length r n ≡ scan_gives s → Obstacle n (growing_length r n)
        go open-ended (no-limit f) z = absurd (no_room tight 0 (f 0))
        go (within d) (a-length m keeps) z = absurd (no_room tight m keeps)
        go (over a) (at_side f) z =
            let u : growing_length r n ≡ a = unfold scan_answer in z in
            subst (Obstacle n) (sym u) (f (λ w. accepted 13 (u ∙ w)))
