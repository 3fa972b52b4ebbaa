-- The graph of an accepted opening.
use Prim.Native.Nat.{ℕ, zero, suc, ◌+◌, ◌-◌, ◌*◌, ◌/◌, ◌≤◌, ◌<◌}
use native.Mathlib.Omega.{arith}
use Rattle.std.specs.Prelude.{◌≡◌, refl, ◌≢◌, Bool, true, ◌&&◌, not, eqb, leb}
use Rattle.std.proofs.Common.{sym, ◌∙◌, ext_get_or}
use Rattle.std.proofs.Math.Path.{ap}
use mathlib.Core.List.{List, [], ◌∷◌, map}
use Rattle.std.proofs.Math.Dec.{ltb}
use Rattle.std.proofs.Math.ListN.{length, get_or, length-map}
use borrow.Author.Tests.{leb-true, le-leb, ltb-true, eq-eqb}
use Rattle.graph.specs.Basic.{all, below}
use Rattle.graph.specs.State.{Graph as StateGraph, opposite, edge_of}
use Rattle.graph.specs.Open.{Edge, weight_limit, ends_of, flag_in, sizes_ok, edge_ok, open_refusal}
use Rattle.graph.specs.laws.State.{by-parity, opposite-even, opposite-odd, and_left, and_right}
use Rattle.graph.specs.laws.Members.{both, all_first, all_others, length-below}
use Rattle.graph.specs.laws.Shape.{length-ends}
use Rattle.graph.specs.laws.Opened.{get_d-tabled, EndsAt, ends_at, accepted}
use Rattle.distance.specs.Graph.{WellFormed, Positive, near, across, weight}
use Rattle.distance.specs.Nearest.{VirtualInReach, ReachesVirtual}
use Rattle.opened_graph.specs.OpenedGraph.{opened_graph, with_weights, SameVertices, PositiveWeights}
use Rattle.opened_graph.specs.laws.Graph.{opposite-same, SameGraph}

-- an accepted opening has at most 1,024 vertices
size-within : (v e n l : ℕ) → sizes_ok v e n l ≡ true → v ≤ 1024
unfolding sizes_ok
size-within v e n l h =
    let a = leb 1 v in
    let b = leb v 1024 in
    let h₁ = and_left (a && b && leb 1 e && leb e 4096 && leb 1 n && leb n 1024) (leb l 65536) h in
    let h₂ = and_left (a && b && leb 1 e && leb e 4096 && leb 1 n) (leb n 1024) h₁ in
    let h₃ = and_left (a && b && leb 1 e && leb e 4096) (leb 1 n) h₂ in
    let h₄ = and_left (a && b && leb 1 e) (leb e 4096) h₃ in
    let h₅ = and_left (a && b) (leb 1 e) h₄ in
    leb-true v 1024 (and_right a b h₅)

-- the graph depends only on which vertices are virtual
pub one-graph : (v : ℕ) (edges : List Edge) (virtuals others : List ℕ) → SameVertices v virtuals others
    → opened_graph v edges virtuals ≡ opened_graph v edges others
unfolding opened_graph
one-graph v edges virtuals others same =
    ap
    (λ (l : List ℕ). record { size = v; ends = ends_of edges; weights = map (λ (e : Edge). e.weight) edges; virtual = l })
    flags
  where
    flag : (a : ℕ) → a < v → flag_in virtuals a ≡ flag_in others a
    flag a b = unfold flag_in in (rw (same a b))

    flags : map (flag_in virtuals) (below v) ≡ map (flag_in others) (below v)
    flags =
        let len : (l : List ℕ) → length (map (flag_in l) (below v)) ≡ v = λ l. length-map (below v) (flag_in l) ∙ length-below v in
        ext_get_or 0 (map (flag_in virtuals) (below v)) (map (flag_in others) (below v)) (len virtuals ∙ sym (len others))
        (λ a b. let k : a < v = rw (len virtuals) at b in get_d-tabled (flag_in virtuals) v a 0 k ∙ flag a k ∙ sym (get_d-tabled (flag_in others) v a 0 k))

module _ (v : ℕ) (edges : List Edge) (virtuals : List ℕ) where
  -- it is the graph of any state that has its ends, weights and virtual vertices
  pub same-graph-as : (q : StateGraph) → q.end ≡ ends_of edges → q.weight ≡ map (λ (e : Edge). e.weight) edges
      → q.virtual ≡ map (flag_in virtuals) (below v) → SameGraph (opened_graph v edges virtuals) q
  unfolding opened_graph near across weight
  same-graph-as q a b d = record {
    size_is = ap length d ∙ length-map (below v) (flag_in virtuals) ∙ length-below v;
    sides-are = ap length a;
    near-is = λ s. ap (λ (l : List ℕ). get_or l s 0) a;
    across-is = λ s. ap (λ (l : List ℕ). get_or l (opposite s) 0) a ∙ ap (λ (t : ℕ). get_or (ends_of edges) t 0) (opposite-same s);
    weight_is = λ s. ap (λ (l : List ℕ). get_or l (edge_of s) 0) b;
    virtual_is = λ u. ap (λ (l : List ℕ). get_or l u 0) d;
  }

  -- the edge of a side
  edge-inside : (s : ℕ) → s < length (ends_of edges) → s / 2 < length edges
  edge-inside s h = omega (arith, length-ends edges)

  pub weights-positive : PositiveWeights edges → Positive (opened_graph v edges virtuals)
  unfolding opened_graph weight
  weights-positive p s h = above edges (s / 2) p (edge-inside s h)
    where
      above : (es : List Edge) (i : ℕ) → PositiveWeights es → i < length es → 0 < get_or (map (λ (e : Edge). e.weight) es) i 0
      above [] i q b = absurd (omega arith)
      above (e ∷ es) zero q b = ltb-true 0 e.weight (all_first (λ (x : Edge). ltb 0 x.weight) e es q)
      above (e ∷ es) (suc i) q b = above es i (all_others (λ (x : Edge). ltb 0 x.weight) e es q) (omega arith)

  module _ (e n l : ℕ) (fits : Bool) (opening : open_refusal v e n l edges virtuals fits ≡ 0) where
    edge-of : (s : ℕ) → s < length (ends_of edges) → EndsAt v edges (s / 2)
    edge-of s h = ends_at v edges (s / 2) (accepted v e n l edges virtuals fits opening).ends (edge-inside s h)

    pub well-formed : WellFormed (opened_graph v edges virtuals)
    unfolding opened_graph near across weight
    well-formed = record {
      paired = length-ends edges ∙ ap (λ (k : ℕ). 2 * k) (sym (length-map edges (λ (x : Edge). x.weight)));
      placed = λ t h. by-parity (get_or (ends_of edges) t 0 < v) t
          (λ q. let r : 2 * (t / 2) ≡ t = omega arith in rw r at (edge-of t h).left)
          (λ q. let r : 2 * (t / 2) + 1 ≡ t = omega arith in rw r at (edge-of t h).right);
      apart = λ t h. rw (← opposite-same t) (by-parity (get_or (ends_of edges) t 0 ≢ get_or (ends_of edges) (opposite t) 0) t
          (λ q. let r : 2 * (t / 2) ≡ t = omega arith in rw (opposite-even t q) (rw r at (edge-of t h).differ))
          (λ q. let r : 2 * (t / 2) + 1 ≡ t = omega arith in
          let k : 2 * (t / 2) ≡ t - 1 = omega arith in
          rw (opposite-odd t q) (λ z. rw (r, k) at (edge-of t h).differ (sym z))));
      light = λ t h. (edge-of t h).weight;
      small = size-within v e n l (accepted v e n l edges virtuals fits opening).sizes;
    }

    pub all-connected : ((a : ℕ) → a < v → ReachesVirtual (opened_graph v edges virtuals) a) → VirtualInReach (opened_graph v edges virtuals)
    unfolding opened_graph
    all-connected reach = reach

-- ---- other weights

pub length-with : (es : List Edge) (ws : List ℕ) → length (with_weights es ws) ≡ length es
unfolding with_weights
length-with [] ws = refl
length-with (e ∷ es) [] = refl
length-with (e ∷ es) (w ∷ ws) = ap suc (length-with es ws)

pub ends_with : (es : List Edge) (ws : List ℕ) → ends_of (with_weights es ws) ≡ ends_of es
unfolding with_weights ends_of
ends_with [] ws = refl
ends_with (e ∷ es) [] = refl
ends_with (e ∷ es) (w ∷ ws) = ap (λ (l : List ℕ). e.left ∷ e.right ∷ l) (ends_with es ws)

pub weights-with : (es : List Edge) (ws : List ℕ) → length ws ≡ length es → map (λ (e : Edge). e.weight) (with_weights es ws) ≡ ws
unfolding with_weights
weights-with [] [] h = refl
weights-with [] (w ∷ ws) h = absurd (omega arith)
weights-with (e ∷ es) [] h = absurd (omega arith)
weights-with (e ∷ es) (w ∷ ws) h = ap (λ (l : List ℕ). w ∷ l) (weights-with es ws (omega arith))

-- its own weights
pub with-own : (es : List Edge) → with_weights es (map (λ (e : Edge). e.weight) es) ≡ es
unfolding with_weights
with-own [] = refl
with-own (e ∷ es) = ap (λ (l : List Edge). e ∷ l) (with-own es)

edge-with : (v : ℕ) (e : Edge) (w : ℕ) → edge_ok v e ≡ true → w ≤ weight_limit → edge_ok v (record { left = e.left; right = e.right; weight = w }) ≡ true
unfolding edge_ok
edge-with v e w h k =
    let t = ltb e.left v && ltb e.right v && not (eqb e.left e.right) in
    both t (leb w weight_limit) (and_left t (leb e.weight weight_limit) h) (le-leb w weight_limit k)

edges-with : (v : ℕ) (es : List Edge) (ws : List ℕ) → all (edge_ok v) es ≡ true → ((i : ℕ) → i < length ws → get_or ws i 0 ≤ weight_limit)
    → all (edge_ok v) (with_weights es ws) ≡ true
unfolding with_weights all
edges-with v [] ws h k = refl
edges-with v (e ∷ es) [] h k = h
edges-with v (e ∷ es) (w ∷ ws) h k =
    both (edge_ok v (record { left = e.left; right = e.right; weight = w })) (all (edge_ok v) (with_weights es ws))
    (edge-with v e w (all_first (edge_ok v) e es h) (k 0 (omega arith)))
    (edges-with v es ws (all_others (edge_ok v) e es h) (λ i b. k (suc i) (omega arith)))

-- an opening with weights in range is accepted where one with other weights is
pub opening-with : (v e n l : ℕ) (es : List Edge) (ws virtuals : List ℕ) (fits : Bool) → open_refusal v e n l es virtuals fits ≡ 0
    → ((i : ℕ) → i < length ws → get_or ws i 0 ≤ weight_limit) → open_refusal v e n l (with_weights es ws) virtuals fits ≡ 0
unfolding open_refusal
opening-with v e n l es ws virtuals fits h k =
    let a = accepted v e n l es virtuals fits h in
    rw (
      a.sizes,
      length-with es ws,
      eq-eqb (length es) e a.count,
      a.lengths,
      a.vertices,
      edges-with v es ws a.ends k,
    )
