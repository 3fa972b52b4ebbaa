-- The dual variables of the history are those of the state's nodes.
use Rattle.std.specs.Prelude.{ℕ, zero, suc, ◌<◌, ◌≡◌, refl, ◌≢◌, List, [], ◌∷◌, pos, eqb, length, get_or}
use Rattle.std.proofs.Common.{arith, sym, ◌∙◌, ext_get_or, eq-eqb, ne_eqb}
use Rattle.std.proofs.Math.Decide.{dec_lt}
use Rattle.std.proofs.Math.Path.{ap}
use Rattle.std.proofs.Math.Logic.{by_cases}
use Rattle.std.proofs.lemmas.List.{length-map}
use Rattle.std.proofs.Math.ListN.{get_or-eq_default}
use Rattle.graph.specs.Basic.{below}
use Rattle.graph.specs.State.{State, defect_vertex, vertex_count, node_count, vertex_holder_at, defect_at, class_of, dual_of}
use Rattle.graph.specs.laws.Members.{by-test, length-below}
use Rattle.graph.specs.laws.Opened.{get_d-tabled}
use Rattle.reachable.specs.Invariant.{DefectNode, Invariant}
use Rattle.table_theorem.specs.History.{History, entry_at, dual_at, natural, duals_of}
use Rattle.table_theorem.proofs.laws.Table.{Duals}
use Rattle.table_theorem.proofs.laws.History.{Matches}

-- ---- a vertex in a history

-- no entry is at a
dual-of-none : (h : History) (a : ℕ) → ((n : ℕ) → n < length h → (entry_at h n).vertex ≢ a) → dual_at h a ≡ pos 0
unfolding dual_at
dual-of-none [] a f = refl
dual-of-none (e ∷ es) a f = rw (ne_eqb e.vertex a (f 0 (omega arith))) (dual-of-none es a (λ n b. f (suc n) (omega arith)))

-- entry n alone is at a
dual-of-one : (h : History) (a n : ℕ) → n < length h → (entry_at h n).vertex ≡ a
    → ((m : ℕ) → m < length h → (entry_at h m).vertex ≡ a → m ≡ n) → dual_at h a ≡ (entry_at h n).y
unfolding dual_at
dual-of-one [] a n b p f = absurd (omega arith)
dual-of-one (e ∷ es) a zero b p f = rw (eq-eqb e.vertex a p) refl
dual-of-one (e ∷ es) a (suc n) b p f =
    rw (ne_eqb e.vertex a (λ q. let z = f 0 (omega arith) q in absurd (omega arith)))
    (dual-of-one es a n (omega arith) p (λ m k q. let z = f (suc m) (omega arith) q in omega arith))

-- where no entry is below 0, no vertex is
dual-natural : (h : History) (a : ℕ) → ((n : ℕ) → n < length h → (entry_at h n).y ≡ pos (natural (entry_at h n).y)) → dual_at h a ≡ pos (natural (dual_at h a))
unfolding dual_at natural
dual-natural [] a f = refl
dual-natural (e ∷ es) a f =
    by-test (eqb e.vertex a)
    (λ k. rw k (f 0 (omega arith)))
    (λ k. rw k (dual-natural es a (λ n b. f (suc n) (omega arith))))

-- ---- the list over the vertices

pub length-duals : (v : ℕ) (h : History) → length (duals_of v h) ≡ v
unfolding duals_of
length-duals v h = length-map (below v) (λ a. natural (dual_at h a)) ∙ length-below v

pub at-duals : (v : ℕ) (h : History) (a : ℕ) → a < v → get_or (duals_of v h) a 0 ≡ natural (dual_at h a)
unfolding duals_of
at-duals v h a b = get_d-tabled (λ a. natural (dual_at h a)) v a 0 b

module _ (c : State) (h : History) (g : Invariant c) (i : Matches c h) where
  root : (n x : ℕ) → n < node_count c → class_of c n ≡ defect_vertex x → DefectNode c g.labels n x
  root n x b e = g.clusters.defect-nodes.defect-node n b (i.outer n b) x e

  -- entry n is at vertex x, as the node is
  entry-at : (n x : ℕ) → n < node_count c → class_of c n ≡ defect_vertex x → (entry_at h n).vertex ≡ x
  entry-at n x b e = let z : defect_vertex (entry_at h n).vertex ≡ defect_vertex x = sym (i.nodes.agrees n b).vertex ∙ e in cc

  dual-of-node : (n x : ℕ) → n < node_count c → class_of c n ≡ defect_vertex x → dual_at h x ≡ pos (dual_of c n)
  dual-of-node n x b e =
      dual-of-one h x n (rw (← i.nodes.count) b) (entry-at n x b e) (λ m k p. alone m (rw i.nodes.count k) p)
      ∙ sym (i.nodes.agrees n b).dual
    where
      alone : (m : ℕ) → m < node_count c → (entry_at h m).vertex ≡ x → m ≡ n
      alone m k p =
          let at : class_of c m ≡ defect_vertex x = (i.nodes.agrees m k).vertex ∙ ap defect_vertex p in
          omega (arith, (root n x b e).held, (root m x k at).held)

  dual-of-others : (a : ℕ) → defect_at c a ≡ 0 → dual_at h a ≡ pos 0
  dual-of-others a z =
      dual-of-none h a (λ n b p.
      let k : n < node_count c = rw i.nodes.count b in
      (root n a k ((i.nodes.agrees n k).vertex ∙ ap defect_vertex p)).defect z)

  pub duals-are : (v : ℕ) → vertex_count c ≡ v → Duals c (duals_of v h)
  unfolding natural
  duals-are v s = record {
    defects = λ n x b e.
        let inside : x < vertex_count c =
        by_cases (dec_lt x (vertex_count c)) (λ k. k)
        (λ k. absurd
        (let z : vertex_holder_at c x
        ≡ 0 = get_or-eq_default c.vertices.vertex_holder 0 (omega (arith, g.shape.vertex_holder)) in
        omega (arith, (root n x b e).held))) in
        at-duals v h x (rw s at inside) ∙ ap natural (dual-of-node n x b e);
    others = λ a z.
        by_cases (dec_lt a v)
        (λ k. at-duals v h a k ∙ ap natural (dual-of-others a z))
        (λ k. get_or-eq_default (duals_of v h) 0 (omega (arith, length-duals v h)));
  }

  -- no dual variable is below 0
  pub dual-is-natural : (a : ℕ) → dual_at h a ≡ pos (natural (dual_at h a))
  unfolding natural
  dual-is-natural a = dual-natural h a (λ n b. let e = (i.nodes.agrees n (rw i.nodes.count b)).dual in rw (← e) refl)

-- ---- two histories

-- two lists of dual variables are the same exactly where each vertex has the same
pub duals-same : (v : ℕ) (h k : History) → ((a : ℕ) → a < v → dual_at h a ≡ dual_at k a) → duals_of v h ≡ duals_of v k
duals-same v h k f =
    ext_get_or 0 (duals_of v h) (duals_of v k) (length-duals v h ∙ sym (length-duals v k))
    (λ a b. let l : a < v = rw (length-duals v h) at b in at-duals v h a l ∙ ap natural (f a l) ∙ sym (at-duals v k a l))

pub each-dual-same : (v : ℕ) (h k : History) → ((a : ℕ) → dual_at h a ≡ pos (natural (dual_at h a))) → ((a : ℕ) → dual_at k a ≡ pos (natural (dual_at k a)))
    → duals_of v h ≡ duals_of v k → (a : ℕ) → a < v → dual_at h a ≡ dual_at k a
each-dual-same v h k nh nk e a b = nh a ∙ ap pos (sym (at-duals v h a b) ∙ ap (λ (y : List ℕ). get_or y a 0) e ∙ at-duals v k a b) ∙ sym (nk a)
