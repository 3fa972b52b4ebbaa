-- A defect is inserted: removed nodes stay with nothing.
use Rattle.std.specs.Prelude.{ℕ, ◌+◌, ◌≤◌, ◌≡◌, false}
use Rattle.std.proofs.Common.{arith, sym, ap, ◌∙◌}
use Rattle.std.proofs.Math.Decide.{ℕ_discrete as dec_eq, dec_lt}
use Rattle.std.proofs.Math.Logic.{by_cases}
use Rattle.graph.specs.Basic.{member}
use Rattle.graph.specs.State.{State, defect_vertex, blossom, node_count, vertex_holder_at, sides_at, class_of, parent_of}
use Rattle.graph.specs.Sound.{is_removed}
use Rattle.graph.specs.laws.Members.{by-test, clash}
use Rattle.graph.specs.Shape.{Shape}
use Rattle.reachable.specs.Invariant.{Emptied, Live}
use Rattle.reachable.specs.laws.state.Live.{RemovedEmpty, removed-empty, live_of, class-beyond, parent-beyond}
use Rattle.reachable.specs.laws.insert.DefectState.{DefectMade}

module _ (c : State) (shape : Shape c) (v x : ℕ) (made : State) (p : DefectMade c v x made) where
  pub parent-same : (m : ℕ) → parent_of made m ≡ parent_of c m
  parent-same m =
      by_cases (dec_lt m (node_count c)) (λ a. p.parent-old m a)
      (λ a.
      let none : parent_of c m ≡ 0 = parent-beyond c shape m (omega arith) in
      by_cases (dec_eq m (node_count c))
      (λ q. ap (parent_of made) q ∙ p.parent-new ∙ sym none)
      (λ q. parent-beyond made p.made-shape m (omega (arith, p.made-count)) ∙ sym none))

  -- behind the old nodes there is a defect, and nothing
  later-class : (m : ℕ) → node_count c ≤ m → (u : ℕ) × (class_of made m ≡ defect_vertex u)
  later-class m h =
      by_cases (dec_eq m (node_count c))
      (λ q. (v, ap (class_of made) q ∙ p.class-new))
      (λ q. (0, class-beyond made p.made-shape m (omega (arith, p.made-count))))

  later-live : (m : ℕ) → node_count c ≤ m → is_removed (class_of made m) ≡ false
  unfolding is_removed
  later-live m h = rw (later-class m h).1

  no-blossom-later : (n m : ℕ) → node_count c ≤ n → class_of made n ≡ blossom m → ⊥
  no-blossom-later n m h e = let y : defect_vertex (later-class n h).0 ≡ blossom m = sym (later-class n h).1 ∙ e in let w : ◌≡◌ {A = ℕ} 0 1 = cc in omega arith

  -- so a blossom was one before
  old-blossom : (n m : ℕ) → class_of made n ≡ blossom m → class_of c n ≡ blossom m
  old-blossom n m e = by_cases (dec_lt n (node_count c)) (λ a. sym (p.class-old n a) ∙ e) (λ a. absurd (no-blossom-later n m (omega arith) e))

  still-live : (m : ℕ) → is_removed (class_of c m) ≡ false → is_removed (class_of made m) ≡ false
  still-live m e = by_cases (dec_lt m (node_count c)) (λ a. rw (p.class-old m a) e) (λ a. later-live m (omega arith))

  pub defect-empty : RemovedEmpty c → RemovedEmpty made
  defect-empty l = record {
    emptied = λ m e.
        by_cases (dec_lt m (node_count c))
        (λ a.
        let b : Emptied c m = l.emptied m (rw (p.class-old m a) at e) in
        record {
          parent = p.parent-old m a ∙ b.parent;
          grow_state = p.grow-state-old m a ∙ b.grow_state;
          boundary = p.boundary-old m a ∙ b.boundary;
          overgrown = p.overgrown-old m a ∙ b.overgrown;
        })
        (λ a. clash (is_removed (class_of made m)) e (later-live m (omega arith)));
    side = λ t m e.
        by-test (member t (sides_at c v))
        (λ h. later-live m (omega (arith, (p.side-in t h).0)))
        (λ h. still-live m (l.side t m (sym (p.side-off t h).0 ∙ e)));
    vertex = λ u m e.
        by_cases (dec_eq u v)
        (λ q. let h : vertex_holder_at made v ≡ m + 1 = rw q at e in later-live m (omega (arith, p.vertex-holder-at)))
        (λ q. still-live m (l.vertex u m (sym (p.vertex-holder-off u q) ∙ e)));
    parent = λ m j e. still-live j (l.parent m j (sym (parent-same m) ∙ e));
    first = λ n m e. still-live m (l.first n m (old-blossom n m e));
  }

  pub defect-live : Live c → Live made
  defect-live l = live_of (defect-empty (removed-empty l)) (λ n m e. parent-same m ∙ l.first n m (old-blossom n m e))
