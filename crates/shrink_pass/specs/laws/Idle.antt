-- A shrinking pass without an empty top and without an emptied side at the boundary changes nothing.
use Rattle.std.specs.Prelude.{ℕ, ◌≡◌, Bool, true, false, ◌||◌, not, ℤ, eqb}
use Rattle.std.proofs.Common.{arith, sym, ap, ◌∙◌, eqb-true}
use Rattle.std.proofs.Math.Path.{refl}
use mathlib.Core.List.{List, [], ◌∷◌, ◌++◌, append_assoc, append-nil}
use Rattle.std.proofs.Math.ListN.{length}
use Rattle.std.proofs.Math.Seq.{set-get_or}
use Rattle.std.proofs.lemmas.Bool.{not-false}
use Rattle.graph.specs.Basic.{fold, any, member, distinct}
use Rattle.graph.specs.State.{State, boundary_of, overgrown_of, with_nodes, with_boundary, with_overgrown}
use Rattle.graph.specs.Layout.{state_of}
use Rattle.graph.specs.Form.{Formed}
use Rattle.graph.specs.laws.Row.{becomes-none}
use Rattle.graph.specs.laws.Members.{by-test, clash, or-neither-left, or-neither-right, member-head, member-append-right, member-cons, distinct_head, distinct_tail, member-nil}
use Rattle.pass.specs.Work.{Work, keep, keep_once, start_pass, finish_pass}
use Rattle.pass.specs.Shrink.{empty_tops, below_tops, shrink_step, dropped, shrink_scanned, shrink_pass}
use Rattle.pass.specs.inner.Ready.{Shrinkable, AfterPass}
use Rattle.shrink_pass.specs.inner.Shrinking.{vertex_left}
use Rattle.shrink_pass.specs.laws.Top.{below-tops}

distinct_apart : (xs : List ℕ) (y : ℕ) (ys : List ℕ) → distinct (xs ++ (y ∷ ys)) ≡ true → member y xs ≡ false
distinct_apart [] y ys h = by-test (member y []) (λ e. member-nil y e) (λ e. e)
distinct_apart (x ∷ xs) y ys h =
    let ih : member y xs ≡ false = distinct_apart xs y ys (distinct_tail x (xs ++ (y ∷ ys)) h) in
    by-test (member y (x ∷ xs))
    (λ e. member-cons y x xs e
    (λ q. clash (member x (xs ++ (y ∷ ys))) (rw (← q) (member-append-right y xs (y ∷ ys) (member-head y ys)))
    (distinct_head x (xs ++ (y ∷ ys)) h))
    (λ q. clash (member y xs) q ih))
    (λ e. e)

-- the work with the sides of l kept as well
abbrev keep_all : Work → List ℕ → Work
keep_all w l = record { state = w.state; kept = w.kept ++ l; noted = w.noted; over = w.over; another = w.another }

scan-idle : (w : Work) (l : List ℕ) → any (vertex_left w.state) l ≡ false → distinct (w.kept ++ l) ≡ true
    → fold shrink_step w l ≡ keep_all w l
unfolding fold any vertex_left shrink_step keep_once keep
scan-idle w [] h d = rw (append-nil w.kept)
scan-idle w (x ∷ l) h d =
    let no : vertex_left w.state x ≡ false = or-neither-left (vertex_left w.state x) (any (vertex_left w.state) l) h in
    let step : shrink_step w x ≡ keep_all w (x ∷ []) = rw (no, distinct_apart w.kept x l d) in
    let ih =
    scan-idle (keep_all w (x ∷ [])) l (or-neither-right (vertex_left w.state x) (any (vertex_left w.state) l) h)
    (rw (append_assoc w.kept (x ∷ []) l) d) in
    rw step (ih ∙ rw (append_assoc w.kept (x ∷ []) l))

-- the work of a pass that changes nothing
abbrev same : State → ℕ → Work
same c n = record { state = c; kept = boundary_of c n; noted = []; over = overgrown_of c n; another = false }

module _ (c : State) (n : ℕ) (tops : length (empty_tops (overgrown_of c n)) ≡ 0)
    (sides : any (vertex_left c) (boundary_of c n) ≡ false) (once : distinct (boundary_of c n) ≡ true) where
  shrink-same : shrink_pass c n ≡ same c n
  unfolding shrink_pass shrink_scanned dropped start_pass fold
  shrink-same =
      let none : empty_tops (overgrown_of c n) ≡ [] = nil (empty_tops (overgrown_of c n)) tops in
      let over : below_tops (overgrown_of c n) ≡ overgrown_of c n = below-tops (overgrown_of c n) ∙ rw tops in
      let scanned : fold shrink_step (start_pass c (overgrown_of c n)) (boundary_of c n) ≡ same c n =
      scan-idle (start_pass c (overgrown_of c n)) (boundary_of c n) sides once in
      rw (none, over, scanned)
    where
      nil : (l : List ℕ) → length l ≡ 0 → l ≡ []
      nil [] e = refl
      nil (x ∷ l) e = absurd (omega arith)

  finish-same : finish_pass (same c n) n ≡ c
  unfolding finish_pass with_boundary with_overgrown with_nodes
  finish-same = rw (set-get_or c.nodes.boundary n [], set-get_or c.nodes.overgrown n [])

  pub shrink-idle : (finish_pass (shrink_pass c n) n ≡ c) × ((shrink_pass c n).another ≡ false)
  shrink-idle = (ap (λ w. finish_pass w n) shrink-same ∙ finish-same, ap (λ (w : Work). w.another) shrink-same)

-- what the test before the work says
pub idle-test : (z : ℕ) (t : Bool) → (not (eqb z 0) || t) ≡ false → (z ≡ 0) × (t ≡ false)
idle-test z t h = (
  eqb-true z 0 (not-false (eqb z 0) (or-neither-left (not (eqb z 0)) t h)),
  or-neither-right
      (not (eqb z 0)) t h,
)

-- so block and scratch are left as they are
pub after-idle : (b t : List ℤ) (n : ℕ) → Formed b → Shrinkable (state_of b) n
    → length (empty_tops (overgrown_of (state_of b) n)) ≡ 0
    → any (vertex_left (state_of b)) (boundary_of (state_of b) n) ≡ false
    → AfterPass b b t t n (shrink_pass (state_of b) n) false
after-idle b t n f s h k =
    let i = shrink-idle (state_of b) n h k s.once in
    record {
      block = becomes-none b (finish_pass (shrink_pass (state_of b) n) n) f (sym i.0);
      scratch =
          refl;
      another = sym i.1;
    }
