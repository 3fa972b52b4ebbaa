-- A growing pass over node n, its first loop: which boundary sides are kept, which are noted, and what is held then.
use Rattle.std.specs.Prelude.{ℕ, ◌+◌, ◌<◌, ◌≡◌, refl, ◌≢◌, ◌⊎◌, true, false, ◌&&◌, length}
use Rattle.std.proofs.Math.Decide.{ℕ_discrete as dec_eq}
use Rattle.std.proofs.Common.{sym, ◌∙◌}
use Rattle.std.proofs.Math.Path.{ap}
use Rattle.std.proofs.Math.Logic.{inl, inr, ⊎_elim, by_cases}
use mathlib.Core.List.{List, [], ◌∷◌, ◌++◌}
use Rattle.std.proofs.Math.Dec.{eqb}
use borrow.Author.Tests.{eqb-true, eq-eqb}
use Rattle.graph.specs.Basic.{member, distinct}
use Rattle.graph.specs.State.{State, opposite, end_at, growth_at, holder_at, grandson_at, virtual_at, weight_over, grown_over, boundary_of, overgrown_of, held_side}
use Rattle.graph.specs.laws.State.{if-cases, and_left, and_right, fold-keeps-rest, kept_refl, kept_trans, kept-held-side, opposite-opposite}
use Rattle.graph.specs.inner.Kept.{SameButHolders}
use Rattle.graph.specs.laws.Members.{by-test, clash, both, member-head, member-tail, member-cons, member-nil, member-append, member-append-left, member-append-right, distinct_head, distinct_tail}
use Rattle.pass.specs.Work.{Work, on_state, keep, note, start_pass}
use Rattle.pass.specs.Grow.{reaches, grow_step, grow_scanned}
use Rattle.pass.proofs.laws.Fits.{side-held}
use Rattle.reachable.specs.laws.grow.TakeSides.{side-other, side-vertices}
use Rattle.reachable.specs.laws.state.GraphOk.{GraphOk}

module _ (c : State) (n : ℕ) where
  -- a noted side: its edge is full and its far side was free
  pub record Noted (w : Work) (s : ℕ) : Type 0 where
    pub listed : member s (boundary_of c n) ≡ true
    pub full : growth_at c s + growth_at c (opposite s) ≡ weight_over c s
    pub free : holder_at c (opposite s) ≡ 0
    pub real : virtual_at c (end_at c (opposite s)) ≡ 0
    pub held : holder_at w.state (opposite s) ≡ n + 1

  -- a listed side behind which nothing is to be taken
  abbrev pub NotToTake : ℕ → Type 0
  NotToTake s = holder_at c (opposite s) ≡ 0 → growth_at c s + growth_at c (opposite s) ≡ weight_over c s → virtual_at c (end_at c (opposite s)) ≢ 0

  pub record Scanning (w : Work) (r : List ℕ) : Type 0 where
    pub keeps : SameButHolders c w.state
    pub vertices : w.state.vertices ≡ c.vertices
    pub over : w.over ≡ overgrown_of c n
    pub holder : (t : ℕ) → (holder_at w.state t ≡ holder_at c t) ⊎ ((holder_at c t ≡ 0) × (member (opposite t) w.noted ≡ true))
    pub noted : (s : ℕ) → member s w.noted ≡ true → Noted w s
    pub kept : (s : ℕ) → member s w.kept ≡ true → (member s (boundary_of c n) ≡ true) × (member s w.noted ≡ false) × (member s r ≡ false) × NotToTake s
    pub apart : (s : ℕ) → member s w.noted ≡ true → member s r ≡ false
    pub sub : (s : ℕ) → member s r ≡ true → member s (boundary_of c n) ≡ true
    pub once-rest : distinct r ≡ true
    pub kept-or-noted : (s : ℕ) → member s (boundary_of c n) ≡ true → (member s r ≡ true) ⊎ ((member s w.kept ≡ true) ⊎ (member s w.noted ≡ true))

  module _ (graph-ok : GraphOk c.graph)
      (within : (s : ℕ) → member s (boundary_of c n) ≡ true → s < length c.graph.end)
      (once : distinct (boundary_of c n) ≡ true) (holders : length c.sides.holder ≡ length c.graph.end) where
    module _ (w : Work) (s : ℕ) (r : List ℕ) (j : Scanning w (s ∷ r)) where
      off_rest : (t : ℕ) → member t (s ∷ r) ≡ false → member t r ≡ false
      off_rest t e = by-test (member t r) (λ a. clash (member t (s ∷ r)) (member-tail t s r a) e) (λ a. a)

      not_noted : member s w.noted ≡ false
      not_noted = by-test (member s w.noted) (λ a. clash (member s (s ∷ r)) (member-head s r) (j.apart s a)) (λ a. a)

      scan-keep : NotToTake s → Scanning (keep w s) r
      unfolding keep
      scan-keep nothing-to-take = record {
        keeps = j.keeps;
        vertices = j.vertices;
        over = j.over;
        holder = j.holder;
        noted = λ t m. let a : Noted w t = j.noted t m in record { listed = a.listed; full = a.full; free = a.free; real = a.real; held = a.held };
        kept = λ t m.
            member-append t w.kept (s ∷ []) m
            (λ a. let b = j.kept t a in (b.0, b.1, off_rest t b.2, b.3))
            (λ a. member-cons t s [] a
            (λ b. rw b (j.sub s (member-head s r), not_noted, distinct_head s r j.once-rest, nothing-to-take))
            (λ b. member-nil t b));
        apart = λ t m. off_rest t (j.apart t m);
        sub = λ t m. j.sub t (member-tail t s r m);
        once-rest = distinct_tail s r j.once-rest;
        kept-or-noted = λ t m.
            ⊎_elim
            (λ (a : member t (s ∷ r) ≡ true). member-cons t s r a
            (λ b. inr (inl (rw b (member-append-right s w.kept (s ∷ []) (member-head s []))))) (λ b. inl b))
            (λ (a : (member t w.kept ≡ true) ⊎ (member t w.noted ≡ true)). inr
            (⊎_elim (λ (b : member t w.kept ≡ true). inl (member-append-left t w.kept (s ∷ []) b))
            (λ (b : member t w.noted ≡ true). inr b) a))
            (j.kept-or-noted t m);
      }

      listed_here : member s (boundary_of c n) ≡ true
      listed_here = j.sub s (member-head s r)

      inside : opposite s < length w.state.sides.holder
      inside = rw (j.keeps.holder, holders) (graph-ok.side-graph.across s (within s listed_here))

      -- the far side is free in c too
      far-free : holder_at w.state (opposite s) ≡ 0 → holder_at c (opposite s) ≡ 0
      far-free e =
          ⊎_elim (λ (a : holder_at w.state (opposite s) ≡ holder_at c (opposite s)). sym a ∙ e)
          (λ (a : (holder_at c (opposite s) ≡ 0) × (member (opposite (opposite s)) w.noted ≡ true)). a.0)
          (j.holder (opposite s))

      -- and in the work at hand
      far-still : holder_at c (opposite s) ≡ 0 → holder_at w.state (opposite s) ≡ 0
      far-still e =
          ⊎_elim
          (λ (a : holder_at w.state (opposite s) ≡ holder_at c (opposite s)). a ∙ e)
          (λ (a : (holder_at c (opposite s) ≡ 0) × (member (opposite (opposite s)) w.noted ≡ true)). clash
          (member s w.noted) (rw (opposite-opposite s) at a.1) not_noted)
          (j.holder (opposite s))

      scan-note : growth_at c s + growth_at c (opposite s) ≡ weight_over c s → holder_at w.state (opposite s) ≡ 0
          → virtual_at c (end_at c (opposite s)) ≡ 0 → (d : ℕ)
          → Scanning (note (on_state w (held_side w.state (opposite s) n d)) s) r
      unfolding note on_state
      scan-note full free real d =
          let here : holder_at (held_side w.state (opposite s) n d) (opposite s) ≡ n + 1 = side-held w.state (opposite s) n d inside in
          let there : (t : ℕ) → t ≢ opposite s
          → holder_at (held_side w.state (opposite s) n d) t ≡ holder_at w.state t =
          λ t a. side-other w.state (opposite s) n d t a in
          record {
            keeps = kept_trans j.keeps (kept-held-side w.state (opposite s) n d);
            vertices = side-vertices w.state (opposite s) n d ∙ j.vertices;
            over = j.over;
            holder = λ t.
                by_cases (dec_eq t (opposite s))
                (λ a. inr (rw a (far-free free), rw (a, opposite-opposite s) (member-append-right s w.noted (s ∷ []) (member-head s []))))
                (λ a.
                ⊎_elim
                (λ (b : holder_at w.state t ≡ holder_at c t). inl (there t a ∙ b))
                (λ (b : (holder_at c t ≡ 0) × (member (opposite t) w.noted ≡ true)). inr (b.0, member-append-left (opposite t) w.noted (s ∷ []) b.1))
                (j.holder t));
            noted = λ t m.
                by_cases (dec_eq t s)
                (λ a. rw a (record { listed = listed_here; full = full; free = far-free free; real = real; held = here }))
                (λ a.
                member-append t w.noted (s ∷ []) m
                (λ b.
                let x : Noted w t = j.noted t b in
                let ne : opposite t ≢ opposite s = λ q. a (sym (opposite-opposite t) ∙ ap opposite q ∙ opposite-opposite s) in
                record { listed = x.listed; full = x.full; free = x.free; real = x.real; held = there (opposite t) ne ∙ x.held })
                (λ b. member-cons t s [] b (λ y. absurd (a y)) (λ y. member-nil t y)));
            kept = λ t m.
                let b = j.kept t m in
                let ne : t ≢ s = λ q. clash (member t (s ∷ r)) (rw q (member-head s r)) b.2 in (
                  b.0,
                  by-test (member t (w.noted ++ (s ∷ [])))
                      (λ y. member-append t w.noted (s ∷ []) y (λ x. clash (member t w.noted) x b.1)
                      (λ x. member-cons t s [] x (λ q. absurd (ne q)) (λ q. member-nil t q)))
                      (λ y. y),
                  off_rest t b.2,
                  b.3,
                );
            apart = λ t m. member-append t w.noted (s ∷ []) m (λ a. off_rest t (j.apart t a))
                (λ a. member-cons t s [] a (λ b. rw b (distinct_head s r j.once-rest)) (λ b. member-nil t b));
            sub = λ t m. j.sub t (member-tail t s r m);
            once-rest = distinct_tail s r j.once-rest;
            kept-or-noted = λ t m.
                ⊎_elim
                (λ (a : member t (s ∷ r) ≡ true). member-cons t s r a
                (λ b. inr (inr (rw b (member-append-right s w.noted (s ∷ []) (member-head s []))))) (λ b. inl b))
                (λ (a : (member t w.kept ≡ true) ⊎ (member t w.noted ≡ true)). inr
                (⊎_elim (λ (b : member t w.kept ≡ true). inl b)
                (λ (b : member t w.noted ≡ true). inr (member-append-left t w.noted (s ∷ []) b)) a))
                (j.kept-or-noted t m);
          }

    scan_step : (w : Work) (s : ℕ) (r : List ℕ) → Scanning w (s ∷ r) → Scanning (grow_step n w s) r
    unfolding grow_step reaches
    scan_step w s r j =
        let kp : SameButHolders c w.state = j.keeps in
        let x = eqb (grown_over w.state s) (weight_over w.state s) in
        let y = eqb (holder_at w.state (opposite s)) 0 in
        let z = eqb (virtual_at w.state (end_at w.state (opposite s))) 0 in
        if-cases (λ (u : Work). Scanning u r) (x && y && z)
        (λ e.
        let e₁ = and_left (x && y) z e in
        let f₁ : grown_over w.state s ≡ weight_over w.state s = eqb-true _ _ (and_left x y e₁) in
        let f₂ : growth_at c s + growth_at c (opposite s) ≡ weight_over c s = rw (kp.growth, kp.graph) at f₁ in
        let f₃ : virtual_at w.state (end_at w.state (opposite s)) ≡ 0 = eqb-true _ _ (and_right (x && y) z e) in
        scan-note w s r j f₂ (eqb-true _ _ (and_right x y e₁)) (rw kp.graph at f₃) (grandson_at w.state s))
        (λ e.
        scan-keep w s r j
        (λ f₁ f₂ v.
        let g₁ : holder_at w.state (opposite s) ≡ 0 = far-still w s r j f₁ in
        let g₂ : grown_over w.state s ≡ weight_over w.state s = rw (kp.growth, kp.graph) f₂ in
        let g₃ : virtual_at w.state (end_at w.state (opposite s)) ≡ 0 = rw kp.graph v in
        clash (x && y && z) (both (x && y) z (both x y (eq-eqb _ _ g₂) (eq-eqb _ _ g₁)) (eq-eqb _ _ g₃)) e))

    pub scanned : Scanning (grow_scanned c n) []
    unfolding grow_scanned start_pass
    scanned = fold-keeps-rest (grow_step n) Scanning scan_step (start_pass c (overgrown_of c n)) (boundary_of c n)
        (record {
          keeps = kept_refl c;
          vertices = refl;
          over = refl;
          holder = λ t. inl refl;
          noted = λ s m. member-nil s m;
          kept = λ s m. member-nil s m;
          apart = λ s m. member-nil s m;
          sub = λ s m. m;
          once-rest = once;
          kept-or-noted = λ s m. inl m;
        })
