-- A shrinking pass that passes the test frees only what the node held; and what is noted for release is free in the end.
use Rattle.std.specs.Prelude.{ℕ, ◌+◌, ◌≡◌, ◌≢◌, ◌⊎◌, Bool, false, ◌&&◌, not}
use Rattle.std.proofs.Common.{arith, ◌∙◌, inl, inr, ⊎_elim}
use Rattle.std.proofs.Math.Decide.{ℕ_discrete as dec_eq}
use Rattle.std.proofs.Math.Path.{refl, sym, ap, subst}
use Rattle.std.proofs.Math.Logic.{by_cases}
use Rattle.std.proofs.Math.Bool.{true}
use mathlib.Core.List.{List, [], ◌∷◌}
use Rattle.std.proofs.Math.Dec.{eqb}
use Rattle.std.proofs.Math.ListN.{get_or}
use borrow.Author.Tests.{eqb-true, eqb-false}
use Rattle.graph.specs.Basic.{fold, all, member}
use Rattle.graph.specs.State.{State, Graph, holder_at, vertex_holder_at, sides_at, end_at, growth_at, defect_at, boundary_of, overgrown_of, free_vertex}
use Rattle.graph.specs.laws.State.{if-both, if-cases, and_left, and_right, fold-keeps, fold-keeps-on, kept_refl, kept-sides}
use Rattle.graph.specs.inner.Kept.{SameButHolders}
use Rattle.graph.specs.laws.Members.{by-test, clash, or_cases, all-member, all_snoc, member-head, member-cons, member-nil, member-append-left, member-append-right}
use Rattle.pass.specs.Work.{Work, on_state, keep, keep_once, note, start_pass}
use Rattle.pass.specs.Shrink.{empty_tops, below_tops, drop_side, drop_step, shrink_step, closed, release_side, release_step, dropped, shrink_scanned, shrink_pass}
use Rattle.pass.specs.KeepsSound.{own_side, own_vertex, may_go, side_may_go, pass_own}
use Rattle.pass.proofs.laws.Passes.{keeps-drop-step, keeps-shrink-step, keeps-release-step, dropped_keeps}
use Rattle.pass.proofs.laws.Fits.{Noted, noted-drop-step}
use Rattle.reachable.specs.laws.shrink.FreeSides.{vertex-freed, vertex-other, vertex-sides, freeing, always, drop-freeing, release-freeing, Test, always-test, closed-test, SidesFreed, free-sides, keep-once-noted}

-- ---- what is freed, and that all else stays

-- d is c but for sides and vertices that node n held
pub record OwnFreed (n : ℕ) (c d : State) : Type 0 where
  pub sides : (t : ℕ) → holder_at c t ≢ n + 1 → holder_at d t ≡ holder_at c t
  pub vertices : (v : ℕ) → vertex_holder_at c v ≢ n + 1 → vertex_holder_at d v ≡ vertex_holder_at c v

pub own-refl : (n : ℕ) (c : State) → OwnFreed n c c
own-refl n c = record { sides = λ t h. refl; vertices = λ v h. refl }

pub own-trans : (n : ℕ) (c d e : State) → OwnFreed n c d → OwnFreed n d e → OwnFreed n c e
own-trans n c d e p q = record {
  sides = λ t h. q.sides t (λ x. h (sym (p.sides t h) ∙ x)) ∙ p.sides t h;
  vertices = λ v h. q.vertices v (λ x. h (sym (p.vertices v h) ∙ x)) ∙ p.vertices v h;
}

-- every holder is as it was, or none
record NoneTaken (c d : State) : Type 0 where
  sides : (t : ℕ) → (holder_at d t ≡ holder_at c t) ⊎ (holder_at d t ≡ 0)
  vertices : (v : ℕ) → (vertex_holder_at d v ≡ vertex_holder_at c v) ⊎ (vertex_holder_at d v ≡ 0)

none-refl : (c : State) → NoneTaken c c
none-refl c = record { sides = λ t. inl refl; vertices = λ v. inl refl }

none-trans : (c d e : State) → NoneTaken c d → NoneTaken d e → NoneTaken c e
none-trans c d e p q = record { sides = λ t. after (p.sides t) (q.sides t); vertices = λ v. after (p.vertices v) (q.vertices v) }
  where
    after : {x y z : ℕ} → (y ≡ x) ⊎ (y ≡ 0) → (z ≡ y) ⊎ (z ≡ 0) → (z ≡ x) ⊎ (z ≡ 0)
    after {x} {y} {z} a b =
        ⊎_elim (λ (k : z ≡ y). ⊎_elim (λ (j : y ≡ x). inl (k ∙ j)) (λ (j : y ≡ 0). inr (k ∙ j)) a) (λ (k : z ≡ 0). inr k) b

-- ---- a vertex goes with its sides

module _ (p : State → ℕ → Bool) (ok : Test p) (w : Work) (v : ℕ) where
  parted : Work
  parted = fold (freeing p) (on_state w (free_vertex w.state v)) (sides_at w.state v)

  fr : SidesFreed p (sides_at w.state v) (on_state w (free_vertex w.state v)) parted
  unfolding parted
  fr = free-sides p ok (sides_at w.state v) (on_state w (free_vertex w.state v))

  first-holder : (t : ℕ) → holder_at (on_state w (free_vertex w.state v)).state t ≡ holder_at w.state t
  unfolding on_state
  first-holder t = rw (vertex-sides w.state v)

  vertex-now : (u : ℕ) → vertex_holder_at parted.state u ≡ vertex_holder_at (free_vertex w.state v) u
  unfolding on_state
  vertex-now u = rw fr.vertices

  gone : vertex_holder_at parted.state v ≡ 0
  gone = vertex-now v ∙ vertex-freed w.state v

  vertex-stays : (u : ℕ) → u ≢ v → vertex_holder_at parted.state u ≡ vertex_holder_at w.state u
  vertex-stays u h = vertex-now u ∙ vertex-other w.state v u h

  side-gone : (t : ℕ) → member t (sides_at w.state v) ≡ true → holder_at parted.state t ≡ 0
  side-gone t h = fr.freed t h

  side-stays : (t : ℕ) → member t (sides_at w.state v) ≡ false → holder_at parted.state t ≡ holder_at w.state t
  side-stays t h = fr.other t h ∙ first-holder t

  parted-none : NoneTaken w.state parted.state
  parted-none = record {
    sides = λ t. by-test (member t (sides_at w.state v)) (λ e. inr (side-gone t e)) (λ e. inl (side-stays t e));
    vertices = λ u. by_cases (dec_eq u v) (λ e. inr (rw e gone)) (λ e. inl (vertex-stays u e));
  }

-- ---- the steps

drop-parts : (w : Work) (v : ℕ)
    → fold drop_side (on_state w (free_vertex w.state v)) (sides_at w.state v) ≡ parted always always-test w v
unfolding parted
drop-parts w v = rw drop-freeing

release-parts : (n : ℕ) (w : Work) (v : ℕ)
    → fold (release_side n) (on_state w (free_vertex w.state v)) (sides_at w.state v) ≡ parted (closed n) (closed-test n) w v
unfolding parted
release-parts n w v = rw (release-freeing n)

-- so far the pass has freed only what node n held
record FreesOwn (n : ℕ) (c : State) (w : Work) : Type 0 where
  keeps : SameButHolders c w.state
  none : NoneTaken c w.state
  own : OwnFreed n c w.state

module _ (n : ℕ) (c : State) (w : Work) (i : FreesOwn n c w) (v : ℕ) where
  -- an own vertex goes
  parted-own : (p : State → ℕ → Bool) (ok : Test p) → own_vertex n c v ≡ true → SameButHolders c (parted p ok w v).state
      → FreesOwn n c (parted p ok w v)
  unfolding own_vertex own_side
  parted-own p ok h k =
      let here : vertex_holder_at c v ≡ n + 1 = eqb-true _ _ (and_left (eqb (vertex_holder_at c v) (n + 1)) (all (own_side n c) (sides_at c v)) h) in
      let round : all (own_side n c) (sides_at c v) ≡ true = and_right (eqb (vertex_holder_at c v) (n + 1)) (all (own_side n c) (sides_at c v)) h in
      let at-v : sides_at w.state v ≡ sides_at c v = kept-sides i.keeps v in
      record {
        keeps = k;
        none = none-trans c w.state (parted p ok w v).state i.none (parted-none p ok w v);
        own = record {
          sides = λ t ne.
              by-test (member t (sides_at w.state v))
              (λ e.
              side-gone p ok w v t e
              ∙ or_cases (eqb (holder_at c t) 0) (eqb (holder_at c t) (n + 1))
              (all-member (own_side n c) (sides_at c v) t round (ap (member t) (sym at-v) ∙ e))
              (λ z. sym (eqb-true _ _ z)) (λ z. absurd (ne (eqb-true _ _ z))))
              (λ e. side-stays p ok w v t e ∙ i.own.sides t ne);
          vertices = λ u ne. by_cases (dec_eq u v) (λ e. absurd (ne (rw e here))) (λ e. vertex-stays p ok w v u e ∙ i.own.vertices u ne);
        };
      }

  -- a vertex that was free is free
  free-still : vertex_holder_at c v ≡ 0 → vertex_holder_at w.state v ≡ 0
  free-still e =
      ⊎_elim (λ (a : vertex_holder_at w.state v ≡ vertex_holder_at c v). a ∙ e) (λ (a : vertex_holder_at w.state v ≡ 0). a)
      (i.none.vertices v)

  own_of : may_go n c v ≡ true → vertex_holder_at w.state v ≢ 0 → own_vertex n c v ≡ true
  unfolding may_go
  own_of h held = or_cases (eqb (vertex_holder_at c v) 0) (own_vertex n c v) h (λ z. absurd (held (free-still (eqb-true _ _ z)))) (λ z. z)

  drop_own : may_go n c v ≡ true → FreesOwn n c (drop_step n w v)
  drop_own h =
      let k : SameButHolders c (drop_step n w v).state = keeps-drop-step c n w v i.keeps in
      by-test (eqb (vertex_holder_at w.state v) (n + 1))
      (λ e.
      let at : vertex_holder_at w.state v ≡ n + 1 = eqb-true _ _ e in
      let step : drop_step n w v ≡ parted always always-test w v = unfold drop_step in (rw e (drop-parts w v)) in
      subst (FreesOwn n c) (sym step)
      (parted-own always always-test (own_of h (λ z. omega arith)) (subst (λ (x : Work). SameButHolders c x.state) step k)))
      (λ e. let step : drop_step n w v ≡ w = unfold drop_step in (rw e) in subst (FreesOwn n c) (sym step) i)

  release-own : may_go n c v ≡ true → FreesOwn n c (release_step n w v)
  release-own h =
      let k : SameButHolders c (release_step n w v).state = keeps-release-step c n w v i.keeps in
      by-test (eqb (vertex_holder_at w.state v) 0)
      (λ e. let step : release_step n w v ≡ w = unfold release_step in (rw e) in subst (FreesOwn n c) (sym step) i)
      (λ e.
      let step : release_step n w v ≡ parted (closed n) (closed-test n) w v = unfold release_step in (rw e (release-parts n w v)) in
      subst (FreesOwn n c) (sym step)
      (parted-own (closed n) (closed-test n) (own_of h (eqb-false _ _ e)) (subst (λ (x : Work). SameButHolders c x.state) step k)))

-- ---- the scan of the boundary frees nothing, and notes vertices that may go

module _ (n : ℕ) (c : State) where
  record ScannedOwn (w : Work) : Type 0 where
    frees : FreesOwn n c w
    noted : all (may_go n c) w.noted ≡ true

  -- what a side says is what it said
  emptied-same : (w : Work) (s : ℕ) → SameButHolders c w.state
      → (eqb (growth_at w.state s) 0 && eqb (defect_at w.state (end_at w.state s)) 0) ≡ (eqb (growth_at c s) 0 && eqb (defect_at c (end_at c s)) 0)
  emptied-same w s k = rw (k.growth, k.graph, k.defect)

  noted_one : (w : Work) (v : ℕ) → may_go n c v ≡ true → ScannedOwn w → ScannedOwn (note w v)
  unfolding note
  noted_one w v go i =
      record {
        frees = record { keeps = i.frees.keeps; none = i.frees.none; own = i.frees.own };
        noted = all_snoc (may_go n c) w.noted v i.noted go;
      }

  kept-one : (w : Work) (s : ℕ) → ScannedOwn w → ScannedOwn (keep_once w s)
  unfolding keep_once keep
  kept-one w s i =
      if-both ScannedOwn (member s w.kept) i
      (record { frees = record { keeps = i.frees.keeps; none = i.frees.none; own = i.frees.own }; noted = i.noted })

  scanned-step : (w : Work) (s : ℕ) → side_may_go n c s ≡ true → ScannedOwn w → ScannedOwn (shrink_step w s)
  unfolding side_may_go shrink_step
  scanned-step w s h i =
      let k : SameButHolders c w.state = i.frees.keeps in
      let end : end_at w.state s ≡ end_at c s = rw k.graph in
      if-cases ScannedOwn (eqb (growth_at w.state s) 0 && eqb (defect_at w.state (end_at w.state s)) 0)
      (λ e.
      let e' : (eqb (growth_at c s) 0 && eqb (defect_at c (end_at c s)) 0) ≡ true = sym (emptied-same w s k) ∙ e in
      rw end
      (noted_one w (end_at c s)
      (or_cases (not (eqb (growth_at c s) 0 && eqb (defect_at c (end_at c s)) 0)) (may_go n c (end_at c s)) h
      (λ z. clash (not (eqb (growth_at c s) 0 && eqb (defect_at c (end_at c s)) 0)) z (rw e')) (λ z. z))
      i))
      (λ e. kept-one w s i)

-- ---- the pass

module _ (c : State) (n : ℕ) (h : pass_own c n ≡ true) where
  tops : all (may_go n c) (empty_tops (overgrown_of c n)) ≡ true
  tops = and_left (all (may_go n c) (empty_tops (overgrown_of c n))) (all (side_may_go n c) (boundary_of c n)) (unfold pass_own in h)

  behind : all (side_may_go n c) (boundary_of c n) ≡ true
  behind = and_right (all (may_go n c) (empty_tops (overgrown_of c n))) (all (side_may_go n c) (boundary_of c n)) (unfold pass_own in h)

  dropped-own : FreesOwn n c (dropped c n)
  unfolding dropped start_pass
  dropped-own =
      fold-keeps-on (drop_step n) (may_go n c) (FreesOwn n c) (λ w v t i. drop_own n c w i v t)
      (start_pass c (below_tops (overgrown_of c n))) (empty_tops (overgrown_of c n)) tops
      (record { keeps = kept_refl c; none = none-refl c; own = own-refl n c })

  none-noted : (dropped c n).noted ≡ []
  unfolding dropped start_pass
  none-noted = fold-keeps (drop_step n) (Noted []) (noted-drop-step n []) (start_pass c (below_tops (overgrown_of c n))) (empty_tops (overgrown_of c n)) refl

  scanned : ScannedOwn n c (shrink_scanned c n)
  unfolding shrink_scanned
  scanned =
      fold-keeps-on shrink_step (side_may_go n c) (ScannedOwn n c) (scanned-step n c) (dropped c n) (boundary_of c n) behind
      (record { frees = dropped-own; noted = ap (all (may_go n c)) none-noted ∙ (unfold all in refl) })

  released : FreesOwn n c (shrink_pass c n)
  unfolding shrink_pass
  released =
      fold-keeps-on (release_step n) (may_go n c) (FreesOwn n c) (λ w v t i. release-own n c w i v t) (shrink_scanned c n)
      (shrink_scanned c n).noted scanned.noted scanned.frees

  -- only sides and vertices that the node held have another holder after the pass
  pub pass-own : OwnFreed n c (shrink_pass c n).state
  pass-own = released.own

-- ---- what is noted is free in the end

module _ (n : ℕ) where
  release-none : (w : Work) (v : ℕ) → NoneTaken w.state (release_step n w v).state
  unfolding release_step
  release-none w v =
      if-both (λ (z : Work). NoneTaken w.state z.state) (eqb (vertex_holder_at w.state v) 0) (none-refl w.state)
      (rw (release-parts n w v) (parted-none (closed n) (closed-test n) w v))

  release-gone : (w : Work) (v : ℕ) → vertex_holder_at (release_step n w v).state v ≡ 0
  unfolding release_step
  release-gone w v =
      if-cases (λ (z : Work). vertex_holder_at z.state v ≡ 0) (eqb (vertex_holder_at w.state v) 0) (λ e. eqb-true _ _ e)
      (λ e. rw (release-parts n w v) (gone (closed n) (closed-test n) w v))

  stays-free : (w : Work) (l : List ℕ) (v : ℕ) → vertex_holder_at w.state v ≡ 0 → vertex_holder_at (fold (release_step n) w l).state v ≡ 0
  stays-free w l v e =
      fold-keeps (release_step n) (λ (z : Work). vertex_holder_at z.state v ≡ 0)
      (λ z u q.
      ⊎_elim (λ (a : vertex_holder_at (release_step n z u).state v ≡ vertex_holder_at z.state v). a ∙ q)
      (λ (a : vertex_holder_at (release_step n z u).state v ≡ 0). a) ((release-none z u).vertices v))
      w l e

  all-free : (w : Work) (l : List ℕ) (v : ℕ) → member v l ≡ true → vertex_holder_at (fold (release_step n) w l).state v ≡ 0
  unfolding fold
  all-free w [] v m = member-nil v m
  all-free w (x ∷ l) v m =
      member-cons v x l m (λ e. rw e (stays-free (release_step n w x) l x (release-gone w x))) (λ e. all-free (release_step n w x) l v e)

  pub noted-free : (c : State) (v : ℕ) → member v (shrink_scanned c n).noted ≡ true → vertex_holder_at (shrink_pass c n).state v ≡ 0
  unfolding shrink_pass
  noted-free c v m = all-free (shrink_scanned c n) (shrink_scanned c n).noted v m

-- every boundary side of growth 0 at no defect has its vertex noted
module _ (c : State) where
  note-still : (w : Work) (s v : ℕ) → member v w.noted ≡ true → member v (shrink_step w s).noted ≡ true
  unfolding shrink_step note
  note-still w s v m =
      if-both (λ (z : Work). member v z.noted ≡ true) (eqb (growth_at w.state s) 0 && eqb (defect_at w.state (end_at w.state s)) 0)
      (member-append-left v w.noted (end_at w.state s ∷ []) m) (rw (keep-once-noted w s) m)

  note-here : (w : Work) (s : ℕ) → SameButHolders c w.state → (eqb (growth_at c s) 0 && eqb (defect_at c (end_at c s)) 0) ≡ true
      → member (end_at c s) (shrink_step w s).noted ≡ true
  unfolding shrink_step note
  note-here w s k e =
      let end : end_at w.state s ≡ end_at c s = ap (λ (g : Graph). get_or g.end s 0) k.graph in
      rw (emptied-same 0 c w s k ∙ e, end) (member-append-right (end_at c s) w.noted (end_at c s ∷ []) (member-head (end_at c s) []))

  scan-notes : (w : Work) (l : List ℕ) (s : ℕ) → SameButHolders c w.state → member s l ≡ true
      → (eqb (growth_at c s) 0 && eqb (defect_at c (end_at c s)) 0) ≡ true → member (end_at c s) (fold shrink_step w l).noted ≡ true
  unfolding fold
  scan-notes w [] s k m e = member-nil s m
  scan-notes w (x ∷ l) s k m e =
      member-cons s x l m
      (λ q.
      fold-keeps shrink_step (λ (z : Work). member (end_at c s) z.noted ≡ true) (λ z t i. note-still z t (end_at c s) i) (shrink_step w x) l
      (rw (← q) (note-here w s k e)))
      (λ q. scan-notes (shrink_step w x) l s (keeps-shrink-step c w x k) q e)

  pub vertex-noted : (n s : ℕ) → member s (boundary_of c n) ≡ true → (eqb (growth_at c s) 0 && eqb (defect_at c (end_at c s)) 0) ≡ true
      → member (end_at c s) (shrink_scanned c n).noted ≡ true
  unfolding shrink_scanned
  vertex-noted n s m e = scan-notes (dropped c n) (boundary_of c n) s (dropped_keeps c n) m e
