-- Noting each vertex once: which entries are left of a noted list, and what the loops over it make of the work.
use Prim.Native.Nat.{ℕ, ◌+◌}
use Rattle.std.proofs.Math.Decide.{ℕ_discrete as dec_eq}
use Rattle.std.specs.Prelude.{◌≡◌, Bool, true, false, eqb, length, get_or, if◌then◌else◌}
use Rattle.std.proofs.Math.Path.{refl, ap}
use Rattle.std.proofs.Common.{sym, ◌∙◌, set-set}
use mathlib.Core.List.{List, [], ◌∷◌, ◌++◌}
use Rattle.std.proofs.Math.ListN.{set}
use Rattle.std.proofs.Math.Seq.{set_comm}
use Rattle.graph.specs.Basic.{fold, member}
use Rattle.graph.specs.State.{Graph, opposite, holder_at, sides_at, vertex_holder_at, with_vertices, with_sides, with_holder, with_grandson, with_vertex_holder, with_vertex_grandson, held_side, free_side, held_vertex, free_vertex}
use Rattle.graph.specs.laws.Members.{by-test}
use Rattle.pass.specs.Work.{Work, on_state, keep, keep_once, note, push, call_another, finish_pass}
use Rattle.pass.specs.Grow.{take_side, take_vertex}
use Rattle.pass.specs.Shrink.{closed, release_side}
use Rattle.pass.specs.inner.Once.{note_with, release_once, Alike}

-- ---- what is noted again is left out

-- of noted entries with vertices `at`: those whose vertex's holder says that it `goes` are noted, and the vertex gets the holder x
module _ (at : ℕ → ℕ) (goes : ℕ → Bool) (x : ℕ) where
  -- the holders after that
  unfoldable pub holders_after : List ℕ → List ℕ → List ℕ
  holders_after h [] = h
  holders_after h (s ∷ l) = if goes (get_or h (at s) 0) then holders_after (set h (at s) x) l else holders_after h l

  -- the entries that are noted
  unfoldable pub first_noted : List ℕ → List ℕ → List ℕ
  first_noted h [] = []
  first_noted h (s ∷ l) = if goes (get_or h (at s) 0) then s ∷ first_noted (set h (at s) x) l else first_noted h l

  -- the first entry goes, or not
  module _ (h : List ℕ) (s : ℕ) (l : List ℕ) where
    after-goes : goes (get_or h (at s) 0) ≡ true → holders_after h (s ∷ l) ≡ holders_after (set h (at s) x) l
    unfolding holders_after
    after-goes e = rw e

    after-not : goes (get_or h (at s) 0) ≡ false → holders_after h (s ∷ l) ≡ holders_after h l
    unfolding holders_after
    after-not e = rw e

    firsts-goes : goes (get_or h (at s) 0) ≡ true → first_noted h (s ∷ l) ≡ s ∷ first_noted (set h (at s) x) l
    unfolding first_noted
    firsts-goes e = rw e

    firsts-not : goes (get_or h (at s) 0) ≡ false → first_noted h (s ∷ l) ≡ first_noted h l
    unfolding first_noted
    firsts-not e = rw e

  -- one entry more
  after-snoc : (h l : List ℕ) (s : ℕ) → holders_after h (l ++ (s ∷ []))
      ≡ (if goes (get_or (holders_after h l) (at s) 0) then set (holders_after h l) (at s) x else holders_after h l)
  unfolding holders_after
  after-snoc h [] s = refl
  after-snoc h (r ∷ l) s =
      let yes : holders_after (set h (at r) x) (l ++ (s ∷ []))
      ≡ (if goes (get_or (holders_after (set h (at r) x) l) (at s) 0) then set (holders_after (set h (at r) x) l) (at s) x else holders_after (set h (at r) x) l) =
      after-snoc (set h (at r) x) l s in
      let no : holders_after h (l ++ (s ∷ [])) ≡ (if goes (get_or (holders_after h l) (at s) 0) then set (holders_after h l) (at s) x else holders_after h l) = after-snoc h l s in
      by-test (goes (get_or h (at r) 0)) (λ e. rw e yes) (λ e. rw e no)

  firsts-snoc : (h l : List ℕ) (s : ℕ) → first_noted h (l ++ (s ∷ []))
      ≡ (if goes (get_or (holders_after h l) (at s) 0) then first_noted h l ++ (s ∷ []) else first_noted h l)
  unfolding holders_after first_noted
  firsts-snoc h [] s = refl
  firsts-snoc h (r ∷ l) s =
      let h₁ : List ℕ = set h (at r) x in
      let yes : first_noted h₁ (l ++ (s ∷ [])) ≡ (if goes (get_or (holders_after h₁ l) (at s) 0) then first_noted h₁ l ++ (s ∷ []) else first_noted h₁ l) = firsts-snoc h₁ l s in
      let no : first_noted h (l ++ (s ∷ [])) ≡ (if goes (get_or (holders_after h l) (at s) 0) then first_noted h l ++ (s ∷ []) else first_noted h l) = firsts-snoc h l s in
      by-test (goes (get_or h (at r) 0))
      (λ e. rw e (by-test (goes (get_or (holders_after h₁ l) (at s) 0)) (λ q. rw q (ap (λ z. r ∷ z) (rw q at yes))) (λ q. rw q (ap (λ z. r ∷ z) (rw q at yes)))))
      (λ e. rw e no)

  -- a holder x stays: written once more, it is as it was
  pub after-stays : (h l : List ℕ) (v : ℕ) → set h v x ≡ h → set (holders_after h l) v x ≡ holders_after h l
  unfolding holders_after
  after-stays h [] v e = e
  after-stays h (s ∷ l) v e =
      let no : set (holders_after h l) v x ≡ holders_after h l = after-stays h l v e in
      let yes : set (holders_after (set h (at s) x) l) v x ≡ holders_after (set h (at s) x) l = after-stays (set h (at s) x) l v (set-stays h (at s) v e) in
      by-test (goes (get_or h (at s) 0)) (λ q. rw q yes) (λ q. rw q no)
    where
      set-stays : (h : List ℕ) (i v : ℕ) → set h v x ≡ h → set (set h i x) v x ≡ set h i x
      set-stays h i v e =
          elim (dec_eq i v) [
            | yes q ↦ rw q (set-set h v x x)
            | no q ↦ set_comm h i v x x q ∙ ap (λ r. set r i x) e
          ]

-- ---- a work with other holders of vertices and other noted entries

abbrev pub patched : List ℕ → List ℕ → Work → Work
patched h l w = record {
  state = with_vertices w.state
      (record { defect = w.state.vertices.defect; vertex_holder = h; vertex_grandson = w.state.vertices.vertex_grandson });
  kept = w.kept;
  noted = l;
  over = w.over;
  another = w.another;
}

module _ (h l : List ℕ) where
  -- a loop that neither reads nor writes them
  pub fold-patched : (f : Work → ℕ → Work) → ((w : Work) (s : ℕ) → f (patched h l w) s ≡ patched h l (f w s))
      → (w : Work) (r : List ℕ) → fold f (patched h l w) r ≡ patched h l (fold f w r)
  unfolding fold
  fold-patched f step w [] = refl
  fold-patched f step w (s ∷ r) = rw (step w s) (fold-patched f step (f w s) r)

  take-side-patched : (n g : ℕ) (w : Work) (t : ℕ) → take_side n g (patched h l w) t ≡ patched h l (take_side n g w t)
  unfolding take_side call_another keep on_state held_side with_grandson with_holder with_sides with_vertices
  take-side-patched n g w t = by-test (eqb (holder_at w.state t) 0) (λ e. rw e) (λ e. rw e)

  pub take-vertex-patched : (n g : ℕ) (w : Work) (v : ℕ) → set h v (n + 1) ≡ h → take_vertex n g (patched h l w) v ≡ patched h l (take_vertex n g w v)
  unfolding take_vertex push on_state held_vertex with_vertex_grandson with_vertex_holder with_vertices
  take-vertex-patched n g w v e =
      let first : Work = on_state w (held_vertex w.state v n g) in
      let sided : fold (take_side n g) (patched h l first) (sides_at w.state v)
      ≡ patched h l (fold (take_side n g) first (sides_at w.state v)) =
      fold-patched (take_side n g) (take-side-patched n g) first (sides_at w.state v) in
      rw (e, sided)
      (by-test (eqb (length (fold (take_side n g) first (sides_at w.state v)).kept) (length w.kept)) (λ q. rw q) (λ q. rw q))

  pub keep-once-patched : (w : Work) (s : ℕ) → keep_once (patched h l w) s ≡ patched h l (keep_once w s)
  unfolding keep_once keep
  keep-once-patched w s = by-test (member s w.kept) (λ e. rw e) (λ e. rw e)

  release-side-patched : (n : ℕ) (w : Work) (t : ℕ) → release_side n (patched h l w) t ≡ patched h l (release_side n w t)
  unfolding release_side call_another on_state free_side with_grandson with_holder with_sides with_vertices closed
  release-side-patched n w t =
      by-test (closed n w.state t)
      (λ e. rw (e, keep-once-patched (on_state w (free_side w.state t)) (opposite t)))
      (λ e. rw e)

  pub release-patched : (n : ℕ) (w : Work) (v : ℕ) → set h v 0 ≡ h → release_once n (patched h l w) v ≡ patched h l (release_once n w v)
  unfolding release_once on_state free_vertex with_vertex_grandson with_vertex_holder with_vertices
  release-patched n w v e =
      rw e (fold-patched (release_side n) (release-side-patched n) (on_state w (free_vertex w.state v)) (sides_at w.state v))

-- ---- what was noted

fold-cons : (f : Work → ℕ → Work) (w : Work) (s : ℕ) (l : List ℕ) → fold f w (s ∷ l) ≡ fold f (f w s) l
unfolding fold
fold-cons f w s l = refl

-- `step` does `go` with an entry whose vertex goes, and nothing with another; `go` writes the holder x of that vertex alone, and reads no holder of a vertex
module _ (g : Graph) (at : ℕ → ℕ) (goes : ℕ → Bool) (x : ℕ) (go step : Work → ℕ → Work)
    (does : (w : Work) (s : ℕ) → w.state.graph ≡ g → step w s ≡ (if goes (vertex_holder_at w.state (at s)) then go w s else w))
    (graph : (w : Work) (s : ℕ) → w.state.graph ≡ g → (go w s).state.graph ≡ g)
    (holder : (w : Work) (s : ℕ) → w.state.graph ≡ g → (go w s).state.vertices.vertex_holder ≡ set w.state.vertices.vertex_holder (at s) x)
    (alone : (h l : List ℕ) (w : Work) (s : ℕ) → w.state.graph ≡ g → set h (at s) x ≡ h → go (patched h l w) s ≡ patched h l (go w s)) where
  -- with the holders written beforehand, `go` with the first entries is `step` with all
  pub noted-once : (l h r : List ℕ) (w : Work) → w.state.graph ≡ g → w.state.vertices.vertex_holder ≡ h
      → (fold go (patched (holders_after at goes x h r) l w) (first_noted at goes x h r) ≡ patched (holders_after at goes x h r) l (fold step w r))
      × ((fold step w r).state.vertices.vertex_holder ≡ holders_after at goes x h r)
  noted-once l h [] w k e = unfold fold holders_after first_noted in (refl, e)
  noted-once l h (s ∷ r) w k e =
      let h₁ : List ℕ = set h (at s) x in
      let again = noted-once l h₁ r (go w s) (graph w s k) (holder w s k ∙ ap (λ y. set y (at s) x) e) in
      let same = alone (holders_after at goes x h₁ r) l w s k (after-stays at goes x h₁ r (at s) (set-set h (at s) x x)) in
      let other = noted-once l h r w k e in
      by-test (goes (get_or h (at s) 0))
      (λ q. let d : step w s ≡ go w s = does w s k ∙ rw (e, q) in
      rw (after-goes at goes x h s r q, firsts-goes at goes x h s r q, fold-cons go _ s _, fold-cons step w s r, d, same) again)
      (λ q. let d : step w s ≡ w = does w s k ∙ rw (e, q) in
      rw (after-not at goes x h s r q, firsts-not at goes x h s r q, fold-cons step w s r, d) other)

-- ---- noting

module _ (at : ℕ → ℕ) (goes : ℕ → Bool) (x : ℕ) (h : List ℕ) where
  -- the work that notes once, beside the work w that notes again and again
  abbrev pub noted_once : Work → Work
  noted_once w = patched (holders_after at goes x h w.noted) (first_noted at goes x h w.noted) w

  pub note-once : (w : Work) (s : ℕ) → (if goes (get_or (holders_after at goes x h w.noted) (at s) 0) then note_with (at s) x (noted_once w) s else noted_once w) ≡ noted_once (note w s)
  unfolding note_with note on_state with_vertex_holder with_vertices
  note-once w s =
      by-test (goes (get_or (holders_after at goes x h w.noted) (at s) 0))
      (λ e. rw (after-snoc at goes x h w.noted s, firsts-snoc at goes x h w.noted s, e))
      (λ e. rw (after-snoc at goes x h w.noted s, firsts-snoc at goes x h w.noted s, e))

-- where nothing is noted yet
pub once-start : (at : ℕ → ℕ) (goes : ℕ → Bool) (x : ℕ) (w : Work) → w.noted ≡ [] → noted_once at goes x w.state.vertices.vertex_holder w ≡ w
unfolding holders_after first_noted with_vertices
once-start at goes x w e = rw e

pub fold-beside : (F G : Work → ℕ → Work) (R : Work → Work) (P : Work → Type 0) → ((w : Work) (s : ℕ) → P w → P (F w s))
    → ((w : Work) (s : ℕ) → P w → G (R w) s ≡ R (F w s)) → (w : Work) (l : List ℕ) → P w → fold G (R w) l ≡ R (fold F w l)
unfolding fold
fold-beside F G R P keeps same w [] p = refl
fold-beside F G R P keeps same w (s ∷ l) p = rw (same w s p) (fold-beside F G R P keeps same (F w s) l (keeps w s p))

-- a work whose holders are written as they are, is as it was
pub alike-patched : {u : Work} (w : Work) (h l : List ℕ) → u ≡ patched h l w → w.state.vertices.vertex_holder ≡ h → Alike u w
unfolding with_vertices
alike-patched w h l e k = record {
  state = ap (λ (y : Work). y.state) e
      ∙ ap
      (λ (y : List ℕ).
      with_vertices w.state (record { defect = w.state.vertices.defect; vertex_holder = y; vertex_grandson = w.state.vertices.vertex_grandson }))
      (sym k);
  kept = ap (λ (y : Work). y.kept) e;
  over = ap (λ (y : Work). y.over) e;
  another = ap (λ (y : Work). y.another) e;
}

-- works that are alike finish alike
pub finish-alike : {u w : Work} (n : ℕ) → Alike u w → finish_pass u n ≡ finish_pass w n
unfolding finish_pass
finish-alike n a = rw (a.state, a.kept, a.over)
