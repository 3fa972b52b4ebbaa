-- Laws of a shrinking pass in memory: the small changes of its work, one after another, and its loops.
use Rattle.std.specs.Prelude.{ℕ, ◌+◌, ◌*◌, ◌≤◌, ◌<◌, ◌≡◌, refl, ◌≢◌, Bool, ◌||◌, List, [], ◌∷◌, ◌++◌, ℤ, pos, get_or, set, take}
use Rattle.std.proofs.Common.{arith, subst, ◌∙◌, lt-ltb}
use Rattle.std.proofs.Math.Path.{sym, ap}
use Rattle.std.proofs.Math.Bool.{true, false}
use Rattle.std.proofs.Math.Dec.{ltb}
use Rattle.std.proofs.Math.ListN.{length, length-append}
use Rattle.graph.specs.Basic.{fold, all, member, distinct}
use Rattle.graph.specs.State.{State, vertex_count, side_count}
use Rattle.graph.specs.Word.{word_at}
use Rattle.graph.specs.Layout.{state_of}
use Rattle.graph.specs.Form.{Formed}
use Rattle.graph.specs.inner.Form.{Becomes}
use Rattle.graph.specs.laws.Row.{becomes-none, becomes-then}
use Rattle.graph.specs.laws.State.{kept_refl, kept_trans, fold_more, fold_done}
use Rattle.graph.specs.inner.Kept.{SameButHolders}
use Rattle.graph.specs.laws.Members.{all_snoc, distinct_snoc, distinct-length}
use Rattle.pass.specs.inner.Another.{called_if}
use Rattle.pass.proofs.laws.Another.{called-if}
use Rattle.pass.specs.Work.{Work, on_state, keep, keep_once, note, call_another}
use Rattle.pass.proofs.laws.Scratch.{hold-first, hold-third, change-second, second-entry}
use Rattle.shrink_pass.specs.inner.Shrinking.{marks, HasShrinkWork, ShrinkWorking, ShrinkWorked}
use Rattle.shrink_pass.specs.laws.Mark.{marks-length, mark-zero, mark_set, marks-put}
use Rattle.shrink_pass.specs.declared.keep.ShrinkProgress.{ShrinkProgress}

-- what has a work is working
pub busy-of : {b t : List ℤ} {m : ℕ} {p : ShrinkProgress} {w : Work} → Formed b → m ≡ side_count (state_of b)
    → HasShrinkWork b t m p w → ShrinkWorking b t m p
busy-of {b} {t} {m} {p} {w} f e h =
    record {
      formed = f;
      sides = e;
      size = h.scratch.size;
      room = omega (arith, h.kept, h.scratch.keeps);
      notes = omega (arith, h.noted, h.scratch.notes);
      work = w;
      has = h;
    }

-- ---- one after another

pub does-none : {b t : List ℤ} {m : ℕ} {p : ShrinkProgress} → ShrinkWorking b t m p
    → ShrinkWorked b t b t m p p (λ w. w)
does-none {b} q = record
    { block = becomes-none b (state_of b) q.formed refl; keeps = kept_refl (state_of b); working = q; run = λ w h. h }

pub does-then : {b₀ t₀ b₁ t₁ b₂ t₂ : List ℤ} {m : ℕ} {p₀ p₁ p₂ : ShrinkProgress} {f g : Work → Work}
    → ShrinkWorked b₀ t₀ b₁ t₁ m p₀ p₁ f → ShrinkWorked b₁ t₁ b₂ t₂ m p₁ p₂ g
    → ShrinkWorked b₀ t₀ b₂ t₂ m p₀ p₂ (λ w. g (f w))
does-then {f = f} d e =
    record {
      block = becomes-then d.block e.block;
      keeps = kept_trans d.keeps e.keeps;
      working = e.working;
      run = λ w h. e.run (f w) (d.run w h);
    }

-- the same change by another definition
pub does-same : {b₀ t₀ b t : List ℤ} {m : ℕ} {p₀ p : ShrinkProgress} {f : Work → Work} (g : Work → Work)
    → ((w : Work) → HasShrinkWork b₀ t₀ m p₀ w → f w ≡ g w) → ShrinkWorked b₀ t₀ b t m p₀ p f
    → ShrinkWorked b₀ t₀ b t m p₀ p g
does-same {b = b} {t = t} {m = m} {p = p} g e d =
    record {
      block = d.block;
      keeps = d.keeps;
      working = d.working;
      run = λ w h. subst (HasShrinkWork b t m p) (e w h) (d.run w h);
    }

-- ---- loops

module _ {b₀ t₀ b t : List ℤ} {m : ℕ} {p₀ p : ShrinkProgress} (f : Work → ℕ → Work) (l : List ℕ) where
  pub does-more : {b' t' : List ℤ} {p' : ShrinkProgress} (i x : ℕ) → i < length l → x ≡ get_or l i 0
      → ShrinkWorked b₀ t₀ b t m p₀ p (λ w. fold f w (take i l)) → ShrinkWorked b t b' t' m p p' (λ w. f w x)
      → ShrinkWorked b₀ t₀ b' t' m p₀ p' (λ w. fold f w (take (i + 1) l))
  does-more i x h e d s =
      does-same (λ w. fold f w (take (i + 1) l))
      (λ w q. sym (fold_more f w l i 0 h ∙ ap (f (fold f w (take i l))) (sym e))) (does-then d s)

  pub does-all : (i : ℕ) → length l ≤ i → ShrinkWorked b₀ t₀ b t m p₀ p (λ w. fold f w (take i l))
      → ShrinkWorked b₀ t₀ b t m p₀ p (λ w. fold f w l)
  does-all i h d = does-same (λ w. fold f w l) (λ w q. fold_done f w l i h) d

pub does-start : {b t : List ℤ} {m : ℕ} {p : ShrinkProgress} (f : Work → ℕ → Work) (l : List ℕ) → ShrinkWorking b t m p
    → ShrinkWorked b t b t m p p (λ w. fold f w (take 0 l))
unfolding fold
does-start f l q = does-none q

-- ---- small changes

module _ {b t : List ℤ} {m : ℕ} {p : ShrinkProgress} (q : ShrinkWorking b t m p) where
  -- of the state
  pub does-state : {b' : List ℤ} (f : State → State) → ((c : State) → SameButHolders c (f c))
      → Becomes b b' (f (state_of b)) → ShrinkWorked b t b' t m p p (λ w. on_state w (f w.state))
  unfolding on_state
  does-state {b'} f k e =
      record {
        block = rw (← e.state) at e;
        keeps = rw e.state (k (state_of b));
        working = busy-of e.formed (q.sides ∙ sym e.sides) (step q.work q.has);
        run = step;
      }
    where
      step : (w : Work) → HasShrinkWork b t m p w → HasShrinkWork b' t m p (on_state w (f w.state))
      step w h =
          record {
            state = e.state ∙ ap f h.state;
            scratch = rw (e.vertices, e.sides) h.scratch;
            kept = h.kept;
            noted = h.noted;
            another = h.another;
            inside = h.inside;
            once = h.once;
            ends = rw e.vertices h.ends;
          }

  -- of the scratch and of what is counted: the block stays
  still : {t' : List ℤ} {p' : ShrinkProgress} (f : Work → Work)
      → ((w : Work) → HasShrinkWork b t m p w → HasShrinkWork b t' m p' (f w)) → ShrinkWorked b t b t' m p p' f
  still f step =
      record {
        block = becomes-none b (state_of b) q.formed refl;
        keeps = kept_refl (state_of b);
        working = busy-of q.formed q.sides (step q.work q.has);
        run = step;
      }

  -- another pass is called for, if z
  pub does_call : (z : Bool)
      → ShrinkWorked b t b t m p (record { kept = p.kept; noted = p.noted; another = called_if z p.another })
      (λ w. call_another w z)
  unfolding call_another
  does_call z = still (λ w. call_another w z) step
    where
      step : (w : Work) → HasShrinkWork b t m p w
          → HasShrinkWork b t m (record { kept = p.kept; noted = p.noted; another = called_if z p.another })
          (call_another w z)
      step w h =
          record {
            state = h.state;
            scratch = h.scratch;
            kept = h.kept;
            noted = h.noted;
            another = called-if z p.another ∙ ap (λ x. x || z) h.another;
            inside = h.inside;
            once = h.once;
            ends = h.ends;
          }

  -- side s is kept, once: it is kept already, or new
  pub does-keep-old : (s : ℕ) → s < m → word_at t (m + s) ≢ 0 → ShrinkWorked b t b t m p p (λ w. keep_once w s)
  unfolding keep_once
  does-keep-old s l e = still (λ w. keep_once w s) step
    where
      step : (w : Work) → HasShrinkWork b t m p w → HasShrinkWork b t m p (keep_once w s)
      step w h =
          let z : member s w.kept ≡ true =
          mark_set m w.kept s l (λ r. e (second-entry h.scratch s (rw (marks-length m w.kept) l) ∙ r)) in
          rw z h

  pub does-keep-new : (s : ℕ) → s < m → word_at t (m + s) ≡ 0
      → ShrinkWorked b t b (set (set t p.kept (pos s)) (m + s) (pos 1)) m p
      (record { kept = p.kept + 1; noted = p.noted; another = p.another }) (λ w. keep_once w s)
  unfolding keep_once keep
  does-keep-new s l e = still (λ w. keep_once w s) step
    where
      step : (w : Work) → HasShrinkWork b t m p w
          → HasShrinkWork b (set (set t p.kept (pos s)) (m + s) (pos 1)) m
          (record { kept = p.kept + 1; noted = p.noted; another = p.another }) (keep_once w s)
      step w h =
          let size : s < length (marks m w.kept) = rw (marks-length m w.kept) l in
          let z : member s w.kept ≡ false = mark-zero m w.kept s l (sym (second-entry h.scratch s size) ∙ e) in
          let inside : all (λ x. ltb x m) (w.kept ++ (s ∷ [])) ≡ true =
          all_snoc (λ x. ltb x m) w.kept s h.inside (lt-ltb s m l) in
          let once : distinct (w.kept ++ (s ∷ [])) ≡ true = distinct_snoc w.kept s h.once z in
          let more : length (w.kept ++ (s ∷ [])) ≡ length w.kept + 1 = length-append w.kept (s ∷ []) in
          let fits : length (w.kept ++ (s ∷ [])) ≤ m = distinct-length m (w.kept ++ (s ∷ [])) once inside in
          rw z (record {
            state = h.state;
            scratch = rw (h.kept, ← marks-put m w.kept s l)
                (change-second (hold-first h.scratch s (omega arith)) s 1 size);
            kept = omega (arith, h.kept);
            noted = h.noted;
            another = h.another;
            inside = inside;
            once = once;
            ends = h.ends;
          })

  -- vertex v is noted
  pub does-note : (v : ℕ) → v < vertex_count (state_of b) → 2 * m + p.noted < length t
      → ShrinkWorked b t b (set t (2 * m + p.noted) (pos v)) m p
      (record { kept = p.kept; noted = p.noted + 1; another = p.another }) (λ w. note w v)
  unfolding note
  does-note v l k = still (λ w. note w v) step
    where
      step : (w : Work) → HasShrinkWork b t m p w
          → HasShrinkWork b (set t (2 * m + p.noted) (pos v)) m
          (record { kept = p.kept; noted = p.noted + 1; another = p.another }) (note w v)
      step w h = record {
        state = h.state;
        scratch = rw h.noted (hold-third h.scratch v (omega (arith, h.noted, k, q.size)));
        kept = h.kept;
        noted = omega (arith, h.noted, length-append w.noted (v ∷ []));
        another = h.another;
        inside = h.inside;
        once = h.once;
        ends = all_snoc (λ x. ltb x (vertex_count (state_of b))) w.noted v h.ends
            (lt-ltb v (vertex_count (state_of b)) l);
      }
