-- Laws of the work in memory: the small changes, one after another.
use Rattle.std.specs.Prelude.{ℕ, ◌+◌, ◌*◌, ◌/◌, ◌%◌, ◌≤◌, ◌<◌, ◌≡◌, Bool, pos, length, take}
use native.Mathlib.Omega.{arith}
use Rattle.std.proofs.Math.Path.{refl, ap, subst}
use Rattle.std.proofs.Common.{sym, ◌∙◌}
use mathlib.Core.List.{List, [], ◌∷◌, ◌++◌, reverse-append}
use Rattle.std.proofs.Math.IntN.{ℤ}
use Rattle.std.proofs.Math.ListN.{set, get_or, length-append}
use Rattle.graph.specs.State.{State, Nodes, overgrown_of}
use Rattle.graph.specs.Word.{numbers_at}
use Rattle.graph.specs.Layout.{overgrown_from, stack_from, state_of}
use Rattle.graph.specs.inner.Form.{Becomes}
use Rattle.graph.specs.laws.Row.{becomes-none, becomes-then}
use Rattle.graph.specs.laws.Number.{numbers-push, numbers-still-above, numbers-still-below, numbers-length}
use Rattle.graph.specs.laws.List.{length-stack}
use Rattle.graph.specs.Basic.{fold}
use Rattle.graph.specs.laws.State.{kept_refl, kept_trans, fold_more, fold_done}
use Rattle.graph.specs.inner.Kept.{SameButHolders}
use Rattle.pass.specs.Work.{Work, on_state, keep, note, push, call_another}
use Rattle.pass.specs.inner.Another.{called, called_if}
use Rattle.pass.proofs.laws.Another.{called-if}
use Rattle.pass.specs.inner.Scratch.{note_limit, ScratchHolds}
use Rattle.pass.proofs.laws.Scratch.{hold-first, hold-second, hold-third}
use Rattle.pass.proofs.laws.Passes.{Keeps}
use Rattle.grow_pass.specs.inner.Growing.{grow_work_in, GrowWorking, GrowWorked}
use Rattle.grow_pass.specs.declared.take.GrowProgress.{GrowProgress}

-- a vertex on the stack, with amount 0
pub stack_push : (l : List ℕ) (v : ℕ) → v < 1024 → stack_from (l ++ (v ∷ [])) ≡ record { vertex = v; amount = 0 } ∷ stack_from l
unfolding stack_from overgrown_from
stack_push l v h =
    let x : v % 1024 ≡ v = omega arith in
    let y : v / 1024 ≡ 0 = omega arith in
    rw (reverse-append l (v ∷ []), x, y)

-- one change after another
pub worked_then : {b₀ b₁ b₂ t₁ t₂ : List ℤ} {n m : ℕ} {p₁ p₂ : GrowProgress} {w : Work} (f : Work → Work)
    → GrowWorked b₀ b₁ t₁ n m p₁ w → GrowWorked b₁ b₂ t₂ n m p₂ (f (grow_work_in b₁ t₁ n m p₁))
    → GrowWorked b₀ b₂ t₂ n m p₂ (f w)
worked_then {b₁ = b₁} {b₂} {t₂ = t₂} {n} {m} {p₂ = p₂} f x y =
    let z = subst (λ w. GrowWorked b₁ b₂ t₂ n m p₂ (f w)) x.work y in
    record { block = becomes-then x.block z.block; working = z.working; work = z.work }

module _ {b t : List ℤ} {n m : ℕ} {p : GrowProgress} (q : GrowWorking b t n m p) where
  -- how long the sections are
  pub kept-length : length (numbers_at t 0 p.kept) ≡ p.kept
  kept-length = numbers-length t 0 p.kept (omega (arith, q.kept, q.holding.size))

  pub noted-length : length (numbers_at t (2 * m) p.noted) ≡ p.noted
  noted-length = numbers-length t (2 * m) p.noted (omega (arith, q.noted, q.holding.size))

  pub pushed-length : length (numbers_at t m p.pushed) ≡ p.pushed
  pushed-length = numbers-length t m p.pushed (omega (arith, q.pushed, q.holding.size))

  -- how long the stack is
  pub over-length : length (grow_work_in b t n m p).over ≡ p.pushed + length (overgrown_of (state_of b) n)
  unfolding grow_work_in
  over-length =
      length-append (stack_from (numbers_at t m p.pushed)) (overgrown_of (state_of b) n)
      ∙ omega (arith, length-stack (numbers_at t m p.pushed), pushed-length)

  -- side s is kept
  pub work-keep : (s : ℕ) → p.kept < m
      → GrowWorked b b (set t p.kept (pos s)) n m
      (record { kept = p.kept + 1; noted = p.noted; pushed = p.pushed; another = p.another })
      (keep (grow_work_in b t n m p) s)
  unfolding grow_work_in keep
  work-keep s h =
      let l = q.holding.size in
      let z : 0 + p.kept ≡ p.kept = omega arith in
      let x : numbers_at (set t p.kept (pos s)) 0 (p.kept + 1) ≡ numbers_at t 0 p.kept ++ (s ∷ []) =
      rw z at (numbers-push t 0 p.kept s (omega arith)) in
      let y : numbers_at (set t p.kept (pos s)) m p.pushed ≡ numbers_at t m p.pushed = numbers-still-below t m p.pushed p.kept (pos s) h in
      let o : numbers_at (set t p.kept (pos s)) (2 * m) p.noted ≡ numbers_at t (2 * m) p.noted =
      numbers-still-below t (2 * m) p.noted p.kept (pos s) (omega arith) in
      let r : ScratchHolds (set t p.kept (pos s)) m (note_limit (state_of b)) (numbers_at t 0 p.kept ++ (s ∷ [])) (numbers_at t m p.pushed)
      (numbers_at t (2 * m) p.noted) =
      rw kept-length at (hold-first q.holding s (rw kept-length h)) in
      record {
        block = becomes-none b (state_of b) q.formed refl;
        working =
            record {
              formed = q.formed;
              node = q.node;
              sides = q.sides;
              kept = omega arith;
              noted = q.noted;
              pushed = q.pushed;
              holding = rw (x, y, o) r;
            };
        work = rw (x, y, o);
      }

  -- x is noted
  pub work-note : (s : ℕ) → p.noted < note_limit (state_of b)
      → GrowWorked b b (set t (2 * m + p.noted) (pos s)) n m
      (record { kept = p.kept; noted = p.noted + 1; pushed = p.pushed; another = p.another })
      (note (grow_work_in b t n m p) s)
  unfolding grow_work_in note
  work-note s h =
      let l = q.holding.size in
      let k = q.kept in
      let j = q.pushed in
      let t' : List ℤ = set t (2 * m + p.noted) (pos s) in
      let x : numbers_at t' 0 p.kept ≡ numbers_at t 0 p.kept = numbers-still-above t 0 p.kept (2 * m + p.noted) (pos s) (omega arith) in
      let y : numbers_at t' m p.pushed ≡ numbers_at t m p.pushed = numbers-still-above t m p.pushed (2 * m + p.noted) (pos s) (omega arith) in
      let o : numbers_at t' (2 * m) (p.noted + 1) ≡ numbers_at t (2 * m) p.noted ++ (s ∷ []) = numbers-push t (2 * m) p.noted s (omega arith) in
      let r : ScratchHolds t' m (note_limit (state_of b)) (numbers_at t 0 p.kept) (numbers_at t m p.pushed)
      (numbers_at t (2 * m) p.noted ++ (s ∷ [])) =
      rw noted-length at (hold-third q.holding s (rw noted-length h)) in
      record {
        block = becomes-none b (state_of b) q.formed refl;
        working =
            record {
              formed = q.formed;
              node = q.node;
              sides = q.sides;
              kept = q.kept;
              noted = omega arith;
              pushed = q.pushed;
              holding = rw (x, y, o) r;
            };
        work = rw (x, y, o);
      }

  -- vertex v is pushed
  pub work-push : (v : ℕ) → v < 1024 → p.pushed < m
      → GrowWorked b b (set t (m + p.pushed) (pos v)) n m
      (record { kept = p.kept; noted = p.noted; pushed = p.pushed + 1; another = p.another })
      (push (grow_work_in b t n m p) v)
  unfolding grow_work_in push
  work-push v h₀ h =
      let l = q.holding.size in
      let k = q.kept in
      let t' : List ℤ = set t (m + p.pushed) (pos v) in
      let x : numbers_at t' 0 p.kept ≡ numbers_at t 0 p.kept = numbers-still-above t 0 p.kept (m + p.pushed) (pos v) (omega arith) in
      let y : numbers_at t' m (p.pushed + 1) ≡ numbers_at t m p.pushed ++ (v ∷ []) = numbers-push t m p.pushed v (omega arith) in
      let o : numbers_at t' (2 * m) p.noted ≡ numbers_at t (2 * m) p.noted =
      numbers-still-below t (2 * m) p.noted (m + p.pushed) (pos v) (omega arith) in
      let r : ScratchHolds t' m (note_limit (state_of b)) (numbers_at t 0 p.kept) (numbers_at t m p.pushed ++ (v ∷ []))
      (numbers_at t (2 * m) p.noted) =
      rw pushed-length at (hold-second q.holding v (rw pushed-length h)) in
      record {
        block = becomes-none b (state_of b) q.formed refl;
        working =
            record {
              formed = q.formed;
              node = q.node;
              sides = q.sides;
              kept = q.kept;
              noted = q.noted;
              pushed = omega arith;
              holding = rw (x, y, o) r;
            };
        work = rw (x, y, o, stack_push (numbers_at t m p.pushed) v h₀);
      }

  -- another pass is called for, if y says so
  pub work-call : (y : Bool)
      → GrowWorked b b t n m (record { kept = p.kept; noted = p.noted; pushed = p.pushed; another = called_if y p.another })
      (call_another (grow_work_in b t n m p) y)
  unfolding grow_work_in call_another
  work-call y = record {
    block = becomes-none b (state_of b) q.formed refl;
    working = record { formed = q.formed; node = q.node; sides = q.sides; kept = q.kept; noted = q.noted; pushed = q.pushed; holding = q.holding };
    work = rw (called-if y p.another);
  }

  -- the block becomes another, with the nodes as they were
  pub work-block : {b' : List ℤ} {c : State} → Becomes b b' c → c.nodes ≡ (state_of b).nodes → GrowWorked b b' t n m p (on_state (grow_work_in b t n m p) c)
  unfolding grow_work_in on_state
  work-block {b'} {c} x y =
      let e : overgrown_of (state_of b') n ≡ overgrown_of (state_of b) n =
      ap (λ (d : State). overgrown_of d n) x.state ∙ ap (λ (k : Nodes). get_or k.overgrown n []) y in
      record {
        block = x;
        working =
            record {
              formed = x.formed;
              node = rw x.nodes q.node;
              sides = x.sides ∙ q.sides;
              kept = q.kept;
              noted = rw (x.vertices, x.sides) q.noted;
              pushed = q.pushed;
              holding = rw (x.vertices, x.sides) q.holding;
            };
        work = rw e
            (ap
            (λ (d : State).
            record {
              state = d;
              kept = numbers_at t 0 p.kept;
              noted = numbers_at t (2 * m) p.noted;
              over = stack_from (numbers_at t m p.pushed) ++ overgrown_of (state_of b) n;
              another = called p.another;
            })
            x.state);
      }

  -- nothing is done
  pub work_none : GrowWorked b b t n m p (grow_work_in b t n m p)
  unfolding grow_work_in
  work_none = record { block = becomes-none b (state_of b) q.formed refl; working = q; work = refl }

-- ---- loops

-- f was done with the first i entries of l, from the work that b₀ and t₀ had
pub record Looped (f : Work → ℕ → Work) (b₀ t₀ b t : List ℤ) (n m : ℕ) (p₀ p : GrowProgress) (l : List ℕ) (i : ℕ) : Type 0 where
  pub below : i ≤ length l
  pub kept : SameButHolders (state_of b₀) (state_of b)
  pub worked : GrowWorked b₀ b t n m p (fold f (grow_work_in b₀ t₀ n m p₀) (take i l))

pub loop-none : (f : Work → ℕ → Work) {b t : List ℤ} {n m : ℕ} {p : GrowProgress} (l : List ℕ) → GrowWorking b t n m p → Looped f b t b t n m p p l 0
unfolding fold
loop-none f {b} l q = record { below = omega arith; kept = kept_refl (state_of b); worked = work_none q }

-- f leaves all but holders and grandsons
abbrev pub Keeping : (Work → ℕ → Work) → Type 0
Keeping f = (w : Work) (s : ℕ) → Keeps w.state (f w s)

module _ {f : Work → ℕ → Work} {b₀ t₀ b t : List ℤ} {n m : ℕ} {p₀ p : GrowProgress} {l : List ℕ} {i : ℕ} (q : Looped f b₀ t₀ b t n m p₀ p l i) where
  pub loop-more : {b' t' : List ℤ} {p' : GrowProgress} (s : ℕ) → Keeping f → i < length l → s ≡ get_or l i 0
      → GrowWorked b b' t' n m p' (f (grow_work_in b t n m p) s) → Looped f b₀ t₀ b' t' n m p₀ p' l (i + 1)
  loop-more {b'} {t'} {p'} s keeping h e x =
      let k : SameButHolders (state_of b) (f (grow_work_in b t n m p) s).state = unfold grow_work_in in keeping (grow_work_in b t n m p) s in
      let z : f (fold f (grow_work_in b₀ t₀ n m p₀) (take i l)) s ≡ fold f (grow_work_in b₀ t₀ n m p₀) (take (i + 1) l) =
      rw e (sym (fold_more f (grow_work_in b₀ t₀ n m p₀) l i 0 h)) in
      record {
        below = omega arith;
        kept = kept_trans q.kept (rw x.block.state k);
        worked = subst (GrowWorked b₀ b' t' n m p') z (worked_then (λ w. f w s) q.worked x);
      }

  pub loop-all : length l ≤ i → GrowWorked b₀ b t n m p (fold f (grow_work_in b₀ t₀ n m p₀) l)
  loop-all h = rw (← fold_done f (grow_work_in b₀ t₀ n m p₀) l i h) q.worked
