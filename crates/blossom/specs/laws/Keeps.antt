-- The test of a circle, member after member.
use Rattle.std.specs.Prelude.{ℕ, ◌+◌, ◌≤◌, ◌<◌, ◌≡◌, refl, ◌≢◌, Bool, true, false, ◌&&◌, List, length, get_or, drop}
use Rattle.std.proofs.Common.{add-one, ap, ◌∙◌, sym, drop_of_length-le, drop-cons}
use Rattle.std.proofs.Math.Bool.{and_assoc, and-true}
use Rattle.graph.specs.State.{State, down}
use Rattle.pass.specs.Prepare.{prepare_node}
use Rattle.pass.specs.KeepsSound.{keeps_sound}
use Rattle.calls.specs.Insert.{blossom_refusal, prepare_step}
use Rattle.calls.specs.Keeps.{circle_keeps, blossom_keeps}
use Rattle.calls.proofs.laws.Keeps.{refused-passes, accepted-asks}

circle-rest : (c : State) (l : List ℕ) (i : ℕ) → i < length l
    → circle_keeps c (drop i l) ≡ keeps_sound c (get_or l i 0) && circle_keeps (prepare_node c (get_or l i 0) down).state (drop (i + 1) l)
unfolding circle_keeps prepare_step
circle-rest c l i h = rw (add-one, drop-cons l i 0 h)

-- where it is asked for, what remains gives the whole
abbrev pub Remains : Bool → Bool → State → List ℕ → ℕ → State → Type 0
Remains ask kept c l i c₀ = (ask && (kept && circle_keeps c (drop i l))) ≡ (ask && circle_keeps c₀ l)

pub remains-more : (ask kept : Bool) (c d c₀ : State) (l : List ℕ) (i m : ℕ) {fine : Bool} → i < length l → m ≡ get_or l i 0
    → Remains ask kept c l i c₀ → fine ≡ (ask && keeps_sound c m) → d ≡ (prepare_node c m down).state → Remains ask (kept && fine) d l (i + 1) c₀
remains-more false kept c d c₀ l i m h e p f g = refl
remains-more true kept c d c₀ l i m {fine} h e p f g =
    and_assoc kept fine (circle_keeps d (drop (i + 1) l))
    ∙ ap (λ y. kept && (y && circle_keeps d (drop (i + 1) l))) f
    ∙ ap (λ (y : State). kept && (keeps_sound c m && circle_keeps y (drop (i + 1) l))) g
    ∙ ap (λ y. kept && (keeps_sound c y && circle_keeps (prepare_node c y down).state (drop (i + 1) l))) e
    ∙ ap (λ y. kept && y) (sym (circle-rest c l i h))
    ∙ p

pub remains-none : (ask kept : Bool) (c c₀ : State) (l : List ℕ) (i : ℕ) → length l ≤ i → Remains ask kept c l i c₀ → (ask && kept) ≡ (ask && circle_keeps c₀ l)
unfolding circle_keeps
remains-none ask kept c c₀ l i h p = ap (λ y. ask && y) (sym (and-true kept)) ∙ (rw (drop_of_length-le l h) at p)

module _ (c : State) (x : ℕ) (circle : List ℕ) (k : ℕ) (e : k ≡ blossom_refusal c x circle) where
  pub blossom-refused-passes : k ≢ 0 → blossom_keeps c x circle ≡ true
  unfolding blossom_keeps
  blossom-refused-passes h = rw (← e) (refused-passes k (circle_keeps c circle) h)

  pub blossom-accepted-asks : k ≡ 0 → blossom_keeps c x circle ≡ circle_keeps c circle
  unfolding blossom_keeps
  blossom-accepted-asks h = rw (← e) (accepted-asks k (circle_keeps c circle) h)
