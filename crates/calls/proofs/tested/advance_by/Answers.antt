use mir.Syntax.{w64}
use Rattle.std.specs.Prelude.{◌≡◌, ℕ, ℤ, Bool, true}
use mathlib.Core.Path.{refl, sym, ap, ◌∙◌}
use mir.Val.{to_z, of_z}
use Rattle.graph.specs.State.{State}
use Rattle.graph.specs.Layout.{state_of}
use Rattle.answers.specs.Outcome.{Length, Refused, accepted_as, told}
use Rattle.answers.specs.declared.Answer.{Answer as Accepted}
use Rattle.answers.specs.declared.Answer.TheVariants as Accepts
use Rattle.answers.specs.declared.MaxUpdateLength.{MaxUpdateLength}
use Rattle.answers.specs.declared.MaxUpdateLength.TheVariants.{NonZeroGrow, Unlimited, Conflicting, TouchingVirtual, BlossomNeedExpand, VertexShrinkStop, VertexShrinkStopPeer}
use Rattle.answers.specs.Answer.{says}
use Rattle.calls.specs.Calls.{max_update_length, toward, follow}
use Rattle.calls.specs.Keeps.{follow_keeps}
use Rattle.calls.proofs.laws.Advance.{length-below, advance-other, advance-free}
use Rattle.calls.proofs.laws.Keeps.{asked-as, asked-both, moves-handed, moves-followed}
use borrow.Author.Rules.{rules}
use Rattle.refusal.specs.Refusal.{number}
use Rattle.calls.proofs.tested.advance_by.Goals as goal

-- an answer that is no length is handed back, and asks nothing

others : (c : State) (n x : ℕ) (a : Accepted) → ((m : MaxUpdateLength) → a ≡ Accepts.Length m → ⊥)
    → (follow c n x (accepted_as a) ≡ says (accepted_as a) c) × (follow_keeps c n x (accepted_as a) ≡ true)
unfolding follow follow_keeps
others c n x (Accepts.Length m) h = absurd (h m refl)
others c n x Accepts.Done h = (refl, refl)
others c n x (Accepts.Node m) h = (refl, refl)
others c n x (Accepts.Prepared k) h = (refl, refl)
others c n x (Accepts.Vertex v) h = (refl, refl)

-- nor does a refusal
refused : (c : State) (n x k : ℕ) → (follow c n x (Refused k) ≡ says (Refused k) c) × (follow_keeps c n x (Refused k) ≡ true)
unfolding follow follow_keeps
refused c n x k = (refl, refl)

-- and so is a length answer that gives no limit

no-limit : (c : State) (n x : ℕ) (m : MaxUpdateLength) → ((l : ℤ) (e : Bool) → m ≡ NonZeroGrow l e → ⊥)
    → (follow c n x (Length m) ≡ says (Length m) c) × (follow_keeps c n x (Length m) ≡ true)
unfolding follow follow_keeps
no-limit c n x (NonZeroGrow l e) h = absurd (h l e refl)
no-limit c n x (Unlimited e) h = (refl, refl)
no-limit c n x (Conflicting p g m k) h = (refl, refl)
no-limit c n x (TouchingVirtual m g v) h = (refl, refl)
no-limit c n x (BlossomNeedExpand m) h = (refl, refl)
no-limit c n x (VertexShrinkStop m) h = (refl, refl)
no-limit c n x (VertexShrinkStopPeer m p g) h = (refl, refl)

pub returns-in_default : goal.returns-in_default
returns-in_default c =
    let r = c.length_prepared-first in
    let d = c.direction-d.ensures.0 in
    let p = rw d at r.ensures.0 in
    let o = refused (max_update_length (state_of c.args.b.now) c.args.n (toward c.args.x) true).state c.args.n c.args.x
    (number c.in_default.field-0) in
    let e : told r.result.answer ≡ Refused (number c.in_default.field-0) = ap told c.in_default.is in (
      advance-other c.args.n c.args.x p (rw e o.0),
      r.ensures.1,
      asked-as c.args.ask (rw d at r.ensures.3) (moves-handed (state_of c.args.b.now) c.args.n c.args.x p.answer (rw e o.1)),
    )

pub returns-in_default-answer : goal.returns-in_default-answer
returns-in_default-answer c =
    let r = c.length_prepared-first in
    let d = c.direction-d.ensures.0 in
    let p = rw d at r.ensures.0 in
    let o = others (max_update_length (state_of c.args.b.now) c.args.n (toward c.args.x) true).state c.args.n c.args.x
    c.in-Ok.answer c.in_default-answer.not-Length in
    let e : told r.result.answer ≡ accepted_as c.in-Ok.answer = ap told c.in-Ok.is in (
      advance-other c.args.n c.args.x p (rw e o.0),
      r.ensures.1,
      asked-as c.args.ask (rw d at r.ensures.3) (moves-handed (state_of c.args.b.now) c.args.n c.args.x p.answer (rw e o.1)),
    )

pub returns-in_default-found : goal.returns-in_default-found
returns-in_default-found c =
    let r = c.length_prepared-first in
    let d = c.direction-d.ensures.0 in
    let p = rw d at r.ensures.0 in
    let o = no-limit (max_update_length (state_of c.args.b.now) c.args.n (toward c.args.x) true).state c.args.n
    c.args.x c.in-Length.found c.in_default-found.not-NonZeroGrow in
    let e : told r.result.answer ≡ Length c.in-Length.found = ap told c.in-Ok.is ∙ ap accepted_as c.in-Length.is in (
      advance-other c.args.n c.args.x p (rw e o.0),
      r.ensures.1,
      asked-as c.args.ask (rw d at r.ensures.3) (moves-handed (state_of c.args.b.now) c.args.n c.args.x p.answer (rw e o.1)),
    )

pub grow_along-second-requires : goal.grow_along-second-requires
grow_along-second-requires c =
    let r = c.length_prepared-first in
    let d = c.direction-d in
    let e : told r.result.answer ≡ Length (NonZeroGrow c.in-NonZeroGrow.length c.in-NonZeroGrow.field-1)
    = ap told c.in-Ok.is ∙ ap accepted_as (c.in-Length.is ∙ ap Accepts.Length c.in-NonZeroGrow.is) in
    let same : to_z w64 (of_z w64 c.in-NonZeroGrow.length) ≡ c.in-NonZeroGrow.length = search rules in (
      r.ensures.2,
      d.ensures.1,
      λ q. length-below (state_of c.args.b.now) c.args.n d.result true (sym e ∙ r.ensures.0.answer) (rw same at q),
    )

pub returns : goal.returns
returns c =
    let r = c.length_prepared-first in
    let e : told r.result.answer ≡ Length (NonZeroGrow c.in-NonZeroGrow.length c.in-NonZeroGrow.field-1)
    = ap told c.in-Ok.is ∙ ap accepted_as (c.in-Length.is ∙ ap Accepts.Length c.in-NonZeroGrow.is) in
    let d = c.direction-d.ensures.0 in
    let g = c.grow_along-second.ensures in
    let same : to_z w64 (of_z w64 c.in-NonZeroGrow.length) ≡ c.in-NonZeroGrow.length = search rules in
    let p = rw d at r.ensures.0 in (
      advance-free c.args.n c.args.x p e (rw (d, same) at g.0),
      g.1 ∙ r.ensures.1,
      asked-as c.args.ask (asked-both c.args.ask _ _ (rw d at r.ensures.3) (rw (d, same) at g.2))
          (moves-followed (state_of c.args.b.now) c.args.n c.args.x (sym e ∙ p.answer) p.block.state),
    )
