use mir.Syntax.{w64}
use mir.Facts.{to_z-of_z}
use Rattle.answers.specs.declared.MaxUpdateLength.TheVariants.{NonZeroGrow, Conflicting, TouchingVirtual, VertexShrinkStopPeer}
use native.Mathlib.Omega.{arith}
use mathlib.Core.Path.{sym, ◌∙◌, ap}
use mathlib.Core.List.{◌∷◌, [], ◌++◌}
use Rattle.records.specs.Text.{ascii, spaced}
use Rattle.records.specs.Lines.{line, words_of_length}
use Rattle.records.specs.laws.Write.{told-as}
use borrow.Author.Rules.{rules, sfits_of}
use Rattle.records.proofs.told.length.Goals as goal

pub returns-in-NonZeroGrow : goal.returns-in-NonZeroGrow
unfolding words_of_length ascii spaced
returns-in-NonZeroGrow c =
    told-as c.free.ensures
    (ap (λ z. line c.args.k (words_of_length (NonZeroGrow z c.in-NonZeroGrow.e)))
    (to_z-of_z {w = w64} (sfits_of (rw c.in-NonZeroGrow.is at c.well_formed.1.1.1.0).1.1.1.1.0.1))
    ∙ ap (λ m. line c.args.k (words_of_length m)) (sym c.in-NonZeroGrow.is))

pub returns-in-Unlimited : goal.returns-in-Unlimited
unfolding words_of_length ascii spaced
returns-in-Unlimited c =
    told-as c.tell_one.ensures
    (ap (λ f. line c.args.k (ascii "free -1" ++ spaced (f ∷ [])))
    c.flag.ensures.0
    ∙ ap (λ m. line c.args.k (words_of_length m)) (sym c.in-Unlimited.is))

pub returns-in-Conflicting : goal.returns-in-Conflicting
unfolding words_of_length ascii spaced
returns-in-Conflicting c =
    told-as
    {l = line c.args.k
    (words_of_length
    (Conflicting c.in-Conflicting.p c.in-Conflicting.g c.in-Conflicting.n
    c.in-Conflicting.h))}
    c.tell_four.ensures
    (ap (λ m. line c.args.k (words_of_length m)) (sym c.in-Conflicting.is))

pub returns-in-TouchingVirtual : goal.returns-in-TouchingVirtual
unfolding words_of_length ascii spaced
returns-in-TouchingVirtual c =
    told-as
    {l = line c.args.k
    (words_of_length (TouchingVirtual c.in-TouchingVirtual.n c.in-TouchingVirtual.g c.in-TouchingVirtual.v))}
    c.tell_four-in-TouchingVirtual.ensures
    (ap (λ m. line c.args.k (words_of_length m)) (sym c.in-TouchingVirtual.is))

pub returns-in-BlossomNeedExpand : goal.returns-in-BlossomNeedExpand
unfolding words_of_length ascii spaced
returns-in-BlossomNeedExpand c =
    told-as c.tell_one-in-BlossomNeedExpand.ensures (ap (λ m. line c.args.k (words_of_length m)) (sym c.in-BlossomNeedExpand.is))

pub returns-in-VertexShrinkStop : goal.returns-in-VertexShrinkStop
unfolding words_of_length ascii spaced
returns-in-VertexShrinkStop c =
    told-as c.tell_one-in-VertexShrinkStop.ensures (ap (λ m. line c.args.k (words_of_length m)) (sym c.in-VertexShrinkStop.is))

pub returns-in-VertexShrinkStopPeer : goal.returns-in-VertexShrinkStopPeer
unfolding words_of_length ascii spaced
returns-in-VertexShrinkStopPeer c =
    told-as
    {l = line c.args.k
    (words_of_length (VertexShrinkStopPeer c.in-VertexShrinkStopPeer.n c.in-VertexShrinkStopPeer.p c.in-VertexShrinkStopPeer.g))}
    c.tell_three.ensures
    (ap (λ m. line c.args.k (words_of_length m)) (sym c.in-VertexShrinkStopPeer.is))
