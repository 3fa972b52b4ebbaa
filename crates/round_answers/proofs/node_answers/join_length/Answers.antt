use Rattle.calls.specs.Group.{found_as}
use mir.Syntax.{w64}
use borrow.Author.Rules.{sfits_of}
use Rattle.calls.specs.Round.{join_length}
use mir.Facts.{to_z-of_z}
use mathlib.Core.Path.{sym, ap}
use Rattle.round_answers.proofs.node_answers.join_length.Goals as goal

pub returns-in-NonZeroGrow : goal.returns-in-NonZeroGrow
unfolding join_length
returns-in-NonZeroGrow c =
    rw (
      to_z-of_z {w = w64} (sfits_of c.lesser.type_inv),
      c.lesser.ensures,
      to_z-of_z
          (sfits_of (rw c.in-NonZeroGrow.is at c.well_formed.0).1.1.1.1.0.1),
      to_z-of_z c.ranges.k,
    )
    (ap (λ g. join_length (found_as g) c.args.k c.args.f)
    (sym c.in-NonZeroGrow.is))

pub returns-in-Unlimited : goal.returns-in-Unlimited
unfolding join_length
returns-in-Unlimited c =
    rw (to_z-of_z c.ranges.k)
    (ap (λ g. join_length (found_as g) c.args.k c.args.f)
    (sym c.in-Unlimited.is))

pub returns-in-Conflicts : goal.returns-in-Conflicts
unfolding join_length
returns-in-Conflicts c = ap (λ g. join_length (found_as g) c.args.k c.args.f) (sym c.in-Conflicts.is)
