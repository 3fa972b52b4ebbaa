use mir.Syntax.{w64}
use borrow.Author.Rules.{sfits_of}
use mathlib.Core.Path.{◌∙◌}
use mir.Facts.{to_z-of_z}
use Rattle.update_length.specs.laws.Length.{answer-open, answer-within, answer-over, within-is}
use Rattle.update_length.proofs.join.scan_answer.Goals as goal

pub signed-requires : goal.signed-requires
signed-requires g c = within-is c.in-Within.is c.requires

pub returns-in-OpenEnded : goal.returns-in-OpenEnded
returns-in-OpenEnded g c = answer-open g.A.Found.as_answer c.args.empty c.in-OpenEnded.is c.of_length.ensures

pub returns-in-Within : goal.returns-in-Within
returns-in-Within g c =
    answer-within g.A.Found.as_answer c.args.empty c.in-Within.is
    (to_z-of_z {w = w64} (sfits_of c.signed.type_inv) ∙ c.signed.ensures) c.of_length-in-Within.ensures

pub returns-in-Over : goal.returns-in-Over
returns-in-Over g c = answer-over g.A.Found.as_answer c.args.empty c.in-Over.is
