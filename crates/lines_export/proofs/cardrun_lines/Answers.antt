use Rattle.record_step.specs.laws.Standing.{roomy-start}
use borrow.Author.Rules.{rules}
use Rattle.lines_export.proofs.cardrun_lines.Goals as goal

pub write_lines-requires : goal.write_lines-requires
write_lines-requires c = roomy-start
