use Rattle.record_step.specs.laws.Standing.{roomy-start}
use borrow.Author.Rules.{rules}
use Rattle.cardrun.proofs.main.Goals as goal

pub take_input-requires : goal.take_input-requires
take_input-requires c = (search rules, search rules, roomy-start)
