use Rattle.calls.proofs.laws.Replies.{usable-steady}
use Rattle.calls.proofs.tested.prepare_dual_node_growth.Goals as goal

pub prepare_toward-requires : goal.prepare_toward-requires
prepare_toward-requires c = usable-steady c.requires c.args.n c.args.d
