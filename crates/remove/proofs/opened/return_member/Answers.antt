use Rattle.remove.specs.laws.Opened.{member-returned}
use Rattle.remove.proofs.opened.return_member.Goals as goal

pub returns : goal.returns
returns c =
    member-returned c.args.m c.set_holders.ensures c.set_parent.ensures
