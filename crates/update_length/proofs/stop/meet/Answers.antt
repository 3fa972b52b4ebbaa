use Rattle.update_length.specs.laws.Length.{meet-first, meet-again, meet-second, meet-more}
use Rattle.update_length.proofs.stop.meet.Goals as goal

pub returns-in-NoPeer : goal.returns-in-NoPeer
returns-in-NoPeer c = meet-first c.args.p c.args.g c.in-NoPeer.is

pub returns-then-p-q : goal.returns-then-p-q
returns-then-p-q c = let a = c.args in meet-again a.p a.g c.in-Peer.is c.if-p-q.true

pub returns-else-p-q : goal.returns-else-p-q
returns-else-p-q c = let a = c.args in meet-second a.p a.g c.in-Peer.is c.if-p-q.false

pub returns-in-TwoPeers : goal.returns-in-TwoPeers
returns-in-TwoPeers c = let a = c.args in meet-more a.p a.g c.in-TwoPeers.is
