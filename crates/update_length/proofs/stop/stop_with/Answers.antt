use Rattle.update_length.specs.laws.Length.{stop-no-peer, stop-peer, stop-two-peers}
use Rattle.update_length.proofs.stop.stop_with.Goals as goal

pub returns-in-NoPeer : goal.returns-in-NoPeer
returns-in-NoPeer c = stop-no-peer c.args.n c.in-NoPeer.is

pub returns-in-Peer : goal.returns-in-Peer
returns-in-Peer c = stop-peer c.args.n c.in-Peer.is

pub returns-in-TwoPeers : goal.returns-in-TwoPeers
returns-in-TwoPeers c = stop-two-peers c.args.n c.in-TwoPeers.is
