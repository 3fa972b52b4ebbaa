use Rattle.update_length.specs.laws.Length.{over-stays, open-skip, open-room, open-meets, within-skip, within-room, within-meets}
use Rattle.update_length.proofs.join.join.Goals as goal

pub returns-in-Over : goal.returns-in-Over
returns-in-Over g c f = over-stays f c.args.l c.in-Over.is

pub returns-in-Skip : goal.returns-in-Skip
returns-in-Skip g c f = open-skip f c.in-OpenEnded.is c.in-Skip.is

pub returns-in-Room : goal.returns-in-Room
returns-in-Room g c f = open-room f c.in-OpenEnded.is c.in-Room.is c.requires.1

pub returns-in-Meets : goal.returns-in-Meets
returns-in-Meets g c f = open-meets f c.in-OpenEnded.is c.in-Meets.is

pub returns-in-Skip-l : goal.returns-in-Skip-l
returns-in-Skip-l g c f = within-skip f c.in-Within.is c.in-Skip-l.is c.requires.0

pub returns-in-Room-l : goal.returns-in-Room-l
returns-in-Room-l g c f =
    within-room f c.in-Within.is c.in-Room-l.is
    c.requires.0 c.min.ensures

pub returns-in-Meets-l : goal.returns-in-Meets-l
returns-in-Meets-l g c f = within-meets f c.in-Within.is c.in-Meets-l.is
