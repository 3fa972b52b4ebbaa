use native.Mathlib.Omega.{arith}
use Prim.Native.Nat.{◌-◌}
use mathlib.Core.Path.{◌≡◌}
use lib.ListN.{take, length-take}
use Rattle.records.specs.laws.Write.{told-as, written-front}
use Rattle.records.specs.laws.Told.{spaced-none}
use Rattle.records.specs.laws.Contact.{line_of}
use borrow.Author.Rules.{rules}
use Rattle.records.proofs.contact.tell.Goals as goal

pub tell-requires : goal.tell-requires
tell-requires c =
    let w = c.words-n in
    (search rules, omega (arith, length-take (w.result - 0) w.new.t, w.ensures.1, spaced-none))

pub returns : goal.returns
returns c =
    let w = c.words-n in
    let z : w.result - 0 ≡ w.result = omega arith in
    let front : take w.result w.new.t ≡ _ = written-front w.ensures.0 (omega (arith, w.ensures.1, w.ensures.0.place)) in
    told-as c.tell.ensures (line_of _ _ (take (w.result - 0) w.new.t) (rw z front))
