use Rattle.cardrun.specs.laws.Keep.{kept-rest, rest-cut}
use lib.Seq.{length-take-le}
use lib.ListN.{length, take, drop}
use Prim.Native.Nat.{◌-◌}
use mathlib.Core.Path.{◌≡◌}
use native.Mathlib.Omega.{arith}
use borrow.Author.Rules.{rules}
use Rattle.cardrun.proofs.turn.Goals as goal

pub returns-clause-ran : goal.returns-clause-ran
returns-clause-ran g c =
    let d = c.args.input.now in
    let n = c.args.n in
    let i = c.in_ok-t.t.at in
    let z : n - 0 ≡ n = omega arith in
    let e = rw z at c.in_ok-t.ensures.ran in
    let kept : take (n - i) c.keep.new.input ≡ take (n - i) (drop i d) = search rules in
    let rest : drop i (take n d) ≡ take (n - i) c.keep.new.input = kept-rest d c.keep.new.input i n kept in
    rw rest at e

pub returns-clause-cut : goal.returns-clause-cut
returns-clause-cut g c =
    let d = c.args.input.now in
    let n = c.args.n in
    let i = c.in_ok-t.t.at in
    let z : n - 0 ≡ n = omega arith in
    let e = rw z at c.in_ok-t.ensures in
    let kept : take (n - i) c.keep.new.input ≡ take (n - i) (drop i d) = search rules in
    let rest : drop i (take n d) ≡ take (n - i) c.keep.new.input = kept-rest d c.keep.new.input i n kept in
    let len : length (take n d) ≡ n = length-take-le n d c.requires.0 in
    (λ on. rw rest at (rest-cut (take n d) i e.place.0 (e.cut.0 on)), λ on. omega (arith, e.cut.1 on, len))

pub returns-clause-place : goal.returns-clause-place
returns-clause-place g c =
    let n = c.args.n in
    let z : n - 0 ≡ n = omega arith in
    let e = rw z at c.in_ok-t.ensures.place in
    let len : length (take n c.args.input.now) ≡ n = length-take-le n c.args.input.now c.requires.0 in
    (omega arith, omega (arith, e.1, e.0, len))
