use mir.Facts.{to_z-of_z}
use lib.IntN.{nat_abs}
use lib.Signed.{non_neg}
use mathlib.Core.Bool.{true, false}
use Rattle.table_words.specs.laws.Words.{distance-near, distance-far, distance_none, distance-negative}
use mathlib.Core.Path.{◌≡◌, sym, ◌∙◌, ap}
use native.Mathlib.Omega.{arith}
use borrow.Author.Rules.{rules}
use Rattle.table_words.proofs.words.distance.Goals as goal

pub returns-then-k-le1023000000 : goal.returns-then-k-le1023000000
returns-then-k-le1023000000 c =
    let x = c.args.x in
    let z = to_z-of_z c.ranges.x in
    let r : c.magnitude-k.result ≡ nat_abs x = c.magnitude-k.ensures.0 ∙ ap nat_abs z in
    let t : non_neg x ≡ true = sym (ap non_neg z) ∙ sym c.non_negative.ensures ∙ c.if-non_negative.true in
    (r ∙ distance-near x t (omega arith), omega arith)

pub returns-else-k-le1023000000 : goal.returns-else-k-le1023000000
returns-else-k-le1023000000 c =
    let x = c.args.x in
    let z = to_z-of_z c.ranges.x in
    let r : c.magnitude-k.result ≡ nat_abs x = c.magnitude-k.ensures.0 ∙ ap nat_abs z in
    let t : non_neg x ≡ true = sym (ap non_neg z) ∙ sym c.non_negative.ensures ∙ c.if-non_negative.true in
    (distance-far x t (omega arith), omega arith)

pub returns-then-k-eq1 : goal.returns-then-k-eq1
returns-then-k-eq1 c =
    let x = c.args.x in
    let z = to_z-of_z c.ranges.x in
    let r : c.magnitude-k.result ≡ nat_abs x = c.magnitude-k.ensures.0 ∙ ap nat_abs z in
    let t : non_neg x ≡ false = sym (ap non_neg z) ∙ sym c.non_negative.ensures ∙ c.if-non_negative.false in
    (distance_none x t (omega arith), omega arith)

pub returns-else-k-eq1 : goal.returns-else-k-eq1
returns-else-k-eq1 c =
    let x = c.args.x in
    let z = to_z-of_z c.ranges.x in
    let r : c.magnitude-k.result ≡ nat_abs x = c.magnitude-k.ensures.0 ∙ ap nat_abs z in
    let t : non_neg x ≡ false = sym (ap non_neg z) ∙ sym c.non_negative.ensures ∙ c.if-non_negative.false in
    (distance-negative x t (λ q. c.if-k-eq1.false (r ∙ q)), omega arith)
