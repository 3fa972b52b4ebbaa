use native.Mathlib.Omega.{arith}
use mathlib.Core.Path.{◌≡◌, refl}
use lib.ListN.{length}
use Rattle.records.specs.Record.{field_counts}
use Rattle.record_call.specs.laws.Asking.{fields-of, kind-some}
use Rattle.record_step.specs.laws.Standing.{turned-stop, late-sizes, out-of-place, turned-sizes, turned-edge, turned-virtual}
use borrow.Author.Rules.{rules}
use Rattle.record_step.proofs.one_record.gather.Goals as goal

pub sizes-setup-requires : goal.sizes-setup-requires
unfolding field_counts
sizes-setup-requires c =
    let l : length c.args.body.now ≡ 18 = fields-of 1 c.requires.3 c.if-kind-eq1.true (λ q. omega arith) in
    omega arith

pub returns-then-r-eq0 : goal.returns-then-r-eq0
returns-then-r-eq0 c = (
  (λ block. turned-sizes c.requires.3 _ _ _ _ block _ _ c.requires.0 c.if-kind-eq1.true
      c.if-r-eq0.true c.sizes-setup.ensures),
  refl,
)

pub returns-then-kind-eq1 : goal.returns-then-kind-eq1
returns-then-kind-eq1 c =
    let e = c.stop.ensures in (
      (λ block. turned-stop 3
          (late-sizes c.requires.3 _ _ c.requires.1 c.if-kind-eq1.true
          c.if-r-eq0.false)
          e.0 e.1),
      e.2,
    )

pub add_edge-setup-requires : goal.add_edge-setup-requires
unfolding field_counts
add_edge-setup-requires c =
    let l : length c.args.body.now ≡ 14 = fields-of 2 c.requires.3 c.if-kind-eq2.true (λ q. omega arith) in
    (c.requires.5, omega arith)

pub returns-then-kind-eq2 : goal.returns-then-kind-eq2
returns-then-kind-eq2 c = (
  (λ block. turned-edge c.requires.3 _ _ _ _ block _ _ c.requires.0 c.if-kind-eq2.true
      c.if-r-eq1.true c.requires.5 c.add_edge-setup.ensures),
  refl,
)

pub add_virtual-setup-requires : goal.add_virtual-setup-requires
unfolding field_counts
add_virtual-setup-requires c =
    let k : c.args.kind ≡ 3 = omega (arith, kind-some c.requires.3) in
    let l : length c.args.body.now ≡ 6 = fields-of 3 c.requires.3 k (λ q. omega arith) in
    (omega (arith, c.requires.2 c.if-r-eq1.true), omega arith)

pub returns-then-r-eq1 : goal.returns-then-r-eq1
returns-then-r-eq1 c =
    let k : c.args.kind ≡ 3 = omega (arith, kind-some c.requires.3) in (
      (λ block. turned-virtual c.requires.3 _ _ _ _ block _ _ c.requires.0 k
          c.if-r-eq1.true c.requires.6 c.add_virtual-setup.ensures),
      refl,
    )

pub returns : goal.returns
returns c =
    let e = c.stop-2.ensures in (
      (λ block. turned-stop 3
          (out-of-place c.requires.3 _ _ c.requires.1 (kind-some c.requires.3) c.requires.4
          c.if-kind-eq1.false c.if-r-eq1.false)
          e.0 e.1),
      e.2,
    )
