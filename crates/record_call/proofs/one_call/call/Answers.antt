use mir.Syntax.{w64}
use native.Mathlib.Omega.{arith}
use Rattle.std.specs.Prelude.{◌≡◌, length}
use mathlib.Core.Path.{refl, ap, ◌∙◌}
use mir.Facts.{to_z-of_z}
use borrow.Author.Rules.{sfits_of, rules}
use Rattle.records.specs.Record.{field_counts, signed}
use Rattle.record_call.specs.laws.Asking.{fields-of, opened-usable, last-kind, answers-defect, answers-state, answers-prepare, answers-length, answers-grow, answers-advance, answers-clear}
use Rattle.record_call.proofs.one_call.call.Goals as goal

pub field-requires : goal.field-requires
unfolding field_counts
field-requires c =
    let k : c.args.kind ≡ 4 = search rules in
    let l : length c.args.body.now ≡ 10 = fields-of 4 c.requires.1 k (λ q. omega arith) in
    omega arith

pub field-requires-in-4 : goal.field-requires-in-4
unfolding field_counts
field-requires-in-4 c =
    let k : c.args.kind ≡ 4 = search rules in
    let l : length c.args.body.now ≡ 10 = fields-of 4 c.requires.1 k (λ q. omega arith) in
    omega arith

pub insert_defect-requires : goal.insert_defect-requires
insert_defect-requires c = opened-usable c.requires.0

pub field-requires-in-6 : goal.field-requires-in-6
unfolding field_counts
field-requires-in-6 c =
    let k : c.args.kind ≡ 6 = search rules in
    let l : length c.args.body.now ≡ 10 = fields-of 6 c.requires.1 k (λ q. omega arith) in
    omega arith

pub field-requires-in-6-2 : goal.field-requires-in-6-2
unfolding field_counts
field-requires-in-6-2 c =
    let k : c.args.kind ≡ 6 = search rules in
    let l : length c.args.body.now ≡ 10 = fields-of 6 c.requires.1 k (λ q. omega arith) in
    omega arith

pub set_grow_state-requires : goal.set_grow_state-requires
set_grow_state-requires c = let u = opened-usable c.requires.0 in (u.formed, u.sounds)

pub field-requires-in-7 : goal.field-requires-in-7
unfolding field_counts
field-requires-in-7 c =
    let k : c.args.kind ≡ 7 = search rules in
    let l : length c.args.body.now ≡ 10 = fields-of 7 c.requires.1 k (λ q. omega arith) in
    omega arith

pub field-requires-in-7-2 : goal.field-requires-in-7-2
unfolding field_counts
field-requires-in-7-2 c =
    let k : c.args.kind ≡ 7 = search rules in
    let l : length c.args.body.now ≡ 10 = fields-of 7 c.requires.1 k (λ q. omega arith) in
    omega arith

pub prepare_dual_node_growth-requires : goal.prepare_dual_node_growth-requires
prepare_dual_node_growth-requires c = opened-usable c.requires.0

pub field-requires-in-8 : goal.field-requires-in-8
unfolding field_counts
field-requires-in-8 c =
    let k : c.args.kind ≡ 8 = search rules in
    let l : length c.args.body.now ≡ 14 = fields-of 8 c.requires.1 k (λ q. omega arith) in
    omega arith

pub field-requires-in-8-2 : goal.field-requires-in-8-2
unfolding field_counts
field-requires-in-8-2 c =
    let k : c.args.kind ≡ 8 = search rules in
    let l : length c.args.body.now ≡ 14 = fields-of 8 c.requires.1 k (λ q. omega arith) in
    omega arith

pub field-requires-in-8-3 : goal.field-requires-in-8-3
unfolding field_counts
field-requires-in-8-3 c =
    let k : c.args.kind ≡ 8 = search rules in
    let l : length c.args.body.now ≡ 14 = fields-of 8 c.requires.1 k (λ q. omega arith) in
    omega arith

pub compute_maximum_update_length_dual_node-requires : goal.compute_maximum_update_length_dual_node-requires
compute_maximum_update_length_dual_node-requires c = opened-usable c.requires.0

pub field-requires-in-9 : goal.field-requires-in-9
unfolding field_counts
field-requires-in-9 c =
    let k : c.args.kind ≡ 9 = search rules in
    let l : length c.args.body.now ≡ 10 = fields-of 9 c.requires.1 k (λ q. omega arith) in
    omega arith

pub field-requires-in-9-2 : goal.field-requires-in-9-2
unfolding field_counts
field-requires-in-9-2 c =
    let k : c.args.kind ≡ 9 = search rules in
    let l : length c.args.body.now ≡ 10 = fields-of 9 c.requires.1 k (λ q. omega arith) in
    omega arith

pub grow_dual_node-requires : goal.grow_dual_node-requires
grow_dual_node-requires c = opened-usable c.requires.0

pub field-requires-in-11 : goal.field-requires-in-11
unfolding field_counts
field-requires-in-11 c =
    let k : c.args.kind ≡ 11 = search rules in
    let l : length c.args.body.now ≡ 6 = fields-of 11 c.requires.1 k (λ q. omega arith) in
    omega arith

pub advance-requires : goal.advance-requires
advance-requires c = opened-usable c.requires.0

pub returns-in-4 : goal.returns-in-4
returns-in-4 c =
    let k : c.args.kind ≡ 4 = search rules in
    let e = c.insert_defect.ensures in
    (answers-defect c.requires.1 _ _ k c.field.ensures.0 c.field-in-4.ensures.0 e.0, e.1)

pub returns-in-6 : goal.returns-in-6
returns-in-6 c =
    let k : c.args.kind ≡ 6 = search rules in (
      answers-state c.requires.1 _ _ k c.field-in-6.ensures.0
          c.field-in-6-2.ensures.0 c.set_grow_state.ensures,
      refl,
    )

pub returns-in-7 : goal.returns-in-7
returns-in-7 c =
    let k : c.args.kind ≡ 7 = search rules in
    let e = c.prepare_dual_node_growth.ensures in
    (answers-prepare c.requires.1 _ _ k c.field-in-7.ensures.0 c.field-in-7-2.ensures.0 e.0, e.1)

pub returns-in-8 : goal.returns-in-8
returns-in-8 c =
    let k : c.args.kind ≡ 8 = search rules in
    let e = c.compute_maximum_update_length_dual_node.ensures in (
      answers-length c.requires.1 _ _ _ k c.field-in-8.ensures.0
          c.field-in-8-2.ensures.0 c.field-in-8-3.ensures.0 e.0,
      e.1,
    )

pub returns-in-9 : goal.returns-in-9
returns-in-9 c =
    let k : c.args.kind ≡ 9 = search rules in
    let e = c.grow_dual_node.ensures in (
      answers-grow c.requires.1 _ _ k c.field-in-9.ensures.0
          (to_z-of_z {w = w64} (sfits_of c.signed.type_inv) ∙ c.signed.ensures
          ∙ ap signed c.field-in-9-2.ensures.0)
          e.0,
      e.1,
    )

pub returns-in-11 : goal.returns-in-11
returns-in-11 c =
    let k : c.args.kind ≡ 11 = search rules in
    let e = c.advance.ensures in
    (answers-advance c.requires.1 _ k c.field-in-11.ensures.0 e.0, e.1)

pub returns-in_default : goal.returns-in_default
returns-in_default c = (
  answers-clear c.requires.1
      (last-kind c.requires.1 c.requires.2 (omega arith) (omega arith) (omega arith) (omega arith)
      (omega arith) (omega arith) c.requires.3 (omega arith) c.requires.4)
      c.clear_all.ensures,
  refl,
)
