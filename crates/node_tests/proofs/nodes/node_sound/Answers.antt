use Rattle.node_tests.specs.laws.Marks.{marks-still, numbers-fail, inner-node, outermost-node}
use Rattle.graph.specs.laws.Scan.{parent-get}
use Rattle.graph.specs.Form.{Laid}
use Rattle.graph.specs.Layout.{state_of}
use mathlib.Core.Path.{sym, ◌∙◌}
use borrow.Author.Rules.{rules}
use Rattle.node_tests.proofs.nodes.node_sound.Goals as goal

pub node_word-requires : goal.node_word-requires
unfolding Laid
node_word-requires c = search rules

pub returns-then-node_word-eq0 : goal.returns-then-node_word-eq0
returns-then-node_word-eq0 c = let x = state_of c.args.b.now in
    let e =
    sym c.node_numbers.ensures
    ∙ c.if-node_numbers.true in
    let p =
    parent-get c.args.b.now c.args.n c.requires.0 c.requires.2
    ∙ sym c.node_word.ensures.0
    ∙ c.if-node_word-eq0.true in
    (c.own_lists.ensures.0 ∙ outermost-node x c.args.n e p, c.own_lists.ensures.1)

pub returns-else-node_word-eq0 : goal.returns-else-node_word-eq0
returns-else-node_word-eq0 c = let x = state_of c.args.b.now in
    let e = sym c.node_numbers.ensures ∙ c.if-node_numbers.true in
    let p = sym (parent-get c.args.b.now c.args.n c.requires.0 c.requires.2) in (
      c.lists_sound.ensures
          ∙ inner-node x c.args.n e (λ z. c.if-node_word-eq0.false (c.node_word.ensures.0 ∙ p ∙ z)),
      marks-still _ _ _ _ c.requires.4,
    )

pub returns-else-node_numbers : goal.returns-else-node_numbers
returns-else-node_numbers c = (numbers-fail (state_of c.args.b.now) c.args.n (sym c.node_numbers.ensures ∙ c.if-node_numbers.false), marks-still _ _ _ _ c.requires.4)
