use Rattle.graph.specs.laws.Scan.{class-test}
use Rattle.graph.specs.Form.{Laid}
use borrow.Author.Tests.{lt-ltb, le-ltb, eq-eqb, ne_eqb}
use borrow.Author.Rules.{rules}
use Rattle.node_tests.proofs.nodes.class_sound.Goals as goal

pub node_word-x-requires : goal.node_word-x-requires
unfolding Laid
node_word-x-requires c = search rules

pub returns-then-x-v : goal.returns-then-x-v
returns-then-x-v c =
    rw (
      class-test c.args.b.now c.args.n c.requires.0 c.requires.1,
      ← c.vertex_count-v.ensures.0,
      ← c.node_word-x.ensures.0,
      lt-ltb _ _ c.if-x-v.true,
    )

pub returns-then-x-v-2 : goal.returns-then-x-v-2
returns-then-x-v-2 c =
    rw (
      class-test c.args.b.now c.args.n c.requires.0 c.requires.1,
      ← c.vertex_count-v.ensures.0,
      ← c.node_word-x.ensures.0,
      le-ltb _ _ c.if-x-v.false,
      eq-eqb _ _ c.if-x-v-2.true,
    )

pub returns-else-x-v-2 : goal.returns-else-x-v-2
returns-else-x-v-2 c =
    rw (
      class-test c.args.b.now c.args.n c.requires.0 c.requires.1,
      ← c.vertex_count-v.ensures.0,
      ← c.node_word-x.ensures.0,
      le-ltb _ _ c.if-x-v.false,
      ne_eqb _ _ c.if-x-v-2.false,
    )
