use mathlib.Core.Path.{◌≡◌, sym, ◌∙◌}
use Prim.Native.Nat.{ℕ, ◌≤◌}
use mathlib.Core.Bool.{true}
use Rattle.std.specs.Prelude.{List, ℤ}
use Rattle.table_refuse.specs.Refuse.{sizes_right, table_refusal}
use Rattle.graph.specs.laws.Size.{sizes-in}
use Rattle.open_graph.specs.laws.Open.{first-passed}
use Rattle.table_refuse.proofs.refuse.refusal.Goals as goal

-- right sizes are within their limits
small : (v e : ℕ) (edges : List ℤ) → sizes_right v e edges ≡ true → (1 ≤ v) × (e ≤ 4096)
unfolding sizes_right
small v e edges h = let s = sizes-in _ _ _ _ (first-passed v e 1 0 edges h).0 in (s.v-min, s.e-max)

pub returns-then-not-sizes_right : goal.returns-then-not-sizes_right
unfolding table_refusal
returns-then-not-sizes_right c = rw (sym c.sizes_right.ensures ∙ c.if-not-sizes_right.true)

pub lengths_right-requires : goal.lengths_right-requires
lengths_right-requires c =
    let t = c.args.table.now in small t.v t.e t.edges.now (sym c.sizes_right.ensures ∙ c.if-not-sizes_right.false)

pub returns-then-not-lengths_right : goal.returns-then-not-lengths_right
unfolding table_refusal
returns-then-not-lengths_right c =
    rw (sym c.sizes_right.ensures ∙ c.if-not-sizes_right.false, sym c.lengths_right.ensures ∙ c.if-not-lengths_right.true)

pub numbers_right-requires : goal.numbers_right-requires
numbers_right-requires c = sym c.sizes_right.ensures ∙ c.if-not-sizes_right.false

pub returns-then-not-numbers_right : goal.returns-then-not-numbers_right
unfolding table_refusal
returns-then-not-numbers_right c =
    rw (
      sym c.sizes_right.ensures ∙ c.if-not-sizes_right.false,
      sym c.lengths_right.ensures ∙ c.if-not-lengths_right.false,
      sym c.numbers_right.ensures ∙ c.if-not-numbers_right.true,
    )

pub returns : goal.returns
unfolding table_refusal
returns c =
    rw (
      sym c.sizes_right.ensures ∙ c.if-not-sizes_right.false,
      sym c.lengths_right.ensures ∙ c.if-not-lengths_right.false,
      sym c.numbers_right.ensures ∙ c.if-not-numbers_right.false,
    )
