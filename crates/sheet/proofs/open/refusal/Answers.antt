use Prim.Native.Nat.{◌*◌, ◌≤◌}
use mathlib.Core.Path.{◌≡◌, sym, ◌∙◌}
use mathlib.Core.Bool.{true, false, ◌&&◌}
use lib.Dec.{ltb, eqb}
use lib.ListN.{length}
use Rattle.graph.specs.Basic.{all}
use Rattle.graph.specs.Open.{sizes_ok}
use Rattle.graph.specs.Opening.{edges_in, edges_from, virtuals_from, fits}
use Rattle.graph.specs.laws.Size.{sizes-in}
use Rattle.open_graph.specs.laws.Open.{first-passed}
use Rattle.sheet.specs.Called.{ends_ok, sheet_refusal}
use Rattle.sheet.proofs.open.refusal.Goals.{Else-not-sizes_ok-edges_in}
use Rattle.sheet.proofs.open.refusal.Goals.{Else-not-lengths_fit}
use Rattle.sheet.proofs.open.refusal.Goals.{Else-not-virtuals_ok}
use Rattle.sheet.proofs.open.refusal.Goals.{Else-not-edges-e}
use Rattle.sheet.proofs.open.refusal.Goals as goal

-- what each test that passed has shown

sized : (c : Else-not-sizes_ok-edges_in) → let a = c.args in
    sizes_ok a.v a.e a.n a.l && eqb (edges_in a.edges.now) a.e ≡ true
sized c = rw (← c.sizes_ok.ensures, ← c.edges_in.ensures) c.if-not-sizes_ok-edges_in.false

fitting : (c : Else-not-lengths_fit) → let a = c.args in
    fits a.b.now a.t.now a.v a.e a.n a.l && eqb (length a.sheet.now) a.e ≡ true
fitting c = sym c.lengths_fit.ensures ∙ c.if-not-lengths_fit.false

vertices : (c : Else-not-virtuals_ok) → let a = c.args in
    all (λ x. ltb x a.v) (virtuals_from a.virtuals.now) ≡ true
vertices c = sym c.virtuals_ok.ensures ∙ c.if-not-virtuals_ok.false

ended : (c : Else-not-edges-e) → let a = c.args in
    eqb (length a.edges.now) (3 * a.e) && all (ends_ok a.v) (edges_from a.edges.now) ≡ true
ended c = rw (← c.ends_ok.ensures) c.if-not-edges-e.false

small : (c : Else-not-virtuals_ok) → let a = c.args in
    (a.e ≤ 4096) × (edges_in a.edges.now ≡ a.e)
small c =
    let a = c.args in
    let z = first-passed a.v a.e a.n a.l a.edges.now (sized c.before.before.before.before) in
    let s = sizes-in _ _ _ _ z.0 in
    (s.e-max, z.1)

pub returns-then-not-sizes_ok-edges_in : goal.returns-then-not-sizes_ok-edges_in
unfolding sheet_refusal
returns-then-not-sizes_ok-edges_in c =
    let a = c.args in
    let z : sizes_ok a.v a.e a.n a.l && eqb (edges_in a.edges.now) a.e ≡ false =
    rw (← c.sizes_ok.ensures, ← c.edges_in.ensures) c.if-not-sizes_ok-edges_in.true in
    rw z

pub returns-then-not-lengths_fit : goal.returns-then-not-lengths_fit
unfolding sheet_refusal
returns-then-not-lengths_fit c = rw (sized c.before.before, sym c.lengths_fit.ensures ∙ c.if-not-lengths_fit.true)

pub returns-then-not-virtuals_ok : goal.returns-then-not-virtuals_ok
unfolding sheet_refusal
returns-then-not-virtuals_ok c =
    rw (sized c.before.before.before.before, fitting c.before.before, sym c.virtuals_ok.ensures ∙ c.if-not-virtuals_ok.true)

pub ends_ok-requires : goal.ends_ok-requires
ends_ok-requires c = small c

pub returns-then-not-edges-e : goal.returns-then-not-edges-e
unfolding sheet_refusal
returns-then-not-edges-e c =
    let a = c.args in
    let z : eqb (length a.edges.now) (3 * a.e) && all (ends_ok a.v) (edges_from a.edges.now) ≡ false =
    rw (← c.ends_ok.ensures) c.if-not-edges-e.true in
    rw (sized c.before.before.before.before.before.before, fitting c.before.before.before.before, vertices c.before.before, z)

pub returns : goal.returns
unfolding sheet_refusal
returns c =
    rw (sized c.before.before.before.before.before.before.before.before, fitting c.before.before.before.before.before.before, vertices c.before.before.before.before, ended c.before.before, sym c.sheet_ok.ensures ∙ c.if-not-sheet_ok.false)

pub returns-then-not-sheet_ok : goal.returns-then-not-sheet_ok
unfolding sheet_refusal
returns-then-not-sheet_ok c =
    rw (sized c.before.before.before.before.before.before.before.before, fitting c.before.before.before.before.before.before, vertices c.before.before.before.before, ended c.before.before, sym c.sheet_ok.ensures ∙ c.if-not-sheet_ok.true)
