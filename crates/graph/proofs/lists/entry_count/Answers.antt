use Prim.Native.Nat.{◌-◌}
use mathlib.Core.Path.{sym, ◌∙◌}
use Rattle.graph.specs.Layout.{state_of}
use native.Mathlib.Omega.{arith}
use Rattle.graph.specs.laws.List.{lists_of}
use Rattle.graph.specs.laws.Used.{entries_none, entries-last, entries-within}
use Rattle.graph.proofs.lists.entry_count.Goals as goal

pub returns-then-c-eq0 : goal.returns-then-c-eq0
returns-then-c-eq0 c = (sym (entries_none (state_of c.args.b.now) (sym c.node_count-c.ensures.0 ∙ c.if-c-eq0.true)), omega arith)

pub returns : goal.returns
returns c = let n = c.node_count-c.result - 1 in
    let l = lists_of c.args.b.now n c.requires.0 c.requires.1 (omega arith) in
    let e = entries-last c.args.b.now c.requires.0 c.requires.1 n (omega arith) in
    let i = entries-within c.args.b.now c.requires.0 c.requires.1 in
    (omega arith, omega arith)
