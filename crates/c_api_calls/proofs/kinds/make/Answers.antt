use native.Mathlib.Omega.{arith}
use mathlib.Core.Path.{◌≡◌, sym, ◌∙◌}
use Rattle.graph.specs.Word.{word_at}
use Rattle.c_api_calls.specs.laws.Done.{other-done}
use Rattle.c_api_calls.specs.laws.Kinds.{kind-4, kind-5, kind-6, kind-7, kind-8, kind-9, kind-11, kind-13, kind-14, kind-15, kind-16, kind-other}
use borrow.Author.Rules.{rules}
use Rattle.c_api_calls.proofs.kinds.make.Goals as goal

pub returns-in-4 : goal.returns-in-4
returns-in-4 c =
    let e : c.word-k.result ≡ 4 = search rules in
    let k : word_at c.args.w.now 0 ≡ 4 = sym c.word-k.ensures.0 ∙ e in
    rw (kind-4 c.args.circles.now c.args.w.now k) c.defect.ensures

pub returns-in-5 : goal.returns-in-5
returns-in-5 c =
    let e : c.word-k.result ≡ 5 = search rules in
    let k : word_at c.args.w.now 0 ≡ 5 = sym c.word-k.ensures.0 ∙ e in
    rw (kind-5 c.args.circles.now c.args.w.now k) c.blossom.ensures

pub returns-in-6 : goal.returns-in-6
returns-in-6 c =
    let e : c.word-k.result ≡ 6 = search rules in
    let k : word_at c.args.w.now 0 ≡ 6 = sym c.word-k.ensures.0 ∙ e in
    rw (kind-6 c.args.circles.now c.args.w.now k) c.state.ensures

pub returns-in-7 : goal.returns-in-7
returns-in-7 c =
    let e : c.word-k.result ≡ 7 = search rules in
    let k : word_at c.args.w.now 0 ≡ 7 = sym c.word-k.ensures.0 ∙ e in
    rw (kind-7 c.args.circles.now c.args.w.now k) c.prepare.ensures

pub returns-in-8 : goal.returns-in-8
returns-in-8 c =
    let e : c.word-k.result ≡ 8 = search rules in
    let k : word_at c.args.w.now 0 ≡ 8 = sym c.word-k.ensures.0 ∙ e in
    rw (kind-8 c.args.circles.now c.args.w.now k) c.length.ensures

pub returns-in-9 : goal.returns-in-9
returns-in-9 c =
    let e : c.word-k.result ≡ 9 = search rules in
    let k : word_at c.args.w.now 0 ≡ 9 = sym c.word-k.ensures.0 ∙ e in
    rw (kind-9 c.args.circles.now c.args.w.now k) (search rules)

pub returns-in-11 : goal.returns-in-11
returns-in-11 c =
    let e : c.word-k.result ≡ 11 = search rules in
    let k : word_at c.args.w.now 0 ≡ 11 = sym c.word-k.ensures.0 ∙ e in
    rw (kind-11 c.args.circles.now c.args.w.now k) (search rules)

pub returns-in-13 : goal.returns-in-13
returns-in-13 c =
    let e : c.word-k.result ≡ 13 = search rules in
    let k : word_at c.args.w.now 0 ≡ 13 = sym c.word-k.ensures.0 ∙ e in
    rw (kind-13 c.args.circles.now c.args.w.now k) c.clear.ensures

pub returns-in-14 : goal.returns-in-14
returns-in-14 c =
    let e : c.word-k.result ≡ 14 = search rules in
    let k : word_at c.args.w.now 0 ≡ 14 = sym c.word-k.ensures.0 ∙ e in
    rw (kind-14 c.args.circles.now c.args.w.now k) c.vertex.ensures

pub returns-in-15 : goal.returns-in-15
returns-in-15 c =
    let e : c.word-k.result ≡ 15 = search rules in
    let k : word_at c.args.w.now 0 ≡ 15 = sym c.word-k.ensures.0 ∙ e in
    rw (kind-15 c.args.circles.now c.args.w.now k) c.node.ensures

pub returns-in-16 : goal.returns-in-16
returns-in-16 c =
    let e : c.word-k.result ≡ 16 = search rules in
    let k : word_at c.args.w.now 0 ≡ 16 = sym c.word-k.ensures.0 ∙ e in
    rw (kind-16 c.args.circles.now c.args.w.now k) c.gap.ensures

pub returns-in_default : goal.returns-in_default
returns-in_default c =
    let e = c.word-k.ensures.0 in
    let k = c.other.ensures in
    rw
    (kind-other c.args.circles.now c.args.w.now (omega (arith, e)) (omega (arith, e)) (omega (arith, e)) (omega (arith, e))
    (omega (arith, e)) (omega (arith, e)) (omega (arith, e)) (omega (arith, e)) (omega (arith, e)) (omega (arith, e))
    (omega (arith, e)))
    (other-done c.requires.0.accepted c.requires.2 k.0 k.1 k.2 c.requires.0.cleared)
