-- Small things on tests.
use Rattle.std.specs.Prelude.{◌≡◌, refl, Bool, true, false, ◌&&◌}
use Rattle.std.proofs.Common.{sym, ◌∙◌}
use Rattle.graph.specs.laws.Members.{clash, by-test}

pub both-then : (a b t : Bool) → a && b ≡ true → t ≡ a && (b && t)
both-then true true t h = refl
both-then true false t h = clash false h refl
both-then false b t h = clash false h refl

pub not-both : (a b t : Bool) → a && b ≡ false → false ≡ a && (b && t)
not-both true true t h = clash true refl h
not-both true false t h = refl
not-both false b t h = refl

-- two tests that pass in the same cases
pub test-same : (a b : Bool) → (a ≡ true → b ≡ true) → (b ≡ true → a ≡ true) → a ≡ b
test-same a b f g = by-test a (λ e. e ∙ sym (f e)) (λ e. by-test b (λ q. clash a (g q) e) (λ q. e ∙ sym q))
