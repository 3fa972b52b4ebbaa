-- A list of what a node holds.
use Rattle.std.specs.Prelude.{ℕ, ◌+◌, ◌≡◌, true, List, eqb, ltb}
use Rattle.graph.specs.Basic.{all, distinct}
use Rattle.graph.specs.State.{State, holder_at}

pub record OwnList (h : ℕ → ℕ) (n m : ℕ) (l : List ℕ) : Type 0 where
  pub inside : all (λ s. ltb s m) l ≡ true
  pub held : all (λ s. eqb (h s) (n + 1)) l ≡ true
  pub once : distinct l ≡ true

abbrev pub OwnSides : ℕ → ℕ → State → List ℕ → Type 0
OwnSides n m c l = OwnList (holder_at c) n m l
