-- Each small patch with an edge is opened, with N 4 and L 200: so its graph is well-formed.
use Rattle.std.specs.Prelude.{◌≡◌, refl, ◌≢◌, Bool, ◌||◌, List, [], ◌∷◌, eqb, length}
use Rattle.std.proofs.Math.Bool.{true}
use Rattle.std.proofs.Common.{arith, eqb-true}
use Rattle.graph.specs.Basic.{all}
use Rattle.graph.specs.Open.{Edge, sizes_ok, edge_ok, open_refusal}
use Rattle.graph.specs.laws.Members.{or_cases}
use Rattle.distance.specs.Graph.{WellFormed}
use Rattle.opened_graph.specs.laws.Opening.{well-formed}
use Rattle.small_patches.specs.SmallPatch.{pairs, SmallPatch, patch_graph, patches_over, opening_of}
use Rattle.small_patches.proofs.laws.Entries.{all-entry, patch-entry}

-- it has no edge, or opening refuses nothing
opens : List Edge → Bool
opens es = eqb (length es) 0 || eqb (opening_of es) 0

-- the computed test
all-open : all opens (patches_over pairs) ≡ true
unfolding opens opening_of open_refusal sizes_ok edge_ok patches_over pairs all
all-open = refl

no_edge : (es : List Edge) → eqb (length es) 0 ≡ true → es ≡ []
no_edge [] e = refl
no_edge (x ∷ es) e = absurd (omega (arith, eqb-true (length (x ∷ es)) 0 e))

module _ (es : List Edge) (p : SmallPatch es) (some : es ≢ []) where
  pub patch-opens : opening_of es ≡ 0
  unfolding opens
  patch-opens =
      or_cases (eqb (length es) 0) (eqb (opening_of es) 0) (all-entry opens all-open (patch-entry p))
      (λ e. absurd (some (no_edge es e)))
      (eqb-true (opening_of es) 0)

  pub patch-formed : WellFormed (patch_graph es)
  unfolding opening_of
  patch-formed = well-formed 4 es (3 ∷ []) (length es) 4 200 true patch-opens
