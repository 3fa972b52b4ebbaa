-- A graph of 3 vertices and 3 edges, opened: its words and its refusals, computed, so that the definitions are seen to mean what they say.
use Rattle.std.specs.Prelude.{ℕ, ◌≡◌, refl, List, [], ◌∷◌, map, ℤ, pos, negsuc, set, take, replicate}
use Rattle.graph.specs.Basic
use Rattle.graph.specs.Open.{sizes_ok, ends_of, sides_of, flag_in, edge_ok, open_refusal}
use Rattle.graph.specs.Word.{to_nat}
use Rattle.graph.specs.Opening.{given_at, edge_at, edges_from, virtuals_from, fits, flattened, first_of, opened_rows, opened_words, opened_block}

-- a triangle: 0 - 1 of weight 5, 2 - 1 of weight 6, 0 - 2 of weight 7; vertex 2 is virtual, and given twice
abbrev triangle : List ℤ
triangle = map pos (0 ∷ 1 ∷ 5 ∷ 2 ∷ 1 ∷ 6 ∷ 0 ∷ 2 ∷ 7 ∷ [])

abbrev twice : List ℤ
twice = map pos (2 ∷ 2 ∷ [])

-- a block and a scratch for it, with 2 nodes and a store of 4 words
abbrev room : List ℤ
room = replicate 84 (negsuc 6)

abbrev scratch : List ℤ
scratch = replicate 15 (pos 1)

-- what an opening answers, and the block behind it
abbrev answers : List ℤ → List ℤ → List ℤ → ℕ
answers b edges virtuals = open_refusal 3 3 2 4 (edges_from edges) (virtuals_from virtuals) (fits b scratch 3 3 2 4)

abbrev leaves : List ℤ → List ℤ → List ℤ
leaves edges virtuals = opened_block 3 3 2 4 (edges_from edges) (virtuals_from virtuals) (fits room scratch 3 3 2 4) room

-- the words, array by array
pub every-word :
    leaves triangle twice
    ≡ map pos
    (3 ∷ 3 ∷ 2 ∷ 4 ∷ 0 ∷ 0 ∷ 0 ∷ 0 ∷ 0 ∷ 0 ∷ 0 ∷ 0 ∷ 0 ∷ 0 ∷ 0 ∷ 0 ∷ 0 ∷ 0 ∷ 1 ∷ 0 ∷ 0 ∷ 0 ∷ 0 ∷ 0 ∷ 0 ∷ 0 ∷ 2 ∷ 4 ∷ 0
    ∷ 1 ∷ 2 ∷ 1 ∷ 0 ∷ 2 ∷ 0 ∷ 0 ∷ 0 ∷ 0 ∷ 0 ∷ 0 ∷ 0 ∷ 0 ∷ 0 ∷ 0 ∷ 0 ∷ 0 ∷ 0 ∷ 0 ∷ 0 ∷ 0 ∷ 0 ∷ 0 ∷ 0 ∷ 4 ∷ 1 ∷ 3 ∷ 2 ∷ 5
    ∷ 5 ∷ 6 ∷ 7 ∷ 0 ∷ 0 ∷ 0 ∷ 0 ∷ 0 ∷ 0 ∷ 0 ∷ 0 ∷ 0 ∷ 0 ∷ 0 ∷ 0 ∷ 0 ∷ 0 ∷ 0 ∷ 0 ∷ 0 ∷ 0 ∷ 0 ∷ 0 ∷ 5 ∷ 6 ∷ 7 ∷ [])
unfolding opened_block opened_words opened_rows flattened first_of open_refusal fits edges_from edge_at given_at virtuals_from
    sizes_ok ends_of sides_of flag_in edge_ok to_nat Basic.all Basic.any Basic.only Basic.member Basic.below Basic.sum_below
every-word = refl

-- accepted; a block that is too short, before a virtual vertex out of range; that one; a negative end; a weight that is missing; an edge too few, before all
pub refusals :
    answers room triangle twice ∷ answers (take 83 room) triangle (pos 3 ∷ [])
    ∷ answers room (set triangle 0 (negsuc 0)) (pos 3 ∷ []) ∷ answers room (set triangle 0 (negsuc 0)) twice
    ∷ answers room (take 8 triangle) twice ∷ answers (take 83 room) (take 6 triangle) (pos 3 ∷ []) ∷ []
    ≡ 0 ∷ 1 ∷ 3 ∷ 4 ∷ 4 ∷ 4 ∷ []
unfolding open_refusal fits edges_from edge_at given_at virtuals_from sizes_ok edge_ok to_nat Basic.all Basic.below
refusals = refl

-- a refusal leaves the block as it was
pub as_it_was : leaves (take 8 triangle) twice ≡ room
unfolding opened_block open_refusal fits edges_from edge_at given_at virtuals_from sizes_ok edge_ok to_nat Basic.all Basic.below
as_it_was = refl
