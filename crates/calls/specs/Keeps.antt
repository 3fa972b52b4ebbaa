-- Whether a call keeps a sound state sound. Only a preparation for shrinking can lose it, on states that no calls reach; a refused call
-- changes nothing.
use Rattle.std.specs.Prelude.{ℕ, Bool, true, false, not, ◌&&◌, ◌||◌, List, [], ◌∷◌, ℤ, pos, negsuc, ◌==◌, nat_lt}
use Rattle.graph.specs.State.{State, grow_state_of, stay, up, down}
use Rattle.pass.specs.KeepsSound.{keeps_sound}
use Rattle.answers.specs.Outcome.{Answer}
use Rattle.answers.specs.Answer.{Reply, free_or}
use Rattle.calls.specs.Refuse.{node_refusal, store_short}
use Rattle.calls.specs.Insert.{blossom_refusal, prepare_step}
use Rattle.calls.specs.Each.{max_update_length, signed_for, toward}

-- the call is refused by k, or the test t is passed
unfoldable pub refused_or : ℕ → Bool → Bool
refused_or k t = not (k == 0) || t

-- ---- a preparation, a length, a growth

-- node n is prepared in direction d: for growing nothing is asked
unfoldable pub prepare_keeps : State → ℕ → ℕ → Bool
prepare_keeps c n d = refused_or (node_refusal c n (nat_lt up d) (store_short c (n ∷ []) 1)) (d == up || keeps_sound c n)

-- the length of node n in direction d; `first` says whether it is prepared first
unfoldable pub length_keeps : State → ℕ → ℕ → Bool → Bool
length_keeps c n d first = not first || prepare_keeps c n d

-- node n is prepared in direction d and grows
unfoldable pub toward_keeps : State → ℕ → ℕ → Bool
toward_keeps c n d = refused_or (node_refusal c n false (store_short c (n ∷ []) 1)) (d == up || keeps_sound c n)

-- node n grows by a length: below 0 it is prepared for shrinking
unfoldable pub grow_keeps : State → ℕ → ℤ → Bool
grow_keeps c n (pos l) = true
grow_keeps c n (negsuc l) = toward_keeps c n down

-- ---- advance

-- growth by a free answer's limit; any other answer changes nothing
unfoldable pub follow_keeps : State → ℕ → ℕ → Answer → Bool
follow_keeps c n x a = free_or true (λ l e. grow_keeps c n (signed_for x l)) (λ e. true) a

-- a node that is not Stay: its length is prepared for, and the growth by it once more
unfoldable pub moves_keeps : State → ℕ → ℕ → Bool
moves_keeps c n x =
    let r : Reply = max_update_length c n (toward x) true in
    length_keeps c n (toward x) true && follow_keeps r.state n x r.answer

-- node n grows by its own length answer
unfoldable pub advance_keeps : State → ℕ → Bool
advance_keeps c n = refused_or (node_refusal c n false false) (grow_state_of c n == stay || moves_keeps c n (grow_state_of c n))

-- ---- a blossom

-- each of these members is prepared for shrinking, one after the other
unfoldable pub circle_keeps : State → List ℕ → Bool
circle_keeps c [] = true
circle_keeps c (m ∷ ms) = keeps_sound c m && circle_keeps (prepare_step c m) ms

-- a blossom of the circle in state x is inserted
unfoldable pub blossom_keeps : State → ℕ → List ℕ → Bool
blossom_keeps c x circle = refused_or (blossom_refusal c x circle) (circle_keeps c circle)
