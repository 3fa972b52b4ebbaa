-- A list of calls made by fb_calls, as exported calls one after another (SPECIFICATION 25.3).
use Rattle.std.specs.Prelude.{ℕ, ◌≡◌, List, [], ◌∷◌, ◌++◌, ℤ, length}
use Rattle.c_api_calls.specs.ListCall.{ListCall, list_defect, list_blossom, list_state, list_prepare, list_length, list_grow, list_advance, list_clear, list_vertex, list_node, list_gap, list_other}
use Rattle.table_claim.specs.Lent.{LentCall, lent_defect, lent_blossom, lent_state, lent_prepare, lent_length, lent_grow, lent_advance, lent_clear, lent_vertex, lent_node, lent_gap}
use Rattle.table_claim.specs.Hosted.{HostExchange, HostSteps}

-- the exported call that a call of a list is, with scratch t; words that are no call are none
unfoldable pub exported : List ℤ → ListCall → List LentCall
exported t (list_defect v x) = lent_defect t v x ∷ []
exported t (list_blossom x circle) = lent_blossom t x circle ∷ []
exported t (list_state n x) = lent_state t n x ∷ []
exported t (list_prepare n d) = lent_prepare t n d ∷ []
exported t (list_length n d first) = lent_length t n d first ∷ []
exported t (list_grow n l) = lent_grow t n l ∷ []
exported t (list_advance n) = lent_advance t n ∷ []
exported t list_clear = lent_clear t ∷ []
exported t (list_vertex n) = lent_vertex t n ∷ []
exported t (list_node n) = lent_node t n ∷ []
exported t (list_gap e) = lent_gap t e ∷ []
exported t list_other = []

-- the exchanges of the calls of a list: each has the scratch of its time, and five numbers of the list for its answer
pub data Exchanges : List ListCall → List ℕ → List ℕ → List HostExchange → Type 0 where
  none_left : {answers : List ℕ} → Exchanges [] answers answers []
  call_next : {c : ListCall} {cs : List ListCall} (t : List ℤ) {k : LentCall} {part part' rest rest' : List ℕ} {count : ℕ} {xs : List HostExchange}
      → exported t c ≡ (k ∷ []) → length part ≡ 5 → length part' ≡ 5 → Exchanges cs rest rest' xs
      → Exchanges (c ∷ cs) (part ++ rest) (part' ++ rest')
      (record { call = k; list = part; got = record { told = part'; count = count; words = [] } } ∷ xs)
  no-call-next : {cs : List ListCall} (part part' : List ℕ) {rest rest' : List ℕ} {xs : List HostExchange}
      → length part ≡ 5 → length part' ≡ 5 → Exchanges cs rest rest' xs
      → Exchanges (list_other ∷ cs) (part ++ rest) (part' ++ rest') xs

-- from block b the calls cs lead to block b' as exported calls, and the list for their answers becomes answers'
pub record HostCalls (b : List ℤ) (cs : List ListCall) (answers answers' : List ℕ) (b' : List ℤ) : Type 0 where
  pub exchanges : List HostExchange
  pub are : Exchanges cs answers answers' exchanges
  pub steps : HostSteps b exchanges b'
