-- The calls of a list are exported calls.
use Rattle.std.specs.Prelude.{ℕ, ◌≡◌, refl, List, [], ◌∷◌, ◌++◌, ℤ, length}
use Rattle.std.proofs.Common.{subst}
use Rattle.c_api_calls.specs.ListCall.{ListCall, list_defect, list_blossom, list_state, list_prepare, list_length, list_grow, list_advance, list_clear, list_vertex, list_node, list_gap, list_other}
use Rattle.c_api_calls.specs.Told.{ListedTold, ListedSteps, no_call, next-call}
use Rattle.table_claim.specs.Lent.{LentCall}
use Rattle.table_claim.specs.Hosted.{HostStep, fb-insert-defect, fb-insert-blossom, fb-set-grow-state, fb-prepare, fb-max-update-length, fb-grow, fb-advance, fb-clear, fb-representative-vertex, fb-read-node, fb-gap, HostExchange, HostSteps, no_more, one_more}
use Rattle.table_claim.specs.Listed.{exported, Exchanges, none_left, call_next, no-call-next, HostCalls}

-- ---- one call

-- a call of a list is an exported call, or no call and the block is left
data OneHosted (b t : List ℤ) : ListCall → List ℤ → List ℕ → List ℕ → ℕ → Type 0 where
  hosted : {c : ListCall} {b' : List ℤ} {part part' : List ℕ} {count : ℕ} (k : LentCall) → exported t c ≡ (k ∷ [])
      → HostStep b k part (record { told = part'; count = count; words = [] }) b' → OneHosted b t c b' part part' count
  not-hosted : {part part' : List ℕ} {count : ℕ} → OneHosted b t list_other b part part' count

one-hosted : (b t b' t' : List ℤ) (part part' : List ℕ) (count : ℕ) (c : ListCall) → ListedTold b t c b' t' part part' count
    → OneHosted b t c b' part part' count
unfolding ListedTold exported
one-hosted b t b' t' part part' count (list_defect v x) p = hosted _ refl (fb-insert-defect p)
one-hosted b t b' t' part part' count (list_blossom x circle) p = hosted _ refl (fb-insert-blossom p)
one-hosted b t b' t' part part' count (list_state n x) p = hosted _ refl (fb-set-grow-state p.0)
one-hosted b t b' t' part part' count (list_prepare n d) p = hosted _ refl (fb-prepare p)
one-hosted b t b' t' part part' count (list_length n d first) p = hosted _ refl (fb-max-update-length p)
one-hosted b t b' t' part part' count (list_grow n l) p = hosted _ refl (fb-grow p)
one-hosted b t b' t' part part' count (list_advance n) p = hosted _ refl (fb-advance p)
one-hosted b t b' t' part part' count list_clear p = hosted _ refl (fb-clear p.0)
one-hosted b t b' t' part part' count (list_vertex n) p = rw p.1.0 (hosted _ refl (fb-representative-vertex p.0))
one-hosted b t b' t' part part' count (list_node n) p = rw p.1.0 (hosted _ refl (fb-read-node p.0))
one-hosted b t b' t' part part' count (list_gap e) p = rw p.1.0 (hosted _ refl (fb-gap p.0))
one-hosted b t b' t' part part' count list_other p = rw p.1.0 not-hosted

-- ---- all of them

one-joined : {b t b₁ b₂ : List ℤ} {c : ListCall} {cs : List ListCall} (part part' : List ℕ) {rest rest' : List ℕ} {count : ℕ}
    → length part ≡ 5 → length part' ≡ 5 → OneHosted b t c b₁ part part' count → HostCalls b₁ cs rest rest' b₂
    → HostCalls b (c ∷ cs) (part ++ rest) (part' ++ rest') b₂
one-joined part part' l l' (hosted k e s) q = record { exchanges = _; are = call_next _ e l l' q.are; steps = one_more s q.steps }
one-joined part part' l l' not-hosted q = record { exchanges = q.exchanges; are = no-call-next part part' l l' q.are; steps = q.steps }

pub listed-steps : {b t b' t' : List ℤ} {cs : List ListCall} {answers answers' : List ℕ} → ListedSteps b t cs answers b' t' answers'
    → HostCalls b cs answers answers' b'
listed-steps no_call = record { exchanges = []; are = none_left; steps = no_more }
listed-steps (next-call {c = c} {part = part} {part' = part'} l l' p rest) =
    one-joined part part' l l' (one-hosted _ _ _ _ _ _ p.count c p.promise) (listed-steps rest)

-- steps behind steps
pub steps-join : {b b₁ b₂ : List ℤ} {xs ys : List HostExchange} → HostSteps b xs b₁ → HostSteps b₁ ys b₂ → HostSteps b (xs ++ ys) b₂
steps-join no_more q = q
steps-join (one_more s p) q = one_more s (steps-join p q)
