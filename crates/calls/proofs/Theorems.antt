-- What follows from the definitions of the calls, of every state; each proof cites a law.
use Rattle.std.specs.Prelude.{◌≡◌, ℕ, ◌+◌, ◌-◌, ◌*◌, ◌<◌, ◌≤◌, true, false, ◌≢◌, List, length}
use Rattle.std.proofs.Common.{mul-le-mul, arith, sym, ◌∙◌}
use Rattle.graph.specs.Basic.{any}
use Rattle.graph.specs.State.{State, vertex_count, side_count, sides_at}
use Rattle.calls.specs.CircleStore.{circle_store}
use Rattle.calls.specs.Refuse.{entries_but}
use Rattle.calls.specs.Insert.{occupied, blossom_refusal}
use Rattle.calls.specs.Occupied.{vertex_decides, is_held, sides_read, FirstHeld}
use Rattle.calls.proofs.laws.Accepted.{blossom-accepted, store-room}
use Rattle.calls.proofs.laws.CircleStore.{refused-nine}
use Rattle.calls.proofs.laws.Occupied.{decides-read, sides-read, free-read, held-read, first_read, not-occupied}

-- ---- the list store of a circle, so that L can be computed in advance

-- above the lists of the nodes that are not in the circle it always suffices: no circle is refused 9
pub circle-store-suffices : (c : State) (x : ℕ) (circle : List ℕ)
    → entries_but c circle + circle_store c ≤ c.store_limit → blossom_refusal c x circle ≢ 9
circle-store-suffices c x circle h e =
    let s : ℕ = side_count c + vertex_count c in
    let r : (length circle ≤ 63) × (c.store_limit < entries_but c circle + (length circle + 1) * s) = refused-nine c x circle e in
    let k : (length circle + 1) * s ≤ 64 * s = mul-le-mul (omega (arith, r.0)) (omega arith) in
    omega (arith, h, r.1, k)

-- with any less no circle of 63 is accepted
pub circle-store-needed : (c : State) (x : ℕ) (circle : List ℕ) → length circle ≡ 63
    → c.store_limit < entries_but c circle + circle_store c → blossom_refusal c x circle ≢ 0
circle-store-needed c x circle l h e =
    let room = (blossom-accepted c x circle e).room in
    let r : entries_but c circle + (length circle + 1) * (side_count c + vertex_count c) ≤ c.store_limit = store-room c circle (length circle + 1) room in
    omega (arith, h, rw l at r)

-- L, at most 65,536, leaves room for it exactly where 2 E + V is at most 1,024
pub circle-store-within : (c : State)
    → (circle_store c ≤ 65536 → side_count c + vertex_count c ≤ 1024) × (side_count c + vertex_count c ≤ 1024 → circle_store c ≤ 65536)
circle-store-within c = (λ h. omega (arith, h), λ h. omega (arith, h))

-- ---- how many sides the test for refusal 5 reads

module _ (c : State) (v : ℕ) where
  -- the vertex decides: none
  pub none_read : vertex_decides c v ≡ true → sides_read c v ≡ 0
  none_read h = sym (decides-read c v h)

  -- no side is held, and the vertex is not occupied: all that stand there
  pub all_read : occupied c v ≡ false → sides_read c v ≡ length (sides_at c v)
  all_read h = let p = not-occupied c v h in sym (sides-read c v p.0) ∙ free-read c (sides_at c v) p.1

  -- a side is held: the first of the held ones is the last that is read
  pub read-to-first-held : vertex_decides c v ≡ false → any (is_held c) (sides_at c v) ≡ true
      → (1 ≤ sides_read c v) × FirstHeld c (sides_at c v) (sides_read c v - 1)
  read-to-first-held h p = rw (← sides-read c v h) (held-read c (sides_at c v) p, first_read c (sides_at c v) p)
