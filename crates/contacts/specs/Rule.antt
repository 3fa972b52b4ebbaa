-- What it means that a list of contacts has a contact, and that its edges rise.
use Rattle.std.specs.Prelude.{ℕ, ◌+◌, ◌≤◌, List, [], ◌∷◌}
use Rattle.calls.specs.Contacts.{Contact}

-- x is one of the list
pub data AmongContacts (x : Contact) : List Contact → Type 0 where
  first : {l : List Contact} → AmongContacts x (x ∷ l)
  later : {y : Contact} {l : List Contact} → AmongContacts x l → AmongContacts x (y ∷ l)

-- the edges of a list rise, from k on and below m: so none stands twice
pub data EdgesRise (m : ℕ) : ℕ → List Contact → Type 0 where
  none : {k : ℕ} → k ≤ m → EdgesRise m k []
  next : {k : ℕ} {x : Contact} {l : List Contact} → k ≤ x.edge → EdgesRise m (x.edge + 1) l → EdgesRise m k (x ∷ l)
