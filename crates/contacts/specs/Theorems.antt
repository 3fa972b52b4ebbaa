-- The list of contacts has exactly the contacts of the rule, by rising edge.
use Rattle.std.specs.Prelude.{◌↔◌}
use Rattle.graph.specs.State.{State, edge_count}
use Rattle.calls.specs.Contacts.{Contact, IsContact, contacts}
use Rattle.contacts.specs.Rule.{AmongContacts, EdgesRise}
use Rattle.contacts.specs.laws.Listed.{below_all}
use Rattle.contacts.specs.laws.Rule.{among-is, is_among, below-rise}

-- on every state, sound or not, both directions
pub contacts-are : (c : State) (x : Contact) → AmongContacts x (contacts c) ↔ IsContact c x
contacts-are c x = (among-is c x, is_among c x)

pub contacts-rise : (c : State) → EdgesRise (edge_count c) 0 (contacts c)
contacts-rise c = rw (← below_all c) (below-rise c (edge_count c))
