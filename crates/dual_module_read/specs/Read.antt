-- The calls that only read block and scratch: the representative vertex of a node, the growth table, the contacts.
use Rattle.std.specs.Prelude.{ℕ, ◌≡◌, List, map, ℤ, pos, eqb, length, if◌then◌else◌, Result, Ok, Err}
use Rattle.refusal.specs.declared.Refusal.{Refusal}
use Rattle.refusal.specs.Refusal.{number}
use Rattle.graph.specs.Layout.{state_of, memory_refusal, list_refusal}
use Rattle.answers.specs.Outcome.{Answer}
use Rattle.answers.specs.Outcome.{Done, Refused}
use Rattle.answers.specs.Numbers.{OnPaper}
use Rattle.answers.specs.Answer.{says}
use Rattle.calls.specs.Refuse.{unless}
use Rattle.calls.specs.Reply.{over_front}
use Rattle.calls.specs.Calls.{growth_table, representative_vertex}
use Rattle.calls.specs.Contacts.{contacts, contact_words}

abbrev pub VertexRead : List ℤ → List ℤ → ℕ → Answer → Type 0
VertexRead b t n a = OnPaper a (unless (memory_refusal b t) (state_of b) (representative_vertex (state_of b) n)).answer

-- From the lent list to list': done and filled, or refused with the number k and left.
pub record ListRead (b list list' filled : List ℤ) (k : ℕ) (a : Answer) : Type 0 where
  pub answer : OnPaper a (unless k (state_of b) (says Done (state_of b))).answer
  pub listed : list' ≡ (if eqb k 0 then filled else list)

-- the growth of every side, in a list of two words for each edge
abbrev pub TableRead : List ℤ → List ℤ → List ℤ → List ℤ → Answer → Type 0
TableRead b t list list' a = ListRead b list list' (map pos (growth_table (state_of b))) (list_refusal b t (length list) 2) a

-- the contacts, three words for each at the front of a list of three words for each edge; the rest of it is left
abbrev pub ContactsRead : List ℤ → List ℤ → List ℤ → List ℤ → Answer → Type 0
ContactsRead b t list list' a = ListRead b list list' (over_front (contact_words (contacts (state_of b))) list)
    (list_refusal b t (length list) 3) a

-- how many they are
abbrev pub ContactsCounted : List ℤ → List ℤ → List ℤ → ℕ → Type 0
ContactsCounted b t list k = k ≡ (if eqb (list_refusal b t (length list) 3) 0 then length (contacts (state_of b)) else 0)

-- the answer of a reading that counts, and its count: 0 where it is refused
abbrev pub count_told : Result ℕ Refusal → Answer
count_told (Ok n) = Done
count_told (Err e) = Refused (number e)

abbrev pub count_in : Result ℕ Refusal → ℕ
count_in (Ok n) = n
count_in (Err e) = 0
