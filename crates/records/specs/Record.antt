-- Records (SPECIFICATION 10): length of the rest (2 bytes), kind (2 bytes), fields of 4 bytes, all little-endian.
-- A field is read as a number without sign. A negative one reads as 2^31 or more, which is above every limit, so it is
-- refused just as the negative number is. Only the length of a growth is given its sign.
use Rattle.std.specs.Prelude.{ℕ, zero, suc, ◌+◌, ◌-◌, ◌*◌, ◌/◌, ◌%◌, Bool, ◌&&◌, ◌||◌, List, [], ◌∷◌, ℤ, pos, negsuc, leb, ltb, eqb, length, get_or, take, drop, if◌then◌else◌}
use Rattle.graph.specs.Open.{Edge}
use Rattle.calls.specs.Calls.{Call, InsertDefect, InsertBlossom, SetGrowState, Prepare, UpdateLength, Grow, ReadTable, Advance, Contacts, Clear}

-- what a record says
pub data Record : Type 0 where
  sizes : ℕ → ℕ → ℕ → ℕ → Record  -- V, E, N, L
  an_edge : Edge → Record
  a_virtual : ℕ → Record  -- vertex
  ask : Call → Record
  ill_formed : Record

-- ---- numbers of bytes

-- 2 bytes, and 4 bytes, from place i
unfoldable pub pair_at : List ℕ → ℕ → ℕ
pair_at b i = get_or b i 0 + 256 * get_or b (i + 1) 0

unfoldable pub four_at : List ℕ → ℕ → ℕ
four_at b i = pair_at b i + 65536 * pair_at b (i + 2)

-- a number of 32 bits with its sign
unfoldable pub signed : ℕ → ℤ
signed x = if ltb x 2147483648 then pos x else negsuc (4294967295 - x)

-- ---- the record of a body, which is kind and fields

-- field i of a body
unfoldable pub field : List ℕ → ℕ → ℕ
field b i = four_at b (2 + 4 * i)

-- n fields from field i on
unfoldable pub fields : ℕ → List ℕ → ℕ → List ℕ
fields zero b i = []
fields (suc n) b i = field b i ∷ fields n b (i + 1)

-- how many fields a kind has; kind 5 has that many or more
unfoldable pub field_counts : List ℕ
field_counts = 0 ∷ 4 ∷ 3 ∷ 1 ∷ 2 ∷ 1 ∷ 2 ∷ 2 ∷ 3 ∷ 2 ∷ 0 ∷ 1 ∷ 0 ∷ 0 ∷ []

-- n bytes are the fields of a kind
unfoldable pub fields_fit : ℕ → ℕ → Bool
fields_fit kind n = leb 1 kind && leb kind 13 && eqb (n % 4) 0 && (eqb (n / 4) (get_or field_counts kind 0) || eqb kind 5 && leb 1 (n / 4))

-- the length of a node, preparing first or not: the field is 1 or 0
unfoldable pub ask_length : ℕ → ℕ → ℕ → Record
ask_length n d first = if leb first 1 then ask (UpdateLength n d (eqb first 1)) else ill_formed

-- a body of n fields whose kind and length fit
unfoldable pub record_of : ℕ → List ℕ → ℕ → Record
record_of kind b n =
    if eqb kind 1 then sizes (field b 0) (field b 1) (field b 2) (field b 3)
    else if eqb kind 2 then an_edge (record { left = field b 0; right = field b 1; weight = field b 2 })
    else if eqb kind 3 then a_virtual (field b 0)
    else if eqb kind 4 then ask (InsertDefect (field b 0) (field b 1))
    else if eqb kind 5 then ask (InsertBlossom (field b 0) (fields (n - 1) b 1))
    else if eqb kind 6 then ask (SetGrowState (field b 0) (field b 1))
    else if eqb kind 7 then ask (Prepare (field b 0) (field b 1))
    else if eqb kind 8 then ask_length (field b 0) (field b 1) (field b 2)
    else if eqb kind 9 then ask (Grow (field b 0) (signed (field b 1)))
    else if eqb kind 10 then ask ReadTable
    else if eqb kind 11 then ask (Advance (field b 0))
    else if eqb kind 12 then ask Contacts
    else ask Clear

unfoldable pub decoded : List ℕ → Record
decoded b = if leb 2 (length b) && fields_fit (pair_at b 0) (length b - 2) then record_of (pair_at b 0) b ((length b - 2) / 4) else ill_formed

-- ---- the next record of the input

-- nothing is left, or a record and the bytes behind it; input that ends inside a record is ill-formed, with nothing behind it
pub data Next : Type 0 where
  nothing : Next
  next : Record → List ℕ → Next

unfoldable pub next_record : List ℕ → Next
next_record b =
    if eqb (length b) 0 then nothing
    else if ltb (length b) (2 + pair_at b 0) then next ill_formed []
    else next (decoded (take (pair_at b 0) (drop 2 b))) (drop (2 + pair_at b 0) b)
