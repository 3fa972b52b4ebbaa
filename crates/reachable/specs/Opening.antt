-- What the theorems on opening a blossom speak of (SPECIFICATION 18.4).
use Rattle.std.specs.Prelude.{ℕ, ◌+◌, ◌≤◌, ◌≡◌, Bool, true, false, List, [], ◌∷◌, eqb, if◌then◌else◌}
use Rattle.graph.specs.Basic.{fold, member}
use Rattle.graph.specs.State.{State, removed, node_count, growth_at, holder_at, grandson_at, vertex_holder_at, vertex_grandson_at, class_of, parent_of, dual_of, boundary_of, overgrown_of}
use Rattle.graph.specs.Open.{opened}
use Rattle.calls.specs.Refuse.{bad_node}
use Rattle.calls.specs.Insert.{prepare_step, blossom_refusal}
use Rattle.calls.specs.Calls.{Call, InsertDefect, InsertBlossom, SetGrowState, Prepare, UpdateLength, Grow, ReadTable, Advance, Contacts, RepresentativeVertex, Clear, RenewActiveList, PrepareAll, GroupLength, Round, RemoveBlossom, LoadEdgeModifier, respond}
use Rattle.reachable.specs.Reachable.{Reachable}

-- ---- in which state the circle of each blossom was joined

-- the log with the state in which node n was joined
unfoldable pub join_log : (ℕ → State) → ℕ → State → ℕ → State
join_log log n z q = if eqb q n then z else log q

-- the log after a call: an accepted blossom was joined in the state with the members of its circle prepared
unfoldable pub logged : State → Call → (ℕ → State) → ℕ → State
logged c (InsertBlossom x circle) log = if eqb (blossom_refusal c x circle) 0 then join_log log (node_count c) (fold prepare_step c circle) else log
logged c (InsertDefect v x) log = log
logged c (SetGrowState n x) log = log
logged c (Prepare n d) log = log
logged c (UpdateLength n d first) log = log
logged c (Grow n l) log = log
logged c ReadTable log = log
logged c (Advance n) log = log
logged c Contacts log = log
logged c (RepresentativeVertex n) log = log
logged c Clear log = log
logged c RenewActiveList log = log
logged c PrepareAll log = log
logged c GroupLength log = log
logged c (Round l) log = log
logged c (RemoveBlossom n) log = log
logged c (LoadEdgeModifier pairs) log = log

-- the log after a list of calls
unfoldable pub after_log : State → List Call → (ℕ → State) → ℕ → State
after_log c [] log = log
after_log c (k ∷ ks) log = after_log (respond c k).state ks (logged c k log)

-- the log of a reachable state, by its calls
unfoldable pub log_of : (c : State) → Reachable c → ℕ → State
log_of c r =
    after_log (opened r.vertices r.nodes r.store r.edges r.virtuals) r.calls
    (λ n. opened r.vertices r.nodes r.store r.edges r.virtuals)

-- ---- what an accepted opening leaves

-- member m of a blossom in c, after the opening: outermost, with its list, and it holds that
pub record MemberOutermost (c d : State) (m : ℕ) : Type 0 where
  pub outer : parent_of d m ≡ 0
  pub list : boundary_of d m ≡ boundary_of c m
  pub held : (t : ℕ) → member t (boundary_of c m) ≡ true → holder_at d t ≡ m + 1

-- the opened blossom n: its number still counts, names nothing, and has no lists
pub record NumberRemoved (c d : State) (n : ℕ) : Type 0 where
  pub count : node_count d ≡ node_count c
  pub class : class_of d n ≡ removed
  pub bad : bad_node d n ≡ true
  pub boundary : boundary_of d n ≡ []
  pub overgrown : overgrown_of d n ≡ []

-- ---- claim R

-- node m lies in p, by parents
pub data Inside (c : State) (p : ℕ) : ℕ → Type 0 where
  member_of : {m : ℕ} → parent_of c m ≡ p + 1 → Inside c p m
  in-member : {m j : ℕ} → parent_of c m ≡ j + 1 → Inside c p j → Inside c p m

-- node m of c holds and lists what it held and listed in b, with the same growth and dual variable
pub record Restored (b c : State) (m : ℕ) : Type 0 where
  pub side : (t : ℕ) → holder_at b t ≡ m + 1 → holder_at c t ≡ m + 1
  pub side-back : (t : ℕ) → holder_at c t ≡ m + 1 → holder_at b t ≡ m + 1
  pub growth : (t : ℕ) → holder_at b t ≡ m + 1 → growth_at c t ≡ growth_at b t
  pub vertex : (u : ℕ) → vertex_holder_at b u ≡ m + 1 → vertex_holder_at c u ≡ m + 1
  pub vertex-back : (u : ℕ) → vertex_holder_at c u ≡ m + 1 → vertex_holder_at b u ≡ m + 1
  pub grandson : (t : ℕ) → holder_at b t ≡ m + 1 → grandson_at c t ≡ grandson_at b t
  pub vertex-grandson : (u : ℕ) → vertex_holder_at b u ≡ m + 1 → vertex_grandson_at c u ≡ vertex_grandson_at b u
  pub boundary : boundary_of c m ≡ boundary_of b m
  pub overgrown : overgrown_of c m ≡ overgrown_of b m
  pub dual : dual_of c m ≡ dual_of b m
  pub parent : parent_of c m ≡ parent_of b m
  pub class : class_of c m ≡ class_of b m

-- the blossom n of c is opened, which leaves d: every node in it, at any depth, has what it had in `earlier`, the state in which the circle
-- was joined; there its members were outermost, and n was no node yet
pub record GivesBack (earlier c : State) (n : ℕ) (d : State) : Type 0 where
  pub before-n : node_count earlier ≤ n
  pub outer : (m : ℕ) → parent_of c m ≡ n + 1 → parent_of earlier m ≡ 0
  pub restored : (m : ℕ) → Inside c n m → Restored earlier d m

-- ---- a removed number

-- the call names node n
unfoldable pub names : ℕ → Call → Bool
names n (InsertBlossom x circle) = member n circle
names n (SetGrowState m x) = eqb m n
names n (Prepare m d) = eqb m n
names n (UpdateLength m d first) = eqb m n
names n (Grow m l) = eqb m n
names n (Advance m) = eqb m n
names n (RepresentativeVertex m) = eqb m n
names n (RemoveBlossom m) = eqb m n
names n (InsertDefect v x) = false
names n ReadTable = false
names n Contacts = false
names n Clear = false
names n RenewActiveList = false
names n PrepareAll = false
names n GroupLength = false
names n (Round l) = false
names n (LoadEdgeModifier pairs) = false

unfoldable pub is_clear : Call → Bool
is_clear Clear = true
is_clear (InsertDefect v x) = false
is_clear (InsertBlossom x circle) = false
is_clear (SetGrowState n x) = false
is_clear (Prepare n d) = false
is_clear (UpdateLength n d first) = false
is_clear (Grow n l) = false
is_clear ReadTable = false
is_clear (Advance n) = false
is_clear Contacts = false
is_clear (RepresentativeVertex n) = false
is_clear RenewActiveList = false
is_clear PrepareAll = false
is_clear GroupLength = false
is_clear (Round l) = false
is_clear (RemoveBlossom n) = false
is_clear (LoadEdgeModifier pairs) = false
