-- A free vertex behind full listed edges is taken: its sides are held, those edges are no longer listed, its other sides are; without
-- any it is overgrown. Its depth is the radius, its rank the latest.
use Rattle.std.specs.Prelude.{ℕ, suc, ◌+◌, ◌<◌, ◌≡◌, refl, ◌≢◌, Bool, true, false, List, ◌∷◌, eqb, if◌then◌else◌}
use Rattle.std.proofs.Common.{eq-eqb, ne_eqb}
use Rattle.graph.specs.State.{Overgrown, opposite}
use Rattle.reachable.specs.Cluster.{SideGraph, View, NodeView}

-- f with the number y at v
unfoldable pub update : (ℕ → ℕ) → ℕ → ℕ → ℕ → ℕ
update f v y u = if eqb u v then y else f u

pub update_same : (f : ℕ → ℕ) (v y : ℕ) → update f v y v ≡ y
unfolding update
update_same f v y = rw (eq-eqb v v refl)

pub update_other : (f : ℕ → ℕ) (v y u : ℕ) → u ≢ v → update f v y u ≡ f u
unfolding update
update_other f v y u h = rw (ne_eqb u v h)

-- the view once v is taken for a node n of radius y
abbrev pub taken_view : View → (ℕ → ℕ) → (ℕ → ℕ) → ℕ → ℕ → ℕ → View
taken_view x h vh v n y =
    record {
      holder = h;
      vertex_holder = vh;
      growth = x.growth;
      defect = x.defect;
      depth = update x.depth v y;
      rank = update x.rank v x.next_rank;
      owner = update x.owner v n;
      next_rank = suc x.next_rank;
    }

abbrev pub taken_node : NodeView → (ℕ → Bool) → List Overgrown → NodeView
taken_node l p st = record { listed = p; stack = st; base = l.base; dual = l.dual }

-- a listed side that no longer is: its edge to v is full, and the side across is not listed
pub record Filled (q : SideGraph) (x : View) (v s : ℕ) (p : ℕ → Bool) : Type 0 where
  pub at : q.end (opposite s) ≡ v
  pub full : x.growth s + x.growth (opposite s) ≡ q.weight s
  pub across : p (opposite s) ≡ false

-- the stack: v on it with all its sides unlisted, or as before with a side listed
pub data NewStack (q : SideGraph) (v : ℕ) (p : ℕ → Bool) (old : List Overgrown) : List Overgrown → Type 0 where
  pushed : ((t : ℕ) → t < q.sides → q.end t ≡ v → p t ≡ false) → NewStack q v p old (record { vertex = v; amount = 0 } ∷ old)
  same-stack : (t : ℕ) → t < q.sides → q.end t ≡ v → p t ≡ true → NewStack q v p old old

pub record TakenVertex (q : SideGraph) (x : View) (n : ℕ) (l : NodeView) (v : ℕ) (h vh : ℕ → ℕ) (p : ℕ → Bool) (st : List Overgrown) : Type 0 where
  pub vertex-taken : vh v ≡ n + 1
  pub vertex-kept : (u : ℕ) → u ≢ v → vh u ≡ x.vertex_holder u
  pub side-taken : (t : ℕ) → t < q.sides → q.end t ≡ v → h t ≡ n + 1
  pub side-kept : (t : ℕ) → (t < q.sides → q.end t ≢ v) → h t ≡ x.holder t
  pub filled : (s : ℕ) → l.listed s ≡ true → p s ≡ false → Filled q x v s p
  pub fresh : (s : ℕ) → p s ≡ true → l.listed s ≡ false → (s < q.sides) × (q.end s ≡ v)
  pub rest : (t : ℕ) → t < q.sides → q.end t ≡ v → p t ≡ false → (l.listed (opposite t) ≡ true) × (p (opposite t) ≡ false)
  -- a side that is listed now, across one that still is: the edge is not full
  pub open-edge : (t : ℕ) → t < q.sides → q.end t ≡ v → p t ≡ true → l.listed (opposite t) ≡ true → q.weight t ≢ 0
      → x.growth t + x.growth (opposite t) ≢ q.weight t
  -- a side through which v is taken
  pub through : ℕ
  pub through-in : through < q.sides
  pub through-at : q.end through ≡ v
  pub through-out : p through ≡ false
  pub stack : NewStack q v p l.stack st
