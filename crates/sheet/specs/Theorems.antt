-- What is proved of weights from a sheet; each proof cites a law.
use Rattle.std.specs.Prelude.{ℕ, ◌+◌, ◌*◌, ◌≤◌, ◌<◌, ◌≡◌, ◌↔◌, Bool, true, ◌&&◌, List, ℤ, ltb, length, get_or}
use Rattle.graph.specs.Basic.{all, only, member}
use Rattle.graph.specs.Open.{Edge, open_refusal}
use Rattle.graph.specs.Opening.{edge_at, edges_from, virtuals_from, OpenCalled}
use Rattle.sheet.specs.Outcome.{Opened, Refused}
use Rattle.sheet.specs.Weight.{scaled}
use Rattle.sheet.specs.Nearest.{NearestUpward}
use Rattle.sheet.specs.Sheet.{values_from, largest, sheet_ok, vanished, sheet_weight, weighed, with_weight}
use Rattle.sheet.specs.Called.{sheet_refusal, SheetCalled}
use Rattle.sheet.specs.laws.Weight.{twice-nearest, between, near, rises, of-largest, at_most, zero-exactly}
use Rattle.sheet.specs.laws.Sheet.{largest-is-value, largest-above, vanishes-rule}
use Rattle.sheet.specs.laws.Called.{refused-as-open}
use Rattle.sheet.specs.laws.Opened.{refused-keeps, opens, counts, edge-weighed, positive}

-- ---- the weight of a value t, where m is the largest

module _ (m : ℕ) (some : 0 < m) where
  -- It is twice the whole number nearest to 500,000 t / m, halves upward: that number, and no other.
  pub weight-is-nearest : (t k : ℕ) → (scaled m t ≡ 2 * k) ↔ NearestUpward (500_000 * t) m k
  weight-is-nearest = twice-nearest m some

  -- Where that number is k, 500,000 t / m lies from k - 1/2, which counts, up to k + 1/2, which doesn't: times 2 m.
  pub weight-is-between : (t k : ℕ) → scaled m t ≡ 2 * k → (2 * (m * k) ≤ 1_000_000 * t + m) × (1_000_000 * t < 2 * (m * k) + m)
  weight-is-between = between m some

  -- It differs from 1,000,000 t / m by at most 1, times m: from above, and from below.
  pub weight-is-near : (t : ℕ) → (m * scaled m t ≤ 1_000_000 * t + m) × (1_000_000 * t ≤ m * scaled m t + m)
  weight-is-near = near m some

  -- No order is reversed.
  pub weights-keep-order : (t u : ℕ) → t ≤ u → scaled m t ≤ scaled m u
  weights-keep-order = rises m some

  -- The largest becomes 1,000,000,
  pub largest-becomes-limit : scaled m m ≡ 1_000_000
  largest-becomes-limit = of-largest m some

  -- and none more.
  pub weight-within-limit : (t : ℕ) → t ≤ m → scaled m t ≤ 1_000_000
  weight-within-limit = at_most m some

  -- It is 0 exactly when 1,000,000 t is below m.
  pub weight-is-zero-exactly : (t : ℕ) → (scaled m t ≡ 0) ↔ (1_000_000 * t < m)
  weight-is-zero-exactly = zero-exactly m some

-- ---- a sheet

module _ (values : List ℕ) (some : 0 < largest values) where
  -- The largest is one of the values, and none is above it.
  pub largest-is-one : member (largest values) values ≡ true
  largest-is-one = largest-is-value values some

  pub none-above-largest : (i : ℕ) → i < length values → get_or values i 0 ≤ largest values
  none-above-largest = largest-above values

  -- Those that are counted are the positive ones with 1,000,000 t below the largest.
  pub vanished-exactly : vanished values ≡ length (only (λ t. ltb 0 t && ltb (1_000_000 * t) (largest values)) values)
  vanished-exactly = vanishes-rule values some

-- ---- the call

-- With a sheet of E values that is in range it is refused exactly as open refuses the edges with the weights of the sheet.
pub sheet-refused-as-open : (v e n l : ℕ) (edges sheet virtuals : List ℤ) (fit : Bool)
    → length sheet ≡ e → sheet_ok (values_from sheet) ≡ true → sheet_refusal v e n l edges sheet virtuals fit
    ≡ open_refusal v e n l (edges_from (weighed (values_from sheet) edges)) (virtuals_from virtuals) fit
sheet-refused-as-open = refused-as-open

module _ {b t : List ℤ} {v e n l : ℕ} {edges sheet virtuals edges' b' : List ℤ} {k : ℕ} where
  -- Refused, edges and block are as they were.
  pub refused-leaves-all : SheetCalled b t v e n l edges sheet virtuals edges' b' (Refused k) → (edges' ≡ edges) × (b' ≡ b)
  refused-leaves-all p = refused-keeps p.leaves

  module _ (p : SheetCalled b t v e n l edges sheet virtuals edges' b' (Opened k)) where
    -- Accepted, it is an opening that is accepted, on the words that it leaves.
    pub sheet-opens : OpenCalled b t v e n l edges' virtuals b' 0
    sheet-opens = opens p

    -- Each edge keeps its ends and has the weight of its value.
    pub sheet-weighs : (i : ℕ) → i < e → edge_at edges' i ≡ with_weight (edge_at edges i) (sheet_weight (values_from sheet) i)
    sheet-weighs = edge-weighed p

    -- What is answered is how many positive values became 0.
    pub sheet-counts : k ≡ vanished (values_from sheet)
    sheet-counts = counts p

    -- All weights are positive exactly when every value is and none vanished.
    pub weights-positive-exactly :
        (all (λ (x : Edge). ltb 0 x.weight) (edges_from edges') ≡ true) ↔ ((k ≡ 0) × (all (λ s. ltb 0 s) (values_from sheet) ≡ true))
    weights-positive-exactly = positive p
