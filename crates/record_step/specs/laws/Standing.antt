-- One record by what the memory holds is one record of the definition.
use Rattle.std.specs.Prelude.{ℕ, ◌-◌, ◌≤◌, ◌<◌, ◌≡◌, refl, ◌≢◌, Bool, false, List, [], ℤ, pos, eqb, length, take, replicate}
use Rattle.std.proofs.Common.{arith, ◌∙◌, length-take}
use Rattle.std.proofs.Math.Path.{sym, ap}
use Rattle.std.proofs.Math.Bool.{true}
use Rattle.std.proofs.lemmas.List.{length-map, length-replicate}
use borrow.Author.Tests.{eq-eqb, ne_eqb, eqb-true, eqb-false}
use Rattle.graph.specs.Basic.{below}
use Rattle.graph.specs.State.{vertex_count, edge_count}
use Rattle.graph.specs.Open.{Edge, flag_in, opened, graph_of, blank_state, open_refusal}
use Rattle.graph.specs.Layout.{state_of}
use Rattle.graph.specs.laws.Opened.{accepted}
use Rattle.graph.specs.laws.Members.{by-test, length-below}
use Rattle.pass.specs.Scratch.{zero_scratch}
use Rattle.calls.specs.Calls.{Call, respond}
use Rattle.reachable.specs.Reachable.{after}
use Rattle.records.specs.Record.{Record, sizes, an_edge, a_virtual, ask, ill_formed, field, record_of, decoded}
use Rattle.records.specs.Decode.{well_formed}
use Rattle.records.specs.Lines.{lines_for}
use Rattle.records.specs.Run.{Gathered, Stage, fresh, gathering, running, ended, record_step, ends, call_step, open_step, too_large, run_refusal}
use Rattle.records.specs.declared.setup.Setup.{Setup}
use Rattle.records.specs.Setup.{from_sizes, edge_added, stored_edge, virtual_added, stored_virtual, SetupHolds}
use Rattle.records.specs.Opening.{large_sizes, complete, open_code, open_block}
use Rattle.record_call.specs.Call.{call_in, OfKind}
use Rattle.record_step.specs.Standing.{part_of, Runs, Asked, Memory, memory, Stands, Standing, Gathers, MemorySuffices, RecordStepped}
use Rattle.records.specs.Write.{LinesPut}
use Rattle.records.specs.laws.Decode.{decoded-kind, decoded-ill}
use Rattle.records.specs.laws.Write.{told-lines, told_none}
use Rattle.record_step.specs.laws.Holding.{only_sizes, holding-start, holding-edge, holding-virtual, stored-few}
use Rattle.records.specs.laws.Opening.{complete-sizes, open-large, open-incomplete, code-held, block_held}
use Rattle.record_call.specs.laws.Asking.{asks}

-- ---- the stage by its number

module _ (m : Memory) where
  pub stands-gathering : (s : Stage) → Stands m s → m.stage ≡ 1 → Gathers m.setup m.edges m.virtuals
  unfolding Stands
  stands-gathering fresh p e = absurd (omega arith)
  stands-gathering (gathering g) p e = record { gathered = g; holding = p.1 }
  stands-gathering (running c) p e = absurd (omega (arith, p.0))
  stands-gathering ended p e = absurd (omega arith)

  pub stands-running : (s : Stage) → Stands m s → m.stage ≡ 2 → Runs m.setup m.block
  unfolding Stands
  stands-running fresh p e = absurd (omega arith)
  stands-running (gathering g) p e = absurd (omega (arith, p.0))
  stands-running (running c) p e = p.1
  stands-running ended p e = absurd (omega arith)

  pub standing-few : Standing m → m.stage ≡ 1 → m.setup.virtuals ≤ 64
  standing-few p e = stored-few (stands-gathering p.at p.stands e).holding

  pub stands-fresh : m.stage ≡ 0 → Stands m fresh
  unfolding Stands
  stands-fresh e = e

  pub stands-ended : m.stage ≡ 3 → Stands m ended
  unfolding Stands
  stands-ended e = e

-- words that are as many as before, with the scratch as it was
pub roomy-kept : {block scratch edges virtuals block' scratch' edges' virtuals' : List ℤ} → MemorySuffices block scratch edges virtuals
    → length block' ≡ length block → scratch' ≡ scratch → length edges' ≡ length edges
    → length virtuals' ≡ length virtuals → MemorySuffices block' scratch' edges' virtuals'
roomy-kept r b s e v = record {
  words = rw b r.words;
  scratch-words = rw s r.scratch-words;
  edge-words = rw e r.edge-words;
  virtual-words = rw v r.virtual-words;
  zero = rw s r.zero;
}

-- ---- a record that ends the run

-- ill-formed, at any stage
pub turn-ill : (m : Memory) (k : ℕ) (s : Stage) → Stands m s → m.stage < 3 → record_step k s ill_formed ≡ ends k 3
unfolding record_step Stands
turn-ill m k fresh p h = refl
turn-ill m k (gathering g) p h = refl
turn-ill m k (running c) p h = refl
turn-ill m k ended p h = absurd (omega arith)

-- sizes that are not the first record
pub turn-sizes : (m : Memory) (k v e n l : ℕ) (s : Stage) → Stands m s → m.stage < 3 → m.stage ≢ 0 → record_step k s (sizes v e n l) ≡ ends k 3
unfolding record_step Stands
turn-sizes m k v e n l fresh p h o = absurd (o p)
turn-sizes m k v e n l (gathering g) p h o = refl
turn-sizes m k v e n l (running c) p h o = refl
turn-sizes m k v e n l ended p h o = absurd (omega arith)

-- an edge or a virtual vertex as the first record, or behind the opening
pub turn-edge : (m : Memory) (k : ℕ) (x : Edge) (s : Stage) → Stands m s → m.stage < 3 → m.stage ≢ 1 → record_step k s (an_edge x) ≡ ends k 3
unfolding record_step Stands
turn-edge m k x fresh p h o = refl
turn-edge m k x (gathering g) p h o = absurd (o p.0)
turn-edge m k x (running c) p h o = refl
turn-edge m k x ended p h o = absurd (omega arith)

pub turn-virtual : (m : Memory) (k x : ℕ) (s : Stage) → Stands m s → m.stage < 3 → m.stage ≢ 1 → record_step k s (a_virtual x) ≡ ends k 3
unfolding record_step Stands
turn-virtual m k x fresh p h o = refl
turn-virtual m k x (gathering g) p h o = absurd (o p.0)
turn-virtual m k x (running c) p h o = refl
turn-virtual m k x ended p h o = absurd (omega arith)

-- a call as the first record
pub turn-early : (m : Memory) (k : ℕ) (a : Call) (s : Stage) → Stands m s → m.stage ≡ 0 → record_step k s (ask a) ≡ ends k 3
unfolding record_step Stands
turn-early m k a fresh p h = refl
turn-early m k a (gathering g) p h = absurd (omega (arith, p.0))
turn-early m k a (running c) p h = absurd (omega (arith, p.0))
turn-early m k a ended p h = absurd (omega arith)

-- the line of the refusal is told, and the run has ended
module _ {k : ℕ} {m m' : Memory} {b c : List ℕ} {n i : ℕ} {full stopped : Bool} {x : Record} (code : ℕ) where
  pub turned-stop : ((s : Stage) → Stands m s → record_step k s x ≡ ends k code)
      → LinesPut b n full c i stopped (ends k code).lines → m'.stage ≡ 3 → RecordStepped k m m' b n full c i stopped x
  unfolding ends
  turned-stop e t h = record { stands = λ s p. rw (e s p) (stands-ended m' h); told = λ s p. rw (e s p) t }

-- ---- records before the opening

module _ {body : List ℕ} {kind : ℕ} (o : OfKind body kind) where
  is-sizes : kind ≡ 1 → decoded body ≡ sizes (field body 0) (field body 1) (field body 2) (field body 3)
  unfolding record_of
  is-sizes e = decoded-kind body 1 o.formed (o.is ∙ e)

  is-edge : kind ≡ 2 → decoded body ≡ an_edge (record { left = field body 0; right = field body 1; weight = field body 2 })
  unfolding record_of
  is-edge e = decoded-kind body 2 o.formed (o.is ∙ e)

  is-virtual : kind ≡ 3 → decoded body ≡ a_virtual (field body 0)
  unfolding record_of
  is-virtual e = decoded-kind body 3 o.formed (o.is ∙ e)

  module _ (k : ℕ) (m : Memory) (h : m.stage < 3) where
    pub late-sizes : kind ≡ 1 → m.stage ≢ 0 → (s : Stage) → Stands m s → record_step k s (decoded body) ≡ ends k 3
    late-sizes e n s p = rw (is-sizes e) (turn-sizes m k (field body 0) (field body 1) (field body 2) (field body 3) s p h n)

    -- kind 2 or 3
    pub out-of-place : 1 ≤ kind → kind ≤ 3 → kind ≢ 1 → m.stage ≢ 1 → (s : Stage) → Stands m s → record_step k s (decoded body) ≡ ends k 3
    out-of-place low high n a s p =
        by-test (eqb kind 2)
        (λ t. rw (is-edge (eqb-true kind 2 t)) (turn-edge m k _ s p h a))
        (λ t. let ne : kind ≡ 2 → ⊥ = eqb-false kind 2 t in rw (is-virtual (omega arith)) (turn-virtual m k (field body 0) s p h a))

  module _ (k st : ℕ) (t t' : Setup) (block edges virtuals : List ℤ) {b : List ℕ} {n : ℕ} {full : Bool} (room : n ≤ length b) where
    pub turned-sizes : kind ≡ 1 → st ≡ 0 → t' ≡ from_sizes (field body 0) (field body 1) (field body 2) (field body 3)
        → RecordStepped k (memory st t block edges virtuals) (memory 1 t' block edges virtuals) b n full b n full
        (decoded body)
    unfolding record_step Stands only_sizes
    turned-sizes e es et = rw (is-sizes e, es, et) (record { stands = after-it; told = lines })
      where
        x : Record
        x = sizes (field body 0) (field body 1) (field body 2) (field body 3)

        after-it : (s : Stage) → Stands (memory 0 t block edges virtuals) s
            → Stands (memory 1 (from_sizes (field body 0) (field body 1) (field body 2) (field body 3)) block edges virtuals)
            (record_step k s x).stage
        after-it fresh p = (refl, holding-start (field body 0) (field body 1) (field body 2) (field body 3) edges virtuals)
        after-it (gathering g) p = absurd (omega (arith, p.0))
        after-it (running c) p = absurd (omega (arith, p.0))
        after-it ended p = absurd (omega arith)

        lines : (s : Stage) → Stands (memory 0 t block edges virtuals) s → LinesPut b n full b n full (record_step k s x).lines
        lines fresh p = told_none room
        lines (gathering g) p = absurd (omega (arith, p.0))
        lines (running c) p = absurd (omega (arith, p.0))
        lines ended p = absurd (omega arith)

    pub turned-edge : {edges' : List ℤ} → kind ≡ 2 → st ≡ 1 → 384 ≤ length edges
        → (t' ≡ edge_added t) × (edges' ≡ stored_edge edges t.edges (field body 0) (field body 1) (field body 2))
        → RecordStepped k (memory st t block edges virtuals) (memory 1 t' block edges' virtuals) b n full b n full (decoded body)
    unfolding record_step Stands
    turned-edge e es size q = rw (is-edge e, es, q.0, q.1) (record { stands = after-it; told = lines })
      where
        x : Edge
        x = record { left = field body 0; right = field body 1; weight = field body 2 }

        after-it : (s : Stage) → Stands (memory 1 t block edges virtuals) s
            → Stands
            (memory 1 (edge_added t) block
            (stored_edge edges t.edges (field body 0) (field body 1) (field body 2)) virtuals)
            (record_step k s (an_edge x)).stage
        after-it fresh p = absurd (omega arith)
        after-it (gathering g) p = (refl, holding-edge x size p.1)
        after-it (running c) p = absurd (omega (arith, p.0))
        after-it ended p = absurd (omega arith)

        lines : (s : Stage) → Stands (memory 1 t block edges virtuals) s → LinesPut b n full b n full (record_step k s (an_edge x)).lines
        lines fresh p = absurd (omega arith)
        lines (gathering g) p = told_none room
        lines (running c) p = absurd (omega (arith, p.0))
        lines ended p = absurd (omega arith)

    pub turned-virtual : {virtuals' : List ℤ} → kind ≡ 3 → st ≡ 1 → 65 ≤ length virtuals
        → (t' ≡ virtual_added t virtuals (field body 0)) × (virtuals' ≡ stored_virtual t virtuals (field body 0))
        → RecordStepped k (memory st t block edges virtuals) (memory 1 t' block edges virtuals') b n full b n full (decoded body)
    unfolding record_step Stands
    turned-virtual e es size q = rw (is-virtual e, es, q.0, q.1) (record { stands = after-it; told = lines })
      where
        after-it : (s : Stage) → Stands (memory 1 t block edges virtuals) s
            → Stands
            (memory 1 (virtual_added t virtuals (field body 0)) block edges (stored_virtual t virtuals (field body 0)))
            (record_step k s (a_virtual (field body 0))).stage
        after-it fresh p = absurd (omega arith)
        after-it (gathering g) p = (refl, holding-virtual (field body 0) size p.1)
        after-it (running c) p = absurd (omega (arith, p.0))
        after-it ended p = absurd (omega arith)

        lines : (s : Stage) → Stands (memory 1 t block edges virtuals) s → LinesPut b n full b n full (record_step k s (a_virtual (field body 0))).lines
        lines fresh p = absurd (omega arith)
        lines (gathering g) p = told_none room
        lines (running c) p = absurd (omega (arith, p.0))
        lines ended p = absurd (omega arith)

-- ---- a call

module _ {body : List ℕ} {kind : ℕ} (o : OfKind body kind) (four : 4 ≤ kind) where
  pub call-early : (k : ℕ) (m : Memory) → m.stage ≡ 0 → (s : Stage) → Stands m s → record_step k s (decoded body) ≡ ends k 3
  call-early k m e s p = rw (asks o four) (turn-early m k (call_in body) s p e)

  -- on an opened graph
  pub turned-call : (k st : ℕ) (t : Setup) {block block' : List ℤ} (edges virtuals : List ℤ) {b c : List ℕ} {n i : ℕ} {full stopped : Bool}
      → st ≡ 2 → Asked t block block' (call_in body) → LinesPut b n full c i stopped (lines_for k (respond (state_of (part_of t block)) (call_in body)).outcome)
      → RecordStepped k (memory st t block edges virtuals) (memory st t block' edges virtuals) b n full c i stopped (decoded body)
  unfolding record_step Stands call_step
  turned-call k st t {block} {block'} edges virtuals {b} {c} {n} {i} {full} {stopped} es a h = rw (asks o four, es) (record { stands = after-it; told = lines })
    where
      after-it : (s : Stage) → Stands (memory 2 t block edges virtuals) s
          → Stands (memory 2 t block' edges virtuals) (record_step k s (ask (call_in body))).stage
      after-it fresh p = absurd (omega arith)
      after-it (gathering g) p = absurd (omega (arith, p.0))
      after-it (running x) p = (refl, a.runs, a.state ∙ ap (λ y. (respond y (call_in body)).state) p.2)
      after-it ended p = absurd (omega arith)

      lines : (s : Stage) → Stands (memory 2 t block edges virtuals) s → LinesPut b n full c i stopped (record_step k s (ask (call_in body))).lines
      lines fresh p = absurd (omega arith)
      lines (gathering g) p = absurd (omega (arith, p.0))
      lines (running x) p = told-lines h (ap (λ y. lines_for k (respond y (call_in body)).outcome) p.2)
      lines ended p = absurd (omega arith)

-- ---- the opening

-- sizes that an opening accepts
pub code-small : (s : Setup) (edges virtuals : List ℤ) → open_code s edges virtuals ≡ 0 → large_sizes s ≡ false
code-small s edges virtuals e = by-test (large_sizes s) (λ h. absurd (omega (arith, (open-large s edges virtuals edges h).0, e))) (λ h. h)

pub code-complete : (s : Setup) (edges virtuals : List ℤ) → open_code s edges virtuals ≡ 0 → complete s ≡ true
code-complete s edges virtuals e =
    by-test (complete s) (λ h. h)
    (λ h. absurd (omega (arith, (open-incomplete s edges virtuals edges (code-small s edges virtuals e) h).0, e)))

refusal-none : (g : Gathered) → run_refusal g ≡ 0 → open_refusal g.v g.e g.n g.l g.edges g.virtuals true ≡ 0
unfolding run_refusal
refusal-none g e = by-test (too_large g) (λ h. absurd (omega (arith, rw h at e))) (λ h. rw h at e)

opened-edges : (v n l : ℕ) (edges : List Edge) (virtuals : List ℕ) → edge_count (opened v n l edges virtuals) ≡ length edges
unfolding opened blank_state graph_of
opened-edges v n l edges virtuals = length-map edges (λ (e : Edge). e.weight)

opened-vertices : (v n l : ℕ) (edges : List Edge) (virtuals : List ℕ) → vertex_count (opened v n l edges virtuals) ≡ v
unfolding opened blank_state graph_of
opened-vertices v n l edges virtuals = length-map (below v) (flag_in virtuals) ∙ length-below v

module _ {s : Setup} {edges virtuals : List ℤ} {g : Gathered} (p : SetupHolds s edges virtuals g)
    (size : 384 ≤ length edges) (code : open_code s edges virtuals ≡ 0) (b : List ℤ) where
  none : open_refusal g.v g.e g.n g.l g.edges g.virtuals true ≡ 0
  none = refusal-none g (sym (code-held s edges virtuals g p size) ∙ code)

  pub opened-is : state_of (part_of s (open_block s edges virtuals b)) ≡ opened g.v g.n g.l g.edges g.virtuals
  opened-is = (block_held s edges virtuals g p size code b).state

  opening-runs : Runs s (open_block s edges virtuals b)
  unfolding after
  opening-runs = record {
    small = code-small s edges virtuals code;
    sizes = complete-sizes s (code-complete s edges virtuals code);
    formed = (block_held s edges virtuals g p size code b).formed;
    reachable = record {
      vertices = g.v;
      edge_number = g.e;
      nodes = g.n;
      store = g.l;
      edges = g.edges;
      virtuals = g.virtuals;
      fits = true;
      accepted-opening = none;
      calls = [];
      is = opened-is;
    };
    vertices = ap (λ c. vertex_count c) opened-is ∙ opened-vertices g.v g.n g.l g.edges g.virtuals ∙ sym p.vertices;
    edges = ap (λ c. edge_count c) opened-is ∙ opened-edges g.v g.n g.l g.edges g.virtuals
        ∙ (accepted g.v g.e g.n g.l g.edges g.virtuals true none).count ∙ sym p.edge-size;
  }

-- the block runs where nothing refused the opening
pub opened-runs : {s : Setup} {edges virtuals before : List ℤ} {code : ℕ} (block : List ℤ) → Gathers s edges virtuals
    → 384 ≤ length edges → (code ≡ open_code s edges virtuals) × (before ≡ open_block s edges virtuals block) → code ≡ 0
    → Runs s before
opened-runs block g size e z = rw e.1 (opening-runs g.holding size (sym e.0 ∙ z) block)

module _ {body : List ℕ} {kind : ℕ} (o : OfKind body kind) (four : 4 ≤ kind) (k st : ℕ) (t : Setup)
    (block edges virtuals : List ℤ) (size : 384 ≤ length edges) (es : st ≡ 1) (code : ℕ)
    (e : code ≡ open_code t edges virtuals) where
  -- refused
  pub open-refused : code ≢ 0 → (s : Stage) → Stands (memory st t block edges virtuals) s → record_step k s (decoded body) ≡ ends k code
  unfolding record_step Stands open_step
  open-refused n s p = rw (asks o four) (go s (rw es at p))
    where
      go : (s : Stage) → Stands (memory 1 t block edges virtuals) s → record_step k s (ask (call_in body)) ≡ ends k code
      go fresh p = absurd (omega arith)
      go (gathering g) p =
          let c : run_refusal g ≡ code = sym (code-held t edges virtuals g p.1 size) ∙ sym e in
          rw (c, ne_eqb code 0 n)
      go (running c) p = absurd (omega (arith, p.0))
      go ended p = absurd (omega arith)

  -- accepted, and the first call on the opened graph
  pub turned-open : code ≡ 0 → {before block' : List ℤ} → before ≡ open_block t edges virtuals block → {b c : List ℕ} {n i : ℕ} {full stopped : Bool}
      → Asked t before block' (call_in body) → LinesPut b n full c i stopped (lines_for k (respond (state_of (part_of t before)) (call_in body)).outcome)
      → RecordStepped k (memory st t block edges virtuals) (memory 2 t block' edges virtuals) b n full c i stopped (decoded body)
  unfolding record_step Stands open_step call_step
  turned-open z {before} {block'} eb {b} {c} {n} {i} {full} {stopped} a h = rw (asks o four, es) (record { stands = after-it; told = lines })
    where
      zero-code : open_code t edges virtuals ≡ 0
      zero-code = sym e ∙ z

      is : (g : Gathered) → SetupHolds t edges virtuals g → state_of (part_of t before) ≡ opened g.v g.n g.l g.edges g.virtuals
      is g p = ap (λ x. state_of (part_of t x)) eb ∙ opened-is p size zero-code block

      none_of : (g : Gathered) → SetupHolds t edges virtuals g → eqb (run_refusal g) 0 ≡ true
      none_of g p = eq-eqb (run_refusal g) 0 (sym (code-held t edges virtuals g p size) ∙ zero-code)

      after-it : (s : Stage) → Stands (memory 1 t block edges virtuals) s
          → Stands (memory 2 t block' edges virtuals) (record_step k s (ask (call_in body))).stage
      after-it fresh p = absurd (omega arith)
      after-it (gathering g) p = rw (none_of g p.1) (refl, a.runs, a.state ∙ ap (λ y. (respond y (call_in body)).state) (is g p.1))
      after-it (running x) p = absurd (omega (arith, p.0))
      after-it ended p = absurd (omega arith)

      lines : (s : Stage) → Stands (memory 1 t block edges virtuals) s → LinesPut b n full c i stopped (record_step k s (ask (call_in body))).lines
      lines fresh p = absurd (omega arith)
      lines (gathering g) p = rw (none_of g p.1) (told-lines h (ap (λ y. lines_for k (respond y (call_in body)).outcome) (is g p.1)))
      lines (running x) p = absurd (omega (arith, p.0))
      lines ended p = absurd (omega arith)

-- ---- a body that is no record

pub ill-stops : (body : List ℕ) (k : ℕ) (m : Memory) → well_formed body ≡ false → m.stage < 3 → (s : Stage) → Stands m s
    → record_step k s (decoded body) ≡ ends k 3
ill-stops body k m e h s p = rw (decoded-ill body e) (turn-ill m k s p h)

-- ---- the memory of the program

-- a body of two bytes' length
pub part-short : (n : ℕ) (l : List ℕ) → n ≤ 65535 → length (take n l) ≤ 65535
part-short n l h = omega (arith, length-take n l)

zeros-long : (n m : ℕ) → m ≤ n → m ≤ length (replicate n (pos 0))
zeros-long n m h = rw (length-replicate {A = ℤ} n (pos 0)) h

zeros-are : (n : ℕ) → replicate n (pos 0) ≡ zero_scratch (length (replicate n (pos 0)))
unfolding zero_scratch
zeros-are n = rw (length-replicate {A = ℤ} n (pos 0))

pub roomy-start : MemorySuffices (replicate 4096 (pos 0)) (replicate 576 (pos 0)) (replicate 384 (pos 0)) (replicate 65 (pos 0))
roomy-start = record {
  words = zeros-long 4096 4096 (omega arith);
  scratch-words = zeros-long 576 576 (omega arith);
  edge-words = zeros-long 384 384 (omega arith);
  virtual-words = zeros-long 65 65 (omega arith);
  zero = zeros-are 576;
}
