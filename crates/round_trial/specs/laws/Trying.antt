-- The loop of one part of the trial: entries to come give what is left of it; a refusal ends it.
use Rattle.std.specs.Prelude.{◌≡◌, ℕ, ◌+◌, ◌<◌, ◌≤◌, Bool, true, false, ◌≢◌, List, [], ◌∷◌, length, drop, ℤ, ◌==◌, nat_lt, slice_index, if◌then◌else◌}
use Rattle.std.proofs.Common.{add-one, sym, ap, ◌∙◌, drop_of_length-le}
use Rattle.std.proofs.Math.Path.{refl}
use Rattle.std.proofs.Math.Seq.{drop-cons}
use borrow.Author.Tests.{eq-eqb, ne_eqb, ltb-true}
use Rattle.graph.specs.Basic.{fold, only}
use Rattle.graph.specs.State.{State, node_count, grow_state_of}
use Rattle.graph.specs.Active.{active_in}
use Rattle.graph.specs.Sound.{active_sound}
use Rattle.graph.specs.Layout.{state_of}
use Rattle.graph.specs.inner.Form.{Becomes}
use Rattle.graph.specs.laws.Active.{active-inside}
use Rattle.graph.specs.laws.Members.{by-test}
use Rattle.graph.specs.laws.Row.{becomes-none, becomes-then}
use Rattle.graph.specs.laws.Scan.{list_at}
use Rattle.answers.specs.Answer.{Reply}
use Rattle.calls.specs.Calls.{toward}
use Rattle.calls.specs.Round.{Tried, begun, tried_by, try_step, try_all, none_of}
use Rattle.round_trial.specs.Trial.{node_call}
use Rattle.round_trial.specs.inner.Step.{node_call_at, TriedTo, CallsPossible}
use Rattle.round_trial.specs.laws.Step.{SameActive, at_same, going_on}

-- a trial that was refused stays as it is
pub try-refused : (f : State → ℕ → Reply) (u : Tried) (ns : List ℕ) → u.refusal ≢ 0 → try_all f u ns ≡ u
unfolding try_all fold try_step
try-refused f u [] h = refl
try-refused f u (n ∷ ns) h = rw (ne_eqb u.refusal 0 h) (unfold try_all try_step in (try-refused f u ns h))

-- entry i of the list comes next, or is passed over
module _ (f : State → ℕ → Reply) (p : ℕ → Bool) (c : State) (l : List ℕ) (i : ℕ) (h : i < length l) where
  next : only p (drop i l) ≡ (if p (slice_index l i) then slice_index l i ∷ only p (drop (i + 1) l) else only p (drop (i + 1) l))
  unfolding only
  next = rw (add-one, drop-cons l i 0 h) refl

  pub try-next : p (slice_index l i) ≡ true → try_all f (begun c) (only p (drop i l)) ≡ try_all f (tried_by (f c (slice_index l i))) (only p (drop (i + 1) l))
  unfolding try_all fold try_step
  try-next t = rw (next, t) refl

  pub try-skip : p (slice_index l i) ≡ false → try_all f (begun c) (only p (drop i l)) ≡ try_all f (begun c) (only p (drop (i + 1) l))
  try-skip t = rw (next, t) refl

-- ---- in a block

-- the test of the nodes in grow state x
abbrev in_state : State → ℕ → ℕ → Bool
in_state c x n = grow_state_of c n == x

-- after i entries of the list of b₀, none of them refused
pub record Trying (l x : ℕ) (b₀ b t₀ t : List ℤ) (i : ℕ) : Type 0 where
  pub whole : try_all (node_call l (toward x)) (begun (state_of b))
      (only (in_state (state_of b₀) x) (drop i (state_of b₀).active))
      ≡ try_all (node_call l (toward x)) (begun (state_of b₀)) (active_in (state_of b₀) x)
  pub block : Becomes b₀ b (state_of b)
  pub same : SameActive (state_of b₀) (state_of b)
  pub going : CallsPossible x b t
  pub scratch : t ≡ t₀

pub trying-none : (l x : ℕ) (b t : List ℤ) → CallsPossible x b t → Trying l x b b t t 0
unfolding active_in
trying-none l x b t g =
    record {
      whole = refl;
      block = becomes-none b (state_of b) g.formed refl;
      same = record { active = refl; states = refl };
      going = g;
      scratch = refl;
    }

module _ (l x : ℕ) (b₀ b t₀ t : List ℤ) (i : ℕ) (q : Trying l x b₀ b t₀ t i) (h : i < length (state_of b₀).active) where
  abbrev node : ℕ
  node = slice_index (state_of b₀).active i

  abbrev rest : List ℕ
  rest = only (in_state (state_of b₀) x) (drop (i + 1) (state_of b₀).active)

  -- the call of entry i, by the list and the grow states at the start
  turn_is : node_call_at l x (state_of b) i ≡ (if in_state (state_of b₀) x node then tried_by (node_call l (toward x) (state_of b) node) else begun (state_of b))
  unfolding node_call_at
  turn_is = rw (q.same.active, q.same.states) refl

  module _ (b' t' : List ℤ) (r : ℕ) (p : TriedTo b b' r (node_call_at l x (state_of b) i)) (e : t' ≡ t) where
    pub trying-more : r ≡ 0 → Trying l x b₀ b' t₀ t' (i + 1)
    trying-more z = record {
      whole = by-test (in_state (state_of b₀) x node) went passed ∙ q.whole;
      block = becomes-then q.block
          (record {
            formed = p.block.formed;
            state = refl;
            vertices = p.block.vertices;
            edges = p.block.edges;
            sides = p.block.sides;
            nodes = p.block.nodes;
            len = p.block.len;
          });
      same = same_then;
      going = going_on x l i r b b' t t' q.going p e;
      scratch = e ∙ q.scratch;
    }
      where
        same_then : SameActive (state_of b₀) (state_of b')
        same_then =
            let s = at_same l x (state_of b) i in
            record {
              active = ap (λ (c : State). c.active) p.block.state ∙ s.active ∙ q.same.active;
              states = ap (λ (c : State). c.nodes.grow_state) p.block.state ∙ s.states ∙ q.same.states;
            }

        left : node_call_at l x (state_of b) i ≡ begun (state_of b')
        left = rw p.block.state (tried-eq (node_call_at l x (state_of b) i) (sym p.refusal ∙ z))
          where
            tried-eq : (u : Tried) → u.refusal ≡ 0 → u ≡ begun u.state
            tried-eq u g = ap (λ (k : ℕ). record { refusal = k; state = u.state }) g

        went : in_state (state_of b₀) x node ≡ true
            → try_all (node_call l (toward x)) (begun (state_of b')) rest
            ≡ try_all (node_call l (toward x)) (begun (state_of b))
            (only (in_state (state_of b₀) x) (drop i (state_of b₀).active))
        went g =
            sym
            (try-next (node_call l (toward x)) (in_state (state_of b₀) x) (state_of b) (state_of b₀).active i h g
            ∙ ap (λ (u : Tried). try_all (node_call l (toward x)) u rest) (sym (rw g at turn_is) ∙ left))

        passed : in_state (state_of b₀) x node ≡ false
            → try_all (node_call l (toward x)) (begun (state_of b')) rest
            ≡ try_all (node_call l (toward x)) (begun (state_of b))
            (only (in_state (state_of b₀) x) (drop i (state_of b₀).active))
        passed g =
            sym
            (try-skip (node_call l (toward x)) (in_state (state_of b₀) x) (state_of b) (state_of b₀).active i h g
            ∙ ap (λ (u : Tried). try_all (node_call l (toward x)) u rest) (sym (rw g at turn_is) ∙ left))

    pub trying-stop : r ≢ 0 → TriedTo b₀ b' r (try_all (node_call l (toward x)) (begun (state_of b₀)) (active_in (state_of b₀) x)) × (t' ≡ t₀)
    trying-stop z = (rw (← q.whole, ended) (record { refusal = p.refusal; block = becomes-then q.block p.block }), e ∙ q.scratch)
      where
        some : (node_call_at l x (state_of b) i).refusal ≢ 0
        some g = z (p.refusal ∙ g)

        ended : try_all (node_call l (toward x)) (begun (state_of b)) (only (in_state (state_of b₀) x) (drop i (state_of b₀).active)) ≡ node_call_at l x (state_of b) i
        ended =
            by-test (in_state (state_of b₀) x node)
            (λ g. try-next (node_call l (toward x)) (in_state (state_of b₀) x) (state_of b) (state_of b₀).active i h g
            ∙ ap (λ (u : Tried). try_all (node_call l (toward x)) u rest) (sym (rw g at turn_is))
            ∙ try-refused (node_call l (toward x)) (node_call_at l x (state_of b) i) rest some)
            (λ g. absurd (some (ap (λ (u : Tried). u.refusal) (rw g at turn_is))))

pub trying-all : (l x : ℕ) (b₀ b t₀ t : List ℤ) (i : ℕ) → Trying l x b₀ b t₀ t i → length (state_of b₀).active ≤ i
    → TriedTo b₀ b 0 (try_all (node_call l (toward x)) (begun (state_of b₀)) (active_in (state_of b₀) x)) × (t ≡ t₀)
trying-all l x b₀ b t₀ t i q h =
    (rw (← q.whole, none) (record { refusal = refl; block = q.block }), q.scratch)
  where
    none : try_all (node_call l (toward x)) (begun (state_of b)) (only (in_state (state_of b₀) x) (drop i (state_of b₀).active)) ≡ begun (state_of b)
    none = rw (drop_of_length-le (state_of b₀).active h) (unfold only try_all fold in refl)

-- ---- whether none is in grow state x

pub none-yes : (c : State) (x : ℕ) (i : ℕ) → none_of (only (in_state c x) (drop i c.active)) ≡ none_of (active_in c x)
    → length c.active ≤ i → true ≡ none_of (active_in c x)
unfolding only none_of
none-yes c x i e h = rw (drop_of_length-le c.active h) at e

module _ (c : State) (x i : ℕ) (e : none_of (only (in_state c x) (drop i c.active)) ≡ none_of (active_in c x)) (h : i < length c.active) where
  pub none-no : grow_state_of c (slice_index c.active i) ≡ x → false ≡ none_of (active_in c x)
  unfolding none_of
  none-no g = rw (next (node_call 0 0) (in_state c x) c c.active i h, eq-eqb _ _ g) at e

  pub none_more : grow_state_of c (slice_index c.active i) ≢ x → none_of (only (in_state c x) (drop (i + 1) c.active)) ≡ none_of (active_in c x)
  none_more g = rw (next (node_call 0 0) (in_state c x) c c.active i h, ne_eqb (grow_state_of c (slice_index c.active i)) x g) at e

-- an entry of the list is a node
pub entry-node : (c : State) (i : ℕ) → active_sound c ≡ true → i < length c.active → slice_index c.active i < node_count c
entry-node c i s h = ltb-true (slice_index c.active i) (node_count c) (list_at (λ n. nat_lt n (node_count c)) c.active i 0 (active-inside c s) h)
