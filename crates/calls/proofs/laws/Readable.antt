-- A sound state can be read for the length answer, and so can the state that a preparation of it leaves, in either direction.
use Rattle.std.specs.Prelude.{◌≡◌, ℕ, ◌*◌, ◌<◌, ◌≤◌, true, false, ◌≢◌, List, [], ◌∷◌, length, ℤ, nat_lt, slice_index}
use Rattle.std.proofs.Common.{arith, sym, ne_eqb}
use Rattle.std.proofs.Math.Decide.{ℕ_discrete as dec_eq, dec_lt}
use Rattle.std.proofs.Math.ListN.{get_or-eq_default}
use Rattle.graph.specs.Basic.{all, distinct}
use Rattle.graph.specs.State.{State, up, edge_count, side_count, node_count, sides_at, parent_of, boundary_of}
use Rattle.graph.specs.Open.{dual_limit, growth_limit}
use Rattle.graph.specs.Sound.{sound}
use Rattle.graph.specs.Layout.{state_of}
use Rattle.graph.specs.Form.{Formed}
use Rattle.graph.specs.inner.Form.{sides_ok}
use Rattle.graph.specs.laws.Shape.{node-facts, sound-node, own-facts}
use Rattle.graph.specs.Shape.{Shape}
use Rattle.graph.specs.laws.Sounds.{Sound, sound-facts}
use Rattle.pass.specs.Work.{Work, finish_pass}
use Rattle.pass.specs.Shrink.{shrink_pass}
use Rattle.pass.specs.Prepare.{prepare_node}
use Rattle.pass.specs.inner.Ready.{Growable, Preparable}
use Rattle.pass.proofs.laws.Holders.{Holders, shrink-pass-holders}
use Rattle.pass.proofs.laws.Passes.{Passed, passed-refl, passed-trans, shrink-passed}
use Rattle.pass.proofs.laws.Fits.{Listed, shrink-pass-listed}
use Rattle.pass.proofs.laws.GrowSound.{finish-boundary}
use Rattle.graph.specs.laws.Form.{laid-shape, formed-sides, formed-vertices}
use Rattle.pass.proofs.laws.Prepare.{pass_state, one_down, prepare-leaves, prepare-passed}
use Rattle.pass.proofs.laws.Preparing.{formed-ends}
use Rattle.calls.specs.Refuse.{store_short}
use Rattle.graph.specs.inner.Readable.{Readable}
use Rattle.calls.proofs.laws.Sounds.{prepare-up-sound}
use Rattle.calls.proofs.laws.Shapes.{shape-prepared}

-- ---- a sound state

beyond : (l : List ℕ) (i k : ℕ) → length l ≤ i → slice_index l i ≤ k
beyond l i k h = rw (get_or-eq_default l 0 {n = i} h) (omega arith)

pub sound-readable : (c : State) → Shape c → sound c ≡ true → Readable c
sound-readable c z h =
    let f : Sound c = sound-facts c h in
    record {
      holders = λ s. elim (dec_lt s (side_count c)) [ yes b ↦ (f.side s b).holder | no b ↦ beyond c.sides.holder s (node_count c) (omega (arith, z.holder)) ];
      growths = λ s. elim (dec_lt s (side_count c)) [ yes b ↦ (f.side s b).growth | no b ↦ beyond c.sides.growth s growth_limit (omega (arith, z.growth)) ];
      duals = λ n. elim (dec_lt n (node_count c)) [ yes b ↦ (f.node n b).dual | no b ↦ beyond c.nodes.dual n dual_limit (omega (arith, z.dual)) ];
    }

pub sound-sides-ok : (c : State) → sound c ≡ true → (n : ℕ) → n < node_count c → sides_ok c n ≡ true
unfolding sides_ok
sound-sides-ok c h n b = (node-facts c n (sound-node c h n b)).boundary

pub sound-once : (c : State) → sound c ≡ true → (n : ℕ) → n < node_count c → parent_of c n ≡ 0 → distinct (boundary_of c n) ≡ true
sound-once c h n b o = (own-facts c n ((node-facts c n (sound-node c h n b)).own o)).sides-once

-- ---- between two shrinking passes over node n, from c₀ on

record Between (n : ℕ) (c₀ c : State) : Type 0 where
  pub passed : Passed n c₀ c
  pub holders : Holders (node_count c₀) c
  pub inside : all (λ s. nat_lt s (2 * edge_count c₀)) (boundary_of c n) ≡ true
  pub once : distinct (boundary_of c n) ≡ true

module _ (n : ℕ) (c₀ : State) (z : Shape c₀) (node : n < node_count c₀) (sides : (v : ℕ) → all (λ t. nat_lt t (2 * edge_count c₀)) (sides_at c₀ v) ≡ true) where
  between-finish : (c : State) → Between n c₀ c → Between n c₀ (finish_pass (shrink_pass c n) n)
  between-finish c p =
      let w : Work = shrink_pass c n in
      let l : Listed (edge_count c₀) c w = shrink-pass-listed (edge_count c₀) n c (λ v. rw p.passed.graph (sides v)) p.inside in
      let x : boundary_of (finish_pass w n) n ≡ w.kept = finish-boundary w n (rw (l.keeps.nodes, p.passed.boundary, z.boundary) node) in
      record {
        passed = passed-trans p.passed (shrink-passed c n);
        holders = shrink-pass-holders (node_count c₀) c n p.holders;
        inside = rw x l.inside;
        once = rw x l.once;
      }

  between_step : (d : ℕ) → d ≢ up → (c : State) → Between n c₀ c → Between n c₀ (pass_state c n d)
  between_step d h c p = rw (one_down c n d (ne_eqb d up h)) (between-finish c p)

-- ---- what preparation leaves

module _ (b : List ℤ) (f : Formed b) (n d : ℕ) (node : n < node_count (state_of b)) (r : Readable (state_of b))
    (g : Preparable (state_of b) n d) (room : store_short (state_of b) (n ∷ []) 1 ≡ false) where
  z : Shape (state_of b)
  z = laid-shape b f.laid

  pair : 2 * edge_count (state_of b) ≡ side_count (state_of b)
  pair = sym f.pairs

  between : d ≢ up → Between n (state_of b) (prepare_node (state_of b) n d).state
  unfolding sides_ok
  between h =
      let step = between_step n (state_of b) z node (rw pair (formed-sides b f)) d h in
      prepare-leaves n d (Between n (state_of b)) (Between n (state_of b)) (λ c p q. step c p) (λ c p q. step c p) (state_of b) (formed-ends b f) z.vertex_holder
      (record { passed = passed-refl n (state_of b); holders = r.holders; inside = rw pair (g.shrinks h).sides; once = (g.shrinks h).once })

  -- upward a sound state is left
  pub prepared-up : d ≡ up → Growable (prepare_node (state_of b) n d).state n
  prepared-up e =
      rw e
      (record {
        sounds = prepare-up-sound (state_of b) z (g.grows e).sounds (formed-vertices b f) n node (g.grows e).outer room;
        outer = rw (prepare-passed (state_of b) n up).parent (g.grows e).outer;
      })

  after-node : n < node_count (prepare_node (state_of b) n d).state
  after-node = rw (prepare-passed (state_of b) n d).grow_state node

  pub prepared-readable : Readable (prepare_node (state_of b) n d).state
  prepared-readable =
      elim (dec_eq d up) [
        | yes e ↦ sound-readable (prepare_node (state_of b) n d).state (shape-prepared (state_of b) n d z) (prepared-up e).sounds
        | no e ↦
            let q : Between n (state_of b) (prepare_node (state_of b) n d).state = between e in
            record {
              holders = λ s. rw q.passed.grow_state (q.holders s);
              growths = λ s. rw q.passed.growth (r.growths s);
              duals = λ m. rw q.passed.dual (r.duals m);
            }
      ]

  pub prepared-sides-ok : sides_ok (prepare_node (state_of b) n d).state n ≡ true
  unfolding sides_ok
  prepared-sides-ok =
      elim (dec_eq d up) [
        | yes e ↦ sound-sides-ok (prepare_node (state_of b) n d).state (prepared-up e).sounds n after-node
        | no e ↦ let q : Between n (state_of b) (prepare_node (state_of b) n d).state = between e in rw (q.passed.graph, ← pair) q.inside
      ]

  pub prepared-once : distinct (boundary_of (prepare_node (state_of b) n d).state n) ≡ true
  prepared-once =
      elim (dec_eq d up) [
        | yes e ↦ sound-once (prepare_node (state_of b) n d).state (prepared-up e).sounds n after-node (prepared-up e).outer
        | no e ↦ (between e).once
      ]
