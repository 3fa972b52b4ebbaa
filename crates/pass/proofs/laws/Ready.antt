-- What a pass asks for holds again after it, so that the next pass may follow.
use Rattle.std.specs.Prelude.{ℕ, ◌+◌, ◌*◌, ◌≤◌, ◌<◌, ◌≡◌, refl, Bool, true, List, [], ◌∷◌, map, ℤ, eqb, ltb, leb, length}
use Rattle.std.proofs.Common.{arith, sym, ap, ◌∙◌}
use Rattle.std.proofs.lemmas.List.{length-map}
use Rattle.graph.specs.Basic.{all}
use Rattle.graph.specs.State.{State, Overgrown, vertex_count, edge_count, side_count, node_count, boundary_of, overgrown_of}
use Rattle.graph.specs.Open.{dual_limit}
use Rattle.graph.specs.Sound.{entries, entries_of, over_sound}
use Rattle.graph.specs.Layout.{state_of}
use Rattle.graph.specs.Form.{Formed}
use Rattle.graph.specs.inner.Form.{sides_ok}
use Rattle.graph.specs.laws.State.{and_left, and_right}
use Rattle.graph.specs.inner.Kept.{SameButHolders}
use Rattle.graph.specs.laws.Sums.{sum-apart}
use Rattle.graph.specs.laws.Members.{all_weaker, by-test}
use Rattle.graph.specs.laws.Shape.{SoundNode, node-facts, sound-node, OwnLists, own-facts}
use Rattle.graph.specs.Shape.{Shape}
use Rattle.pass.specs.Work.{Work, finish_pass}
use Rattle.pass.specs.Grow.{grow_pass}
use Rattle.pass.specs.Shrink.{below_tops, shrink_pass}
use Rattle.pass.proofs.laws.Passes.{Passed, grow-passed, shrink-passed, shrink-pass-keeps}
use Rattle.pass.proofs.laws.Fits.{Listed, own-length, sound-own-over, shrink-pass-listed, below-tops-le, shrink-over}
use Rattle.pass.proofs.laws.GrowSound.{finish-boundary, finish-overgrown, grow-pass-sound, grow-pass-entries}
use Rattle.graph.specs.laws.Form.{laid-shape, formed-sides}
use Rattle.pass.specs.inner.Ready.{Ready, Growable, Shrinkable, AfterPass}
use Rattle.pass.proofs.laws.Scratch.{scratch-same}

-- ---- the store

-- a pass over node n changes the number of its own entries alone
pub entries-apart : (c d : State) (n : ℕ) → Passed n c d → n < node_count c → entries d + entries_of c n ≡ entries c + entries_of d n
unfolding entries entries_of
entries-apart c d n p b =
    rw (ap (λ (l : List ℕ). length l) p.grow_state)
    (sum-apart (entries_of c) (entries_of d) (node_count c) n b (λ i ne. rw (p.boundaries i ne, p.overgrowns i ne)))

-- ---- memory

passed-counts : (n : ℕ) (c d : State) → Passed n c d → (vertex_count d ≡ vertex_count c) × (side_count d ≡ side_count c)
passed-counts n c d p = (ap (λ g. length g.virtual) p.graph, ap (λ g. length g.end) p.graph)

pub ready-again : {b b' t t' : List ℤ} {n : ℕ} {w : Work} {r : Bool} → Ready b t n
    → Passed n (state_of b) (finish_pass w n) → AfterPass b b' t t' n w r → Ready b' t' n
ready-again {b} {b'} {t} {t'} {n} {w} q p a =
    let e : state_of b' ≡ finish_pass w n = a.block.state in
    let p' : Passed n (state_of b) (state_of b') = rw e p in
    let m = entries-apart (state_of b) (state_of b') n p' q.node in
    let k = passed-counts n (state_of b) (state_of b') p' in
    record {
      formed = a.block.formed;
      node = omega (arith, a.block.nodes, q.node);
      scratch = a.scratch ∙ q.scratch ∙ scratch-same a.block;
      room = omega (arith, q.room, m, k.0, k.1, p'.store_limit);
    }

-- ---- states

-- a sound state may be shrunk
pub sound-shrinkable : (c : State) → Shape c → 1 ≤ vertex_count c → (n : ℕ) → n < node_count c → Growable c n → Shrinkable c n
unfolding sides_ok over_sound
sound-shrinkable c z v n b g =
    let f : SoundNode c n = node-facts c n (sound-node c g.sounds n b) in
    let own : OwnLists c n = own-facts c n (f.own g.outer) in
    let o = sound-own-over c z g.sounds v n b g.outer in
    record {
      sides = f.boundary;
      once = own.sides-once;
      stack = all_weaker (over_sound c) (λ (o : Overgrown). ltb o.vertex (vertex_count c))
          (λ o e. and_left (ltb o.vertex (vertex_count c)) (leb o.amount dual_limit) e) (overgrown_of c n)
          f.overgrown;
      size = omega (
        arith,
        own-length _ n (vertex_count c) (map (λ (o : Overgrown). o.vertex) (overgrown_of c n)) o,
        length-map (overgrown_of c n) (λ (o : Overgrown). o.vertex),
      );
    }

-- a growing pass leaves a state that may be grown
pub growable-again : (c : State) → Shape c → 1 ≤ vertex_count c → (n : ℕ) → n < node_count c
    → entries c + (side_count c + vertex_count c) ≤ c.store_limit + entries_of c n → Growable c n
    → Growable (finish_pass (grow_pass c n) n) n
growable-again c z v n b room g =
    let p : Passed n c (finish_pass (grow_pass c n) n) = grow-passed c n in
    let k = grow-pass-entries c z g.sounds v n b g.outer in
    let m = entries-apart c (finish_pass (grow_pass c n) n) n p b in
    record {
      sounds = grow-pass-sound c z g.sounds v n b g.outer (omega (arith, room, k, m));
      outer = rw p.parent g.outer;
    }

-- ---- shrinking

none : (p : ℕ → Bool) → all p [] ≡ true
unfolding all
none p = refl

-- what is left of a stack is some of it
pub tops-inside : (p : Overgrown → Bool) (o : List Overgrown) → all p o ≡ true → all p (below_tops o) ≡ true
unfolding all below_tops
tops-inside p [] h = refl
tops-inside p (x ∷ xs) h =
    by-test (eqb x.amount 0)
    (λ e. rw e (tops-inside p xs (and_right (p x) (all p xs) h)))
    (λ e. rw e h)

-- a shrinking pass leaves a state that may be shrunk
pub shrinkable-again : (b : List ℤ) → Formed b → (n : ℕ) → n < node_count (state_of b) → Shrinkable (state_of b) n
    → Shrinkable (finish_pass (shrink_pass (state_of b) n) n) n
unfolding sides_ok
shrinkable-again b f n h s =
    let c : State = state_of b in
    let w : Work = shrink_pass c n in
    let z : Shape c = laid-shape b f.laid in
    let k : SameButHolders c w.state = shrink-pass-keeps c n in
    let p : Passed n c (finish_pass w n) = shrink-passed c n in
    let m = passed-counts n c (finish_pass w n) p in
    let pair : 2 * edge_count c ≡ side_count c = sym f.pairs in
    let l : Listed (edge_count c) c w = shrink-pass-listed (edge_count c) n c (rw pair (formed-sides b f)) (rw pair s.sides) in
    let x : boundary_of (finish_pass w n) n ≡ w.kept = finish-boundary w n (rw (k.nodes, z.boundary) h) in
    let y : overgrown_of (finish_pass w n) n ≡ below_tops (overgrown_of c n) = finish-overgrown w n (rw (k.nodes, z.overgrown) h) ∙ shrink-over c n in
    record {
      sides = rw (x, m.1, ← pair) l.inside;
      once = rw x l.once;
      stack = rw (y, m.0) (tops-inside (λ (o : Overgrown). ltb o.vertex (vertex_count c)) (overgrown_of c n) s.stack);
      size = rw (y, m.0) (omega (arith, below-tops-le (overgrown_of c n), s.size));
    }
