-- Who joins the active list: a node that stands there leaves it as it is; another has room behind it.
use Rattle.std.specs.Prelude.{ℕ, ◌<◌, ◌≡◌, refl, true, false, ◌&&◌, not, List, [], ◌∷◌, ◌++◌, ℤ, ltb, eqb, length}
use Rattle.std.proofs.Common.{arith, length-append, lt-ltb}
use Rattle.graph.specs.Basic.{member}
use Rattle.graph.specs.State.{State, node_count, grow_state_of, with_active, stay}
use Rattle.graph.specs.Sound.{active_sound}
use Rattle.graph.specs.Active.{joined_to, join_active, activated}
use Rattle.graph.specs.Layout.{state_of}
use Rattle.graph.specs.Form.{Formed}
use Rattle.graph.specs.inner.Form.{Becomes}
use Rattle.graph.specs.laws.Active.{active-inside, active-once}
use Rattle.graph.specs.laws.Members.{distinct-length, distinct_snoc, all_snoc}
use Rattle.graph.specs.laws.Row.{becomes-none}

pub join-room : (c : State) (n : ℕ) → active_sound c ≡ true → n < node_count c → member n c.active ≡ false → length c.active < node_count c
join-room c n s h m =
    let once = distinct_snoc c.active n (active-once c s) m in
    let inside = all_snoc (λ k. ltb k (node_count c)) c.active n (active-inside c s) (lt-ltb n (node_count c) h) in
    omega (arith, distinct-length (node_count c) (c.active ++ (n ∷ [])) once inside, length-append c.active (n ∷ []))

module _ (b : List ℤ) (n : ℕ) where
  pub joined-there : Formed b → member n (state_of b).active ≡ true → Becomes b b (join_active (state_of b) n)
  unfolding join_active joined_to
  joined-there f m = rw m (becomes-none b (with_active (state_of b) (state_of b).active) f (unfold with_active in refl))

  pub joined-behind : {b' : List ℤ} → member n (state_of b).active ≡ false
      → Becomes b b' (with_active (state_of b) ((state_of b).active ++ (n ∷ []))) → Becomes b b' (join_active (state_of b) n)
  unfolding join_active joined_to
  joined-behind m q = rw m q

  module _ (x : ℕ) where
    pub activated-joins : {b' : List ℤ} → eqb (grow_state_of (state_of b) n) stay && not (eqb x stay) ≡ true
        → Becomes b b' (join_active (state_of b) n) → Becomes b b' (activated (state_of b) n x)
    unfolding activated join_active
    activated-joins t q = rw t q

    pub activated-none : Formed b → eqb (grow_state_of (state_of b) n) stay && not (eqb x stay) ≡ false → Becomes b b (activated (state_of b) n x)
    unfolding activated
    activated-none f t = rw t (becomes-none b (with_active (state_of b) (state_of b).active) f (unfold with_active in refl))
