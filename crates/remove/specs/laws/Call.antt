-- Laws behind the call: what refuses it, and what its preparation leaves.
use Rattle.std.specs.Prelude.{ℕ, ◌+◌, ◌-◌, ◌<◌, ◌≡◌, ◌≢◌, Bool, true, ◌&&◌, not, List, [], ◌∷◌, ℤ, eqb, leb, if◌then◌else◌}
use Rattle.std.proofs.Math.Decide.{ℕ_discrete as dec_eq, dec_lt}
use Rattle.std.proofs.Common.{arith, ◌∙◌, lt-ltb, le-ltb, le-leb}
use Rattle.std.proofs.Math.Path.{refl, sym}
use Rattle.std.proofs.Math.Bool.{false}
use Rattle.std.proofs.lemmas.Bool.{lt-leb}
use Rattle.graph.specs.State.{State, NodeClass, defect_vertex, blossom, removed, removed_place, node_count, class_of, dual_of, down}
use Rattle.graph.specs.Sound.{is_removed}
use Rattle.graph.specs.Layout.{class_from, state_of}
use Rattle.graph.specs.Form.{Formed}
use Rattle.graph.specs.inner.Form.{Becomes, sides_ok}
use Rattle.graph.specs.laws.Members.{by-test}
use Rattle.graph.specs.laws.Row.{becomes-then, becomes-none}
use Rattle.pass.specs.Prepare.{prepare_node}
use Rattle.pass.specs.inner.Ready.{Ready, Preparable, AfterPreparation}
use Rattle.pass.proofs.laws.Passes.{Passed}
use Rattle.pass.proofs.laws.Prepare.{prepare-passed}
use Rattle.answers.specs.Outcome.{Answer}
use Rattle.answers.specs.Outcome.{Done, Refused}
use Rattle.answers.specs.Answer.{says}
use Rattle.calls.specs.Refuse.{bad_node, in_blossom, store_short, node_refusal}
use Rattle.calls.specs.inner.Reply.{Replies, Usable}
use Rattle.calls.specs.Remove.{is_blossom, remove_refusal, stops_opening, opened_blossom, open_prepared, remove_blossom}
use Rattle.calls.proofs.laws.Accepted.{NodeAccepted}
use Rattle.calls.proofs.laws.Readable.{sound-sides-ok}
use Rattle.calls.proofs.laws.Refuse.{good-inside}
use Rattle.calls.proofs.laws.Remove.{RemoveAccepted, remove-accepted}
use Rattle.calls.proofs.laws.Replies.{usable-steady, accepted-ready, accepted-able, prepared-grows, replies-refused, replies-accepted}
use Rattle.remove.specs.inner.Stops.{SidesIn}
use Rattle.remove.specs.laws.Stops.{not-both}

-- ---- what refuses it

-- a class word is that of a blossom where it is neither a vertex nor that of a removed one
pub blossom-word : (v x : ℕ) → is_blossom (class_from v x) ≡ leb v x && not (eqb x (v + removed_place))
unfolding class_from is_blossom
blossom-word v x =
    elim (dec_lt x v) [
      | yes h ↦ rw (lt-ltb x v h, lt-leb v x h)
      | no h ↦ rw (le-ltb x v (omega arith), le-leb v x (omega arith)) (go (eqb x (v + removed_place)))
    ]
  where
    go : (r : Bool) → is_blossom (if r then removed else blossom (x - v)) ≡ not r
    go true = refl
    go false = refl

blossom-live : (k : NodeClass) → is_blossom k ≡ true → is_removed k ≡ false
unfolding is_blossom is_removed
blossom-live (defect_vertex v) h = refl
blossom-live (blossom m) h = refl
blossom-live removed h = sym h

module _ (c : State) (n : ℕ) where
  pub removal-first : {k : ℕ} → k ≡ node_refusal c n false false → k ≢ 0 → k ≡ remove_refusal c n
  unfolding node_refusal remove_refusal
  removal-first e ne =
      by-test (bad_node c n) (λ h. e ∙ rw h)
      (λ h. by-test (in_blossom c n) (λ i. e ∙ rw (h, i)) (λ i. absurd (ne (e ∙ rw (h, i)))))

  module _ {k : ℕ} (e : k ≡ node_refusal c n false false) (z : k ≡ 0) where
    passes : (bad_node c n ≡ false) × (in_blossom c n ≡ false)
    unfolding node_refusal
    passes =
        let q : node_refusal c n false false ≡ 0 = sym e ∙ z in
        by-test (bad_node c n) (λ h. absurd (let w : 3 ≡ 0 = rw h at q in omega arith))
        (λ h. by-test (in_blossom c n) (λ i. absurd (let w : 6 ≡ 0 = rw (h, i) at q in omega arith)) (λ i. (h, i)))

    pub removal-inside : n < node_count c
    removal-inside = good-inside c n passes.0

    pub removal-class : is_blossom (class_of c n) && eqb (dual_of c n) 0 ≡ false → 15 ≡ remove_refusal c n
    unfolding remove_refusal
    removal-class h = rw (passes.0, passes.1, not-both (is_blossom (class_of c n)) (eqb (dual_of c n) 0), h)

    pub removal-short : is_blossom (class_of c n) && eqb (dual_of c n) 0 ≡ true → store_short c (n ∷ []) 1 ≡ true → 9 ≡ remove_refusal c n
    unfolding remove_refusal
    removal-short h s = rw (passes.0, passes.1, not-both (is_blossom (class_of c n)) (eqb (dual_of c n) 0), h, s)

    pub removal-not : is_blossom (class_of c n) && eqb (dual_of c n) 0 ≡ true → store_short c (n ∷ []) 1 ≡ false → 0 ≡ remove_refusal c n
    unfolding remove_refusal
    removal-not h s = rw (passes.0, passes.1, not-both (is_blossom (class_of c n)) (eqb (dual_of c n) 0), h, s)

-- ---- the call

module _ {b : List ℤ} (f : Formed b) (n : ℕ) where
  pub opening-stops : stops_opening (state_of b) n ≡ true → Replies b b (Refused 15) (open_prepared (state_of b) n)
  unfolding open_prepared says
  opening-stops h = rw h (record { answer = refl; block = becomes-none b (state_of b) f refl })

  pub opening-done : {b' : List ℤ} → stops_opening (state_of b) n ≡ false → Becomes b b' (opened_blossom (state_of b) n)
      → Replies b b' Done (open_prepared (state_of b) n)
  unfolding open_prepared
  opening-done h p = rw h (record { answer = refl; block = p })

module _ {b t : List ℤ} (u : Usable b t) (n k : ℕ) (e : k ≡ remove_refusal (state_of b) n) where
  pub removal-refused : k ≢ 0 → Replies b b (Refused k) (remove_blossom (state_of b) n)
  unfolding remove_blossom
  removal-refused h = rw (← e) (replies-refused b (open_prepared (prepare_node (state_of b) n down).state n) k u.formed h)

  module _ (z : k ≡ 0) where
    taken : NodeAccepted (state_of b) n false (store_short (state_of b) (n ∷ []) 1)
    taken =
        let a : RemoveAccepted (state_of b) n = remove-accepted (state_of b) n (sym e ∙ z) in
        record { inside = a.inside; live = blossom-live (class_of (state_of b) n) a.blossom-class; right = refl; outer = a.outer; room = a.room }

    pub removal-ready : Ready b t n
    removal-ready = accepted-ready (usable-steady u n down) false taken

    pub removal-able : Preparable (state_of b) n down
    removal-able = accepted-able (usable-steady u n down) false taken

    module _ {b' t' : List ℤ} {j : ℕ} (p : AfterPreparation b b' t t' (prepare_node (state_of b) n down) j) where
      pub prepared-inside : n < node_count (state_of b')
      prepared-inside = omega (arith, p.block.nodes, taken.inside)

      -- the preparation leaves lists that hold sides
      pub prepared-sides : SidesIn (state_of b')
      unfolding sides_ok
      prepared-sides m h =
          let q : Passed n (state_of b) (prepare_node (state_of b) n down).state = prepare-passed (state_of b) n down in
          elim (dec_eq m n) [
            | yes w ↦ rw w (prepared-grows (usable-steady u n down) false taken p).sides
            | no w ↦ rw (p.block.sides, p.block.state, q.boundaries m w)
                (sound-sides-ok (state_of b) u.sounds m (omega (arith, p.block.nodes, h)))
          ]

      pub removal-done : {b'' : List ℤ} {a : Answer} → Replies b' b'' a (open_prepared (state_of b') n) → Replies b b'' a (remove_blossom (state_of b) n)
      unfolding remove_blossom
      removal-done {b''} {a} r =
          let q : Replies b b'' a (open_prepared (state_of b') n) = record { answer = r.answer; block = becomes-then p.block r.block } in
          rw (← e) (replies-accepted k z (rw p.block.state at q))
