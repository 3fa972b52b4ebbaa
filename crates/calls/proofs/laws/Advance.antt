-- Laws of advance: a shrinking length is not below 0, and growth along the direction of the grow state is what the definition asks for.
use Rattle.std.specs.Prelude.{◌≡◌, ℕ, ◌≤◌, Bool, true, false, not, ◌&&◌, ◌≢◌, List, [], ◌∷◌, ℤ, pos, negsuc, ◌==◌, nat_lt}
use Rattle.std.proofs.Math.Decide.{ℕ_discrete as dec_eq}
use Rattle.std.proofs.Math.Path.{refl, sym, ap}
use Rattle.std.proofs.Common.{◌∙◌}
use Rattle.std.specs.Int.Signed.{non_neg}
use Rattle.std.proofs.Math.ListN.{get_or-eq_default}
use borrow.Author.Tests.{eq-eqb, ne_eqb}
use Rattle.graph.specs.State.{State, NodeClass, up, stay, growing, node_count, growth_at, class_of, grow_state_of, dual_of, boundary_of, overgrown_of}
use Rattle.graph.specs.Layout.{state_of}
use Rattle.graph.specs.Form.{Formed}
use Rattle.graph.specs.laws.State.{if-both, fold-keeps}
use Rattle.graph.specs.laws.Members.{by-test, clash}
use Rattle.graph.specs.laws.Row.{becomes-none, becomes-then}
use Rattle.answers.specs.Outcome.{Answer}
use Rattle.answers.specs.Outcome.{Length, Done, Refused}
use Rattle.answers.specs.declared.MaxUpdateLength.TheVariants.{NonZeroGrow}
use Rattle.answers.specs.Answer.{Reply, says, free_or}
use Rattle.answers.specs.laws.Answer.{free_other}
use Rattle.update_length.specs.laws.Long.{stop-short}
use Rattle.calls.specs.Refuse.{node_refusal, store_short, unless}
use Rattle.update_length.specs.Scan.{Look, skip, room, meets, Scan, open-ended, within, over, lesser, look_shrink, look, with_look, scan_step, scan_answer, scan_boundary, is_empty, shrink_limit, stop_answer, scan}
use Rattle.calls.specs.Calls.{readied, max_update_length, grow_dual_node, signed_for, follow, advance_by, toward, advance}
use Rattle.calls.specs.inner.Reply.{Replies, along}
use Rattle.calls.proofs.laws.Replies.{replies-refused, replies-accepted}

-- ---- a shrinking length is not below 0

-- an answer that is no length below 0
unfoldable forth : Answer → Bool
forth a = free_or true (λ l e. non_neg l) (λ e. true) a

-- the same of what a side says, and of what the sides say together
unfoldable look_forth : Look → Bool
look_forth skip = true
look_forth (room l) = non_neg l
look_forth (meets a) = forth a

unfoldable scan_forth : Scan → Bool
scan_forth open-ended = true
scan_forth (within l) = non_neg l
scan_forth (over a) = forth a

lesser-forth : (a b : ℤ) → non_neg a ≡ true → non_neg b ≡ true → non_neg (lesser a b) ≡ true
unfolding lesser
lesser-forth (pos a) (pos b) h g = refl
lesser-forth (pos a) (negsuc b) h g = g
lesser-forth (negsuc a) (pos b) h g = h
lesser-forth (negsuc a) (negsuc b) h g = cc

joined-forth : (r : Scan) (l : Look) → scan_forth r ≡ true → look_forth l ≡ true → scan_forth (with_look r l) ≡ true
unfolding with_look scan_forth look_forth
joined-forth (over a) l h g = h
joined-forth open-ended skip h g = refl
joined-forth open-ended (room x) h g = g
joined-forth open-ended (meets a) h g = g
joined-forth (within b) skip h g = h
joined-forth (within b) (room x) h g = lesser-forth b x h g
joined-forth (within b) (meets a) h g = g

answer-forth : (e : Bool) (r : Scan) → scan_forth r ≡ true → forth (scan_answer e r) ≡ true
unfolding scan_answer scan_forth forth
answer-forth e open-ended h = refl
answer-forth e (within l) h = h
answer-forth e (over a) h = h

look-forth : (c : State) (n d s : ℕ) → (d == up) ≡ false → look_forth (look c n d s) ≡ true
unfolding look look_shrink look_forth forth
look-forth c n d s h = rw h (if-both (λ l. look_forth l ≡ true) (growth_at c s == 0) refl refl)

stop-forth : (c : State) (n : ℕ) (k : NodeClass) → forth (Length (stop_answer c n k)) ≡ true
unfolding forth
stop-forth c n k = free_other true (λ l e. non_neg l) (λ e. true) (Length (stop_answer c n k)) (stop-short c n k)

scan-forth : (c : State) (n d : ℕ) → (d == up) ≡ false → forth (scan c n d) ≡ true
unfolding scan scan_boundary scan_forth
scan-forth c n d h =
    rw h
    (if-both (λ a. forth a ≡ true) (dual_of c n == 0)
    (stop-forth c n (class_of c n))
    (answer-forth (is_empty (boundary_of c n)) _
    (fold-keeps (scan_step c n d) (λ r. scan_forth r ≡ true)
    (λ r s g. unfold scan_step in joined-forth r (look c n d s) g (look-forth c n d s h))
    (within (pos (shrink_limit (dual_of c n) (overgrown_of c n)))) (boundary_of c n) refl)))

length-forth : (c : State) (n d : ℕ) (first : Bool) → (d == up) ≡ false → forth (max_update_length c n d first).answer ≡ true
unfolding max_update_length unless says forth
length-forth c n d first h =
    by-test (node_refusal c n (nat_lt up d) (first && store_short c (n ∷ []) 1) == 0)
    (λ e. rw e (scan-forth (readied c n d first) n d h))
    (λ e. rw e)

-- so a length below 0 was asked for upward
pub length-below : (c : State) (n d : ℕ) (first : Bool) {l : ℤ} {e : Bool} → Length (NonZeroGrow l e) ≡ (max_update_length c n d first).answer → non_neg l ≡ false → d ≡ up
unfolding forth
length-below c n d first {l} {e} q s =
    elim (dec_eq d up) [
      | yes h ↦ h
      | no h ↦ clash (non_neg l) (ap forth q ∙ length-forth c n d first (ne_eqb d up h)) s
    ]

-- ---- what advance leaves

pub along-toward : (x : ℕ) (l : ℤ) → along (toward x) l ≡ signed_for x l
unfolding along toward signed_for
along-toward x l = by-test (x == growing) (λ e. rw e) (λ e. rw e)

follow-free : (c : State) (n x : ℕ) (l : ℤ) (e : Bool) → follow c n x (Length (NonZeroGrow l e)) ≡ grow_dual_node c n (along (toward x) l)
unfolding follow
follow-free c n x l e = ap (grow_dual_node c n) (sym (along-toward x l))

module _ {b b' : List ℤ} {a : Answer} {r : Reply} (n x : ℕ) (p : Replies b b' a r) where
  -- any other answer is handed back
  pub advance-other : follow r.state n x a ≡ says a r.state → Replies b b' a (advance_by n x r)
  unfolding advance_by says
  advance-other e = rw (← p.answer, e) (record { answer = refl; block = p.block })

  -- a free answer is followed
  pub advance-free : {b'' : List ℤ} {a' : Answer} {l : ℤ} {e : Bool} → a ≡ Length (NonZeroGrow l e)
      → Replies b' b'' a' (grow_dual_node (state_of b') n (along (toward x) l)) → Replies b b'' a' (advance_by n x r)
  unfolding advance_by
  advance-free {b''} {a'} {l} {e} f q =
      let s : grow_dual_node (state_of b') n (along (toward x) l) ≡ follow r.state n x r.answer =
      ap (λ c. grow_dual_node c n (along (toward x) l)) p.block.state ∙ sym (follow-free r.state n x l e)
      ∙ ap (follow r.state n x) (sym f ∙ p.answer) in
      rw (← s) (record { answer = q.answer; block = becomes-then p.block q.block })

module _ (b : List ℤ) (n k : ℕ) (e : k ≡ node_refusal (state_of b) n false false) where
  pub advance-refused : Formed b → k ≢ 0 → Replies b b (Refused k) (advance (state_of b) n)
  unfolding advance
  advance-refused f h = rw (← e) (replies-refused b _ k f h)

  module _ (h : k ≡ 0) (x : ℕ) (s : x ≡ grow_state_of (state_of b) n) where
    pub advance-stay : Formed b → x ≡ 0 → Replies b b Done (advance (state_of b) n)
    unfolding advance says
    advance-stay f z = rw (← e) (replies-accepted k h (rw (← s, eq-eqb x stay z) (record { answer = refl; block = becomes-none b (state_of b) f refl })))

    pub advance-moves : {b' : List ℤ} {a : Answer} → x ≢ 0
        → Replies b b' a (advance_by n x (max_update_length (state_of b) n (toward x) true))
        → Replies b b' a (advance (state_of b) n)
    unfolding advance
    advance-moves z p = rw (← e) (replies-accepted k h (rw (← s, ne_eqb x stay z) p))

-- a number that names no node is read as Stay
pub state-beyond : (b : List ℤ) (n : ℕ) → Formed b → node_count (state_of b) ≤ n → false ≡ not (grow_state_of (state_of b) n == stay)
state-beyond b n f h = rw (get_or-eq_default (state_of b).nodes.grow_state 0 {n = n} h)
