-- What the calls on lent memory leave: a refusal with nothing changed, or what their cores leave.
use Rattle.std.specs.Prelude.{◌≡◌, ℕ, zero, suc, ◌+◌, ◌≤◌, Bool, true, false, not, ◌||◌, ◌≢◌, List, [], ◌∷◌, ◌++◌, map, length, replicate, ℤ, pos, negsuc, ◌==◌, nat_lt, unsigned_abs, if◌then◌else◌}
use Rattle.std.proofs.Common.{arith, sym, ◌∙◌}
use Rattle.std.proofs.Math.Path.{refl, ap}
use Rattle.std.proofs.lemmas.List.{length-replicate, length-map}
use borrow.Author.Tests.{eq-eqb, ne_eqb, eqb-true, eqb-false, not-true}
use Rattle.graph.specs.State.{State, up, down, stay, growing, edge_count, grow_state_of}
use Rattle.graph.specs.Layout.{state_of, memory_refusal}
use Rattle.graph.specs.Form.{Formed}
use Rattle.graph.specs.laws.Members.{by-test, clash}
use Rattle.memory_tests.specs.laws.Memory.{Lendable, memory-accepted}
use Rattle.graph.specs.laws.Form.{laid-shape}
use Rattle.graph.specs.laws.Row.{becomes-none}
use Rattle.pass.specs.Scratch.{zero_scratch}
use Rattle.pass.specs.inner.Scratch.{wiped}
use Rattle.answers.specs.Outcome.{Answer}
use Rattle.answers.specs.Outcome.{Done, Vertex, Refused}
use Rattle.answers.specs.Numbers.{answer_numbers, OnPaper}
use Rattle.answers.specs.Answer.{Reply, says}
use Rattle.calls.specs.Refuse.{bad_node, in_blossom, store_short, node_refusal, unless}
use Rattle.calls.specs.Calls.{max_update_length, grow_dual_node, growth_table, representative_vertex_of, representative_vertex, follow, advance_by, toward, advance}
use Rattle.calls.specs.Reply.{placed}
use Rattle.calls.specs.inner.Reply.{RepliesInsert, Replies, Usable}
use Rattle.dual_module.specs.Called.{lent_writes, Called, CalledWithScratch, prepare_writes, length_writes, grow_writes, advance_writes}
use Rattle.calls.proofs.laws.Replies.{toward-refused}
use Rattle.calls.proofs.laws.Advance.{advance-refused}
use Rattle.calls.proofs.laws.Read.{placed-none, placed-more, front-all}

-- ---- lists and scratch

-- as many numbers as there are words
pub placed-all : (l : List ℕ) (t : List ℤ) → length l ≡ length t → placed l t ≡ map pos l
unfolding placed
placed-all l t h = front-all (map pos l) t (length-map l pos ∙ h)

-- a scratch of the right length, set to zero
pub lendable-usable : {b t : List ℤ} → Lendable b t → Usable b (zero_scratch (length t))
lendable-usable l = record { formed = l.formed; sounds = l.sounds; scratch = ap zero_scratch l.size }

-- every word wiped
zeros-more : (n : ℕ) → ◌++◌ {A = ℕ} (replicate n 0) (0 ∷ []) ≡ replicate (suc n) 0
zeros-more zero = refl
zeros-more (suc n) = ap (λ l. 0 ∷ l) (zeros-more n)

wiped-placed : (t : List ℤ) (n : ℕ) → n ≤ length t → wiped t 0 n ≡ placed (replicate n 0) t
unfolding wiped
wiped-placed t zero h = sym (placed-none t)
wiped-placed t (suc n) h =
    let l : length {A = ℕ} (replicate n 0) ≡ n = length-replicate n 0 in
    let z : 0 + n ≡ n = omega arith in
    rw (z, wiped-placed t n (omega arith), ← zeros-more n) (rw l at (placed-more (replicate n 0) t 0 (omega (arith, l))))

zeros-placed : (n : ℕ) → map pos (replicate n 0) ≡ zero_scratch n
unfolding zero_scratch
zeros-placed zero = refl
zeros-placed (suc n) = ap (λ l. pos 0 ∷ l) (unfold zero_scratch in zeros-placed n)

pub wipe-all : (t : List ℤ) → wiped t 0 (length t) ≡ zero_scratch (length t)
wipe-all t = wiped-placed t (length t) (omega arith) ∙ placed-all (replicate (length t) 0) t (length-replicate (length t) 0) ∙ zeros-placed (length t)

-- ---- what is lent is refused

module _ {j k : ℕ} (e : j ≡ k) (h : j ≢ 0) where
  unless-refused : (c : State) (r : Reply) → unless k c r ≡ says (Refused j) c
  unfolding unless
  unless-refused c r = rw (← e, ne_eqb j 0 h)

  writes-none : (w : Bool) → lent_writes k w ≡ false
  writes-none w = rw (← e, ne_eqb j 0 h)

  pub lent-refused : (b : List ℤ) (w : Bool) (r : Reply) → Called k b b (Refused j) w r
  unfolding says
  lent-refused b w r = record {
    answer = ap (λ (q : Reply). answer_numbers q.answer) (sym (unless-refused (state_of b) r));
    state = ap (λ (q : Reply). q.state) (sym (unless-refused (state_of b) r));
    formed = λ z. absurd (h (e ∙ z));
    unchanged = λ z. refl;
    len = refl;
  }

  pub lent-refused-scratch : (b t : List ℤ) (w : Bool) (r : Reply) → CalledWithScratch k b t b t (Refused j) w r
  lent-refused-scratch b t w r = record { block = lent-refused b w r; scratch = rw (writes-none w) }

  pub refusal-answered : (c : State) (r : Reply) → OnPaper (Refused j) (unless k c r).answer
  unfolding says
  refusal-answered c r = ap (λ (q : Reply). answer_numbers q.answer) (sym (unless-refused c r))

-- ---- the call itself

module _ {j k : ℕ} (e : j ≡ k) (h : j ≡ 0) where
  unless-passed : (c : State) (r : Reply) → unless k c r ≡ r
  unfolding unless
  unless-passed c r = rw (sym e ∙ h)

  writes_as : (w : Bool) → lent_writes k w ≡ w
  writes_as w = rw (sym e ∙ h)

  module _ (b : List ℤ) where
    called-as : {b' : List ℤ} {a : Answer} (w : Bool) (r : Reply) → a ≡ r.answer → state_of b' ≡ r.state → Formed b'
        → length b' ≡ length b → (w ≡ false → b' ≡ b) → Called k b b' a w r
    called-as w r x y f l u = record {
      answer = ap answer_numbers (x ∙ ap (λ (q : Reply). q.answer) (sym (unless-passed (state_of b) r)));
      state = y ∙ ap (λ (q : Reply). q.state) (sym (unless-passed (state_of b) r));
      formed = λ z. f;
      unchanged = λ z. u (sym (writes_as w) ∙ z);
      len = l;
    }

    -- nothing is written
    pub call_same : {a : Answer} {w : Bool} {r : Reply} → Replies b b a r → Called k b b a w r
    call_same {a} {w} {r} p = called-as w r p.answer p.block.state p.block.formed refl (λ z. refl)

    pub call-same-scratch : (t : List ℤ) {a : Answer} {w : Bool} {r : Reply} → w ≡ false → Replies b b a r → CalledWithScratch k b t b t a w r
    call-same-scratch t {a} {w} g p = record { block = call_same p; scratch = rw (writes_as w, g) }

    -- an insertion refused
    pub insert-same-scratch : (t : List ℤ) {a : Answer} {w : Bool} {r : Reply} → w ≡ false → RepliesInsert b b a r → CalledWithScratch k b t b t a w r
    insert-same-scratch t {a} {w} {r} g p = record { block = called-as w r p.answer p.state p.formed refl (λ z. refl); scratch = rw (writes_as w, g) }

    -- the core has run
    pub call-done : {b' : List ℤ} {a : Answer} {w : Bool} {r : Reply} → w ≡ true → Replies b b' a r → Called k b b' a w r
    call-done {w = w} {r = r} g p = called-as w r p.answer p.block.state p.block.formed p.block.len (λ z. clash w g z)

    module _ (t : List ℤ) {b' t₁ t' : List ℤ} {a : Answer} {w : Bool} {r : Reply} (g : w ≡ true) (c : t₁ ≡ zero_scratch (length t)) (d : t' ≡ t₁) where
      pub call-done-scratch : Replies b b' a r → CalledWithScratch k b t b' t' a w r
      call-done-scratch p = record { block = call-done g p; scratch = rw (writes_as w, g) (d ∙ c) }

      pub insert-done-scratch : RepliesInsert b b' a r → CalledWithScratch k b t b' t' a w r
      insert-done-scratch p =
          record {
            block = called-as w r p.answer p.state p.formed p.len (λ z. clash w g z);
            scratch = rw (writes_as w, g) (d ∙ c);
          }

    pub call-cleared : {b' : List ℤ} {a : Answer} {r : Reply} → a ≡ r.answer → state_of b' ≡ r.state → Formed b'
        → length b' ≡ length b → Called k b b' a true r
    call-cleared {r = r} x y f l = called-as true r x y f l (λ z. clash true refl z)

-- block and scratch that are not refused
pub memory-lendable : (b t : List ℤ) {k : ℕ} → k ≡ memory_refusal b t → k ≡ 0 → Lendable b t
memory-lendable b t e h = memory-accepted b t (sym e ∙ h)

-- ---- which calls write

-- a call that prepares writes where it is not refused
pub test-so : {j k : ℕ} → j ≡ k → j ≡ 0 → (k == 0) ≡ true
test-so {j} {k} e h = eq-eqb k 0 (sym e ∙ h)

pub test-not : {j k : ℕ} → j ≡ k → j ≢ 0 → (k == 0) ≡ false
test-not {j} {k} e h = ne_eqb k 0 (λ z. h (e ∙ z))

pub length-writes : (c : State) (n d : ℕ) {first : Bool} → first ≡ true
    → length_writes c n d first ≡ (node_refusal c n (nat_lt up d) (store_short c (n ∷ []) 1) == 0)
unfolding length_writes prepare_writes
length-writes c n d f = rw f

pub length-still : (c : State) (n d : ℕ) {first : Bool} → first ≡ false → length_writes c n d first ≡ false
unfolding length_writes
length-still c n d f = rw f

-- growth by another length than 0
pub grow-writes : (c : State) (n : ℕ) (z : ℤ) → unsigned_abs z ≢ 0 → grow_writes c n z ≡ (node_refusal c n false (store_short c (n ∷ []) 1) == 0)
unfolding grow_writes prepare_writes
grow-writes c n z h = rw (ne_eqb (unsigned_abs z) 0 h)

pub grow-still : (c : State) (n : ℕ) (z : ℤ) → unsigned_abs z ≡ 0 → grow_writes c n z ≡ false
unfolding grow_writes
grow-still c n z h = rw (eq-eqb (unsigned_abs z) 0 h)

pub grow-refused : {b : List ℤ} (f : Formed b) (n k : ℕ)
    (e : k ≡ node_refusal (state_of b) n false (store_short (state_of b) (n ∷ []) 1))
    → k ≢ 0 → (z : ℤ) → unsigned_abs z ≢ 0 → Replies b b (Refused k) (grow_dual_node (state_of b) n z)
unfolding grow_dual_node
grow-refused f n k e h (pos zero) q = absurd (q refl)
grow-refused f n k e h (pos (suc l)) q = toward-refused f n up (suc l) k e h
grow-refused f n k e h (negsuc l) q = toward-refused f n down (suc l) k e h

-- advance of a node that moves
pub advance-writes : (c : State) (n : ℕ) → not (grow_state_of c n == stay) ≡ true → advance_writes c n ≡ (node_refusal c n false (store_short c (n ∷ []) 1) == 0)
unfolding advance_writes prepare_writes
advance-writes c n h = rw h

pub advance-still : (c : State) (n : ℕ) → not (grow_state_of c n == stay) ≡ false → advance_writes c n ≡ false
unfolding advance_writes
advance-still c n h = rw h

-- a refusal before 9 is the same with little store
refused-anyway : (bad inner short : Bool)
    → ◌≢◌ {A = ℕ} (if bad || false then 3 else if inner then 6 else if false then 9 else 0) 0
    → ◌≡◌ {A = ℕ} (if bad || false then 3 else if inner then 6 else if short then 9 else 0)
    (if bad || false then 3 else if inner then 6 else if false then 9 else 0)
refused-anyway true inner short h = refl
refused-anyway false true short h = refl
refused-anyway false false short h = absurd (h refl)

node-anyway : (c : State) (n : ℕ) (short : Bool) → node_refusal c n false false ≢ 0 → node_refusal c n false short ≡ node_refusal c n false false
unfolding node_refusal
node-anyway c n short h = refused-anyway (bad_node c n) (in_blossom c n) short h

pub toward-below : (x : ℕ) → nat_lt up (toward x) ≡ false
unfolding toward
toward-below x = by-test (x == growing) (λ e. rw e) (λ e. rw e)

module _ {b : List ℤ} (f : Formed b) (n k : ℕ)
    (e : k ≡ node_refusal (state_of b) n false (store_short (state_of b) (n ∷ []) 1)) (h : k ≢ 0)
    (s : not (grow_state_of (state_of b) n == stay) ≡ true) where
  pub length-short : (x : ℕ) → max_update_length (state_of b) n (toward x) true ≡ says (Refused k) (state_of b)
  unfolding max_update_length unless
  length-short x = rw (toward-below x, ← e, ne_eqb k 0 h)

  by-short : (x : ℕ) → advance_by n x (max_update_length (state_of b) n (toward x) true) ≡ says (Refused k) (state_of b)
  unfolding advance_by follow says
  by-short x = rw (length-short x)

  -- refused for its store
  for-store : node_refusal (state_of b) n false false ≡ 0 → advance (state_of b) n ≡ says (Refused k) (state_of b)
  unfolding advance unless
  for-store z = rw (z, not-true (grow_state_of (state_of b) n == stay) s) (by-short (grow_state_of (state_of b) n))

  pub advance-short : Replies b b (Refused k) (advance (state_of b) n)
  unfolding says
  advance-short =
      by-test (node_refusal (state_of b) n false false == 0)
      (λ z. rw (for-store (eqb-true _ _ z)) (record { answer = refl; block = becomes-none b (state_of b) f refl }))
      (λ z. advance-refused b n k (e ∙ node-anyway (state_of b) n _ (eqb-false _ _ z)) f h)
