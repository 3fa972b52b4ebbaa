-- A record that asks for a call: which call it is, and what the call on an opened block leaves.
use Rattle.std.specs.Prelude.{◌≡◌, ℕ, suc, ◌+◌, ◌-◌, ◌*◌, ◌/◌, ◌<◌, ◌≤◌, true, false, leb, List, [], ◌∷◌, ◌++◌, map, length, take, ℤ, pos, ◌==◌, ◌≢◌, nat_le, slice_index, slice_set}
use Rattle.std.proofs.Common.{add-one, arith, ◌∙◌, append-nil, take-suc-set, eqb-true}
use Rattle.std.proofs.Math.Path.{refl, sym, ap}
use Rattle.graph.specs.Word.{to_nat}
use Rattle.graph.specs.Opening.{Cleared}
use Rattle.graph.specs.Layout.{state_of}
use Rattle.graph.specs.laws.State.{if-both, if-cases}
use Rattle.graph.specs.laws.Members.{clash}
use Rattle.answers.specs.Outcome.{Answer}
use Rattle.answers.specs.Answer.{Reply}
use Rattle.calls.specs.inner.Reply.{RepliesInsert, Replies, Usable}
use Rattle.calls.specs.Insert.{insert_defect, insert_blossom}
use Rattle.calls.specs.Calls.{Call, InsertDefect, InsertBlossom, SetGrowState, Prepare, UpdateLength, Grow, Advance, set_grow_state, prepare_dual_node_growth, max_update_length, grow_dual_node, advance, clear, answered, response, respond}
use Rattle.reachable.specs.laws.past.Calls.{reachable-invariant}
use Rattle.records.specs.Record.{Record, ask, field, fields, field_counts, signed, ask_length, record_of, decoded}
use Rattle.records.specs.Decode.{is_record, well_formed}
use Rattle.record_call.specs.Call.{call_of, call_in, OfKind, Opened, Answers}
use Rattle.records.specs.laws.Decode.{lengthy, formed-fits, formed-length, fields-there, circle-there, decoded-kind, kind-range}

-- ---- how long the body is

-- the fields of kind n are there
pub fields-of : {body : List ℕ} {kind : ℕ} (n : ℕ) → OfKind body kind → kind ≡ n → (n ≢ 5) → length body ≡ 2 + 4 * slice_index field_counts n
fields-of {body} n p e ne = fields-there body n p.formed (p.is ∙ e) ne

pub kind-there : (body : List ℕ) → well_formed body ≡ true → 2 ≤ length body
kind-there body h = (lengthy body (formed-fits body h)).kind

pub kind-some : {body : List ℕ} {kind : ℕ} → OfKind body kind → 1 ≤ kind
kind-some {body} p = rw p.is at (kind-range body p.formed).0

-- a circle has at most so many entries
pub circle-length : {body : List ℕ} → OfKind body 5 → (6 ≤ length body) × (length body ≡ 2 + 4 * ((length body - 2) / 4)) × (length body ≤ 65535)
circle-length {body} p = let c = circle-there body p.formed p.is in (c.0, c.1, p.short)

-- ---- which call it is

pub call-kind : {body : List ℕ} {kind : ℕ} (n : ℕ) → OfKind body kind → kind ≡ n → call_in body ≡ call_of (record_of n body ((length body - 2) / 4))
unfolding call_in
call-kind {body} n p e = ap call_of (decoded-kind body n p.formed (p.is ∙ e))

-- a record of kind 4 or above asks for its call
pub asks : {body : List ℕ} {kind : ℕ} → OfKind body kind → 4 ≤ kind → decoded body ≡ ask (call_in body)
unfolding call_in well_formed record_of call_of ask_length is_record
asks {body} {kind} p h =
    let e : decoded body ≡ record_of kind body ((length body - 2) / 4) = decoded-kind body kind p.formed p.is in
    rw e (which ((length body - 2) / 4) (ap is_record (sym e) ∙ p.formed))
  where
    P : Record → Type 0
    P r = is_record r ≡ true → r ≡ ask (call_of r)

    which : (n : ℕ) → P (record_of kind body n)
    which n =
        if-cases P (kind == 1) (λ e q. absurd (omega (arith, eqb-true kind 1 e))) (λ e₁.
        if-cases P (kind == 2) (λ e q. absurd (omega (arith, eqb-true kind 2 e))) (λ e₂.
        if-cases P (kind == 3) (λ e q. absurd (omega (arith, eqb-true kind 3 e))) (λ e₃.
        if-both P (kind == 4) (λ q. refl) (if-both P (kind == 5) (λ q. refl) (if-both P (kind == 6) (λ q. refl) (if-both P (kind == 7) (λ q. refl)
        (if-both P (kind == 8) (if-both P (nat_le (field body 2) 1) (λ q. refl) (λ q. clash false q refl))
        (if-both P (kind == 9) (λ q. refl)
        (if-both P (kind == 10) (λ q. refl)
        (if-both P (kind == 11) (λ q. refl) (if-both P (kind == 12) (λ q. refl) (λ q. refl))))))))))))

-- ---- what a call answers

-- by the reply that its definition gives
module _ {b₀ b : List ℤ} {a : Answer} {r : Reply} (k : Call) (e : respond (state_of b₀) k ≡ response r) where
  answers-reply : Replies b₀ b a r → Answers b₀ b a k
  unfolding response
  answers-reply p = record {
    outcome = ap (λ x. x.outcome) e ∙ ap answered (sym p.answer);
    formed = p.block.formed;
    state = p.block.state ∙ sym (ap (λ x. x.state) e);
    vertices = p.block.vertices;
    edges = p.block.edges;
    len = p.block.len;
  }

  answers-insert : RepliesInsert b₀ b a r → Answers b₀ b a k
  unfolding response
  answers-insert p = record {
    outcome = ap (λ x. x.outcome) e ∙ ap answered (sym p.answer);
    formed = p.formed;
    state = p.state ∙ sym (ap (λ x. x.state) e);
    vertices = p.vertices;
    edges = p.edges;
    len = p.len;
  }

module _ {body : List ℕ} {kind : ℕ} (p : OfKind body kind) {b₀ b : List ℤ} {a : Answer} where
  pub answers-defect : (v x : ℕ) → kind ≡ 4 → v ≡ field body 0 → x ≡ field body 1
      → RepliesInsert b₀ b a (insert_defect (state_of b₀) v x) → Answers b₀ b a (call_in body)
  unfolding record_of call_of respond
  answers-defect v x e ev ex q = rw (call-kind 4 p e, ← ev, ← ex) (answers-insert (InsertDefect v x) refl q)

  pub answers-blossom : (x : ℕ) (circle : List ℕ) → kind ≡ 5 → x ≡ field body 0
      → circle ≡ fields ((length body - 2) / 4 - 1) body 1 → RepliesInsert b₀ b a (insert_blossom (state_of b₀) x circle)
      → Answers b₀ b a (call_in body)
  unfolding record_of call_of respond
  answers-blossom x circle e ex el q = rw (call-kind 5 p e, ← ex, ← el) (answers-insert (InsertBlossom x circle) refl q)

  pub answers-state : (n x : ℕ) → kind ≡ 6 → n ≡ field body 0 → x ≡ field body 1 → Replies b₀ b a (set_grow_state (state_of b₀) n x) → Answers b₀ b a (call_in body)
  unfolding record_of call_of respond
  answers-state n x e en ex q = rw (call-kind 6 p e, ← en, ← ex) (answers-reply (SetGrowState n x) refl q)

  pub answers-prepare : (n d : ℕ) → kind ≡ 7 → n ≡ field body 0 → d ≡ field body 1
      → Replies b₀ b a (prepare_dual_node_growth (state_of b₀) n d) → Answers b₀ b a (call_in body)
  unfolding record_of call_of respond
  answers-prepare n d e en ed q = rw (call-kind 7 p e, ← en, ← ed) (answers-reply (Prepare n d) refl q)

  pub answers-length : (n d first : ℕ) → kind ≡ 8 → n ≡ field body 0 → d ≡ field body 1 → first ≡ field body 2
      → Replies b₀ b a (max_update_length (state_of b₀) n d (first == 1)) → Answers b₀ b a (call_in body)
  unfolding record_of call_of respond ask_length
  answers-length n d first e en ed ef q =
      let one : leb (field body 2) 1 ≡ true = sym (formed-length body (formed-fits body p.formed) (p.is ∙ e)) ∙ p.formed in
      rw (call-kind 8 p e, one, ← en, ← ed, ← ef) (answers-reply (UpdateLength n d (first == 1)) refl q)

  pub answers-grow : (n : ℕ) (l : ℤ) → kind ≡ 9 → n ≡ field body 0 → l ≡ signed (field body 1)
      → Replies b₀ b a (grow_dual_node (state_of b₀) n l) → Answers b₀ b a (call_in body)
  unfolding record_of call_of respond
  answers-grow n l e en el q = rw (call-kind 9 p e, ← en, ← el) (answers-reply (Grow n l) refl q)

  pub answers-advance : (n : ℕ) → kind ≡ 11 → n ≡ field body 0 → Replies b₀ b a (advance (state_of b₀) n) → Answers b₀ b a (call_in body)
  unfolding record_of call_of respond
  answers-advance n e en q = rw (call-kind 11 p e, ← en) (answers-reply (Advance n) refl q)

  pub answers-clear : kind ≡ 13 → (a ≡ (clear (state_of b₀)).answer) × (state_of b ≡ (clear (state_of b₀)).state) × Cleared b₀ b → Answers b₀ b a (call_in body)
  unfolding record_of call_of respond response
  answers-clear e q =
      rw (call-kind 13 p e)
      (record
      { outcome = ap answered (sym q.0); formed = q.2.formed; state = q.1; vertices = q.2.vertices; edges = q.2.edges; len = q.2.len })

-- the kind that is none of the others
above : (k n : ℕ) → n ≤ k → (k ≢ n) → n + 1 ≤ k
above k n h ne = omega arith

pub last-kind : {body : List ℕ} {kind : ℕ} → OfKind body kind → 4 ≤ kind → (kind ≢ 4) → (kind ≢ 5)
    → (kind ≢ 6) → (kind ≢ 7) → (kind ≢ 8) → (kind ≢ 9) → (kind ≢ 10) → (kind ≢ 11)
    → (kind ≢ 12) → kind ≡ 13
last-kind {body} {kind} p h h₄ h₅ h₆ h₇ h₈ h₉ h₁₀ h₁₁ h₁₂ =
    exact kind
    (above kind 12
    (above kind 11
    (above kind 10
    (above kind 9 (above kind 8 (above kind 7 (above kind 6 (above kind 5 (above kind 4 h h₄) h₅) h₆) h₇) h₈) h₉) h₁₀)
    h₁₁)
    h₁₂)
    (rw p.is at (kind-range body p.formed).1)
  where
    exact : (k : ℕ) → 13 ≤ k → k ≤ 13 → k ≡ 13
    exact k a b = omega arith

-- ---- the circle of a blossom

pub circle-none : (c : List ℤ) (body : List ℕ) (k : ℕ) → map to_nat (take 0 c) ++ fields (k - 0) body (0 + 1) ≡ fields k body 1
circle-none c body k = let z : k - 0 ≡ k = omega arith in rw z

-- one entry more
pub circle-more : (c : List ℤ) (body : List ℕ) (i k x : ℕ) → i < k → i < length c → x ≡ field body (i + 1)
    → map to_nat (take i c) ++ fields (k - i) body (i + 1) ≡ fields k body 1
    → map to_nat (take (i + 1) (slice_set c i (pos x))) ++ fields (k - (i + 1)) body (i + 1 + 1) ≡ fields k body 1
unfolding fields to_nat
circle-more c body i k x h l e q =
    let less : k - i ≡ suc (k - (i + 1)) = omega arith in
    let t : take (i + 1) (slice_set c i (pos x)) ≡ take i c ++ (pos x ∷ []) = rw (add-one) (take-suc-set c i (pos x) l) in
    rw (t, ← (rw less at q))
    (one (take i c) (fields (k - (i + 1)) body (i + 1 + 1))
    ∙ ap (λ y. map to_nat (take i c) ++ (y ∷ fields (k - (i + 1)) body (i + 1 + 1))) e)
  where
    one : (l : List ℤ) (rest : List ℕ) → map to_nat (l ++ (pos x ∷ [])) ++ rest ≡ map to_nat l ++ (x ∷ rest)
    one [] rest = refl
    one (z ∷ l) rest = ap (λ r. to_nat z ∷ r) (one l rest)

pub circle-all : (c : List ℤ) (body : List ℕ) (i k : ℕ) → k ≤ i → i ≤ k
    → map to_nat (take i c) ++ fields (k - i) body (i + 1) ≡ fields k body 1 → map to_nat (take k c) ≡ fields k body 1
unfolding fields
circle-all c body i k h l q =
    let z : k - i ≡ 0 = omega arith in
    let y : i ≡ k = omega arith in
    rw (← append-nil (map to_nat (take k c))) (rw (z, y) at q)

-- the part that is handed on
pub circle-part : {l : List ℕ} (c : List ℤ) (n : ℕ) → map to_nat (take n c) ≡ l → map to_nat (take (n - 0) c) ≡ l
circle-part c n e = let z : n - 0 ≡ n = omega arith in rw z e

-- ---- an opened block

pub opened-usable : {b t : List ℤ} → Opened b t → Usable b t
opened-usable {b} {t} o = record { formed = o.formed; sounds = (reachable-invariant (state_of b) o.reachable).sounds; scratch = o.scratch }
