-- The loops of the length answer, and its limits.
use Rattle.std.specs.Prelude.{ℕ, suc, ◌+◌, ◌-◌, ◌≤◌, ◌<◌, min, ◌≡◌, ◌≢◌, Bool, List, [], ◌∷◌, map, ℤ, pos, eqb, length, get_or, take, drop, if◌then◌else◌}
use Rattle.std.specs.Prelude.{Result}
use Rattle.std.proofs.Common.{arith, ap, ◌∙◌, true≢false, take-append-drop}
use Rattle.std.proofs.Math.Path.{refl, sym}
use Rattle.std.proofs.Math.Bool.{true, false}
use Rattle.std.proofs.lemmas.List.{length-map}
use borrow.Author.Tests.{ne_eqb, lt-ltb, le-ltb}
use Rattle.graph.specs.Basic.{fold}
use Rattle.graph.specs.State.{State, Overgrown, blossom, removed, removed_place, vertex_count, sides_at, class_of, boundary_of, weight_over, grown_over}
use Rattle.graph.specs.Word.{to_nat, word_at}
use Rattle.graph.specs.Layout.{class_from, overgrown_from}
use Rattle.graph.specs.laws.State.{fold-none, fold_more, fold_done, fold-append}
use Rattle.graph.specs.laws.Number.{word-entry}
use Rattle.answers.specs.Outcome.{Answer}
use Rattle.answers.specs.declared.MaxUpdateLength.{MaxUpdateLength}
use Rattle.answers.specs.declared.MaxUpdateLength.TheVariants.{BlossomNeedExpand}
use Rattle.refusal.specs.declared.Refusal.{Refusal}
use Rattle.update_length.specs.declared.look.Look as LookType
use Rattle.update_length.specs.declared.join.Scan as ScanType
use Rattle.update_length.specs.declared.stop.Peers.TheVariants.{NoPeer}
use Rattle.update_length.specs.Scan.{Scan, open-ended, within, over, gap_of, look, with_look, scan_step, is_empty, scan_answer, scan_boundary, Peers, no_peer, stop_step, stop_with, stop_answer, shrink_limit}
use Rattle.update_length.specs.inner.Length.{length_end, look_of, scan_of, within_in, is_over, Shows, Knows, peers_of}

-- a boundary as a part of the block
pub empty-is : (l : List ℤ) → is_empty (map to_nat l) ≡ eqb (length l) 0
unfolding is_empty
empty-is [] = refl
empty-is (x ∷ l) = sym (ne_eqb (suc (length l)) 0 (omega arith))

-- a scan that has met its answer keeps it
pub scan-over : (c : State) (n d : ℕ) (a : Answer) (l : List ℕ) → fold (scan_step c n d) (over a) l ≡ over a
unfolding fold scan_step with_look
scan-over c n d a [] = refl
scan-over c n d a (s ∷ l) = scan-over c n d a l

over-rest : (c : State) (n d : ℕ) (k : Scan) (l : List ℕ) → is_over k ≡ true → fold (scan_step c n d) k l ≡ k
unfolding is_over
over-rest c n d (over a) l h = scan-over c n d a l
over-rest c n d open-ended l h = absurd (true≢false (sym h))
over-rest c n d (within x) l h = absurd (true≢false (sym h))

-- ---- the scan: what is known after the first i sides

module _ (c : State) (n d : ℕ) (start : ScanType.Scan (Result MaxUpdateLength Refusal)) (l : List ℤ) where
  pub scan-none : within_in start < length_end → Knows start (fold (scan_step c n d) (scan_of start) (take 0 (map to_nat l)))
  scan-none h = record { what = sym (fold-none (scan_step c n d) (scan_of start) (map to_nat l)); fits = h }

  pub scan-more : (i s : ℕ) {r q : ScanType.Scan (Result MaxUpdateLength Refusal)}
      {x : LookType.Look (Result MaxUpdateLength Refusal)} → i < length l → s ≡ word_at l i
      → Knows r (fold (scan_step c n d) (scan_of start) (take i (map to_nat l))) → Shows x (look c n d s)
      → Knows q (with_look (scan_of r) (look_of x))
      → Knows q (fold (scan_step c n d) (scan_of start) (take (i + 1) (map to_nat l)))
  unfolding scan_step
  scan-more i s {r} {q} {x} h e k y z =
      let m = fold_more (scan_step c n d) (scan_of start) (map to_nat l) i 0 (rw (length-map l to_nat) h) in
      record { what = z.what ∙ rw (k.what, y.what, e ∙ word-entry l i) (sym m); fits = z.fits }

  pub scan-all : (i : ℕ) {r : ScanType.Scan (Result MaxUpdateLength Refusal)} → length l ≤ i
      → Knows r (fold (scan_step c n d) (scan_of start) (take i (map to_nat l)))
      → Knows r (fold (scan_step c n d) (scan_of start) (map to_nat l))
  scan-all i h k = record { what = k.what ∙ fold_done (scan_step c n d) (scan_of start) (map to_nat l) i (rw (length-map l to_nat) h); fits = k.fits }

  -- what is left changes nothing where the scan has met its answer
  pub scan-met : (i : ℕ) {r : ScanType.Scan (Result MaxUpdateLength Refusal)} → is_over (scan_of r) ≡ true
      → Knows r (fold (scan_step c n d) (scan_of start) (take i (map to_nat l)))
      → Knows r (fold (scan_step c n d) (scan_of start) (map to_nat l))
  scan-met i {r} h k =
      let m : List ℕ = map to_nat l in
      let e : fold (scan_step c n d) (scan_of start) m ≡ fold (scan_step c n d) (scan_of r) (drop i m) =
      ap (fold (scan_step c n d) (scan_of start)) (sym (take-append-drop i m)) ∙ fold-append (scan_step c n d) (scan_of start) (take i m) (drop i m)
      ∙ ap (λ x. fold (scan_step c n d) x (drop i m)) (sym k.what) in
      record { what = sym (e ∙ over-rest c n d (scan_of r) (drop i m) h); fits = k.fits }

  -- the answer of a whole boundary
  pub scan-answer : {r : ScanType.Scan (Result MaxUpdateLength Refusal)} {a : Answer} → map to_nat l ≡ boundary_of c n
      → Knows r (fold (scan_step c n d) (scan_of start) (map to_nat l)) → a ≡ scan_answer (eqb (length l) 0) (scan_of r)
      → a ≡ scan_boundary c n d (scan_of start)
  unfolding scan_boundary
  scan-answer e k p = p ∙ rw (k.what, ← empty-is l, ← e)

-- ---- the peers met after the first i sides at vertex v

module _ (c : State) (v : ℕ) where
  pub peers-none : peers_of NoPeer ≡ fold (stop_step c) no_peer (take 0 (sides_at c v))
  unfolding peers_of
  peers-none = sym (fold-none (stop_step c) no_peer (sides_at c v))

  pub peers-more : (i s : ℕ) {x y : Peers} → i < length (sides_at c v) → s ≡ get_or (sides_at c v) i 0
      → x ≡ fold (stop_step c) no_peer (take i (sides_at c v)) → y ≡ stop_step c x s
      → y ≡ fold (stop_step c) no_peer (take (i + 1) (sides_at c v))
  peers-more i s h e k z = z ∙ rw (k, e) (sym (fold_more (stop_step c) no_peer (sides_at c v) i 0 h))

  pub peers-all : (i : ℕ) {x : Peers} → length (sides_at c v) ≤ i → x ≡ fold (stop_step c) no_peer (take i (sides_at c v))
      → x ≡ fold (stop_step c) no_peer (sides_at c v)
  peers-all i h k = k ∙ fold_done (stop_step c) no_peer (sides_at c v) i h

-- ---- a node that shrinks no further, by the word of its class

module _ (c : State) (n x : ℕ) (e : class_from (vertex_count c) x ≡ class_of c n) where
  pub stop-defect : {r : Peers} {a : MaxUpdateLength} → x < vertex_count c → r ≡ fold (stop_step c) no_peer (sides_at c x)
      → a ≡ stop_with n r → a ≡ stop_answer c n (class_of c n)
  unfolding class_from stop_answer
  stop-defect h k p = p ∙ rw (← e, lt-ltb x (vertex_count c) h, k)

  pub stop-blossom : vertex_count c ≤ x → BlossomNeedExpand n ≡ stop_answer c n (class_of c n)
  unfolding class_from stop_answer
  stop-blossom h = rw (← e, le-ltb x (vertex_count c) h) (go (eqb x (vertex_count c + removed_place)))
    where
      go : (r : Bool) → BlossomNeedExpand n ≡ stop_answer c n (if r then removed else blossom (x - vertex_count c))
      go true = refl
      go false = refl

-- ---- the limit of a node that shrinks

pub limit-none : (y : ℕ) (o : List Overgrown) → length o ≡ 0 → y ≡ shrink_limit y o
unfolding shrink_limit
limit-none y [] h = refl
limit-none y (x ∷ o) h = absurd (omega arith)

pub limit-top : (y : ℕ) (o : List Overgrown) → length o ≢ 0 → min y (get_or o 0 (overgrown_from 0)).amount ≡ shrink_limit y o
unfolding shrink_limit
limit-top y [] h = absurd (h refl)
limit-top y (x ∷ o) h = refl

-- ---- what is known is kept, and what is left

-- where an edge is within its weight, what is left is a plain number
pub gap_within : (c : State) (s : ℕ) → grown_over c s ≤ weight_over c s → gap_of c s ≡ pos (weight_over c s - grown_over c s)
unfolding gap_of
gap_within c s h = rw (le-ltb (weight_over c s) (grown_over c s) h)
