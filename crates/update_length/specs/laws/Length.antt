-- Laws of lengths as the code keeps them, and of what it makes of them.
use Rattle.std.specs.Prelude.{ℕ, zero, suc, ◌+◌, ◌-◌, ◌/◌, ◌≤◌, ◌<◌, min, ◌≡◌, refl, ◌≢◌, Bool, true, false, ℤ, pos, negsuc, neg_ℤ, leb, if◌then◌else◌}
use native.Mathlib.Omega.{arith}
use Rattle.std.proofs.Math.Decide.{dec_lt}
use Rattle.std.proofs.Math.Path.{ap}
use Rattle.std.proofs.Math.IntN.{sub_ℕ}
use borrow.Author.Tests.{lt-ltb, le-ltb, eq-eqb, ne_eqb, le-leb, lt-leb}
use Rattle.answers.specs.Outcome.{Answer, Length}
use Rattle.answers.specs.declared.MaxUpdateLength.TheVariants.{NonZeroGrow, Unlimited, Conflicting, VertexShrinkStop, VertexShrinkStopPeer}
use Rattle.update_length.specs.declared.look.Look as LookType
use Rattle.update_length.specs.declared.look.Look.TheVariants.{Skip, Room, Meets}
use Rattle.update_length.specs.declared.join.Scan as ScanType
use Rattle.update_length.specs.declared.join.Scan.TheVariants.{OpenEnded, Within, Over}
use Rattle.update_length.specs.declared.stop.Peers as PeersType
use Rattle.update_length.specs.declared.stop.Peers.TheVariants.{NoPeer, Peer, TwoPeers}
use Rattle.update_length.specs.Scan.{half, is_zero, lesser, within, with_look, scan_answer, meet, stop_with}
use Rattle.update_length.specs.inner.Length.{zero_length, length_end, length_of, look_by, room_in, scan_by, within_in, KnowsBy, peers_of}

-- ---- the length that a number stands for, on either side of zero

pub length_up : (x : ℕ) → zero_length ≤ x → length_of x ≡ pos (x - zero_length)
unfolding length_of
length_up x h = rw (le-ltb x zero_length h)

pub length-down : (x : ℕ) → x < zero_length → length_of x ≡ negsuc (zero_length - suc x)
unfolding length_of
length-down x h = rw (lt-ltb x zero_length h)

pub length_above : (y : ℕ) → length_of (zero_length + y) ≡ pos y
length_above y = let e : zero_length + y - zero_length ≡ y = omega arith in rw (length_up (zero_length + y) (omega arith), e)

-- ---- the operations

-- what is left of the weight w when g has grown
pub length-left : (w g : ℕ) → g ≤ zero_length + w → length_of (zero_length + w - g) ≡ sub_ℕ w g
length-left w g h =
    elim (dec_lt w g) [
      | yes k ↦
          let e : zero_length - suc (zero_length + w - g) ≡ g - suc w = omega arith in
          rw (lt-ltb w g k, length-down (zero_length + w - g) (omega arith), e)
      | no k ↦
          let e : zero_length + w - g - zero_length ≡ w - g = omega arith in
          rw (le-ltb w g (omega arith), length_up (zero_length + w - g) (omega arith), e)
    ]

pub length-zero : (x : ℕ) → x ≡ zero_length → is_zero (length_of x) ≡ true
unfolding is_zero
length-zero x e = let z : x - zero_length ≡ 0 = omega arith in rw (length_up x (omega arith), z)

pub length-nonzero : (x : ℕ) → x ≢ zero_length → is_zero (length_of x) ≡ false
unfolding is_zero
length-nonzero x n =
    elim (dec_lt x zero_length) [
      | yes k ↦ rw (length-down x k)
      | no k ↦ rw (length_up x (omega arith)) (ne_eqb (x - zero_length) 0 (omega arith))
    ]

pub half_up : (x : ℕ) → zero_length ≤ x → length_of (zero_length + (x - zero_length) / 2) ≡ half (length_of x)
unfolding half
half_up x h = rw (length_up x h) (length_above ((x - zero_length) / 2))

negated : (k : ℕ) → k ≤ zero_length → length_of (zero_length - k) ≡ neg_ℤ (pos k)
negated zero h = length_up zero_length (omega arith)
negated (suc k) h = let e : zero_length - suc (zero_length - suc k) ≡ k = omega arith in rw (length-down (zero_length - suc k) (omega arith), e)

pub half_down : (x : ℕ) → x < zero_length → length_of (zero_length - (zero_length - x) / 2) ≡ half (length_of x)
unfolding half
half_down x h =
    let e : zero_length - suc x + 1 ≡ zero_length - x = omega arith in
    rw (length-down x h, e) (negated ((zero_length - x) / 2) (omega arith))

pub lesser-kept : (x y : ℕ) → length_of (min x y) ≡ lesser (length_of x) (length_of y)
unfolding lesser
lesser-kept x y =
    elim (dec_lt x zero_length) [
      | yes k ↦
          elim (dec_lt y zero_length) [
            | yes l ↦
                rw (length-down x k, length-down y l, length-down (min x y) (omega arith))
                (elim (dec_lt y x) [
                  | yes q ↦ let e : min x y ≡ y = omega arith in rw (le-leb (zero_length - suc x) (zero_length - suc y) (omega arith), e)
                  | no q ↦ go x y k l (omega arith)
                ])
            | no l ↦ let e : min x y ≡ x = omega arith in rw (e, length-down x k, length_up y (omega arith))
          ]
      | no k ↦
          elim (dec_lt y zero_length) [
            | yes l ↦ let e : min x y ≡ y = omega arith in rw (e, length_up x (omega arith), length-down y l)
            | no l ↦
                let e : min x y - zero_length ≡ min (x - zero_length) (y - zero_length) = omega arith in
                rw (length_up x (omega arith), length_up y (omega arith), length_up (min x y) (omega arith), e)
          ]
    ]
  where
    go : (x y : ℕ) → x < zero_length → y < zero_length → x ≤ y
        → ◌≡◌ {A = ℤ} (negsuc (zero_length - suc (min x y)))
        (if leb (zero_length - suc x) (zero_length - suc y) then negsuc (zero_length - suc y) else negsuc (zero_length - suc x))
    go x y k l q =
        let e : min x y ≡ x = omega arith in
        elim (dec_lt x y) [
          | yes r ↦ rw (lt-leb (zero_length - suc x) (zero_length - suc y) (omega arith), e)
          | no r ↦ let f : x ≡ y = omega arith in
              rw
              (f, le-leb (zero_length - suc y) (zero_length - suc y) (omega arith), (let z : min y y ≡ y = omega arith in z))
        ]

-- ---- what a scan knows, after one more side

pub over-stays : {A : Type 0} (f : A → Answer) {r : ScanType.Scan A} (l : LookType.Look A) {a : A} → r ≡ Over a
    → KnowsBy f (Over a) (with_look (scan_by f r) (look_by f l))
unfolding with_look scan_by within_in
over-stays f l e = rw e (record { what = refl; fits = omega arith })

module _ {A : Type 0} (f : A → Answer) {r : ScanType.Scan A} {l : LookType.Look A} where
  pub open-skip : r ≡ OpenEnded → l ≡ Skip → KnowsBy f OpenEnded (with_look (scan_by f r) (look_by f l))
  unfolding with_look scan_by look_by within_in
  open-skip e d = rw (e, d) (record { what = refl; fits = omega arith })

  pub open-room : {x : ℕ} → r ≡ OpenEnded → l ≡ Room x → room_in l < length_end → KnowsBy f (Within x) (with_look (scan_by f r) (look_by f l))
  unfolding with_look scan_by look_by within_in room_in
  open-room e d h = rw (e, d) (record { what = refl; fits = rw d at h })

  pub open-meets : {a : A} → r ≡ OpenEnded → l ≡ Meets a → KnowsBy f (Over a) (with_look (scan_by f r) (look_by f l))
  unfolding with_look scan_by look_by within_in
  open-meets e d = rw (e, d) (record { what = refl; fits = omega arith })

  pub within-skip : {y : ℕ} → r ≡ Within y → l ≡ Skip → within_in r < length_end → KnowsBy f (Within y) (with_look (scan_by f r) (look_by f l))
  unfolding with_look scan_by look_by within_in
  within-skip e d h = rw (e, d) (record { what = refl; fits = rw e at h })

  pub within-room : {x y z : ℕ} → r ≡ Within y → l ≡ Room x → within_in r < length_end → z ≡ min y x → KnowsBy f (Within z) (with_look (scan_by f r) (look_by f l))
  unfolding with_look scan_by look_by within_in
  within-room {x} {y} {z} e d h m =
      let k : y < length_end = rw e at h in
      rw (e, d, m) (record { what = ap within (lesser-kept y x); fits = omega (arith, k) })

  pub within-meets : {y : ℕ} {a : A} → r ≡ Within y → l ≡ Meets a → KnowsBy f (Over a) (with_look (scan_by f r) (look_by f l))
  unfolding with_look scan_by look_by within_in
  within-meets e d = rw (e, d) (record { what = refl; fits = omega arith })

-- ---- the answer by what is known

module _ {A : Type 0} (f : A → Answer) (empty : Bool) {r : ScanType.Scan A} where
  pub answer-open : {x : Answer} → r ≡ OpenEnded → x ≡ Length (Unlimited empty) → x ≡ scan_answer empty (scan_by f r)
  unfolding scan_answer scan_by
  answer-open e d = rw (e, d)

  pub answer-within : {x : Answer} {y : ℕ} {z : ℤ} → r ≡ Within y → z ≡ length_of y → x ≡ Length (NonZeroGrow z empty)
      → x ≡ scan_answer empty (scan_by f r)
  unfolding scan_answer scan_by
  answer-within e k d = rw (e, d, k)

  pub answer-over : {a : A} → r ≡ Over a → f a ≡ scan_answer empty (scan_by f r)
  unfolding scan_answer scan_by
  answer-over e = rw e

pub within-is : {A : Type 0} {r : ScanType.Scan A} {x : ℕ} → r ≡ Within x → within_in r < length_end → x < length_end
unfolding within_in
within-is e h = rw e at h

-- ---- the Grow peers met

module _ {r : PeersType.Peers} (p g : ℕ) where
  pub meet-first : r ≡ NoPeer → peers_of (Peer p g) ≡ meet (peers_of r) p g
  unfolding peers_of meet
  meet-first e = rw e

  pub meet-again : {q h : ℕ} → r ≡ Peer q h → p ≡ q → peers_of (Peer q h) ≡ meet (peers_of r) p g
  unfolding peers_of meet
  meet-again {q} {h} e s = rw (e, eq-eqb p q s)

  pub meet-second : {q h : ℕ} → r ≡ Peer q h → p ≢ q → peers_of (TwoPeers q h p g) ≡ meet (peers_of r) p g
  unfolding peers_of meet
  meet-second {q} {h} e s = rw (e, ne_eqb p q s)

  pub meet-more : {q h x y : ℕ} → r ≡ TwoPeers q h x y → peers_of (TwoPeers q h x y) ≡ meet (peers_of r) p g
  unfolding peers_of meet
  meet-more e = rw e

module _ {r : PeersType.Peers} (n : ℕ) where
  pub stop-no-peer : r ≡ NoPeer → VertexShrinkStop n ≡ stop_with n (peers_of r)
  unfolding peers_of stop_with
  stop-no-peer e = rw e

  pub stop-peer : {p g : ℕ} → r ≡ Peer p g → VertexShrinkStopPeer n p g ≡ stop_with n (peers_of r)
  unfolding peers_of stop_with
  stop-peer e = rw e

  pub stop-two-peers : {q h p g : ℕ} → r ≡ TwoPeers q h p g → Conflicting q h p g ≡ stop_with n (peers_of r)
  unfolding peers_of stop_with
  stop-two-peers e = rw e
