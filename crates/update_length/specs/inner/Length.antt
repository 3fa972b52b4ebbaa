-- How the code of the length answer keeps what the definitions in Scan speak of. A length z is kept as z + 2^42, so that a negative one needs no sign.
use Rattle.std.specs.Prelude.{ℕ, ◌<◌, ◌≡◌, Bool, true, false, ℤ, Result}
use Rattle.std.proofs.Math.IntN.{sub_ℕ}
use Rattle.update_length.specs.declared.look.Look as LookType
use Rattle.update_length.specs.declared.look.Look.TheVariants.{Skip, Room, Meets}
use Rattle.update_length.specs.declared.join.Scan as ScanType
use Rattle.update_length.specs.declared.join.Scan.TheVariants.{OpenEnded, Within, Over}
use Rattle.update_length.specs.declared.stop.Peers as PeersType
use Rattle.update_length.specs.declared.stop.Peers.TheVariants.{NoPeer, Peer, TwoPeers}
use Rattle.answers.specs.Outcome.{Answer, length_told}
use Rattle.answers.specs.declared.MaxUpdateLength.{MaxUpdateLength}
use Rattle.refusal.specs.declared.Refusal.{Refusal}
use Rattle.update_length.specs.Scan.{Look, skip, room, meets, Scan, open-ended, within, over, Peers, no_peer, peer, two_peers}

-- ---- lengths

-- what stands for the length 0
abbrev pub zero_length : ℕ
zero_length = 4398046511104

-- every length that is kept is below this
abbrev pub length_end : ℕ
length_end = 8796093022208

-- the length that x stands for
unfoldable pub length_of : ℕ → ℤ
length_of x = sub_ℕ x zero_length

-- ---- what one side says

-- what r stands for, where f gives the answer that is met
unfoldable pub look_by : {A : Type 0} → (A → Answer) → LookType.Look A → Look
look_by f Skip = skip
look_by f (Room x) = room (length_of x)
look_by f (Meets a) = meets (f a)

-- with what a scan hands back
abbrev pub look_of : LookType.Look (Result MaxUpdateLength Refusal) → Look
look_of r = look_by length_told r

-- the length in it, or 0
unfoldable pub room_in : {A : Type 0} → LookType.Look A → ℕ
room_in Skip = 0
room_in (Room x) = x
room_in (Meets a) = 0

-- r stands for l
pub record Shows (r : LookType.Look (Result MaxUpdateLength Refusal)) (l : Look) : Type 0 where
  pub what : look_of r ≡ l
  pub fits : room_in r < length_end

-- ---- what a scan knows so far

-- what r stands for, where f gives the answer that is met
unfoldable pub scan_by : {A : Type 0} → (A → Answer) → ScanType.Scan A → Scan
scan_by f OpenEnded = open-ended
scan_by f (Within x) = within (length_of x)
scan_by f (Over a) = over (f a)

-- with what a scan hands back
abbrev pub scan_of : ScanType.Scan (Result MaxUpdateLength Refusal) → Scan
scan_of r = scan_by length_told r

-- the length in it, or 0
unfoldable pub within_in : {A : Type 0} → ScanType.Scan A → ℕ
within_in OpenEnded = 0
within_in (Within x) = x
within_in (Over a) = 0

-- the scan has met its answer
unfoldable pub is_over : Scan → Bool
is_over open-ended = false
is_over (within x) = false
is_over (over a) = true

-- r stands for k, where f gives the answer that is met
pub record KnowsBy {A : Type 0} (f : A → Answer) (r : ScanType.Scan A) (k : Scan) : Type 0 where
  pub what : scan_by f r ≡ k
  pub fits : within_in r < length_end

-- with what a scan hands back
abbrev pub Knows : ScanType.Scan (Result MaxUpdateLength Refusal) → Scan → Type 0
Knows r k = KnowsBy length_told r k

-- ---- the Grow peers met at a defect's vertex

-- what r stands for
unfoldable pub peers_of : PeersType.Peers → Peers
peers_of NoPeer = no_peer
peers_of (Peer p g) = peer p g
peers_of (TwoPeers q h p g) = two_peers q h p g
