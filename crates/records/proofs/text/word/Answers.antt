use native.Mathlib.Omega.{arith}
use mathlib.Core.Path.{◌≡◌, refl}
use mathlib.Core.List.{List, ◌++◌}
use Prim.Native.Nat.{ℕ, ◌+◌, ◌-◌, ◌≤◌}
use lib.ListN.{length, take, drop}
use lib.Seq.{sets, drop-drop}
use Rattle.std.proofs.Common.{append_assoc}
use Rattle.std.proofs.lemmas.List.Edits.{sets-eq}
use Rattle.records.specs.Write.{Written}
use Rattle.records.proofs.text.word.Goals as goal

part : (t w : List ℕ) (n : ℕ) → n + length w ≤ length t → take n t ++ (w ++ drop (length w) (drop n t)) ≡ sets t n w
part t w n h = rw (sets-eq w t n h, append_assoc, drop-drop)

pub returns : goal.returns
returns c =
    let a = c.args in
    let z : a.n + length a.w.now - a.n ≡ length a.w.now = omega arith in
    record { bytes = rw (z, c.copy_each.ensures) (part a.t.now a.w.now a.n c.requires); place = refl }
