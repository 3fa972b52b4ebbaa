-- The entries of the list are just the small patches.
use Rattle.std.specs.Prelude.{◌≡◌, refl, ◌⊎◌, Bool, true, ℕ, zero, suc, ◌<◌, length, get_or}
use Rattle.std.proofs.Common.{sym, subst, inl, inr, arith}
use mathlib.Core.List.Memᴰ
use mathlib.Core.List.{List, [], ◌∷◌, ◌++◌, map, Memᴰ}
use Rattle.graph.specs.Basic.{all}
use Rattle.graph.specs.Open.{Edge}
use Rattle.graph.specs.laws.Members.{all_first, all_others}
use Rattle.small_patches.specs.SmallPatch.{Pair, edge_over, PatchOver, no_pairs, absent, of_weight2, of_weight4, patches_over}

-- ---- entries of a list

module _ {A : Type 0} (d : A) where
  -- an entry has a place
  pub place_of : {x : A} {l : List A} → Memᴰ x l → (k : ℕ) × (k < length l) × (get_or l k d ≡ x)
  place_of (Memᴰ.head e) = (0, omega arith, sym e)
  place_of (Memᴰ.tail m) = let p = place_of m in (suc p.0, omega (arith, p.1), p.2)

  -- at a place stands an entry
  pub entry-at : (l : List A) (k : ℕ) → k < length l → Memᴰ (get_or l k d) l
  entry-at [] k h = absurd (omega arith)
  entry-at (x ∷ l) zero h = Memᴰ.head refl
  entry-at (x ∷ l) (suc k) h = Memᴰ.tail (entry-at l k (omega arith))

-- what stands where there is no edge
abbrev pub no_edge : Edge
no_edge = record { left = 0; right = 0; weight = 0 }

-- what all entries pass, an entry passes
pub all-entry : {A : Type 0} (p : A → Bool) {x : A} {l : List A} → all p l ≡ true → Memᴰ x l → p x ≡ true
all-entry {A = A} p {l = []} h m = elim m [ ]
all-entry p {l = y ∷ ys} h (Memᴰ.head e) = rw e (all_first p y ys h)
all-entry p {l = y ∷ ys} h (Memᴰ.tail m) = all-entry p (all_others p y ys h) m

-- ---- patches

module _ (p : Pair) (l : List (List Edge)) where
  -- the same with the pair, of weight 2 or of weight 4
  abbrev with2 : List (List Edge)
  with2 = map (λ es. edge_over p 2 ∷ es) l

  abbrev with4 : List (List Edge)
  with4 = map (λ es. edge_over p 4 ∷ es) l

-- a patch is an entry,
pub patch-entry : {ps : List Pair} {es : List Edge} → PatchOver ps es → Memᴰ es (patches_over ps)
unfolding patches_over
patch-entry no_pairs = Memᴰ.head refl
patch-entry (absent {p} {ps} q) =
    let l = patches_over ps in Memᴰ.append_left (with4 p l) (Memᴰ.append_left (with2 p l) (patch-entry q))
patch-entry (of_weight2 {p} {ps} q) =
    let l = patches_over ps in
    Memᴰ.append_left (with4 p l) (Memᴰ.append_right l (Memᴰ.map (λ (es : List Edge). edge_over p 2 ∷ es) (patch-entry q)))
patch-entry (of_weight4 {p} {ps} q) =
    let l = patches_over ps in
    Memᴰ.append_right (l ++ with2 p l) (Memᴰ.map (λ (es : List Edge). edge_over p 4 ∷ es) (patch-entry q))

-- an entry over one pair more, where those over the others are patches
module _ (p : Pair) (ps : List Pair) (each : (fs : List Edge) → Memᴰ fs (patches_over ps) → PatchOver ps fs) (es : List Edge) where
  one_of_three :
      Memᴰ es (patches_over ps ++ with2 p (patches_over ps)) ⊎ Memᴰ es (with4 p (patches_over ps)) → PatchOver (p ∷ ps) es
  one_of_three (inl i) = one_of_two (Memᴰ.append_cases (patches_over ps) i)
    where
      one_of_two : Memᴰ es (patches_over ps) ⊎ Memᴰ es (with2 p (patches_over ps)) → PatchOver (p ∷ ps) es
      one_of_two (inl j) = absent (each es j)
      one_of_two (inr j) =
          let r = Memᴰ.of_map (λ (fs : List Edge). edge_over p 2 ∷ fs) (patches_over ps) j in
          subst (PatchOver (p ∷ ps)) r.2 (of_weight2 (each r.0 r.1))
  one_of_three (inr i) =
      let r = Memᴰ.of_map (λ (fs : List Edge). edge_over p 4 ∷ fs) (patches_over ps) i in
      subst (PatchOver (p ∷ ps)) r.2 (of_weight4 (each r.0 r.1))

-- and an entry a patch
pub entry-patch : (ps : List Pair) (es : List Edge) → Memᴰ es (patches_over ps) → PatchOver ps es
unfolding patches_over
entry-patch [] es m = subst (PatchOver []) (sym (Memᴰ.eq_of_singleton m)) no_pairs
entry-patch (p ∷ ps) es m =
    let l = patches_over ps in one_of_three p ps (λ fs i. entry-patch ps fs i) es (Memᴰ.append_cases (l ++ with2 p l) m)
