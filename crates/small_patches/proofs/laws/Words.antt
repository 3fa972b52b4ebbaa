-- Edges put into words, one behind another, and read from them as open reads.
use Rattle.std.specs.Prelude.{◌≡◌, refl, List, [], ◌∷◌, ◌++◌, map, ℕ, zero, suc, ◌+◌, ◌*◌, ◌≤◌, ◌<◌, ℤ, pos, length, get_or, set, take, drop}
use Rattle.std.proofs.Common.{sym, ◌∙◌, arith, length-append, take_at, ext_get_or}
use Rattle.std.proofs.lemmas.List.{length-map}
use Rattle.std.proofs.lemmas.List.Edits.{sets, sets-eq}
use Rattle.std.proofs.Math.Seq.{length-sets}
use Rattle.graph.specs.Basic.{below}
use Rattle.graph.specs.Word.{to_nat}
use Rattle.graph.specs.Open.{Edge}
use Rattle.graph.specs.Opening.{given_at, edge_at, edges_in, edges_from}
use Rattle.graph.specs.laws.Members.{length-below}
use Rattle.graph.specs.laws.Opened.{get_d-tabled}
use Rattle.small_patches.specs.Words.{edge_words, EdgesPut}
use Rattle.small_patches.proofs.laws.Entries.{no_edge}

-- ---- written

sets-append : (b : List ℤ) (n : ℕ) (w v : List ℤ) → sets b n (w ++ v) ≡ sets (sets b n w) (n + length w) v
sets-append b n [] v = let z : n + 0 ≡ n = omega arith in rw z
sets-append b n (x ∷ w) v = let z : n + suc (length w) ≡ suc n + length w = omega arith in rw z (sets-append (set b n x) (suc n) w v)

words_append : (es fs : List Edge) → edge_words (es ++ fs) ≡ edge_words es ++ edge_words fs
unfolding edge_words
words_append [] fs = refl
words_append (e ∷ es) fs = rw (words_append es fs)

length-words : (es : List Edge) → length (edge_words es) ≡ 3 * length es
unfolding edge_words
length-words [] = refl
length-words (e ∷ es) = omega (arith, length-words es)

-- no edge
pub put-none : (b : List ℤ) (n : ℕ) → EdgesPut b n b n []
unfolding edge_words
put-none b n = record { words = refl; count = omega arith }

-- some, then others behind them
pub put_then : {b c d : List ℤ} {n m k : ℕ} {es fs : List Edge} → EdgesPut b n c m es → EdgesPut c m d k fs → EdgesPut b n d k (es ++ fs)
put_then {b} {c} {d} {n} {m} {k} {es} {fs} p q =
    let z : 3 * m ≡ 3 * n + length (edge_words es) = omega (arith, p.count, length-words es) in
    record {
      words = q.words ∙ rw (p.words, z, words_append es fs) (sym (sets-append b (3 * n) (edge_words es) (edge_words fs)));
      count = rw (length-append es fs) (omega (arith, p.count, q.count));
    }

-- the same edges, written otherwise
pub put_as : {b c : List ℤ} {n m : ℕ} {es fs : List Edge} → EdgesPut b n c m es → es ≡ fs → EdgesPut b n c m fs
put_as p e = rw (← e) p

pub put-length : {b c : List ℤ} {n m : ℕ} {es : List Edge} → EdgesPut b n c m es → length c ≡ length b
put-length {b} {c} {n} {m} {es} p = rw p.words (length-sets b (3 * n) (edge_words es))

-- one edge: its three words
pub put_one : (b : List ℤ) (n : ℕ) (e : Edge)
    → EdgesPut b n (set (set (set b (3 * n) (pos e.left)) (3 * n + 1) (pos e.right)) (3 * n + 2) (pos e.weight)) (n + 1) (e ∷ [])
unfolding edge_words
put_one b n e =
    let one : 3 * n + 1 ≡ suc (3 * n) = omega arith in
    let two : 3 * n + 2 ≡ suc (suc (3 * n)) = omega arith in
    record { words = rw (one, two); count = omega arith }

-- ---- read

-- edge i of the words is entry i of the list
edge-at : (es : List Edge) (i : ℕ) → i < length es → edge_at (edge_words es) i ≡ get_or es i no_edge
unfolding edge_at given_at edge_words to_nat
edge-at [] i h = absurd (omega arith)
edge-at (e ∷ es) zero h = refl
edge-at (e ∷ es) (suc i) h =
    let z₁ : 3 * suc i ≡ suc (suc (suc (3 * i))) = omega arith in
    let z₂ : 3 * suc i + 1 ≡ suc (suc (suc (3 * i + 1))) = omega arith in
    let z₃ : 3 * suc i + 2 ≡ suc (suc (suc (3 * i + 2))) = omega arith in
    rw (z₂, z₃, z₁) (edge-at es i (omega arith))

words-read : (es : List Edge) → edges_from (edge_words es) ≡ es
unfolding edges_from
words-read es = rw count (ext_get_or no_edge (map read (below (length es))) es len (λ i h. at i (rw len at h)))
  where
    read : ℕ → Edge
    read = edge_at (edge_words es)

    count : edges_in (edge_words es) ≡ length es
    count = omega (arith, length-words es)

    len : length (map read (below (length es))) ≡ length es
    len = length-map (below (length es)) read ∙ length-below (length es)

    at : (i : ℕ) → i < length es → get_or (map read (below (length es))) i no_edge ≡ get_or es i no_edge
    at i h = get_d-tabled read (length es) i no_edge h ∙ edge-at es i h

-- from words with room for them
pub edges-read : {b c : List ℤ} {m : ℕ} {es : List Edge} → EdgesPut b 0 c m es → 3 * length es ≤ length b → edges_from (take (3 * m) c) ≡ es
edges-read {b} {c} {m} {es} p h =
    let z : 3 * m ≡ length (edge_words es) = omega (arith, p.count, length-words es) in
    let put = sets-eq (edge_words es) b (3 * 0) (omega (arith, length-words es)) in
    let front = take_at (edge_words es) (drop (3 * 0 + length (edge_words es)) b) (length (edge_words es)) refl in
    let w : take (3 * m) c ≡ edge_words es = rw (z, p.words, put) front in
    rw w (words-read es)
