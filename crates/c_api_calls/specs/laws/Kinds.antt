-- The call of four words, by their kind.
use Rattle.std.specs.Prelude.{◌≡◌, ◌≢◌, List, ℤ, pos, eqb, get_or}
use Rattle.std.proofs.Math.Path.{refl}
use borrow.Author.Tests.{ne_eqb}
use Rattle.graph.specs.Word.{word_at}
use Rattle.c_api_calls.specs.ListCall.{ListCall, list_defect, circle_call, list_state, list_prepare, length_call, list_grow, list_advance, list_clear, list_vertex, list_node, list_gap, list_other, list_call_of}

module _ (circles w : List ℤ) where
  pub kind-4 : word_at w 0 ≡ 4 → list_call_of circles w ≡ list_defect (word_at w 1) (word_at w 2)
  unfolding list_call_of
  kind-4 e = rw e refl

  pub kind-5 : word_at w 0 ≡ 5 → list_call_of circles w ≡ circle_call circles (word_at w 1) (word_at w 2) (word_at w 3)
  unfolding list_call_of
  kind-5 e = rw e refl

  pub kind-6 : word_at w 0 ≡ 6 → list_call_of circles w ≡ list_state (word_at w 1) (word_at w 2)
  unfolding list_call_of
  kind-6 e = rw e refl

  pub kind-7 : word_at w 0 ≡ 7 → list_call_of circles w ≡ list_prepare (word_at w 1) (word_at w 2)
  unfolding list_call_of
  kind-7 e = rw e refl

  pub kind-8 : word_at w 0 ≡ 8 → list_call_of circles w ≡ length_call (word_at w 1) (word_at w 2) (word_at w 3)
  unfolding list_call_of
  kind-8 e = rw e refl

  pub kind-9 : word_at w 0 ≡ 9 → list_call_of circles w ≡ list_grow (word_at w 1) (get_or w 2 (pos 0))
  unfolding list_call_of
  kind-9 e = rw e refl

  pub kind-11 : word_at w 0 ≡ 11 → list_call_of circles w ≡ list_advance (word_at w 1)
  unfolding list_call_of
  kind-11 e = rw e refl

  pub kind-13 : word_at w 0 ≡ 13 → list_call_of circles w ≡ list_clear
  unfolding list_call_of
  kind-13 e = rw e refl

  pub kind-14 : word_at w 0 ≡ 14 → list_call_of circles w ≡ list_vertex (word_at w 1)
  unfolding list_call_of
  kind-14 e = rw e refl

  pub kind-15 : word_at w 0 ≡ 15 → list_call_of circles w ≡ list_node (word_at w 1)
  unfolding list_call_of
  kind-15 e = rw e refl

  pub kind-16 : word_at w 0 ≡ 16 → list_call_of circles w ≡ list_gap (word_at w 1)
  unfolding list_call_of
  kind-16 e = rw e refl

  pub kind-other : word_at w 0 ≢ 4 → word_at w 0 ≢ 5 → word_at w 0 ≢ 6 → word_at w 0 ≢ 7 → word_at w 0 ≢ 8 → word_at w 0 ≢ 9
      → word_at w 0 ≢ 11 → word_at w 0 ≢ 13 → word_at w 0 ≢ 14 → word_at w 0 ≢ 15 → word_at w 0 ≢ 16 → list_call_of circles w ≡ list_other
  unfolding list_call_of
  kind-other n4 n5 n6 n7 n8 n9 n11 n13 n14 n15 n16 =
      rw (
        ne_eqb _ 4 n4,
        ne_eqb _ 5 n5,
        ne_eqb _ 6 n6,
        ne_eqb _ 7 n7,
        ne_eqb _ 8 n8,
        ne_eqb _ 9 n9,
        ne_eqb _ 11 n11,
        ne_eqb _ 13 n13,
        ne_eqb _ 14 n14,
        ne_eqb _ 15 n15,
        ne_eqb _ 16 n16,
      )
      refl
