-- Laws behind the test of the active list: nodes, each once, those that were met marked 1.
use Rattle.std.specs.Prelude.{ℕ, ◌+◌, ◌≤◌, ◌<◌, ◌≡◌, refl, ◌≢◌, Bool, true, false, ◌&&◌, List, length, get_or, set, replicate}
use Rattle.std.proofs.Common.{arith, sym, eq-eqb, ne_eqb, lt-ltb, le-ltb}
use Rattle.std.proofs.Math.Dec.{ltb}
use Rattle.graph.specs.Basic.{all, distinct}
use Rattle.graph.specs.State.{State, node_count}
use Rattle.graph.specs.Sound.{active_sound}
use Rattle.graph.specs.inner.Scans.{once_all, Stamped}
use Rattle.graph.specs.laws.Opened.{get_d-zeros}
use Rattle.graph.specs.laws.Scan.{and-false, list-fails}
use Rattle.graph.specs.laws.Stamp.{stamped-none, stamped-more, stamped-fails}

pub none-met : (m : ℕ) (p : ℕ → Bool) (l : List ℕ) → Stamped 1 p l 0 (replicate m 0)
none-met m p l = stamped-none 0 p l (replicate m 0) (λ x. omega (arith, get_d-zeros m x))

module _ (k : ℕ) (l : List ℕ) (i : ℕ) (m : List ℕ) (s : Stamped 1 (λ n. ltb n k) l i m) (y : ℕ) (h : i < length l)
    (e : y ≡ get_or l i 0) (room : k ≤ length m) where
  pub met-more : y < k → get_or m y 0 ≢ 1 → Stamped 1 (λ n. ltb n k) l (i + 1) (set m y 1)
  met-more b q = stamped-more 1 (λ n. ltb n k) l i m s y h e (omega (arith, b)) (rw (lt-ltb y k b, ne_eqb (get_or m y 0) 1 q))

  pub met-again : y < k → get_or m y 0 ≡ 1 → false ≡ once_all (λ n. ltb n k) l
  met-again b q = stamped-fails 1 (λ n. ltb n k) l i m s y h e (omega (arith, b)) (rw (lt-ltb y k b, eq-eqb (get_or m y 0) 1 q))

  -- no node
  pub met-outside : k ≤ y → false ≡ once_all (λ n. ltb n k) l
  unfolding once_all
  met-outside b = rw (list-fails (λ n. ltb n k) l i 0 h (rw (← e) (le-ltb y k b))) (sym (and-false (distinct l)))

pub once-active : (c : State) → once_all (λ n. ltb n (node_count c)) c.active ≡ active_sound c
unfolding active_sound once_all
once-active c = swap (distinct c.active) (all (λ n. ltb n (node_count c)) c.active)
  where
    swap : (x y : Bool) → x && y ≡ y && x
    swap true true = refl
    swap true false = refl
    swap false true = refl
    swap false false = refl
