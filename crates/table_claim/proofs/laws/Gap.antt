-- The gap of an edge that is read after a list of lent calls is never over.
use Rattle.std.specs.Prelude.{ℕ, ◌≤◌, ◌<◌, ◌≡◌, Bool, false, List, ℤ, eqb, leb, length, get_or}
use Rattle.std.proofs.Common.{arith, ap, leb-false}
use Rattle.std.proofs.Math.Path.{refl}
use Rattle.std.proofs.Math.Bool.{true}
use Rattle.graph.specs.State.{State, edge_count}
use Rattle.graph.specs.Open.{Edge}
use Rattle.graph.specs.Opening.{edges_from}
use Rattle.graph.specs.Layout.{state_of, memory_refusal}
use Rattle.graph.specs.laws.Members.{by-test, clash}
use Rattle.gap.specs.declared.Gap.{Gap}
use Rattle.gap.specs.declared.Gap.TheVariants.{Inner, Over, Left}
use Rattle.gap.specs.Gap.{edge_gap}
use Rattle.dual_module_gap.specs.Outcome.{GapAnswer}
use Rattle.dual_module_gap.specs.Outcome.{Found, Refused}
use Rattle.dual_module_gap.specs.GapRead.{gap_told, GapRead}
use Rattle.c_api.specs.Words.{answer_numbers, Tells}
use Rattle.c_api_gap.specs.Told.{found_numbers, gap_numbers, GapTold}
use Rattle.reachable.specs.Reachable.{Reachable}
use Rattle.reachable.specs.Theorems.{gap-never-over}
use Rattle.table_claim.specs.Run.{LentRun, run_calls}
use Rattle.table_claim.specs.Hosted.{HostRun}
use Rattle.table_claim.proofs.laws.EveryRun.{fit, opening-accepted, last-state}
use Rattle.table_claim.proofs.laws.Hosted.{lent_of}

-- an edge is told, and its gap
unfoldable is_found : GapAnswer → Bool
is_found (Found g) = true
is_found (Refused k) = false

unfoldable found_gap : GapAnswer → Gap
found_gap (Found g) = g
found_gap (Refused k) = Inner

-- where over is never the gap of an edge, it is never answered
told-never-over : (c : State) → ((e x : ℕ) → e < edge_count c → Over x ≡ edge_gap c e → ⊥)
    → (e x : ℕ) → Found (Over x) ≡ gap_told c e → ⊥
unfolding gap_told is_found found_gap
told-never-over c never e x q =
    by-test (leb (edge_count c) e)
    (λ h. clash true refl (ap is_found (rw h at q)))
    (λ h. never e x (leb-false (edge_count c) e h) (ap found_gap (rw h at q)))

module _ {v : ℕ} {edges : List Edge} {virtuals : List ℕ} (r : LentRun v edges virtuals) where
  last-reachable : Reachable (state_of r.last)
  last-reachable = record {
    vertices = v;
    edge_number = r.edge_number;
    nodes = r.node_limit;
    store = r.store_limit;
    edges = edges_from r.edge_words;
    virtuals = virtuals;
    fits = fit r;
    accepted-opening = opening-accepted r;
    calls = run_calls r;
    is = last-state r;
  }

  pub last-never-over : (t : List ℤ) (e x : ℕ) → GapRead r.last t e (Found (Over x)) → ⊥
  unfolding is_found
  last-never-over t e x q =
      by-test (eqb (memory_refusal r.last t) 0)
      (λ h. told-never-over (state_of r.last) (gap-never-over (state_of r.last) last-reachable) e x (rw h at q))
      (λ h. clash true refl (ap is_found (rw h at q)))

-- ---- exported calls

module _ {v : ℕ} {edges : List Edge} {virtuals : List ℕ} (r : HostRun v edges virtuals) (t : List ℤ) (e : ℕ)
    {list list' : List ℕ} {k : ℕ} where
  by-case : (a : GapAnswer) → GapRead r.last t e a → Tells (gap_numbers a) list list' k → get_or list' 0 0 ≡ 18 → ⊥
  unfolding gap_numbers found_numbers answer_numbers
  by-case (Found Inner) s u f = omega (arith, rw u.listed at f)
  by-case (Found (Over x)) s u f = last-never-over (lent_of r) t e x s
  by-case (Found (Left x)) s u f = omega (arith, rw u.listed at f)
  by-case (Refused j) s u f = omega (arith, rw u.listed at f)

  pub told-never-18 : GapTold r.last t e list list' k → 5 ≤ length list → get_or list' 0 0 ≡ 18 → ⊥
  told-never-18 p room f = let s = p.told room in by-case s.answer s.says s.tells f
