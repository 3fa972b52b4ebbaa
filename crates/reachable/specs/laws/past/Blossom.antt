-- Insertion of a blossom: the state with its members prepared is its snapshot.
use Rattle.std.specs.Prelude.{ℕ, ◌<◌, ◌≡◌, refl, ◌≢◌, List, [], eqb, length, if◌then◌else◌}
use Rattle.std.proofs.Common.{arith, sym, ap, subst, ◌∙◌, eq-eqb, ne_eqb}
use Rattle.std.proofs.Math.Decide.{ℕ_discrete as dec_eq}
use Rattle.std.proofs.Math.Logic.{by_cases}
use Rattle.graph.specs.Basic.{fold}
use Rattle.graph.specs.State.{State, node_count}
use Rattle.calls.specs.Insert.{prepare_step, blossom_put}
use Rattle.calls.proofs.laws.Accepted.{BlossomAccepted}
use Rattle.reachable.specs.Invariant.{Invariant}
use Rattle.reachable.specs.laws.insert.Circle.{CirclePreparing}
use Rattle.reachable.specs.laws.insert.BlossomLabels.{blossom_labels}
use Rattle.reachable.specs.laws.insert.BlossomState.{BlossomNodes, BlossomMade, blossom-made}
use Rattle.reachable.specs.laws.insert.Blossom.{ns}
use Rattle.reachable.specs.Opening.{join_log}
use Rattle.reachable.specs.Past.{Snapshot, Tops, Agreement, OuterBlossom, Past, past, HasPast}
use Rattle.reachable.specs.laws.past.Still.{agreement-still, apart-still}
use Rattle.reachable.specs.laws.past.Prepare.{relog}
use Rattle.reachable.specs.laws.past.BlossomTops.{new_top, made-tops, made-facts}
use Rattle.reachable.specs.laws.past.BlossomAgreement.{apart, new-agreement}
use Rattle.reachable.specs.laws.past.Circle.{CirclePast, circle-past}

-- one more snapshot
unfoldable pub new_snap : (ℕ → Snapshot) → ℕ → Snapshot → ℕ → Snapshot
new_snap snap n z q = if eqb q n then z else snap q

new-snap-at : (snap : ℕ → Snapshot) (n : ℕ) (z : Snapshot) → new_snap snap n z n ≡ z
unfolding new_snap
new-snap-at snap n z = rw (eq-eqb n n refl)

new-snap-off : (snap : ℕ → Snapshot) (n : ℕ) (z : Snapshot) (q : ℕ) → q ≢ n → new_snap snap n z q ≡ snap q
unfolding new_snap
new-snap-off snap n z q e = rw (ne_eqb q n e)

pub join-log-at : (log : ℕ → State) (n : ℕ) (z : State) → join_log log n z n ≡ z
unfolding join_log
join-log-at log n z = rw (eq-eqb n n refl)

pub join-log-off : (log : ℕ → State) (n : ℕ) (z : State) (q : ℕ) → q ≢ n → join_log log n z q ≡ log q
unfolding join_log
join-log-off log n z q e = rw (ne_eqb q n e)

module _ (c : State) (g : Invariant c) (x : ℕ) (circle : List ℕ) (ok : BlossomAccepted c x circle) (ready made : State)
    (prepared : CirclePreparing circle c ready []) (made_by : BlossomMade c x circle ready made) (top : ℕ → ℕ)
    (tops : Tops (record { state = ready; labels = prepared.labels; top = top })) where
  abbrev before : Snapshot
  before = record { state = ready; labels = prepared.labels; top = top }

  abbrev after : Snapshot
  after = record { state = made; labels = blossom_labels ready prepared.labels circle (node_count c); top = new_top top circle (node_count c) }

  count : node_count ready ≡ node_count c
  count = ap (λ (l : List ℕ). length l) prepared.grow_state

  bs : BlossomNodes c circle ready made
  bs = ns c g x circle ok ready made prepared made_by

  -- ---- all blossoms

  blossom-before : (q : ℕ) → OuterBlossom made q → q < node_count c → OuterBlossom ready q
  blossom-before q o b = record {
    inside = omega (arith, count);
    outer = (bs.still-outer q b o.outer).1;
    first = o.first;
    class = sym (made_by.class-old q b) ∙ o.class;
  }

  below_new : (q : ℕ) → OuterBlossom made q → q ≢ node_count c → q < node_count c
  below_new q o ne = omega (arith, o.inside, made_by.made-count)

  pub blossom-past : {log : ℕ → State} → Past log before → (snap : ℕ → Snapshot) → ((q : ℕ) → OuterBlossom ready q → Past log (snap q))
      → ((q : ℕ) → OuterBlossom ready q → Agreement before q (snap q)) → ((q : ℕ) → OuterBlossom ready q → (snap q).state ≡ log q)
      → Past (join_log log (node_count c) ready) after
  blossom-past {log} w snap l a en =
      past (made-facts c g x circle ok ready made prepared made_by top tops) (new_snap snap (node_count c) before)
      (λ q o.
      by_cases (dec_eq q (node_count c))
      (λ e.
      subst (Past (join_log log (node_count c) ready)) (sym (new-snap-at snap (node_count c) before) ∙ ap (new_snap snap (node_count c) before) (sym e))
      (relog (node_count c) off (omega (arith, count)) w))
      (λ e.
      let y : OuterBlossom ready q = blossom-before q o (below_new q o e) in
      subst (Past (join_log log (node_count c) ready)) (sym (new-snap-off snap (node_count c) before q e))
      (relog (node_count c) off (omega (arith, (a q y).new, below_new q o e)) (l q y))))
      (λ q o.
      by_cases (dec_eq q (node_count c))
      (λ e.
      rw e
      (subst (Agreement after (node_count c)) (sym (new-snap-at snap (node_count c) before))
      (new-agreement c g x circle ok ready made prepared made_by top tops)))
      (λ e.
      let b : q < node_count c = below_new q o e in
      let y : OuterBlossom ready q = blossom-before q o b in
      subst (Agreement after q) (sym (new-snap-off snap (node_count c) before q e))
      (agreement-still before after q (snap q) (a q y) tops (made-tops c g x circle ok ready made prepared made_by top tops) prepared.clusters.global
      (apart-still before after q tops (apart c g x circle ok ready made prepared made_by top tops q b y.outer (bs.still-outer q b o.outer).0)))))
      (λ q o.
      by_cases (dec_eq q (node_count c))
      (λ e. rw e (ap (λ (i : Snapshot). i.state) (new-snap-at snap (node_count c) before) ∙ sym (join-log-at log (node_count c) ready)))
      (λ e.
      ap (λ (i : Snapshot). i.state) (new-snap-off snap (node_count c) before q e) ∙ en q (blossom-before q o (below_new q o e))
      ∙ sym (join-log-off log (node_count c) ready q e)))
    where
      off : (q : ℕ) → q < node_count c → join_log log (node_count c) ready q ≡ log q
      off q b = join-log-off log (node_count c) ready q (λ e. omega arith)

past_by : {log : ℕ → State} (c : State) (g : Invariant c) (x : ℕ) (circle : List ℕ) (ok : BlossomAccepted c x circle) (ready made : State)
    (prepared : CirclePreparing circle c ready []) (made_by : BlossomMade c x circle ready made) (top : ℕ → ℕ)
    → Past log (record { state = ready; labels = prepared.labels; top = top })
    → Past (join_log log (node_count c) ready)
    (record { state = made; labels = blossom_labels ready prepared.labels circle (node_count c); top = new_top top circle (node_count c) })
past_by c g x circle ok ready made prepared made_by top (past f snap l a e) =
    blossom-past c g x circle ok ready made prepared made_by top f.tops (past f snap l a e) snap l a e

-- accepted insertion of a blossom
pub blossom-has-past : {log : ℕ → State} (c : State) → Invariant c → HasPast log c → (x : ℕ) (circle : List ℕ) → BlossomAccepted c x circle
    → HasPast (join_log log (node_count c) (fold prepare_step c circle)) (blossom_put c x circle)
blossom-has-past {log} c g p x circle ok =
    let w : CirclePast log circle p.top c (fold prepare_step c circle) [] =
    circle-past log circle p.top c ok.inside ok.outer ok.live p.labels p.past g.live in
    record {
      labels = blossom_labels (fold prepare_step c circle) w.preparing.labels circle (node_count c);
      top = new_top p.top circle (node_count c);
      past = past_by c g x circle ok (fold prepare_step c circle) (blossom_put c x circle) w.preparing (blossom-made c g x circle ok) p.top w.past-then;
    }
