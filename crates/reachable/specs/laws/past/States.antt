-- Grow states and the active list are no part of what a state keeps of the past.
use Rattle.std.specs.Prelude.{ℕ, ◌≡◌, refl, List, length}
use Rattle.graph.specs.State.{State, node_count, parent_of}
use Rattle.reachable.specs.Invariant.{Labels}
use Rattle.reachable.specs.Past.{Snapshot, Tops, Agreement, OuterBlossom, Facts, Past, past, HasPast}
use Rattle.reachable.specs.Numbers.{SoundNumbers}
use Rattle.reachable.specs.laws.prepare.Since.{frame-refl}
use Rattle.reachable.specs.laws.Active.{with_states, states-clusters}
use Rattle.reachable.specs.laws.past.Still.{agreement-still, Apart, apart-still}

module _ (c : State) (k : Labels) (top : ℕ → ℕ) (f : Facts (record { state = c; labels = k; top = top })) (x l : List ℕ) (e : length x ≡ node_count c)
    (numbers : SoundNumbers (with_states c x l)) where
  abbrev before : Snapshot
  before = record { state = c; labels = k; top = top }

  abbrev after : Snapshot
  after = record { state = with_states c x l; labels = k; top = top }

  tops-after : Tops after
  tops-after = record {
    outer = f.tops.outer;
    inner = f.tops.inner;
    over = f.tops.over;
    inside = λ m b. rw e (f.tops.inside m (rw e at b));
    side = f.tops.side;
    vertex = f.tops.vertex;
  }

  facts-after : Facts after
  facts-after = record { numbers = numbers; clusters = states-clusters c x l k e f.clusters; tops = tops-after }

  apart : (q : ℕ) → parent_of c q ≡ 0 → Apart before after q
  apart q o = record {
    graph = refl;
    outer = o;
    outer-after = o;
    top = λ m h. h;
    top_back = λ m h. h;
    class = λ m h. refl;
    dual = λ m h. refl;
    boundary = λ m h. refl;
    overgrown = λ m h. refl;
    parent = λ m h. refl;
    frame = λ m h. frame-refl;
    base = refl;
    grandson = λ m t h y. refl;
    vertex-grandson = λ m u h y. refl;
  }

  blossom-before : (q : ℕ) → OuterBlossom (with_states c x l) q → OuterBlossom c q
  blossom-before q o = record { inside = rw e at o.inside; outer = o.outer; first = o.first; class = o.class }

  pub states-past : {log : ℕ → State} (snap : ℕ → Snapshot) → ((q : ℕ) → OuterBlossom c q → Past log (snap q))
      → ((q : ℕ) → OuterBlossom c q → Agreement before q (snap q))
      → ((q : ℕ) → OuterBlossom c q → (snap q).state ≡ log q) → Past log after
  states-past snap w a h =
      past facts-after snap
      (λ q o. w q (blossom-before q o))
      (λ q o.
      agreement-still before after q (snap q) (a q (blossom-before q o)) f.tops tops-after f.clusters.global
      (apart-still before after q f.tops (apart q (blossom-before q o).outer)))
      (λ q o. h q (blossom-before q o))

past-states : {log : ℕ → State} (c : State) (k : Labels) (top : ℕ → ℕ) → Past log (record { state = c; labels = k; top = top }) → (x l : List ℕ)
    → length x ≡ node_count c
    → SoundNumbers (with_states c x l) → Past log (record { state = with_states c x l; labels = k; top = top })
past-states c k top (past f snap w a h) x l e z = states-past c k top f x l e z snap w a h

pub states-has-past : {log : ℕ → State} (c : State) → HasPast log c → (x l : List ℕ) → length x ≡ node_count c → SoundNumbers (with_states c x l)
    → HasPast log (with_states c x l)
states-has-past c p x l e z = record { labels = p.labels; top = p.top; past = past-states c p.labels p.top p.past x l e z }
