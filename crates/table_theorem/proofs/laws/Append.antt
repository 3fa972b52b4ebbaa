-- One list of calls behind another.
use Rattle.std.specs.Prelude.{◌≡◌, refl, ◌&&◌, List, [], ◌∷◌, ◌++◌}
use Rattle.graph.specs.State.{State}
use Rattle.graph.specs.laws.Members.{by-test}
use Rattle.calls.specs.Calls.{Call, respond}
use Rattle.reachable.specs.Reachable.{after}
use Rattle.table_theorem.specs.History.{History, recorded, history_from, no_blossom, no_blossoms}

pub after-append : (c : State) (ks ls : List Call) → after c (ks ++ ls) ≡ after (after c ks) ls
unfolding after
after-append c [] ls = refl
after-append c (k ∷ ks) ls = after-append (respond c k).state ks ls

pub history-append : (c : State) (h : History) (ks ls : List Call) → history_from c h (ks ++ ls) ≡ history_from (after c ks) (history_from c h ks) ls
unfolding history_from after
history-append c h [] ls = refl
history-append c h (k ∷ ks) ls = history-append (respond c k).state (recorded c h k) ks ls

pub blossoms-append : (c : State) (ks ls : List Call) → no_blossoms c (ks ++ ls) ≡ no_blossoms c ks && no_blossoms (after c ks) ls
unfolding no_blossoms after
blossoms-append c [] ls = refl
blossoms-append c (k ∷ ks) ls =
    let ih = blossoms-append (respond c k).state ks ls in
    by-test (no_blossom c k) (λ e. rw e ih) (λ e. rw e refl)
