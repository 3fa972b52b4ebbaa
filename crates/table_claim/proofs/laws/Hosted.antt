-- Exported calls are calls on lent memory.
use Rattle.std.specs.Prelude.{ℕ, ◌≤◌, ◌<◌, ◌≡◌, refl, true, List, [], ◌∷◌, ◌++◌, map, ℤ, pos, eqb, length, drop, get_or}
use Rattle.std.proofs.Common.{arith, sym, ap, subst, eqb-true, leb-true, leb-false}
use Rattle.graph.specs.Layout.{state_of}
use Rattle.graph.specs.Open.{Edge}
use Rattle.graph.specs.laws.Members.{by-test, clash}
use Rattle.answers.specs.Outcome.{Answer}
use Rattle.answers.specs.Outcome.{Done, Refused}
use Rattle.answers.specs.laws.Numbers.{case-done}
use Rattle.dual_module_read.specs.Read.{count_told, count_in}
use Rattle.c_api.specs.Words.{answer_numbers, open_answer, open_numbers, short_list, short_count, Tells, Told}
use Rattle.table_theorem.specs.Answers.{is_done}
use Rattle.reachable.specs.Reachable.{after}
use Rattle.table_claim.specs.Lent.{LentCall, Returned, opening, returns, returns_list, returns_count, Exchange, Step, open-refused, insert-defect, insert-blossom, set-grow-state, prepare, max-update-length, grow, read_table, advance, contacts, representative-vertex, clear, Steps, none, next, lent_sheet, opening_sheet, sheet-refused, renew-active-list, prepare-all, group-length, round, remove-blossom, returns_group, read-node, returns_node, edge-gap, returns_gap, load-edge-modifier}
use Rattle.table_claim.specs.Run.{Sizes, calls_of, fed_one, returned, LentRun}
use Rattle.table_claim.specs.Hosted
use Rattle.table_claim.specs.Hosted.{SaysDone, Reported, HostStep, fb-open, fb-insert-defect, fb-insert-blossom, fb-set-grow-state, fb-prepare, fb-max-update-length, fb-grow, fb-advance, fb-clear, fb-representative-vertex, fb-read-table, fb-contacts, HostExchange, HostSteps, no_more, one_more, has_room, made, numbers_in, words_in, lent_words, reported, reported_from, HostRun, SaysOpened, fb-open-sheet, fb-renew-active-list, fb-prepare-all, fb-grow-all, fb-remove-blossom, fb-group-max-update-length, fb-read-node, fb-gap, fb-load-edge-modifier}
use Rattle.table_claim.proofs.laws.Steps.{Whole, Follows, step_follows, step-returns, follows-whole}
use Rattle.sheet.specs.Outcome.{SheetOpened, Opened, Refused as SheetRefused}
use Rattle.sheet.specs.Called.{SheetCalled}
use Rattle.c_api_sheet.specs.Told.{sheet_numbers}

-- ---- the number of the case

opened-zero : (j : ℕ) → open_answer j ≡ Done → j ≡ 0
unfolding open_answer is_done
opened-zero j e = by-test (eqb j 0) (λ t. eqb-true j 0 t) (λ t. let z : Refused j ≡ Done = rw t at e in clash true refl (ap is_done (sym z)))

first-opened : (j : ℕ) (rest : List ℕ) → j ≡ 0 → get_or (open_numbers j ++ rest) 0 0 ≡ 7
unfolding open_answer answer_numbers
first-opened j rest e = rw e refl

module _ {list list' : List ℕ} {k : ℕ} {Still : Type 0} where
  -- an answer that says done is done
  pub told-done : (Says : Answer → Type 0) → Told answer_numbers list list' k Still Says → SaysDone list list' → Says Done
  told-done Says p d =
      let s = p.told d.room in
      subst Says (case-done s.answer _ (rw s.tells.listed at d.first-is)) s.says

  -- an opening that says done is accepted
  pub opened-done : (Says : ℕ → Type 0) → Told open_numbers list list' k Still Says → SaysDone list list' → Says 0
  opened-done Says p d =
      let s = p.told d.room in
      subst Says (opened-zero s.answer (case-done (open_answer s.answer) _ (rw s.tells.listed at d.first-is))) s.says

-- a done answer says so
pub done-told : {list list' : List ℕ} {k : ℕ} {Still : Type 0} {Says : Answer → Type 0}
    → Told answer_numbers list list' k Still Says → 5 ≤ length list → ((a : Answer) → Says a → a ≡ Done)
    → SaysDone list list'
unfolding answer_numbers
done-told p r f = let s = p.told r in record { room = r; first-is = rw (s.tells.listed, f s.answer s.says) refl }

-- ---- a call

-- with room for the answer: a step, whose answer the list tells
record Made (b : List ℤ) (k : LentCall) (list : List ℕ) (g : Reported) (b' : List ℤ) : Type 0 where
  pub got : Returned
  pub step : Step b k got b'
  pub tells : Tells (numbers_in got) list g.told g.count
  pub words : g.words ≡ words_in got

-- without: the block is left, and the list says so
record Kept (b : List ℤ) (k : LentCall) (list : List ℕ) (g : Reported) (b' : List ℤ) : Type 0 where
  pub block : b' ≡ b
  pub told : g.told ≡ short_list list
  pub count : g.count ≡ short_count list
  pub words : g.words ≡ lent_words k

-- an opening from a sheet that does not say opened is refused
sheet-made : {b t edges sheet virtuals edges' b' : List ℤ} {v e n l k : ℕ} {list list' : List ℕ} (a : SheetOpened)
    → SheetCalled b t v e n l edges sheet virtuals edges' b' a → Tells (sheet_numbers a) list list' k
    → 5 ≤ length list → (SaysOpened list list' → ⊥)
    → Made b (lent_sheet t v e n l edges sheet virtuals) list (record { told = list'; count = k; words = edges' }) b'
unfolding numbers_in words_in sheet_numbers
sheet-made (Opened j) p t r n = absurd (n (record { room = r; first-is = rw t.listed refl }))
sheet-made {edges' = edges'} (SheetRefused j) p t r n =
    record { got = opening_sheet (SheetRefused j) edges'; step = sheet-refused p; tells = t; words = refl }

host-made : {b b' : List ℤ} {c : LentCall} {list : List ℕ} {g : Reported} → HostStep b c list g b' → 5 ≤ length list → Made b c list g b'
unfolding numbers_in words_in
host-made (fb-open p n) r =
    let s = p.told r in
    record {
      got = opening s.answer;
      step = open-refused s.says (λ z. n (record { room = r; first-is = rw s.tells.listed (first-opened s.answer _ z) }));
      tells = s.tells;
      words = refl;
    }
host-made (fb-insert-defect p) r = let s = p.told r in record { got = returns s.answer; step = insert-defect s.says; tells = s.tells; words = refl }
host-made (fb-insert-blossom p) r = let s = p.told r in record { got = returns s.answer; step = insert-blossom s.says; tells = s.tells; words = refl }
host-made (fb-set-grow-state p) r = let s = p.told r in record { got = returns s.answer; step = set-grow-state s.says; tells = s.tells; words = refl }
host-made (fb-prepare p) r = let s = p.told r in record { got = returns s.answer; step = prepare s.says; tells = s.tells; words = refl }
host-made (fb-max-update-length p) r =
    let s = p.told r in
    record { got = returns s.answer; step = max-update-length s.says; tells = s.tells; words = refl }
host-made (fb-grow p) r = let s = p.told r in record { got = returns s.answer; step = grow s.says; tells = s.tells; words = refl }
host-made (fb-advance p) r = let s = p.told r in record { got = returns s.answer; step = advance s.says; tells = s.tells; words = refl }
host-made (fb-clear p) r = let s = p.told r in record { got = returns s.answer; step = clear s.says; tells = s.tells; words = refl }
host-made (fb-representative-vertex p) r =
    let s = p.told r in
    record { got = returns s.answer; step = representative-vertex s.says; tells = s.tells; words = refl }
host-made (fb-read-table {words' = words'} p) r =
    let s = p.told r in
    record { got = returns_list s.answer words'; step = read_table s.says; tells = s.tells; words = refl }
host-made (fb-contacts {words' = words'} p) r =
    let s = p.told r in
    record {
      got = returns_count (count_told s.answer) (count_in s.answer) words';
      step = contacts s.says.0 s.says.1;
      tells = s.tells;
      words = refl;
    }
host-made (fb-open-sheet p n) r = let s = p.told r in sheet-made s.answer s.says s.tells r n
host-made (fb-renew-active-list p) r =
    let s = p.told r in
    record { got = returns s.answer; step = renew-active-list s.says; tells = s.tells; words = refl }
host-made (fb-prepare-all p) r = let s = p.told r in record { got = returns s.answer; step = prepare-all s.says; tells = s.tells; words = refl }
host-made (fb-load-edge-modifier p) r = let s = p.told r in
    record { got = returns s.answer; step = load-edge-modifier s.says; tells = s.tells; words = refl }
host-made (fb-remove-blossom p) r = let s = p.told r in record { got = returns s.answer; step = remove-blossom s.says; tells = s.tells; words = refl }
host-made (fb-read-node p) r =
    let s = p.told r in
    record { got = returns_node s.answer; step = read-node s.says; tells = s.tells; words = refl }
host-made (fb-gap p) r = let s = p.told r in record { got = returns_gap s.answer; step = edge-gap s.says; tells = s.tells; words = refl }
host-made (fb-grow-all p) r = let s = p.told r in record { got = returns s.answer; step = round s.says; tells = s.tells; words = refl }
host-made (fb-group-max-update-length {entries' = entries'} p) r =
    let s = p.told r in
    record { got = returns_group s.answer entries'; step = group-length s.says; tells = s.tells; words = refl }

host-kept : {b b' : List ℤ} {c : LentCall} {list : List ℕ} {g : Reported} → HostStep b c list g b' → length list < 5 → Kept b c list g b'
unfolding lent_words
host-kept (fb-open p n) r = let s = p.short r in record { block = s.2; told = s.1; count = s.0; words = refl }
host-kept (fb-insert-defect p) r = let s = p.short r in record { block = s.2.0; told = s.1; count = s.0; words = refl }
host-kept (fb-insert-blossom p) r = let s = p.short r in record { block = s.2.0; told = s.1; count = s.0; words = refl }
host-kept (fb-set-grow-state p) r = let s = p.short r in record { block = s.2; told = s.1; count = s.0; words = refl }
host-kept (fb-prepare p) r = let s = p.short r in record { block = s.2.0; told = s.1; count = s.0; words = refl }
host-kept (fb-max-update-length p) r = let s = p.short r in record { block = s.2.0; told = s.1; count = s.0; words = refl }
host-kept (fb-grow p) r = let s = p.short r in record { block = s.2.0; told = s.1; count = s.0; words = refl }
host-kept (fb-advance p) r = let s = p.short r in record { block = s.2.0; told = s.1; count = s.0; words = refl }
host-kept (fb-clear p) r = let s = p.short r in record { block = s.2; told = s.1; count = s.0; words = refl }
host-kept (fb-representative-vertex p) r = let s = p.short r in record { block = refl; told = s.1; count = s.0; words = refl }
host-kept (fb-read-table p) r = let s = p.short r in record { block = refl; told = s.1; count = s.0; words = s.2 }
host-kept (fb-contacts p) r = let s = p.short r in record { block = refl; told = s.1; count = s.0; words = s.2 }
host-kept (fb-open-sheet p n) r = let s = p.short r in record { block = s.2.0; told = s.1; count = s.0; words = s.2.1 }
host-kept (fb-renew-active-list p) r = let s = p.short r in record { block = s.2; told = s.1; count = s.0; words = refl }
host-kept (fb-prepare-all p) r = let s = p.short r in record { block = s.2.0; told = s.1; count = s.0; words = refl }
host-kept (fb-load-edge-modifier p) r = let s = p.short r in record { block = s.2; told = s.1; count = s.0; words = refl }
host-kept (fb-remove-blossom p) r = let s = p.short r in record { block = s.2.0; told = s.1; count = s.0; words = refl }
host-kept (fb-read-node p) r = let s = p.short r in record { block = refl; told = s.1; count = s.0; words = refl }
host-kept (fb-gap p) r = let s = p.short r in record { block = refl; told = s.1; count = s.0; words = refl }
host-kept (fb-grow-all p) r = let s = p.short r in record { block = s.2.0; told = s.1; count = s.0; words = refl }
host-kept (fb-group-max-update-length p) r = let s = p.short r in record { block = s.2.0.0; told = s.1; count = s.0; words = ap (map pos) s.2.1 }

-- ---- a list of calls

-- a list of steps that makes just these calls
pub record MadeSteps (b : List ℤ) (ks : List LentCall) (b' : List ℤ) : Type 0 where
  pub exchanges : List Exchange
  pub calls_are : calls_of exchanges ≡ ks
  pub steps : Steps b exchanges b'

pub host-steps : {b b' : List ℤ} {xs : List HostExchange} → HostSteps b xs b' → MadeSteps b (made xs) b'
unfolding made
host-steps no_more = record { exchanges = []; calls_are = refl; steps = none }
host-steps (one_more {b₂ = b₂} {k = k} {list = list} {xs = xs} s rest) =
    let ih = host-steps rest in
    by-test (has_room list)
    (λ e.
    let m = host-made s (leb-true 5 (length list) e) in
    rw e
    (record {
      exchanges = record { call = k; got = m.got } ∷ ih.exchanges;
      calls_are = ap (λ l. k ∷ l) ih.calls_are;
      steps = next m.step ih.steps;
    }))
    (λ e. rw e (subst (λ x. MadeSteps x (made xs) b₂) (host-kept s (leb-false 5 (length list) e)).block ih))

-- ---- what the host has after each call

report-same : {g : Reported} {told : List ℕ} {count : ℕ} {words : List ℤ} → g.told ≡ told → g.count ≡ count → g.words ≡ words
    → g ≡ record { told = told; count = count; words = words }
report-same {g} p q r = rw (← p, ← q, ← r) refl

pub host-reports : {z : Sizes} {b b' : List ℤ} {xs : List HostExchange} → Whole z b → HostSteps b xs b'
    → map (λ (x : HostExchange). x.got) xs ≡ reported_from z (state_of b) xs
unfolding reported_from reported
host-reports w no_more = refl
host-reports {z} {b} w (one_more {b₁ = b₁} {k = k} {list = list} {g = g} {xs = xs} s rest) =
    by-test (has_room list)
    (λ e.
    let m = host-made s (leb-true 5 (length list) e) in
    let f : Follows b (fed_one z k) b₁ = step_follows w m.step in
    let q : m.got ≡ returned z (state_of b) k = step-returns w m.step in
    let ih = rw f.state at (host-reports (follows-whole w f) rest) in
    let here : g ≡ record {
      told = numbers_in (returned z (state_of b) k) ++ drop (length (numbers_in (returned z (state_of b) k))) list;
      count = length (numbers_in (returned z (state_of b) k));
      words = words_in (returned z (state_of b) k);
    } = report-same (rw (← q) m.tells.listed) (rw (← q) m.tells.count) (rw (← q) m.words) in
    rw (e, here, ih) refl)
    (λ e.
    let m = host-kept s (leb-false 5 (length list) e) in
    let ih = host-reports (subst (Whole z) (sym m.block) w) rest in
    let here : g ≡ record { told = short_list list; count = short_count list; words = lent_words k } = report-same m.told m.count m.words in
    rw (e, here, rw m.block at ih) (unfold after in refl))

-- A run of exported calls is a run on lent memory, of those that are made.
abbrev pub lent_of : {v : ℕ} {edges : List Edge} {virtuals : List ℕ} → HostRun v edges virtuals → LentRun v edges virtuals
lent_of r = record {
  edge_number = r.edge_number;
  node_limit = r.node_limit;
  store_limit = r.store_limit;
  before = r.before;
  scratch = r.scratch;
  edge_words = r.edge_words;
  virtual_words = r.virtual_words;
  virtuals-are = r.virtuals-are;
  first = r.first;
  opening-is = opened-done _ r.opening-is r.done;
  exchanges = (host-steps r.steps).exchanges;
  last = r.last;
  steps = (host-steps r.steps).steps;
  present = r.present;
}
