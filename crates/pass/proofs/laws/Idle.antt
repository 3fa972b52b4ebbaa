-- A preparation that finds nothing to take, or nothing to release, changes nothing.
use Rattle.std.specs.Prelude.{ℕ, suc, ◌+◌, ◌≡◌, ◌≢◌, true, false, List, [], ◌∷◌, ◌++◌, length}
use Rattle.std.proofs.Common.{arith, ap, ◌∙◌, append_assoc, append-nil, eq-eqb, ne_eqb}
use Rattle.std.proofs.lemmas.List.{set-get_or}
use Rattle.graph.specs.Basic.{fold, member, distinct}
use Rattle.graph.specs.State.{State, Overgrown, growth_at, vertex_count, boundary_of, overgrown_of, with_nodes, with_boundary, with_overgrown, up, down}
use Rattle.graph.specs.laws.Members.{by-test, clash, member-head, member-tail, member-append-right, member-cons, member-nil, distinct_head, distinct_tail}
use Rattle.pass.specs.Work.{Work, keep, keep_once, start_pass, finish_pass}
use Rattle.pass.specs.Grow.{reaches, grow_step, grow_scanned, grow_pass}
use Rattle.pass.specs.Shrink.{empty_tops, below_tops, shrink_step, dropped, shrink_scanned, shrink_pass}
use Rattle.pass.specs.Prepare.{one_pass, Prepared, prepare_from, prepare_node}
use Rattle.pass.proofs.laws.Prepare.{pass_state, prepare-last}

distinct_apart : (xs : List ℕ) (y : ℕ) (ys : List ℕ) → distinct (xs ++ (y ∷ ys)) ≡ true → member y xs ≡ false
distinct_apart [] y ys h = by-test (member y []) (λ e. member-nil y e) (λ e. e)
distinct_apart (x ∷ xs) y ys h =
    let ih : member y xs ≡ false = distinct_apart xs y ys (distinct_tail x (xs ++ (y ∷ ys)) h) in
    by-test (member y (x ∷ xs))
    (λ e. member-cons y x xs e
    (λ q. clash (member x (xs ++ (y ∷ ys))) (rw (← q) (member-append-right y xs (y ∷ ys) (member-head y ys)))
    (distinct_head x (xs ++ (y ∷ ys)) h))
    (λ q. clash (member y xs) q ih))
    (λ e. e)

-- the work with the sides of l kept as well
abbrev keep_all : Work → List ℕ → Work
keep_all w l = record { state = w.state; kept = w.kept ++ l; noted = w.noted; over = w.over; another = w.another }

-- no side of growth 0
shrink-scan : (w : Work) (l : List ℕ) → ((s : ℕ) → member s l ≡ true → growth_at w.state s ≢ 0)
    → distinct (w.kept ++ l) ≡ true → fold shrink_step w l ≡ keep_all w l
unfolding fold shrink_step keep_once keep
shrink-scan w [] h d = rw (append-nil w.kept)
shrink-scan w (x ∷ l) h d =
    let step : shrink_step w x ≡ keep_all w (x ∷ []) = rw (ne_eqb (growth_at w.state x) 0 (h x (member-head x l)), distinct_apart w.kept x l d) in
    let ih = shrink-scan (keep_all w (x ∷ [])) l (λ s m. h s (member-tail s x l m)) (rw (append_assoc w.kept (x ∷ []) l) d) in
    rw step (ih ∙ rw (append_assoc w.kept (x ∷ []) l))

-- no side behind which a vertex is to be taken
grow-scan : (n : ℕ) (w : Work) (l : List ℕ) → ((s : ℕ) → member s l ≡ true → reaches w.state s ≡ false) → fold (grow_step n) w l ≡ keep_all w l
unfolding fold grow_step keep
grow-scan n w [] h = rw (append-nil w.kept)
grow-scan n w (x ∷ l) h =
    let step : grow_step n w x ≡ keep_all w (x ∷ []) = rw (h x (member-head x l)) in
    let ih = grow-scan n (keep_all w (x ∷ [])) l (λ s m. h s (member-tail s x l m)) in
    rw step (ih ∙ rw (append_assoc w.kept (x ∷ []) l))

-- the work of a pass that changes nothing
abbrev same : State → ℕ → Work
same c n = record { state = c; kept = boundary_of c n; noted = []; over = overgrown_of c n; another = false }

finish-same : (c : State) (n : ℕ) → finish_pass (same c n) n ≡ c
unfolding finish_pass with_boundary with_overgrown with_nodes
finish-same c n = rw (set-get_or c.nodes.boundary n [], set-get_or c.nodes.overgrown n [])

-- the top amount of a stack is not 0
abbrev pub TopLeft : List Overgrown → Type 0
TopLeft st = (empty_tops st ≡ []) × (below_tops st ≡ st)

pub top-amount : (o : Overgrown) (os : List Overgrown) → TopLeft (o ∷ os) → o.amount ≢ 0
unfolding empty_tops
top-amount o os t e =
    let k : length (o.vertex ∷ empty_tops os) ≡ length {A = ℕ} [] = ap (λ (l : List ℕ). length l) (rw (eq-eqb o.amount 0 e) at t.0) in
    omega arith

shrink-same : (c : State) (n : ℕ) → TopLeft (overgrown_of c n)
    → ((s : ℕ) → member s (boundary_of c n) ≡ true → growth_at c s ≢ 0) → distinct (boundary_of c n) ≡ true
    → shrink_pass c n ≡ same c n
unfolding shrink_pass shrink_scanned dropped start_pass fold
shrink-same c n tops sides once =
    let scanned : fold shrink_step (start_pass c (overgrown_of c n)) (boundary_of c n) ≡ same c n =
    shrink-scan (start_pass c (overgrown_of c n)) (boundary_of c n) sides once in
    rw (tops.0, tops.1, scanned)

grow-same : (c : State) (n : ℕ) → ((s : ℕ) → member s (boundary_of c n) ≡ true → reaches c s ≡ false) → grow_pass c n ≡ same c n
unfolding grow_pass grow_scanned start_pass fold
grow-same c n sides =
    let scanned : fold (grow_step n) (start_pass c (overgrown_of c n)) (boundary_of c n) ≡ same c n =
    grow-scan n (start_pass c (overgrown_of c n)) (boundary_of c n) sides in
    rw scanned

idle : (c : State) (n d : ℕ) → one_pass c n d ≡ same c n → (prepare_node c n d).state ≡ c
unfolding prepare_node
idle c n d e =
    let p : prepare_from (suc (vertex_count c)) c n d 0 ≡ record { state = pass_state c n d; passes = 0 + 1 } =
    prepare-last (vertex_count c) c n d 0 (ap (λ (w : Work). w.another) e) in
    ap (λ (x : Prepared). x.state) p ∙ ap (λ (w : Work). finish_pass w n) e ∙ finish-same c n

pub shrink-idle : (c : State) (n : ℕ) → TopLeft (overgrown_of c n)
    → ((s : ℕ) → member s (boundary_of c n) ≡ true → growth_at c s ≢ 0) → distinct (boundary_of c n) ≡ true
    → (prepare_node c n down).state ≡ c
shrink-idle c n tops sides once = idle c n down (unfold one_pass in (shrink-same c n tops sides once))

pub grow-idle : (c : State) (n : ℕ) → ((s : ℕ) → member s (boundary_of c n) ≡ true → reaches c s ≡ false) → (prepare_node c n up).state ≡ c
grow-idle c n sides = idle c n up (unfold one_pass in (grow-same c n sides))
