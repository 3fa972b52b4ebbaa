-- Laws of the marks: one more, one less, none, and what a mark says.
use Rattle.std.specs.Prelude.{ℕ, zero, suc, ◌<◌, ◌≡◌, refl, ◌≢◌, true, false, List, [], ◌∷◌, ◌++◌, map, length, get_or, set, replicate}
use Rattle.std.proofs.Common.{arith, sym, ap, ◌∙◌, length-set, get_or-set_same, get_or-set_other, ext_get_or}
use Rattle.std.proofs.Math.Decide.{ℕ_discrete as dec_eq}
use Rattle.std.proofs.lemmas.List.{length-map, length-replicate, get_or-replicate, get_or_at}
use Rattle.std.proofs.Math.ListN.{get_or-append}
use Rattle.graph.specs.Basic.{member, below, distinct}
use Rattle.graph.specs.Open.{flag_in}
use Rattle.graph.specs.laws.Members.{by-test, clash, member-head, member-tail, member-cons, member-nil, member-append-left, member-append-right, not-member-append, not-member-single, length-below, distinct_head}
use Rattle.shrink_pass.specs.inner.Shrinking.{marks}

-- ---- a flag

flag-yes : (l : List ℕ) (s : ℕ) → member s l ≡ true → flag_in l s ≡ 1
unfolding flag_in
flag-yes l s h = rw h

flag-no : (l : List ℕ) (s : ℕ) → member s l ≡ false → flag_in l s ≡ 0
unfolding flag_in
flag-no l s h = rw h

-- two lists with the same members have the same flags
flag_same : (k l : List ℕ) (s : ℕ) → (member s k ≡ true → member s l ≡ true)
    → (member s k ≡ false → member s l ≡ false) → flag_in k s ≡ flag_in l s
flag_same k l s p q =
    by-test (member s k) (λ e. flag-yes k s e ∙ sym (flag-yes l s (p e))) (λ e. flag-no k s e ∙ sym (flag-no l s (q e)))

-- ---- an entry of the marks

map-entry : (f : ℕ → ℕ) (l : List ℕ) (i d : ℕ) → i < length l → get_or (map f l) i d ≡ f (get_or l i d)
map-entry f [] i d h = absurd (omega arith)
map-entry f (x ∷ l) zero d h = refl
map-entry f (x ∷ l) (suc i) d h = map-entry f l i d (omega arith)

below-entry : (n s : ℕ) → s < n → get_or (below n) s 0 ≡ s
unfolding below
below-entry zero s h = absurd (omega arith)
below-entry (suc n) s h =
    elim (dec_eq s n) [
      | yes e ↦ rw e (get_or_at (below n) n [] 0 n (length-below n))
      | no e ↦ get_or-append (below n) (n ∷ []) 0 s (rw (length-below n) (omega arith)) ∙ below-entry n s (omega arith)
    ]

pub marks-length : (m : ℕ) (l : List ℕ) → length (marks m l) ≡ m
unfolding marks
marks-length m l = length-map (below m) (flag_in l) ∙ length-below m

mark-at : (m : ℕ) (l : List ℕ) (s : ℕ) → s < m → get_or (marks m l) s 0 ≡ flag_in l s
unfolding marks
mark-at m l s h = map-entry (flag_in l) (below m) s 0 (rw (length-below m) h) ∙ ap (flag_in l) (below-entry m s h)

-- what a mark says
pub mark-zero : (m : ℕ) (l : List ℕ) (s : ℕ) → s < m → get_or (marks m l) s 0 ≡ 0 → member s l ≡ false
mark-zero m l s h e =
    by-test (member s l) (λ q. let z : ◌≡◌ {A = ℕ} 1 0 = sym (flag-yes l s q) ∙ sym (mark-at m l s h)
    ∙ e in absurd (omega arith)) (λ q. q)

pub mark_set : (m : ℕ) (l : List ℕ) (s : ℕ) → s < m → get_or (marks m l) s 0 ≢ 0 → member s l ≡ true
mark_set m l s h e = by-test (member s l) (λ q. q) (λ q. absurd (e (mark-at m l s h ∙ flag-no l s q)))

-- marks that are the same place by place
marks-same : (m : ℕ) (k l : List ℕ) (s x : ℕ) → s < m → x ≡ flag_in l s
    → ((i : ℕ) → i ≢ s → flag_in k i ≡ flag_in l i) → set (marks m k) s x ≡ marks m l
marks-same m k l s x h e f =
    ext_get_or 0 (set (marks m k) s x) (marks m l)
    (length-set (marks m k) s x ∙ marks-length m k ∙ sym (marks-length m l))
    (λ i b.
    let c : i < m = omega (arith, b, length-set (marks m k) s x, marks-length m k) in
    elim (dec_eq i s) [
      | yes q ↦ rw q (get_or-set_same (marks m k) s x 0 (rw (marks-length m k) h) ∙ e ∙ sym (mark-at m l s h))
      | no q ↦ get_or-set_other (marks m k) s i x 0 q ∙ mark-at m k i c ∙ f i q ∙ sym (mark-at m l i c)
    ])

-- one more, one less, none
pub marks-put : (m : ℕ) (l : List ℕ) (s : ℕ) → s < m → set (marks m l) s 1 ≡ marks m (l ++ (s ∷ []))
marks-put m l s h =
    marks-same m l (l ++ (s ∷ [])) s 1 h
    (sym (flag-yes (l ++ (s ∷ [])) s (member-append-right s l (s ∷ []) (member-head s []))))
    (λ i q. flag_same l (l ++ (s ∷ [])) i (member-append-left i l (s ∷ []))
    (λ e. not-member-append i l (s ∷ []) e (not-member-single i s q)))

pub marks-take : (m : ℕ) (x : ℕ) (l : List ℕ) → x < m → distinct (x ∷ l) ≡ true → set (marks m (x ∷ l)) x 0 ≡ marks m l
marks-take m x l h d =
    marks-same m (x ∷ l) l x 0 h
    (sym (flag-no l x (distinct_head x l d)))
    (λ i q. sym
    (flag_same l (x ∷ l) i (member-tail i x l)
    (λ e. by-test (member i (x ∷ l)) (λ r. member-cons i x l r (λ z. absurd (q z)) (λ z. clash (member i l) z e))
    (λ r. r))))

pub marks-none : (m : ℕ) → marks m [] ≡ replicate m 0
marks-none m =
    ext_get_or 0 (marks m []) (replicate m 0) (marks-length m [] ∙ sym (length-replicate {A = ℕ} m 0))
    (λ i b.
    let c : i < m = omega (arith, b, marks-length m []) in
    mark-at m [] i c ∙ flag-no [] i (by-test (member i []) (λ r. member-nil i r) (λ r. r))
    ∙ sym (get_or-replicate {A = ℕ} m i 0 0 c))
