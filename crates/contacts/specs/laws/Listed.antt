-- The loop that lists the contacts: three words for each, behind those before it.
use Rattle.std.specs.Prelude.{ℕ, ◌+◌, ◌*◌, ◌≤◌, ◌≡◌, true, false, List, [], ◌∷◌, ◌++◌, map, ℤ, pos, length, set}
use Rattle.std.proofs.Common.{arith, add-one, sym, ◌∙◌}
use Rattle.std.proofs.Math.Path.{refl, ap}
use Rattle.std.proofs.Math.ListN.{length-append}
use Rattle.std.proofs.lemmas.List.{length-map}
use Rattle.graph.specs.Basic.{only, below}
use Rattle.graph.specs.State.{State, edge_count}
use Rattle.graph.specs.laws.Members.{length-only, length-below}
use Rattle.active_list.specs.laws.Renewal.{only-snoc}
use Rattle.calls.specs.Reply.{over_front}
use Rattle.calls.specs.Contacts.{Contact, is_contact, contact_of, contacts, contact_words, end_word}
use Rattle.calls.proofs.laws.Read.{front-none, front-more}

-- those below edge e
unfoldable pub contacts_below : State → ℕ → List Contact
contacts_below c e = map (contact_of c) (only (is_contact c) (below e))

map_snoc : {A B : Type 0} (f : A → B) (l : List A) (x : A) → map f (l ++ (x ∷ [])) ≡ map f l ++ (f x ∷ [])
map_snoc f [] x = refl
map_snoc f (y ∷ l) x = ap (λ r. f y ∷ r) (map_snoc f l x)

pub below_none : (c : State) → contacts_below c 0 ≡ []
unfolding contacts_below below only
below_none c = refl

pub below-yes : (c : State) (e : ℕ) → is_contact c e ≡ true → contacts_below c (e + 1) ≡ contacts_below c e ++ (contact_of c e ∷ [])
unfolding contacts_below below
below-yes c e h =
    rw (add-one, only-snoc (is_contact c) (below e) e, h) (map_snoc (contact_of c) (only (is_contact c) (below e)) e)

pub below-no : (c : State) (e : ℕ) → is_contact c e ≡ false → contacts_below c (e + 1) ≡ contacts_below c e
unfolding contacts_below below
below-no c e h = rw (add-one, only-snoc (is_contact c) (below e) e, h)

pub below-le : (c : State) (e : ℕ) → length (contacts_below c e) ≤ e
unfolding contacts_below
below-le c e =
    let n = length-only (is_contact c) (below e) in
    rw (length-map (only (is_contact c) (below e)) (contact_of c)) (omega (arith, n, length-below e))

pub below_all : (c : State) → contacts_below c (edge_count c) ≡ contacts c
unfolding contacts_below contacts
below_all c = refl

-- ---- their words

words-length : (l : List Contact) → length (contact_words l) ≡ 3 * length l
unfolding contact_words
words-length [] = refl
words-length (x ∷ l) = let k = words-length l in omega (arith, k)

words_snoc : (l : List Contact) (x : Contact)
    → contact_words (l ++ (x ∷ [])) ≡ contact_words l ++ (pos x.edge ∷ end_word x.left ∷ end_word x.right ∷ [])
unfolding contact_words
words_snoc [] x = refl
words_snoc (y ∷ l) x = ap (λ r. pos y.edge ∷ end_word y.left ∷ end_word y.right ∷ r) (words_snoc l x)

append-three : {A : Type 0} (l : List A) (x y z : A) → ((l ++ (x ∷ [])) ++ (y ∷ [])) ++ (z ∷ []) ≡ l ++ (x ∷ y ∷ z ∷ [])
append-three [] x y z = refl
append-three (w ∷ l) x y z = ap (λ r. w ∷ r) (append-three l x y z)

-- three words behind ws
front-three : (ws t : List ℤ) (x y z : ℤ) (k : ℕ) → length ws ≡ k → k + 3 ≤ length t
    → set (set (set (over_front ws t) k x) (k + 1) y) (k + 2) z ≡ over_front (ws ++ (x ∷ y ∷ z ∷ [])) t
front-three ws t x y z k e h =
    let a = length-append ws (x ∷ []) in
    let b = length-append (ws ++ (x ∷ [])) (y ∷ []) in
    let p = front-more ws t x k e (omega arith) in
    let q = front-more (ws ++ (x ∷ [])) t y (k + 1) (omega (arith, a, e)) (omega arith) in
    let r = front-more ((ws ++ (x ∷ [])) ++ (y ∷ [])) t z (k + 2) (omega (arith, a, b, e)) (omega arith) in
    rw (p, q, r) (ap (λ l. over_front l t) (append-three ws x y z))

-- "the contacts below e stand in the list, k of them"
pub record ContactsPut (c : State) (t₀ t : List ℤ) (e k : ℕ) : Type 0 where
  pub list : t ≡ over_front (contact_words (contacts_below c e)) t₀
  pub count : k ≡ length (contacts_below c e)
  pub room : length t ≡ length t₀

module _ (c : State) (t₀ : List ℤ) where
  pub put-none : ContactsPut c t₀ t₀ 0 0
  unfolding contact_words
  put-none = record { list = rw (below_none c) (sym (front-none t₀)); count = rw (below_none c); room = refl }

  pub put-yes : {t t' : List ℤ} (e k : ℕ) → 3 * (e + 1) ≤ length t₀ → is_contact c e ≡ true → ContactsPut c t₀ t e k
      → t' ≡ set (set (set t (3 * k) (pos e)) (3 * k + 1) (end_word (contact_of c e).left)) (3 * k + 2) (end_word (contact_of c e).right)
      → length t' ≡ length t → ContactsPut c t₀ t' (e + 1) (k + 1)
  unfolding contact_of
  put-yes {t} {t'} e k h y p s r =
      let q = below-yes c e y in
      let n = below-le c e in
      let w = words-length (contacts_below c e) in
      let x = contact_of c e in
      record {
        list =
            s ∙ rw (q, p.list)
            (front-three (contact_words (contacts_below c e)) t₀ (pos e) (end_word x.left) (end_word x.right) (3 * k)
            (omega (arith, w, p.count)) (omega (arith, h, n, p.count))
            ∙ ap (λ l. over_front l t₀) (sym (words_snoc (contacts_below c e) x)));
        count = rw (q, length-append (contacts_below c e) (contact_of c e ∷ [])) (omega (arith, p.count));
        room = r ∙ p.room;
      }

  pub put-no : {t : List ℤ} (e k : ℕ) → is_contact c e ≡ false → ContactsPut c t₀ t e k → ContactsPut c t₀ t (e + 1) k
  put-no e k y p = record { list = rw (below-no c e y) p.list; count = rw (below-no c e y) p.count; room = p.room }
