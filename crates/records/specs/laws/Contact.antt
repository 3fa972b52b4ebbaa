-- Laws on the line of a contact.
use Rattle.std.specs.Prelude.{ℕ, ◌-◌, ◌≡◌, refl, ◌≢◌, List, [], ◌∷◌, ◌++◌}
use Rattle.std.proofs.Common.{sym, ap, ◌∙◌, append-nil, ne_eqb}
use Rattle.calls.specs.Contacts.{Contact}
use Rattle.records.specs.Text.{ascii, spaced}
use Rattle.records.specs.Lines.{line, end_text, contact_text, contact_line}

pub end-virtual : (p : ℕ) → p ≡ 0 → ascii " -1" ≡ end_text p
unfolding end_text
end-virtual p e = rw e refl

pub end-node : (p : ℕ) → p ≢ 0 → spaced ((p - 1) ∷ []) ≡ end_text p
unfolding end_text
end-node p e = rw (ne_eqb p 0 e) refl

pub words_of : (x : Contact) → ascii "contact" ++ spaced (x.edge ∷ []) ++ end_text x.left ++ end_text x.right ≡ contact_text x
unfolding contact_text
words_of x = refl

-- a line without numbers behind its words
pub line_of : (k : ℕ) (x : Contact) (w : List ℕ) → w ≡ contact_text x → line k (w ++ spaced []) ≡ contact_line k x
unfolding contact_line spaced
line_of k x w e = ap (line k) (append-nil w ∙ e)
