-- Looking for an entry while a CRL is checked.
use Rattle.std.proofs.Common.{◌≡◌, ◌⊎◌, ◌<◌, ◌≤◌, ℕ, Bool, true, false, List, [], ◌∷◌, ◌++◌, length, get_or, Option, Some, None, Result, Ok, Err, refl, sym, subst, ap, ◌∙◌, inl, inr, arith}
use Rattle.std.specs.Prelude.{bytes_eq, is_some, filter, IfOk, IfErr, IsOk}
use Rattle.std.proofs.lemmas.List.Elements.{filter-append}
use Rattle.x509_cert.specs.declared.crl.revoked_cert.RevokedCert.{RevokedCert}
use Rattle.x509_check.specs.CrlRefs.{FindsEntry, lent_entry}
use Rattle.x509_check.proofs.Checks.{under_its_own}
use Rattle.x509_check.specs.Lending.{LendsSo, LendsSoBefore}
use Rattle.x509_check.specs.declared.lent.entry.RevokedCertRef.{RevokedCertRef}
use Rattle.x509_der.specs.Element.{limit}
use Rattle.x509_der.specs.ElementReading.{Piece, piece_at}
use Rattle.x509_der.specs.declared.error.Error.{Error}
use Rattle.x509_der.specs.declared.error.ErrorKind.{ErrorKind}
use Rattle.x509_der.specs.declared.error.ErrorKind.TheVariants as errors
use Rattle.x509_der.specs.Form.{Form, IsForm, Spells, is_in, reading_under, whole_reading}
use Rattle.x509_der.specs.Frames.{field_at, optional_at}
use Rattle.x509_der.specs.FormLaws.{whole_sound, whole_complete, whole_refused}
use Rattle.x509_der.specs.OutcomeLaws.{ok_is}

-- ---- what is found of entries and one more

module _ {P : Type 0} (number : List ℕ) where
  abbrev asked : RevokedCert P → Bool
  asked e = bytes_eq e.serial_number number

  kept : (front : List (RevokedCert P)) (found : RevokedCertRef) (entry : RevokedCert P) → FindsEntry number front (Some found) → FindsEntry number (front ++ entry ∷ []) (Some found)
  kept front found entry h = (h.0 ++ filter asked (entry ∷ []), filter-append asked front (entry ∷ []) ∙ ap (λ es. es ++ filter asked (entry ∷ [])) h.1)

  first_found : (front : List (RevokedCert P)) (entry : RevokedCertRef) → FindsEntry number front None → bytes_eq entry.serial_number.now number ≡ true → FindsEntry number (front ++ lent_entry entry ∷ []) (Some entry)
  first_found front entry none is = ([], filter-append asked front (lent_entry entry ∷ []) ∙ rw (none, is) refl)

  none_found : (front : List (RevokedCert P)) (entry : RevokedCert P) → FindsEntry number front None → bytes_eq entry.serial_number number ≡ false → FindsEntry number (front ++ entry ∷ []) None
  none_found front entry none other = filter-append asked front (entry ∷ []) ∙ rw (none, other) refl

  found_now : (front : List (RevokedCert P)) (found : Option RevokedCertRef) (entry : RevokedCertRef) → is_some found ≡ false → bytes_eq entry.serial_number.now number ≡ true → FindsEntry number front found → FindsEntry number (front ++ lent_entry entry ∷ []) (Some entry)
  found_now front None entry none is h = first_found front entry h is
  found_now front (Some first) entry none is h = absurd cc

  pub found_front : (front : List (RevokedCert P)) (found : Option RevokedCertRef) (lent : RevokedCertRef) (entry : RevokedCert P) → is_some found ≡ false → bytes_eq entry.serial_number number ≡ true → lent_entry lent ≡ entry → FindsEntry number front found → FindsEntry number (front ++ entry ∷ []) (Some lent)
  found_front front found lent entry none is same h =
      let number-is : bytes_eq lent.serial_number.now number ≡ true = subst (λ (e : RevokedCert P). bytes_eq e.serial_number number ≡ true) (sym same) is in
      subst (λ e. FindsEntry number (front ++ e ∷ []) (Some lent)) same (found_now front found lent none number-is h)

  pub not_now : (front : List (RevokedCert P)) (found : Option RevokedCertRef) (entry : RevokedCert P) → (bytes_eq entry.serial_number number ≡ false) ⊎ (is_some found ≡ true) → FindsEntry number front found → FindsEntry number (front ++ entry ∷ []) found
  not_now front (Some first) entry so h = kept front first entry h
  not_now front None entry (inl other) h = none_found front entry h other
  not_now front None entry (inr some) h = absurd cc

-- ---- fields

module _ {X Y : Type 0} (so : X → Y → Type 0) where
  -- what is found in the content of a field
  pub so_field : (result : Result Y Error) (wanted : ℕ) (read : List ℕ → Result X ErrorKind) (bytes : List ℕ) (piece : Piece) → piece_at bytes ≡ Ok piece → piece.tag ≡ wanted → LendsSo so result (read piece.content) → LendsSoBefore so result piece.rest (field_at (reading_under wanted read) bytes)
  unfolding field_at
  so_field (Ok y) wanted read bytes piece p is h = (h.0, rw (p, under_its_own wanted piece.tag read piece.content is, h.1) refl, h.2)
  so_field (Err e) wanted read bytes piece p is h = rw (p, under_its_own wanted piece.tag read piece.content is, h) refl

  module _ (perhaps : Option X → Y → Type 0) (starts : List ℕ) (read : ℕ → List ℕ → Result X ErrorKind) where
    -- what is found in a field that is there
    so_there : ((x : X) (y : Y) → so x y → perhaps (Some x) y) → (result : Result Y Error) (rest : List ℕ) (tag : ℕ) (bytes : List ℕ) → is_in tag starts ≡ true → LendsSoBefore so result rest (field_at read (tag ∷ bytes)) → LendsSoBefore perhaps result rest (optional_at starts read (tag ∷ bytes))
    unfolding optional_at
    so_there some (Ok y) rest tag bytes there h = (Some h.0, rw (there, h.1) refl, some h.0 y h.2)
    so_there some (Err e) rest tag bytes there h = rw (there, h) refl

    pub so_here : ((x : X) (y : Y) → so x y → perhaps (Some x) y) → (result : Result Y Error) (rest bytes : List ℕ) → 1 ≤ length bytes → is_in (get_or bytes 0 0) starts ≡ true → LendsSoBefore so result rest (field_at read bytes) → LendsSoBefore perhaps result rest (optional_at starts read bytes)
    so_here some result rest [] nonempty there h = absurd (omega arith)
    so_here some result rest (tag ∷ bytes) nonempty there h = so_there some result rest tag bytes there h

    -- what is found where the field is left out
    pub so_other : (y : Y) → perhaps None y → (bytes : List ℕ) → is_in (get_or bytes 0 0) starts ≡ false → LendsSoBefore perhaps (Ok y) bytes (optional_at starts read bytes)
    unfolding optional_at
    so_other y none [] other = (None, refl, none)
    so_other y none (tag ∷ bytes) other = (None, rw other refl, none)

    pub so_none_left : (y : Y) → perhaps None y → (bytes : List ℕ) → length bytes < 1 → LendsSoBefore perhaps (Ok y) bytes (optional_at starts read bytes)
    unfolding optional_at
    so_none_left y none [] few = (None, refl, none)
    so_none_left y none (tag ∷ bytes) few = absurd (omega arith)

-- ---- a whole encoding

module _ {X Y : Type 0} {R : ErrorKind → Type 0} (f : Form X) (h : IsForm R f) (so : X → Y → Type 0) (bytes : List ℕ) where
  pub so_found : (result : Result Y Error) → length bytes ≤ limit → LendsSo so result (whole_reading f.reading bytes) → IfOk result (λ y. (value : X) × Spells f value bytes × so value y)
  so_found (Ok y) within p = let s = whole_sound f h bytes p.0 p.1 in (p.0, (s.0, s.1, within), p.2)
  so_found (Err e) within p = tt

  -- what is so related to the value, is to each value that the bytes spell
  pub so_of : (y : Y) → LendsSo so (Ok y) (whole_reading f.reading bytes) → (value : X) → Spells f value bytes → so value y
  so_of y p value s = subst (λ (v : X). so v y) (ok_is p.0 value (sym p.1 ∙ ap (whole_reading f.reading) s.1 ∙ whole_complete f h value s.0)) p.2

  pub so_every : (result : Result Y Error) → LendsSo so result (whole_reading f.reading bytes) → (value : X) → Spells f value bytes → IsOk result
  so_every (Ok y) p value s = refl
  so_every (Err e) p value s = absurd (let k = sym p ∙ ap (whole_reading f.reading) s.1 ∙ whole_complete f h value s.0 in cc)

  pub so_refused : (result : Result Y Error) → LendsSo so result (whole_reading f.reading bytes) → IfErr result (λ e. (e.kind ≡ errors.Malformed) ⊎ R e.kind)
  so_refused (Ok y) p = tt
  so_refused (Err e) p = whole_refused f h bytes e.kind p
