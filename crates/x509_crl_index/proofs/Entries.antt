-- The entries of a CRL, and their places.
use Rattle.std.proofs.Common.{◌≡◌, ℕ, false, List, [], length, Result, sym, ap, subst, ◌∙◌, arith}
use Rattle.std.specs.List.{list_any}
use Rattle.std.specs.Prelude.{IsOk}
use Rattle.x509_cert.specs.Revoked.{with_serial}
use Rattle.x509_cert.specs.RevokedCert.{revoked_cert, revoked_cert_fields, revoked_cert_lawful}
use Rattle.x509_cert.specs.declared.crl.revoked_cert.RevokedCert.{RevokedCert}
use Rattle.x509_check.proofs.LentLists.{listed_is}
use Rattle.x509_check.specs.CrlRefs.{entries_in}
use Rattle.x509_crl_index.proofs.Elements.{IsFirstAt, StandBehind, as_many, first_asked, none_asked}
use Rattle.x509_crl_index.specs.Places.{IsFirstPlace, content_of, front_content, has_number, places_at, places_in}
use Rattle.x509_der.specs.ElementLaws.{piece_at-element}
use Rattle.x509_der.specs.ElementReading.{Piece}
use Rattle.x509_der.specs.Form.{Form, spelling}
use Rattle.x509_der.specs.Frames.{fields_octets}
use Rattle.x509_der.specs.List.{joined, list_reading}
use Rattle.x509_der.specs.ListLaws.{list_lawful}
use Rattle.x509_der.specs.TagLaws.{tag_is_identifier}
use Rattle.x509_der.specs.declared.error.ErrorKind.{ErrorKind}
use Rattle.x509_der.specs.declared.tag.Tag.TheVariants.{Integer}

module _ (P : Type 0) (check : List ℕ → Result Unit ErrorKind) where
  abbrev pub form : Form (RevokedCert P)
  form = revoked_cert check

  -- the serial number stands first in an entry
  pub number_first : (v : RevokedCert P) → form.good v → front_content (form.content v) ≡ v.serial_number
  unfolding revoked_cert_fields fields_octets
  number_first v good = ap (λ (found : Result Piece ErrorKind). content_of found) (piece_at-element 2 v.serial_number _ (tag_is_identifier Integer))

  -- the entry that stands at the place is the first of these with the number
  abbrev pub IsFirstEntryAt : List ℕ → List ℕ → ℕ → List (RevokedCert P) → Type 0
  IsFirstEntryAt octets number place revoked = IsFirstAt form (revoked_cert_lawful check) (λ v. v.serial_number) number_first octets number place revoked

  module _ (octets : List ℕ) (are : IsOk (list_reading form.reading octets)) (number : List ℕ) where
    stand : StandBehind form (revoked_cert_lawful check) (λ v. v.serial_number) number_first octets number [] (length octets) (entries_in check octets)
    stand =
        let s = (list_lawful form (revoked_cert_lawful check)).sound octets (entries_in check octets) (listed_is (list_reading form.reading octets) are) in
        record { octets_are = s.1; good = s.0; enough = omega (arith, ap length s.1) }

    places_are : places_at (length octets) (length octets) (joined (spelling form) (entries_in check octets)) ≡ places_in octets
    places_are = ap (places_at (length octets) (length octets)) (sym stand.octets_are)

    pub as_many_places : length (places_in octets) ≡ length (entries_in {P = P} check octets)
    as_many_places = ap length (sym places_are) ∙ as_many form (revoked_cert_lawful check) (λ v. v.serial_number) number_first octets number [] (length octets) (entries_in check octets) stand

    pub none_with : list_any (has_number octets number) (places_in octets) ≡ false → with_serial number (entries_in {P = P} check octets) ≡ []
    none_with none =
        none_asked form (revoked_cert_lawful check) (λ v. v.serial_number) number_first octets number [] (length octets) (entries_in check octets) stand
        (ap (list_any (has_number octets number)) places_are ∙ none)

    pub first_with : (place : ℕ) → IsFirstPlace octets number (places_in octets) place → IsFirstEntryAt octets number place (entries_in check octets)
    first_with place p =
        first_asked form (revoked_cert_lawful check) (λ v. v.serial_number) number_first octets number [] (length octets) (entries_in check octets) place stand
        (subst (λ places. IsFirstPlace octets number places place) (sym places_are) p)
