-- What is lent of a certificate's bytes.
use Rattle.std.proofs.Common.{◌≡◌, ℕ, ◌≤◌, true, false, List, [], ◌∷◌, ◌++◌, length, bytes_eq, Option, Some, None, option_map, if◌then◌else◌, Bor, Result, Ok, Err, refl, sym, ap, ◌∙◌, subst, arith, length-append}
use Rattle.std.specs.Option.{option_copied}
use Rattle.std.specs.Prelude.{IfSome, IsOk}
use Rattle.x509_base.specs.Validity.{validity, validity_contents, validity_contents_lawful}
use Rattle.x509_base.specs.declared.time.Time.{Time}
use Rattle.x509_base.specs.declared.validity.Validity.{Validity}
use Rattle.x509_cert.proofs.CertificateSignedPart.{stands}
use Rattle.x509_cert.proofs.Spellings.{certificate_found}
use Rattle.x509_cert.specs.Certificate.{certificate, certificate_lawful}
use Rattle.x509_cert.specs.ElementParts.{certificate_reading}
use Rattle.x509_cert.specs.ElementPartsLaws.{certificate_complete, certificate_sound, is_signed}
use Rattle.x509_cert.specs.Elements.{HasTbsElements, TbsElements, certificate_elements, front_octets}
use Rattle.x509_cert.specs.Signed.{IsSignedPart}
use Rattle.x509_cert.specs.Spellings.{certificate_spellings, tbs_spellings}
use Rattle.x509_cert.specs.TbsCertificate.{tbs_certificate, tbs_certificate_fields}
use Rattle.x509_cert.specs.Version.{version, is_first}
use Rattle.x509_cert.specs.declared.certificate.certificate.CertificateInner.{CertificateInner}
use Rattle.x509_cert.specs.declared.certificate.version.Version.{Version}
use Rattle.x509_cert.specs.declared.certificate.version.Version.TheVariants.{V1, V2, V3}
use Rattle.x509_cert.specs.declared.signed.certificate_slices.CertificateSlices.{CertificateSlices}
use Rattle.x509_der.specs.Element.{element, is_identifier, length_octets, limit}
use Rattle.x509_der.specs.ElementReading.{Piece, piece_at}
use Rattle.x509_der.specs.ElementLaws.{piece_at-whole}
use Rattle.x509_der.specs.Form.{Spells, spelling, whole_reading}
use Rattle.x509_der.specs.FormLaws.{whole_sound}
use Rattle.x509_der.specs.Frames.{fields_good, fields_octets, optional_octets}
use Rattle.x509_der.specs.Natural.{digits, natural_octets}
use Rattle.x509_der.specs.Outcome.{IsRefusal}
use Rattle.x509_der.specs.OutcomeLaws.{ok_is}
use Rattle.x509_der.specs.declared.error.ErrorKind.{ErrorKind}
use Rattle.x509_der.specs.declared.error.ErrorKind.TheVariants.{Malformed}
use Rattle.x509_der.specs.declared.error.ErrorKind.TheVariants as errors
use Rattle.x509_ext.specs.Extension.{extensions}
use Rattle.x509_ext.specs.LookUp.{members}
use Rattle.x509_ext.specs.declared.extension.Extension.{Extension}

-- ---- one element

pub content_is : (tag : ℕ) (content bytes : List ℕ) (piece : Piece) → is_identifier tag ≡ true → bytes ≡ element tag content → piece_at bytes ≡ Ok piece → piece.content ≡ content
content_is tag content bytes piece id e p = ap (λ (q : Piece). q.content) (ok_is _ _ (sym p ∙ ap piece_at e ∙ piece_at-whole tag content id))

some_content : (tag : ℕ) (content bytes : List ℕ) (e : ErrorKind) → is_identifier tag ≡ true → bytes ≡ element tag content → piece_at bytes ≡ Err e → ⊥
some_content tag content bytes e id is p = let k = sym p ∙ ap piece_at is ∙ piece_at-whole tag content id in cc

pub no_content : (tag : ℕ) (content bytes : List ℕ) (e : ErrorKind) → is_identifier tag ≡ true → bytes ≡ element tag content → IsRefusal e (piece_at bytes) → e ≡ Malformed → ⊥
no_content tag content bytes errors.Malformed id is p same = some_content tag content bytes Malformed id is p
no_content tag content bytes errors.Memory id is p same = absurd cc
no_content tag content bytes errors.Overlength id is p same = absurd cc
no_content tag content bytes errors.Failed id is p same = absurd cc
no_content tag content bytes errors.SetDuplicate id is p same = absurd cc
no_content tag content bytes errors.Value id is p same = absurd cc

-- ---- the version

abbrev some : List ℕ → Option (List ℕ)
some xs = Some xs

some_is : (xs ys : List ℕ) → some xs ≡ some ys → xs ≡ ys
some_is xs ys e = cc

no : {Q : Type 0} → true ≡ false → Q
no e = absurd cc

-- the element of the second version, and that of the third
pub second_is : (lent : List ℕ) (v : Version) → bytes_eq lent (2 ∷ 1 ∷ 1 ∷ []) ≡ true → Some lent ≡ (if is_first v then None else Some (spelling version v)) → V2 ≡ v
unfolding element length_octets natural_octets digits
second_is lent V1 is e = absurd cc
second_is lent V2 is e = refl
second_is lent V3 is e = no (sym (rw (some_is lent (2 ∷ 1 ∷ 2 ∷ []) e) at is))

pub third_is : (lent : List ℕ) (v : Version) → bytes_eq lent (2 ∷ 1 ∷ 1 ∷ []) ≡ false → Some lent ≡ (if is_first v then None else Some (spelling version v)) → V3 ≡ v
unfolding element length_octets natural_octets digits
third_is lent V1 other e = absurd cc
third_is lent V2 other e = no (rw (some_is lent (2 ∷ 1 ∷ 1 ∷ []) e) at other)
third_is lent V3 other e = refl

pub first_is : (lent : Option (Bor (List ℕ))) (v : Version) → lent ≡ None → option_copied lent ≡ (if is_first v then None else Some (spelling version v)) → V1 ≡ v
first_is None V1 none e = refl
first_is None V2 none e = absurd cc
first_is None V3 none e = absurd cc
first_is (Some x) v none e = absurd cc

-- ---- a list of extensions that may be left out

pub no_list : (lent : Option (Bor (List ℕ))) (value : Option (List Extension)) → lent ≡ None → option_copied lent ≡ option_map (spelling extensions) value → [] ≡ members value
no_list None None none e = refl
no_list None (Some list) none e = absurd cc
no_list (Some x) value none e = absurd cc

pub list_is : (bytes : List ℕ) (value : Option (List Extension)) → Some bytes ≡ option_map (spelling extensions) value → (list : List Extension) × (value ≡ Some list) × (bytes ≡ spelling extensions list)
list_is bytes None e = absurd cc
list_is bytes (Some list) e = (list, refl, some_is bytes (spelling extensions list) e)

list_within : (tag u : ℕ) (front a b c d list : List ℕ) → length list ≤ length (element tag (front ++ (a ++ (b ++ (c ++ (d ++ element u list))))))
unfolding element
list_within tag u front a b c d list =
    omega (arith, length-append (u ∷ length_octets (length list)) list, length-append d (element u list), length-append c (d ++ element u list), length-append b (c ++ (d ++ element u list)), length-append a (b ++ (c ++ (d ++ element u list))), length-append front (a ++ (b ++ (c ++ (d ++ element u list)))), length-append (tag ∷ length_octets (length (front ++ (a ++ (b ++ (c ++ (d ++ element u list))))))) (front ++ (a ++ (b ++ (c ++ (d ++ element u list))))))

inside_within : (e : TbsElements) (list bytes : List ℕ) → HasTbsElements bytes e → e.extensions ≡ Some list → length list ≤ limit
inside_within e list bytes h is =
    let text = ap (λ (o : Option (List ℕ)). element 0x30 (front_octets e ++ (e.subject ++ (e.subject_public_key_info ++ (optional_octets (λ x. x) e.issuer_unique_id ++ (optional_octets (λ x. x) e.subject_unique_id ++ optional_octets (element 0xA3) o)))))) is in
    omega (arith, list_within 0x30 0xA3 (front_octets e) e.subject e.subject_public_key_info (optional_octets (λ x. x) e.issuer_unique_id) (optional_octets (λ x. x) e.subject_unique_id) list, ap length (h.whole ∙ text), h.within)

-- ---- a certificate

some_value : {X : Type 0} (reading : Result X ErrorKind) → IsOk reading → (value : X) × (reading ≡ Ok value)
some_value (Ok value) ok = (value, refl)
some_value (Err e) ok = absurd cc

pub is_read : {X : Type 0} (reading : Result X ErrorKind) (value : X) → reading ≡ Ok value → IsOk reading
is_read reading value e = rw e refl

pub signed_is : (bytes : List ℕ) (slices : CertificateSlices) → certificate_reading bytes ≡ Ok (certificate_elements slices) → length bytes ≤ limit → IsSignedPart bytes slices.tbs_certificate.now
signed_is bytes slices lent within = is_signed bytes (certificate_elements slices) (certificate_sound bytes (certificate_elements slices) within lent)

-- ---- a validity is its two dates

abbrev of_dates : {P : Type 0} → Time → Time → Validity P
of_dates before after = record { not_before = before; not_after = after; profile = record {} }

pub same_dates : {P : Type 0} (v w : Validity P) → v.not_before ≡ w.not_before → v.not_after ≡ w.not_after → v ≡ w
same_dates {P} v w before after = ap (λ (t : Time). of_dates {P = P} t v.not_after) before ∙ ap (λ (t : Time). of_dates {P = P} w.not_before t) after

module _ {P : Type 0} (check : List ℕ → Result Unit ErrorKind) (bytes : List ℕ) where
  pub some_certificate : length bytes ≤ limit → IsOk (whole_reading (certificate {P = P} check).reading bytes) → (value : CertificateInner P) × Spells (certificate check) value bytes
  some_certificate within ok =
      let v = some_value (whole_reading (certificate check).reading bytes) ok in
      let s = whole_sound (certificate check) (certificate_lawful check) bytes v.0 v.1 in
      (v.0, (s.0, s.1, within))

  module _ (slices : CertificateSlices) (lent : certificate_reading bytes ≡ Ok (certificate_elements slices)) where
    pub elements_are : (value : CertificateInner P) → Spells (certificate check) value bytes → certificate_elements slices ≡ certificate_spellings value
    elements_are value spells = ok_is _ _ (sym lent ∙ certificate_complete bytes (certificate_spellings value) (certificate_found check value bytes spells))

    pub part_is : (value : CertificateInner P) → Spells (certificate check) value bytes → Spells (tbs_certificate check) value.tbs_certificate slices.tbs_certificate.now
    unfolding tbs_certificate_fields fields_octets
    part_is value spells =
        let is : slices.tbs_certificate.now ≡ spelling (tbs_certificate check) value.tbs_certificate = ap (λ e. e.tbs_certificate) (elements_are value spells) in
        subst (λ (b : List ℕ). Spells (tbs_certificate check) value.tbs_certificate b) (sym is) (stands check value bytes spells).1

  module _ (value : CertificateInner P) (spells : Spells (certificate check) value bytes) where
    list_good : (list : List Extension) → value.tbs_certificate.extensions ≡ Some list → extensions.good list
    unfolding tbs_certificate_fields fields_good
    list_good list is = subst (λ (o : Option (List Extension)). IfSome o extensions.good) is (stands check value bytes spells).1.0.1.1.1.1.1

    -- what is lent spells the list of extensions
    pub lent_list : (lent : List ℕ) → Some lent ≡ option_map (spelling extensions) value.tbs_certificate.extensions → (list : List Extension) × (value.tbs_certificate.extensions ≡ Some list) × Spells extensions list lent
    lent_list lent e =
        let l = list_is lent value.tbs_certificate.extensions e in
        (l.0, l.1, (list_good l.0 l.1, l.2, inside_within (tbs_spellings value.tbs_certificate) lent _ (certificate_found check value bytes spells).tbs_certificate (sym e)))

    pub validity_read : (validity_contents {P = P}).reading (validity.content value.tbs_certificate.validity) ≡ Ok value.tbs_certificate.validity
    unfolding tbs_certificate_fields fields_good
    validity_read = (validity_contents_lawful {R = λ e. ⊥}).complete value.tbs_certificate.validity (stands check value bytes spells).1.0.0.1.1.1.1

    pub elements_read : (slices : CertificateSlices) → certificate_elements slices ≡ certificate_spellings value → certificate_reading bytes ≡ Ok (certificate_elements slices)
    elements_read slices e = rw e (certificate_complete bytes (certificate_spellings value) (certificate_found check value bytes spells))
