-- What a certificate's bytes lend spells its parts, and is compared as they are.
use Rattle.std.proofs.Common.{◌≡◌, ◌≢◌, ◌↔◌, ◌∙◌, ℕ, ◌≤◌, Bool, true, false, not, List, ◌++◌, length, refl, sym, ap, arith, length-append, bytes_eq}
use Rattle.std.specs.Bool.{IsTrue}
use Rattle.std.proofs.lemmas.Bool.{true≢false}
use Rattle.std.proofs.lemmas.Slice.Eq.{bytes_eq-Decides}
use Rattle.x509_base.specs.AlgorithmIdentifier.{algorithm_identifier, algorithm_identifier_lawful}
use Rattle.x509_base.specs.Profiles.{rfc5280_serial_number}
use Rattle.x509_base.specs.SubjectPublicKeyInfo.{subject_public_key_info}
use Rattle.x509_cert.proofs.CertificateSignedPart.{stands}
use Rattle.x509_cert.proofs.Spellings.{certificate_found}
use Rattle.x509_cert.specs.Certificate.{certificate_fields, rfc5280_certificate}
use Rattle.x509_cert.specs.Elements.{HasCertificateElements, behind_octets, front_octets}
use Rattle.x509_cert.specs.Spellings.{certificate_spellings, tbs_spellings}
use Rattle.x509_cert.specs.TbsCertificate.{tbs_certificate_fields}
use Rattle.x509_der.specs.Element.{element, limit}
use Rattle.x509_der.specs.Form.{Form, IsForm, Spells, spelling}
use Rattle.x509_der.specs.Frames.{fields_good}
use Rattle.x509_der.specs.SpellingLaws.{one_spelled}
use Rattle.x509_der.specs.declared.error.ErrorKind.{ErrorKind}
use Rattle.x509_name.specs.declared.attr.type_and_value.AttributeTypeAndValue.{AttributeTypeAndValue}
use Rattle.x509_name.specs.Names.{name, rdn_sequence_lawful}
use Rattle.x509_path.specs.Certificates.{Certificate}
use Rattle.x509_prim.specs.BitString.{bit_string}

-- ---- equal encodings are those of equal values

abbrev Never : ErrorKind → Type 0
Never e = ⊥

module _ {X : Type 0} (form : Form X) (lawful : IsForm Never form) (v w : X) (good : form.good v) (other : form.good w) (x y : List ℕ) (is : x ≡ spelling form v) (so : y ≡ spelling form w) where
  pub same_bytes : (bytes_eq x y ≡ true) ↔ (v ≡ w)
  same_bytes = (
    (λ e. one_spelled form lawful v w good other (sym is ∙ (bytes_eq-Decides x y).0 e ∙ so)),
    (λ e. (bytes_eq-Decides x y).1 (is ∙ ap (spelling form) e ∙ sym so)),
  )

-- the other answer to a test
pub differ : {P : Type 0} (b : Bool) → IsTrue b ↔ P → IsTrue (not b) ↔ (P → ⊥)
differ true h = ((λ never. absurd (true≢false (sym never))), (λ never. absurd (never (h.0 refl))))
differ false h = ((λ is p. true≢false (sym (h.1 p))), (λ never. refl))

-- two answers to one question
pub one_test : {P : Type 0} (a b : Bool) → (a ≡ true) ↔ P → (b ≡ true) ↔ P → a ≡ b
one_test true true h k = refl
one_test true false h k = absurd (true≢false (sym (k.1 (h.0 refl))))
one_test false true h k = absurd (true≢false (sym (h.1 (k.0 refl))))
one_test false false h k = refl

-- ---- the parts of a certificate

pub content_within : (tag : ℕ) (x : List ℕ) → length x ≤ length (element tag x)
unfolding element
content_within tag x = grind (arith, length-append)

-- what is no longer than the content of an element is no longer than that
pub inside : (tag : ℕ) (bytes content x : List ℕ) → bytes ≡ element tag content → length x ≤ length content → length x ≤ length bytes
inside tag bytes content x whole le = omega (arith, ap length whole, le, content_within tag content)

module _ (c : Certificate) (bytes : List ℕ) (spells : Spells rfc5280_certificate c bytes) where
  has : HasCertificateElements bytes (certificate_spellings c)
  has = certificate_found rfc5280_serial_number c bytes spells

  pub inner_good : algorithm_identifier.good c.tbs_certificate.signature
  unfolding tbs_certificate_fields fields_good
  inner_good = (stands rfc5280_serial_number c bytes spells).1.0.0.1.1.0

  pub issuer_good : name.good c.tbs_certificate.issuer
  unfolding tbs_certificate_fields fields_good
  issuer_good = (stands rfc5280_serial_number c bytes spells).1.0.0.1.1.1.0

  pub subject_good : name.good c.tbs_certificate.subject
  unfolding tbs_certificate_fields fields_good
  subject_good = (stands rfc5280_serial_number c bytes spells).1.0.1.0

  pub key_good : subject_public_key_info.good c.tbs_certificate.subject_public_key_info
  unfolding tbs_certificate_fields fields_good
  key_good = (stands rfc5280_serial_number c bytes spells).1.0.1.1.0

  pub outer_good : algorithm_identifier.good c.signature_algorithm
  unfolding certificate_fields fields_good
  outer_good = spells.0.1.0

  pub bits_good : bit_string.good c.signature
  unfolding certificate_fields fields_good
  bits_good = spells.0.1.1

  in_signed : (x : List ℕ) → length x ≤ length (front_octets (tbs_spellings c.tbs_certificate) ++ behind_octets (tbs_spellings c.tbs_certificate)) → length x ≤ limit
  in_signed x le = omega (arith, inside 0x30 _ _ x has.tbs_certificate.whole le, has.tbs_certificate.within)

  in_whole : (x : List ℕ) → length x ≤ length ((certificate_spellings c).tbs_certificate ++ ((certificate_spellings c).signature_algorithm ++ (certificate_spellings c).signature)) → length x ≤ limit
  in_whole x le = omega (arith, inside 0x30 _ _ x has.whole le, has.within)

  -- what is lent spells them
  module _ (lent : List ℕ) where
    pub issuer_spells : lent ≡ spelling name c.tbs_certificate.issuer → Spells name c.tbs_certificate.issuer lent
    issuer_spells is = (issuer_good, is, rw is (in_signed _ (omega (arith, length-append {A = ℕ}))))

    pub subject_spells : lent ≡ spelling name c.tbs_certificate.subject → Spells name c.tbs_certificate.subject lent
    subject_spells is = (subject_good, is, rw is (in_signed _ (omega (arith, length-append {A = ℕ}))))

    pub key_spells : lent ≡ spelling subject_public_key_info c.tbs_certificate.subject_public_key_info → Spells subject_public_key_info c.tbs_certificate.subject_public_key_info lent
    key_spells is = (key_good, is, rw is (in_signed _ (omega (arith, length-append {A = ℕ}))))

    pub outer_spells : lent ≡ spelling algorithm_identifier c.signature_algorithm → Spells algorithm_identifier c.signature_algorithm lent
    outer_spells is = (outer_good, is, rw is (in_whole _ (omega (arith, length-append {A = ℕ}))))

    pub bits_spells : lent ≡ spelling bit_string c.signature → Spells bit_string c.signature lent
    bits_spells is = (bits_good, is, rw is (in_whole _ (omega (arith, length-append {A = ℕ}))))

  pub two_algorithms : (x y : List ℕ) → x ≡ spelling algorithm_identifier c.tbs_certificate.signature → y ≡ spelling algorithm_identifier c.signature_algorithm → IsTrue (not (bytes_eq x y)) ↔ (c.tbs_certificate.signature ≢ c.signature_algorithm)
  two_algorithms x y is so = differ _ (same_bytes algorithm_identifier algorithm_identifier_lawful _ _ inner_good outer_good x y is so)

  pub self_issued : (x y : List ℕ) → x ≡ spelling name c.tbs_certificate.subject → y ≡ spelling name c.tbs_certificate.issuer → (bytes_eq x y ≡ true) ↔ (c.tbs_certificate.subject ≡ c.tbs_certificate.issuer)
  self_issued x y is so = same_bytes name rdn_sequence_lawful _ _ subject_good issuer_good x y is so

  pub other_issuer : (x y : List ℕ) (above : List (List AttributeTypeAndValue)) → x ≡ spelling name c.tbs_certificate.issuer → Spells name above y → IsTrue (not (bytes_eq x y)) ↔ (c.tbs_certificate.issuer ≢ above)
  other_issuer x y above is so = differ _ (same_bytes name rdn_sequence_lawful _ _ issuer_good so.0 x y is so.1)

pub same_names : (v w : List (List AttributeTypeAndValue)) (x y : List ℕ) → Spells name v x → Spells name w y → (bytes_eq x y ≡ true) ↔ (v ≡ w)
same_names v w x y is so = same_bytes name rdn_sequence_lawful v w is.0 so.0 x y is.1 so.1
