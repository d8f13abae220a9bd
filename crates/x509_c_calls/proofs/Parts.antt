-- Where the parts of a certificate stand in the bytes that spell it.
use Rattle.std.proofs.Common.{◌≡◌, ℕ, Bool, true, false, not, List, [], ◌∷◌, ◌++◌, drop, Option, Some, None, is_some, Result, refl, sym, ap, ◌∙◌, append_assoc, Bor}
use Rattle.std.proofs.lemmas.List.{append-nil}
use Rattle.std.specs.Option.{option_copied}
use Rattle.x509_base.specs.AlgorithmIdentifier.{algorithm_identifier}
use Rattle.x509_base.specs.SubjectPublicKeyInfo.{subject_public_key_info}
use Rattle.x509_base.specs.Serial.{serial_number}
use Rattle.x509_base.specs.Validity.{validity}
use Rattle.x509_c_calls.specs.View.{AreBitsAt}
use Rattle.x509_c_calls.specs.Place.{IsAt, IsField}
use Rattle.x509_c_calls.specs.declared.place.span.Span.{Span}
use Rattle.x509_cert.specs.Certificate.{certificate, certificate_fields}
use Rattle.x509_cert.specs.TbsCertificate.{tbs_certificate_fields}
use Rattle.x509_cert.specs.Version.{version, version_default, is_first}
use Rattle.x509_cert.specs.declared.certificate.certificate.CertificateInner.{CertificateInner}
use Rattle.x509_cert.specs.declared.certificate.version.Version.{Version}
use Rattle.x509_cert.specs.declared.certificate.version.Version.TheVariants.{V1, V2, V3}
use Rattle.x509_der.specs.Element.{element, is_identifier, is_universal}
use Rattle.x509_der.specs.declared.error.ErrorKind.{ErrorKind}
use Rattle.x509_der.specs.Frames.{explicit, implicit, optional_octets, default_octets, fields_octets}
use Rattle.x509_der.specs.Form.{Spells, spelling}
use Rattle.x509_ext.specs.Extension.{extensions}
use Rattle.x509_name.specs.Names.{name}
use Rattle.x509_prim.specs.BitString.{BitParts, bit_string}

-- ---- identifiers

pub is_sequence : is_identifier 48 ≡ true
unfolding is_identifier is_universal
is_sequence = refl

pub is_integer : is_identifier 2 ≡ true
unfolding is_identifier is_universal
is_integer = refl

-- ---- fields that may be left out

version_is : (v : Version) → IsField (not (is_first v)) (default_octets version_default (spelling (explicit 0 version)) v)
unfolding default_octets is_identifier is_universal
version_is V1 = refl
version_is V2 = (160, spelling version V2, refl, refl)
version_is V3 = (160, spelling version V3, refl, refl)

issuer_is : (id : Option BitParts) → IsField (is_some id) (optional_octets (spelling (implicit 1 bit_string)) id)
unfolding is_identifier is_universal
issuer_is None = refl
issuer_is (Some bits) = (129, bit_string.content bits, refl, refl)

subject_is : (id : Option BitParts) → IsField (is_some id) (optional_octets (spelling (implicit 2 bit_string)) id)
unfolding is_identifier is_universal
subject_is None = refl
subject_is (Some bits) = (130, bit_string.content bits, refl, refl)

pub version_field : (v : Version) (b : Bool) → b ≡ not (is_first v) → IsField b (default_octets version_default (spelling (explicit 0 version)) v)
version_field v b is = rw is (version_is v)

pub issuer_field : (id : Option BitParts) (b : Bool) → b ≡ is_some id → IsField b (optional_octets (spelling (implicit 1 bit_string)) id)
issuer_field id b is = rw is (issuer_is id)

pub subject_field : (id : Option BitParts) (b : Bool) → b ≡ is_some id → IsField b (optional_octets (spelling (implicit 2 bit_string)) id)
subject_field id b is = rw is (subject_is id)

pub same_presence : {X : Type 0} (r : Option (Bor X)) (o : Option X) → option_copied r ≡ o → is_some r ≡ is_some o
same_presence None o e = ap is_some e
same_presence (Some x) o e = ap is_some e

-- bits under a tag that may be left out
pub bits_are : (tag : ℕ) (o : Option BitParts) (bytes more : List ℕ) (place : ℕ) (span : Span) (unused : ℕ) (is_there : Bool) → is_identifier tag ≡ true → is_there ≡ is_some o
    → drop place bytes ≡ optional_octets (λ bits. element tag (bit_string.content bits)) o ++ more
    → (is_there ≡ true → (t u : ℕ) (octets behind : List ℕ) → is_identifier t ≡ true → drop place bytes ≡ element t (u ∷ octets) ++ behind → IsAt octets behind bytes span × (unused ≡ u))
    → (is_there ≡ false → (span ≡ record { place = 0; len = 0 }) × (unused ≡ 0)) → AreBitsAt o more bytes span unused
bits_are tag None bytes more place span unused is_there is_tag is stands there absent = absent is
bits_are tag (Some bits) bytes more place span unused is_there is_tag is stands there absent = there is tag bits.unused bits.octets more is_tag stands

-- parts in two groups stand one behind the other
one_after_the_other : (a b c d e f g h i j more : List ℕ) → ((a ++ (b ++ (c ++ (d ++ e)))) ++ (f ++ (g ++ (h ++ (i ++ j))))) ++ more ≡ a ++ (b ++ (c ++ (d ++ (e ++ (f ++ (g ++ (h ++ (i ++ (j ++ more)))))))))
one_after_the_other a b c d e f g h i j more = simp append_assoc refl

-- ---- the whole

module _ {P : Type 0} (check : List ℕ → Result Unit ErrorKind) (value : CertificateInner P) (bytes : List ℕ) (spells : Spells (certificate check) value bytes) where
  abbrev pub version_text : List ℕ
  version_text = default_octets version_default (spelling (explicit 0 version)) value.tbs_certificate.version

  abbrev pub extensions_text : List ℕ
  extensions_text = optional_octets (spelling (explicit 3 extensions)) value.tbs_certificate.extensions

  abbrev pub behind_part : List ℕ
  behind_part = spelling algorithm_identifier value.signature_algorithm ++ spelling bit_string value.signature

  abbrev pub part_text : List ℕ
  part_text =
      (version_text ++ (spelling (serial_number check) value.tbs_certificate.serial_number ++ (spelling algorithm_identifier value.tbs_certificate.signature ++ (spelling name value.tbs_certificate.issuer ++ spelling validity value.tbs_certificate.validity))))
      ++ (spelling name value.tbs_certificate.subject ++ (spelling subject_public_key_info value.tbs_certificate.subject_public_key_info ++ (optional_octets (spelling (implicit 1 bit_string)) value.tbs_certificate.issuer_unique_id ++ (optional_octets (spelling (implicit 2 bit_string)) value.tbs_certificate.subject_unique_id ++ extensions_text))))

  pub whole : bytes ≡ element 48 (element 48 part_text ++ behind_part)
  unfolding fields_octets certificate_fields tbs_certificate_fields
  whole = spells.1

  pub outside : drop 0 bytes ≡ element 48 (element 48 part_text ++ behind_part) ++ []
  outside = whole ∙ sym (append-nil (element 48 (element 48 part_text ++ behind_part)))

  pub inside : (element 48 part_text ++ behind_part) ++ [] ≡ element 48 part_text ++ behind_part
  inside = append-nil (element 48 part_text ++ behind_part)

  -- the fields, one after the other
  pub laid_out : (more : List ℕ) → part_text ++ more ≡ version_text ++ (spelling (serial_number check) value.tbs_certificate.serial_number ++ (spelling algorithm_identifier value.tbs_certificate.signature ++ (spelling name value.tbs_certificate.issuer ++ (spelling validity value.tbs_certificate.validity ++ (spelling name value.tbs_certificate.subject ++ (spelling subject_public_key_info value.tbs_certificate.subject_public_key_info ++ (optional_octets (spelling (implicit 1 bit_string)) value.tbs_certificate.issuer_unique_id ++ (optional_octets (spelling (implicit 2 bit_string)) value.tbs_certificate.subject_unique_id ++ (extensions_text ++ more)))))))))
  laid_out more =
      one_after_the_other version_text (spelling (serial_number check) value.tbs_certificate.serial_number) (spelling algorithm_identifier value.tbs_certificate.signature) (spelling name value.tbs_certificate.issuer) (spelling validity value.tbs_certificate.validity)
      (spelling name value.tbs_certificate.subject) (spelling subject_public_key_info value.tbs_certificate.subject_public_key_info) (optional_octets (spelling (implicit 1 bit_string)) value.tbs_certificate.issuer_unique_id) (optional_octets (spelling (implicit 2 bit_string)) value.tbs_certificate.subject_unique_id) extensions_text more
