-- What a CRL's bytes lend spells its parts, and is compared as they are.
use Rattle.std.proofs.Common.{◌≡◌, ◌↔◌, ℕ, ◌≤◌, Bool, List, ◌++◌, length, Result, Ok, Err, ap, arith, length-append}
use Rattle.std.specs.Prelude.{IfOk, IfErr, IsTrue, MatchResult}
use Rattle.x509_base.specs.AlgorithmIdentifier.{algorithm_identifier}
use Rattle.x509_base.specs.Profiles.{rfc5280_serial_number}
use Rattle.x509_base.specs.Time.{time}
use Rattle.x509_base.specs.declared.profile.Rfc5280.{Rfc5280}
use Rattle.x509_cert.specs.CertificateList.{certificate_list_fields, rfc5280_certificate_list, tbs_cert_list_fields}
use Rattle.x509_cert.specs.RevokedCert.{revoked_cert}
use Rattle.x509_cert.specs.Version.{version}
use Rattle.x509_cert.specs.declared.crl.certificate_list.CertificateList.{CertificateList}
use Rattle.x509_der.specs.Element.{element, length_octets, limit}
use Rattle.x509_der.specs.Form.{Spells, spelling, universal}
use Rattle.x509_der.specs.Frames.{explicit, fields_good, fields_octets, optional_octets}
use Rattle.x509_der.specs.List.{list_of}
use Rattle.x509_der.specs.declared.tag.Tag.TheVariants.{Sequence}
use Rattle.x509_ext.specs.Extension.{extensions}
use Rattle.x509_name.specs.Names.{name}
use Rattle.x509_prim.specs.BitString.{bit_string}

inside_length : (tag : ℕ) (content : List ℕ) → length content ≤ length (element tag content)
unfolding element
inside_length tag content = omega (arith, length-append (length_octets (length content)) content)

module _ (list : CertificateList Rfc5280) (bytes : List ℕ) (spells : Spells rfc5280_certificate_list list bytes) where
  abbrev front : List ℕ
  front = optional_octets (spelling version) list.tbs_cert_list.version ++ (spelling algorithm_identifier list.tbs_cert_list.signature ++ (spelling name list.tbs_cert_list.issuer ++ spelling time list.tbs_cert_list.this_update))

  abbrev behind : List ℕ
  behind = optional_octets (spelling time) list.tbs_cert_list.next_update ++ (optional_octets (spelling (universal Sequence (list_of (revoked_cert rfc5280_serial_number)))) list.tbs_cert_list.revoked_certificates ++ optional_octets (spelling (explicit 0 extensions)) list.tbs_cert_list.crl_extensions)

  abbrev outside : List ℕ
  outside = spelling algorithm_identifier list.signature_algorithm ++ spelling bit_string list.signature

  laid_out : bytes ≡ element 48 (element 48 (front ++ behind) ++ outside)
  unfolding certificate_list_fields tbs_cert_list_fields fields_octets
  laid_out = spells.1

  pub inner_good : algorithm_identifier.good list.tbs_cert_list.signature
  unfolding certificate_list_fields tbs_cert_list_fields fields_good
  inner_good = spells.0.0.0.1.0

  pub issuer_good : name.good list.tbs_cert_list.issuer
  unfolding certificate_list_fields tbs_cert_list_fields fields_good
  issuer_good = spells.0.0.0.1.1.0

  pub outer_good : algorithm_identifier.good list.signature_algorithm
  unfolding certificate_list_fields fields_good
  outer_good = spells.0.1.0

  pub bits_good : bit_string.good list.signature
  unfolding certificate_list_fields fields_good
  bits_good = spells.0.1.1

  issuer_within : length (spelling name list.tbs_cert_list.issuer) ≤ limit
  issuer_within = omega (
    arith,
    ap length laid_out,
    spells.2,
    inside_length 48 (element 48 (front ++ behind) ++ outside),
    length-append (element 48 (front ++ behind)) outside,
    inside_length 48 (front ++ behind),
    length-append front behind,
    length-append (optional_octets (spelling version) list.tbs_cert_list.version) (spelling algorithm_identifier list.tbs_cert_list.signature ++ (spelling name list.tbs_cert_list.issuer ++ spelling time list.tbs_cert_list.this_update)),
    length-append (spelling algorithm_identifier list.tbs_cert_list.signature) (spelling name list.tbs_cert_list.issuer ++ spelling time list.tbs_cert_list.this_update),
    length-append (spelling name list.tbs_cert_list.issuer) (spelling time list.tbs_cert_list.this_update),
  )

  outside_within : length outside ≤ limit
  outside_within = omega (arith, ap length laid_out, spells.2, inside_length 48 (element 48 (front ++ behind) ++ outside), length-append (element 48 (front ++ behind)) outside)

  outer_within : length (spelling algorithm_identifier list.signature_algorithm) ≤ limit
  outer_within = omega (arith, outside_within, length-append (spelling algorithm_identifier list.signature_algorithm) (spelling bit_string list.signature))

  bits_within : length (spelling bit_string list.signature) ≤ limit
  bits_within = omega (arith, outside_within, length-append (spelling algorithm_identifier list.signature_algorithm) (spelling bit_string list.signature))

  -- what is lent spells them
  module _ (lent : List ℕ) where
    pub issuer_spells : lent ≡ spelling name list.tbs_cert_list.issuer → Spells name list.tbs_cert_list.issuer lent
    issuer_spells is = (issuer_good, is, rw is issuer_within)

    pub outer_spells : lent ≡ spelling algorithm_identifier list.signature_algorithm → Spells algorithm_identifier list.signature_algorithm lent
    outer_spells is = (outer_good, is, rw is outer_within)

    pub bits_spells : lent ≡ spelling bit_string list.signature → Spells bit_string list.signature lent
    bits_spells is = (bits_good, is, rw is bits_within)

-- two tests of which the first holds
pub joined : {E : Type 0} (A B : Type 0) (IsMemory : E → Type 0) (answer : Result Bool E) → A → IfOk answer (λ b. IsTrue b ↔ B) → IfErr answer IsMemory → MatchResult answer (λ b. IsTrue b ↔ (A × B)) IsMemory
joined A B IsMemory (Ok b) a h err = ((λ is. (a, h.0 is)), (λ both. h.1 both.1))
joined A B IsMemory (Err e) a h err = err
