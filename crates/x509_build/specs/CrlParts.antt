-- The signed parts that a builder of CRLs makes (RFC 5280 5.1.2).
use Rattle.sha1.specs.Sha1.{sha1}
use Rattle.std.specs.Prelude.{◌≡◌, ◌⊎◌, ℕ, Bool, false, List, [], ◌∷◌, Option, Some, None, Result, Ok, Err}
use Rattle.x509_base.specs.declared.algorithm_identifier.AlgorithmIdentifier.{AlgorithmIdentifier}
use Rattle.x509_base.specs.declared.profile.Rfc5280.{Rfc5280}
use Rattle.x509_base.specs.declared.time.Time.{Time}
use Rattle.x509_build.specs.declared.crl_builder.CrlBuilder.{CrlBuilder}
use Rattle.x509_build.specs.declared.error.Error as builder
use Rattle.x509_build.specs.declared.error.Error.TheVariants.{Asn1}
use Rattle.x509_build.specs.Answer.{Answer}
use Rattle.x509_build.specs.Parts.{no_algorithm}
use Rattle.x509_cert.specs.TbsCertificate.{NameList}
use Rattle.x509_cert.specs.declared.certificate.tbs_certificate.TbsCertificateInner.{TbsCertificateInner}
use Rattle.x509_cert.specs.declared.certificate.version.Version.TheVariants.{V2}
use Rattle.x509_cert.specs.declared.crl.tbs_cert_list.TbsCertList.{TbsCertList}
use Rattle.x509_der.specs.declared.error.Error.{Error}
use Rattle.x509_der.specs.declared.error.ErrorKind.TheVariants.{Memory}
use Rattle.x509_der.specs.Writing.{plain, writes}
use Rattle.x509_ext.specs.Identifiers.{id_ce}
use Rattle.x509_ext.specs.ToExtension.{Makes}
use Rattle.x509_ext.specs.declared.extension.Extension.{Extension}
use Rattle.x509_ext.specs.declared.pkix.subject_key_identifier.SubjectKeyIdentifier.{SubjectKeyIdentifier}
use Rattle.x509_ext.specs.AuthorityKeyIdentifier.{authority_key_identifier}
use Rattle.x509_ext.specs.declared.pkix.authority_key_identifier.AuthorityKeyIdentifier.{AuthorityKeyIdentifier}
use Rattle.x509_prim.specs.Integer.{unsigned_integer}

-- ---- the extensions of a CRL

-- what an issuer's certificate says of its key, and where it says nothing the digest of the key (RFC 5280 4.2.1.2, method 1)
abbrev pub identifier_of : Option (Bool × SubjectKeyIdentifier) → List ℕ → List ℕ
identifier_of None key = sha1 key
identifier_of (Some found) key = found.1.0

-- the identifier of the key, where a look-up in the issuer's certificate answers so
abbrev pub IdentifiesKey : (Result (Option (Bool × SubjectKeyIdentifier)) Error → Type 0) → List ℕ → List ℕ → Type 0
IdentifiesKey LooksUp key identifier = (found : Option (Bool × SubjectKeyIdentifier)) × LooksUp (Ok found) × (identifier ≡ identifier_of found key)

-- a key that is told by its identifier alone
abbrev pub told_by : List ℕ → AuthorityKeyIdentifier
told_by identifier = record { key_identifier = Some identifier; authority_cert_issuer = None; authority_cert_serial_number = None }

-- the CRL number extension (RFC 5280 5.2.3)
abbrev pub MakesNumber : List ℕ → Result Extension Error → Type 0
MakesNumber number made = Makes (id_ce 20) false unsigned_integer (writes plain number) made

-- the AKI extension (RFC 5280 5.2.1)
abbrev pub MakesIssuerKey : List ℕ → Result Extension Error → Type 0
MakesIssuerKey identifier made = Makes (id_ce 35) false authority_key_identifier (writes plain (told_by identifier)) made

-- both; or out of memory, or one of them can't be made
abbrev pub MakesExtensions : List ℕ → List ℕ → Result (List Extension) Error → Type 0
MakesExtensions number identifier (Ok made) = (first : Extension) × (second : Extension) × MakesNumber number (Ok first) × MakesIssuerKey identifier (Ok second) × (made ≡ first ∷ second ∷ [])
MakesExtensions number identifier (Err e) = (e.kind ≡ Memory) ⊎ (MakesNumber number (Err e) ⊎ MakesIssuerKey identifier (Err e))

-- ---- the part as a builder is made with it

abbrev pub first_part : {P : Type 0} → NameList → Time → List Extension → TbsCertList P
first_part issuer this_update extensions = record {
  version = Some V2;
  signature = no_algorithm;
  issuer = issuer;
  this_update = this_update;
  next_update = None;
  revoked_certificates = None;
  crl_extensions = Some extensions;
}

-- the octets of the key in a certificate
abbrev pub key_octets : TbsCertificateInner Rfc5280 → List ℕ
key_octets part = part.subject_public_key_info.subject_public_key.octets

-- a builder of a CRL with that CRL number and that thisUpdate, issued by the subject of a certificate
abbrev pub Starts : {P : Type 0} → (Result (Option (Bool × SubjectKeyIdentifier)) Error → Type 0) → TbsCertificateInner Rfc5280 → List ℕ → Time → CrlBuilder P → Type 0
Starts LooksUp issuer number this_update made =
    (identifier : List ℕ) × (extensions : List Extension) × IdentifiesKey LooksUp (key_octets issuer) identifier × MakesExtensions number identifier (Ok extensions)
    × (made ≡ record { tbs = first_part issuer.subject this_update extensions; extensions = extensions; finalized = None })

-- why there is none: the look-up is refused, or an extension can't be made
abbrev pub RefusesStart : (Result (Option (Bool × SubjectKeyIdentifier)) Error → Type 0) → TbsCertificateInner Rfc5280 → List ℕ → builder.Error → Type 0
RefusesStart LooksUp issuer number (Asn1 e) = LooksUp (Err e) ⊎ ((identifier : List ℕ) × IdentifiesKey LooksUp (key_octets issuer) identifier × MakesExtensions number identifier (Err e))
RefusesStart LooksUp issuer number _ = ⊥

-- ---- the part as it stands, and the next

-- the certificates, none where the list is left out
abbrev pub members : {X : Type 0} → Option (List X) → List X
members None = []
members (Some revoked) = revoked

-- that of the last time, which may be the part itself; before any the part as it was at first
abbrev pub current_part : {P : Type 0} → Option (Option (TbsCertList P)) → TbsCertList P → TbsCertList P
current_part None part = record part { next_update = None; revoked_certificates = None }
current_part (Some None) part = part
current_part (Some (Some last)) part = last

-- the part with the extensions that the builder has, and the signer's algorithm; nothing refuses it
abbrev pub next_part : {P : Type 0} → TbsCertList P → List Extension → AlgorithmIdentifier → Answer (TbsCertList P)
next_part part extensions algorithm = record { value = record part { signature = algorithm; crl_extensions = Some extensions }; refuses = λ e. ⊥ }
