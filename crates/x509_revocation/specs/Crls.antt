-- What may stand against the use of a CRL (RFC 5280 5.1, 5.2), whichever certificate is asked for.
use Rattle.std.specs.Prelude.{◌≡◌, ◌<◌, ◌≤◌, ◌⊎◌, ℕ, Bool, true, List, [], ◌∷◌, Option, Some, None}
use Rattle.x509_base.specs.CivilTime.{CivilTime, unix_seconds}
use Rattle.x509_base.specs.Time.{date_time_of}
use Rattle.x509_base.specs.declared.profile.Rfc5280.{Rfc5280}
use Rattle.x509_base.specs.declared.time.Time.{Time}
use Rattle.x509_cert.specs.Revoked.{entries}
use Rattle.x509_cert.specs.Signed.{IsSignedPart}
use Rattle.x509_cert.specs.declared.crl.certificate_list.CertificateList.{CertificateList}
use Rattle.x509_cert.specs.declared.crl.revoked_cert.RevokedCert.{RevokedCert}
use Rattle.x509_ext.specs.CrlNumber.{base_crl_number, crl_number}
use Rattle.x509_ext.specs.Identifiers.{id_ce}
use Rattle.x509_ext.specs.IssuingDistributionPoint.{issuing_distribution_point}
use Rattle.x509_ext.specs.LookUp.{members, with_oid}
use Rattle.x509_ext.specs.declared.extension.Extension.{Extension}
use Rattle.x509_ext.specs.declared.pkix.crl_number.BaseCrlNumber.{BaseCrlNumber}
use Rattle.x509_ext.specs.declared.pkix.crl_number.CrlNumber.{CrlNumber}
use Rattle.x509_ext.specs.declared.pkix.issuing_distribution_point.IssuingDistributionPoint.{IssuingDistributionPoint}
use Rattle.x509_match.specs.Matching.{NamesMatch}
use Rattle.x509_path.specs.Certificates.{Accepting, HasPayload, IsReadable}
use Rattle.x509_path.specs.declared.anchor.Anchor.{Anchor}
use Rattle.x509_prim.specs.Integer.{number}

abbrev pub Crl : Type 0
Crl = CertificateList Rfc5280

abbrev pub Entry : Type 0
Entry = RevokedCert Rfc5280

abbrev pub entries_of : Crl → List Entry
entries_of crl = entries crl.tbs_cert_list.revoked_certificates

abbrev pub crl_extensions : Crl → List Extension
crl_extensions crl = members crl.tbs_cert_list.crl_extensions

abbrev pub entry_extensions : Entry → List Extension
entry_extensions entry = members entry.crl_entry_extensions

-- its IssuingDistributionPoint (5.2.5)
abbrev pub HasList : Crl → Option IssuingDistributionPoint → Type 0
HasList crl None = with_oid (id_ce 28) (crl_extensions crl) ≡ []
HasList crl (Some point) = HasPayload issuing_distribution_point (id_ce 28) (crl_extensions crl) point

-- ---- dates (5.1.2.4, 5.1.2.5)

-- the moment isn't behind the next update; where there is none, it is as the setting has it
abbrev pub IsBeforeNext : Bool → CivilTime → Option Time → Type 0
IsBeforeNext without_next moment None = without_next ≡ true
IsBeforeNext without_next moment (Some next) = unix_seconds moment ≤ unix_seconds (date_time_of next)

-- the moment isn't before this update either
abbrev pub IsInDate : Bool → CivilTime → Crl → Type 0
IsInDate without_next moment crl =
    (unix_seconds (date_time_of crl.tbs_cert_list.this_update) ≤ unix_seconds moment)
    × IsBeforeNext without_next moment crl.tbs_cert_list.next_update

-- ---- extensions

-- A CRL with a critical extension that isn't processed says nothing of any certificate (5.2). Processed are an IssuingDistributionPoint and a
-- delta CRL indicator that can be read.
abbrev pub IsProcessed : Extension → Type 0
IsProcessed e = e.critical ≡ true → IsReadable issuing_distribution_point (id_ce 28) e ⊎ IsReadable base_crl_number (id_ce 27) e

-- ---- signature

-- the algorithm that is signed is that outside (5.1.1.2)
abbrev pub HasOneAlgorithm : Crl → Type 0
HasOneAlgorithm crl = crl.tbs_cert_list.signature ≡ crl.signature_algorithm

-- its bits are accepted as a signature of what is signed in the bytes as they stand, for the key
abbrev pub IsSignedBy : Accepting → Anchor → List ℕ → Crl → Type 0
IsSignedBy accepts signer bytes crl = (signed : List ℕ) × IsSignedPart bytes signed × (accepts crl.signature_algorithm signer.key signed crl.signature ≡ true)

-- the same of a signer whose name and key may be none: that one signs nothing
abbrev pub IsSigned : Accepting → Option Anchor → List ℕ → Crl → Type 0
IsSigned accepts None bytes crl = ⊥
IsSigned accepts (Some signer) bytes crl = IsSignedBy accepts signer bytes crl

-- the signer's name is that of the CRL's issuer
abbrev pub IsOfSigner : Option Anchor → Crl → Type 0
IsOfSigner None crl = ⊥
IsOfSigner (Some signer) crl = NamesMatch signer.name crl.tbs_cert_list.issuer

-- both signers have one key
abbrev pub HaveOneKey : Option Anchor → Option Anchor → Type 0
HaveOneKey (Some a) (Some b) = a.key ≡ b.key
HaveOneKey _ _ = ⊥

-- ---- what a complete CRL and a delta CRL are compared by (5.2.3, 5.2.4)

-- one extension has the identifier, and these octets
abbrev pub HasOctets : List ℕ → List Extension → List ℕ → Type 0
HasOctets oid extensions octets = (e : Extension) × (with_oid oid extensions ≡ e ∷ []) × (e.extn_value ≡ octets)

-- both have one extension with the identifier, with the same octets, or neither has one
abbrev pub HaveSame : List ℕ → List Extension → List Extension → Type 0
HaveSame oid a b = ((with_oid oid a ≡ []) × (with_oid oid b ≡ [])) ⊎ ((octets : List ℕ) × HasOctets oid a octets × HasOctets oid b octets)

-- Both are those of one issuer for one scope (5): the names of the issuers match, and the octets of the IssuingDistributionPoint are the same, with its
-- point, its reasons and its flags; or neither has one.
pub record HaveOneScope (a b : Crl) : Type 0 where
  pub issuer : NamesMatch a.tbs_cert_list.issuer b.tbs_cert_list.issuer
  pub scope : HaveSame (id_ce 28) (crl_extensions a) (crl_extensions b)

-- the CRL number
abbrev pub HasNumber : Crl → ℕ → Type 0
HasNumber crl n = (read : CrlNumber) × HasPayload crl_number (id_ce 20) (crl_extensions crl) read × (number read.0 ≡ n)

-- that of the base, which a delta CRL has
abbrev pub HasBase : Crl → ℕ → Type 0
HasBase crl n = (read : BaseCrlNumber) × HasPayload base_crl_number (id_ce 27) (crl_extensions crl) read × (number read.0 ≡ n)

-- The complete one is the base of the delta CRL or came behind it, and before the delta CRL.
abbrev pub AreInOrder : Crl → Crl → Type 0
AreInOrder complete delta =
    (base : ℕ) × (own : ℕ) × (next : ℕ) × HasBase delta base × HasNumber complete own × HasNumber delta next × (base ≤ own) × (own < next)

-- ---- which of two CRLs for one scope is the current one (5.2.3)

-- its number, if it has one that can be read
abbrev pub IsNumbered : Crl → Option ℕ → Type 0
IsNumbered crl None = (n : ℕ) → HasNumber crl n → ⊥
IsNumbered crl (Some n) = HasNumber crl n

-- The first number is the lower one, and none is lower than any. Where they don't differ, it is as the dates have it.
abbrev pub IsBelow : Option ℕ → Option ℕ → Type 0 → Type 0
IsBelow None None dates = dates
IsBelow None (Some m) dates = Unit {0}
IsBelow (Some n) None dates = ⊥
IsBelow (Some n) (Some m) dates = (n < m) ⊎ ((n ≡ m) × dates)

abbrev pub this_second : Crl → ℕ
this_second crl = unix_seconds (date_time_of crl.tbs_cert_list.this_update)

-- the first is older: its number is the lower one, and where they don't differ its this update is the earlier one
abbrev pub IsOlder : Crl → Crl → Type 0
IsOlder a b = (n : Option ℕ) × (m : Option ℕ) × IsNumbered a n × IsNumbered b m × IsBelow n m (this_second a < this_second b)
