-- The entries of a CRL: who issued their certificates, and which of them is that of a certificate (RFC 5280 5.3, 6.3.3 (i), (j)).
use Rattle.std.specs.Prelude.{◌≡◌, ◌⊎◌, ℕ, Bool, true, List, [], ◌∷◌, Option, Some, None}
use Rattle.std.specs.List.{All}
use Rattle.x509_cert.specs.Issuers.{issuers, or_else}
use Rattle.x509_der.specs.Form.{Spells}
use Rattle.x509_ext.specs.CertificateIssuer.{certificate_issuer}
use Rattle.x509_ext.specs.CrlReason.{crl_reason}
use Rattle.x509_ext.specs.Identifiers.{id_ce}
use Rattle.x509_ext.specs.declared.extension.Extension.{Extension}
use Rattle.x509_ext.specs.declared.pkix.certificate_issuer.CertificateIssuer.{CertificateIssuer}
use Rattle.x509_ext.specs.declared.pkix.name.general_name.GeneralName.TheVariants.{DirectoryName}
use Rattle.x509_match.specs.Matching.{NamesMatch}
use Rattle.x509_path.specs.Certificates.{Certificate, IsReadable}
use Rattle.x509_revocation.specs.Crls.{Crl, Entry, entries_of, entry_extensions}
use Rattle.x509_revocation.specs.Names.{HasDirectoryName, HasMatch, Name}

-- ---- what may stand against the use of a CRL

-- A CRL with a critical extension of an entry that isn't processed says nothing of any certificate (5.3). Processed are a reason and a
-- CertificateIssuer that can be read.
abbrev pub IsProcessedInEntry : Extension → Type 0
IsProcessedInEntry e = e.critical ≡ true → IsReadable crl_reason (id_ce 21) e ⊎ IsReadable certificate_issuer (id_ce 29) e

-- the octets are those of a CertificateIssuer with a directory name
abbrev pub IsUsableIssuer : List ℕ → Type 0
IsUsableIssuer octets = (issuer : CertificateIssuer) × Spells certificate_issuer issuer octets × HasDirectoryName issuer.0

-- It says nothing either where an entry has a CertificateIssuer that isn't one in an indirect CRL, or that can't be used, or several.
abbrev pub AreUsableIssuers : Bool → List Extension → Type 0
AreUsableIssuers indirect [] = Unit {0}
AreUsableIssuers indirect (issuer ∷ []) = (indirect ≡ true) × IsUsableIssuer issuer.extn_value
AreUsableIssuers indirect (first ∷ second ∷ others) = ⊥

abbrev pub IsUsable : Bool → Entry → Type 0
IsUsable indirect entry = All IsProcessedInEntry (entry_extensions entry) × AreUsableIssuers indirect (issuers entry)

-- ---- who issued the certificates of the entries (5.3.3)

-- an entry, and the CertificateIssuer that is in force there; none where that is the CRL's issuer
pub record Listed : Type 0 where
  pub entry : Entry
  pub in_force : List Extension

-- In force is an entry's own, and where it has none that of the entry before it.
abbrev pub listed_behind : List Extension → List Entry → List Listed
listed_behind before [] = []
listed_behind before (entry ∷ entries) = record { entry = entry; in_force = or_else (issuers entry) before } ∷ listed_behind (or_else (issuers entry) before) entries

-- those of a CRL: before the first CertificateIssuer that of the CRL is in force
abbrev pub listed : Crl → List Listed
listed crl = listed_behind [] (entries_of crl)

-- the octets are those of a CertificateIssuer of whose directory names one matches
abbrev pub NamesIssuer : Name → List ℕ → Type 0
NamesIssuer name octets = (issuer : CertificateIssuer) × Spells certificate_issuer issuer octets × HasMatch (DirectoryName name) issuer.0

-- the name is that of the issuer where this is in force, in a CRL of that issuer
abbrev pub IsIssuer : Name → Name → List Extension → Type 0
IsIssuer own name [] = NamesMatch own name
IsIssuer own name (issuer ∷ others) = NamesIssuer name issuer.extn_value

-- ---- the entry of a certificate (6.3.3 (i), (j))

-- it has the issuer and the serial number
abbrev pub IsOf : Certificate → Crl → Listed → Type 0
IsOf certificate crl listed =
    (listed.entry.serial_number ≡ certificate.tbs_certificate.serial_number)
    × IsIssuer crl.tbs_cert_list.issuer certificate.tbs_certificate.issuer listed.in_force

-- the first of these that is that of the certificate; None exactly where none is
abbrev pub FindsAmong : Certificate → Crl → List Listed → Option Entry → Type 0
FindsAmong certificate crl [] found = found ≡ None
FindsAmong certificate crl (listed ∷ others) found =
    (IsOf certificate crl listed × (found ≡ Some listed.entry))
    ⊎ ((IsOf certificate crl listed → ⊥) × FindsAmong certificate crl others found)

abbrev pub FindsEntry : Certificate → Crl → Option Entry → Type 0
FindsEntry certificate crl found = FindsAmong certificate crl (listed crl) found
