-- Who issued the certificates of the entries of an indirect CRL (RFC 5280 5.3.3).
use Rattle.std.specs.Prelude.{◌≡◌, ◌⊎◌, ◌&&◌, ℕ, Bool, List, [], ◌∷◌, Option, Some, None, Result, Ok, Err, MatchBool, bytes_eq, false}
use Rattle.std.specs.List.{list_any}
use Rattle.x509_cert.specs.declared.crl.revoked_cert.RevokedCert.{RevokedCert}
use Rattle.x509_ext.specs.LookUp.{Finds, members, with_oid}
use Rattle.x509_ext.specs.declared.extension.Extension.{Extension}
use Rattle.x509_der.specs.declared.error.Error.{Error}
use Rattle.x509_ext.specs.Identifiers.{id_ce}
use Rattle.x509_ext.specs.declared.pkix.name.general_name.GeneralName.{GeneralName}
use Rattle.x509_ext.specs.declared.pkix.name.general_name.GeneralName.TheVariants.{DirectoryName}
use Rattle.x509_name.specs.Names.{rdn_sequence_eq}
use Rattle.x509_name.specs.declared.attr.type_and_value.AttributeTypeAndValue.{AttributeTypeAndValue}
use Rattle.x509_ext.specs.CertificateIssuer.{certificate_issuer}
use Rattle.x509_ext.specs.declared.pkix.certificate_issuer.CertificateIssuer.{CertificateIssuer}

-- the extensions of an entry that name its issuer
abbrev pub issuers : {P : Type 0} → RevokedCert P → List Extension
issuers entry = with_oid (id_ce 29) (members entry.crl_entry_extensions)

-- what a look-up may answer where these have the identifier
abbrev pub FindsIssuer : List Extension → Result (Option (Bool × CertificateIssuer)) Error → Type 0
FindsIssuer extensions answer = Finds certificate_issuer (λ e. ⊥) Unit extensions answer

-- ---- the issuer of an entry

-- the first list where it has members, else the other
abbrev pub or_else : {T : Type 0} → List T → List T → List T
or_else [] others = others
or_else (first ∷ rest) others = first ∷ rest

-- those that hold at the last of the entries: its own, or where it has none those that hold at the entry before it
abbrev pub last_issuers : {P : Type 0} → List (RevokedCert P) → List Extension
last_issuers [] = []
last_issuers (entry ∷ entries) = or_else (last_issuers entries) (issuers entry)

-- the same answer, without its criticality
abbrev pub NamesIssuer : List Extension → Result (Option CertificateIssuer) Error → Type 0
NamesIssuer extensions (Ok None) = FindsIssuer extensions (Ok None)
NamesIssuer extensions (Ok (Some issuer)) = (critical : Bool) × FindsIssuer extensions (Ok (Some (critical, issuer)))
NamesIssuer extensions (Err e) = FindsIssuer extensions (Err e)

-- ---- the entry of an issuer

abbrev Name : Type 0
Name = List (List AttributeTypeAndValue)

-- the names of an entry's issuer, by those of the entry before it: the same, unless the entry has its own; None: the CRL's issuer
abbrev pub issuer_behind : Option (List GeneralName) → Option (Bool × CertificateIssuer) → Option (List GeneralName)
issuer_behind preceding None = preceding
issuer_behind preceding (Some found) = Some found.1.0

abbrev pub is_directory_name : Name → GeneralName → Bool
is_directory_name name (DirectoryName directory) = rdn_sequence_eq directory name
is_directory_name name other = false

-- whether the name is the CRL's issuer, or is among the names
abbrev pub is_issuer : Name → Name → Option (List GeneralName) → Bool
is_issuer own name None = rdn_sequence_eq own name
is_issuer own name (Some names) = list_any (λ general. is_directory_name name general) names

-- whether an entry has the number, and the name is its issuer
abbrev pub is_issued : {P : Type 0} → Name → Name → List ℕ → Option (List GeneralName) → RevokedCert P → Bool
is_issued own name number issuer entry = is_issuer own name issuer && bytes_eq entry.serial_number number

-- What is answered on entries, by the issuer of the entry before them: the first entry that is wanted, None where none is; or the refusal of the
-- first entry whose issuer is refused, unless the wanted entry is before it.
abbrev pub FindsIssued : {P : Type 0} → (Option (List GeneralName) → RevokedCert P → Bool) → Option (List GeneralName) → List (RevokedCert P) → Result (Option (RevokedCert P)) Error → Type 0
FindsIssued is_wanted preceding [] answer = answer ≡ Ok None
FindsIssued is_wanted preceding (entry ∷ entries) answer =
    ((e : Error) × FindsIssuer (issuers entry) (Err e) × (answer ≡ Err e))
    ⊎ ((found : Option (Bool × CertificateIssuer)) × FindsIssuer (issuers entry) (Ok found)
    × MatchBool (is_wanted (issuer_behind preceding found) entry)
    (answer ≡ Ok (Some entry))
    (FindsIssued is_wanted (issuer_behind preceding found) entries answer))
