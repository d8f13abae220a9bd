-- CRLs and their entries that are lent from their bytes (RFC 5280 5.1).
use Rattle.std.specs.List.{list_any}
use Rattle.std.specs.Prelude.{◌≡◌, ◌||◌, ◌∷◌, Bool, false, List, [], bytes_eq, length, ℕ, Option, option_copied, option_map, MatchOption, Result, Ok}
use Rattle.x509_base.specs.AlgorithmIdentifier.{algorithm_identifier}
use Rattle.x509_base.specs.declared.time.Time.{Time}
use Rattle.x509_cert.specs.CertificateList.{certificate_list, tbs_cert_list}
use Rattle.x509_cert.specs.Revoked.{IsFirstWith, entries, with_serial}
use Rattle.x509_cert.specs.declared.crl.certificate_list.CertificateList.{CertificateList}
use Rattle.x509_cert.specs.declared.certificate.version.Version.{Version}
use Rattle.x509_cert.specs.declared.crl.revoked_cert.RevokedCert.{RevokedCert}
use Rattle.x509_cert.specs.declared.crl.tbs_cert_list.TbsCertList.{TbsCertList}
use Rattle.x509_cert.specs.RevokedCert.{revoked_cert, revoked_cert_contents}
use Rattle.x509_check.specs.ExtensionRefs.{extensions_left}
use Rattle.x509_check.specs.Lending.{listed}
use Rattle.x509_check.specs.declared.lent.entry.RevokedCertRef.{RevokedCertRef}
use Rattle.x509_check.specs.declared.lent.extensions.ExtensionRefs.{ExtensionRefs}
use Rattle.x509_check.specs.declared.lent.revoked.ListFields.{ListFields}
use Rattle.x509_check.specs.declared.lent.revoked.ListParts.{ListParts}
use Rattle.x509_der.specs.Form.{Form, spelling, universal, whole_reading}
use Rattle.x509_der.specs.List.{list_of, list_reading}
use Rattle.x509_der.specs.Outcome.{◌>>=◌}
use Rattle.x509_der.specs.declared.error.ErrorKind.{ErrorKind}
use Rattle.x509_der.specs.declared.tag.Tag.TheVariants.{Sequence}
use Rattle.x509_ext.specs.Extension.{extensions}
use Rattle.x509_ext.specs.Identifiers.{id_ce}
use Rattle.x509_ext.specs.LookUp.{members}
use Rattle.x509_ext.specs.declared.extension.Extension.{Extension}
use Rattle.x509_name.specs.Names.{name}
use Rattle.x509_prim.specs.BitString.{bit_string}

-- the entry that is lent
abbrev pub lent_entry : {P : Type 0} → RevokedCertRef → RevokedCert P
lent_entry e = record {
  serial_number = e.serial_number.now;
  revocation_date = e.revocation_date;
  crl_entry_extensions = option_map extensions_left e.crl_entry_extensions;
}

-- what is lent of the entry where its date isn't decoded: the octets of its content, the number, and the extensions
pub record IsUndated {P : Type 0} (check : List ℕ → Result Unit ErrorKind) (octets number : List ℕ) (lent : Option ExtensionRefs) (entry : RevokedCert P) : Type 0 where
  pub read : (revoked_cert_contents check).reading octets ≡ Ok entry
  pub number_is : number ≡ entry.serial_number
  pub extensions_are : option_map extensions_left lent ≡ entry.crl_entry_extensions

-- What a look-up answers: the first of these entries with the number, or None exactly where none has it.
abbrev pub FindsEntry : {P : Type 0} → List ℕ → List (RevokedCert P) → Option RevokedCertRef → Type 0
FindsEntry number revoked answer = MatchOption answer (with_serial number revoked ≡ []) (λ found. IsFirstWith number revoked (lent_entry found))

-- the same of the entries of a CRL
abbrev pub FindsInList : {P : Type 0} → List ℕ → CertificateList P → Option RevokedCertRef → Type 0
FindsInList number list answer = FindsEntry number (entries list.tbs_cert_list.revoked_certificates) answer

-- the entries of which the bytes are the elements, one after the other
abbrev pub entries_in : {P : Type 0} → (List ℕ → Result Unit ErrorKind) → List ℕ → List (RevokedCert P)
entries_in check bytes = listed (list_reading (revoked_cert check).reading bytes)

-- ---- what an entry's extensions ask

-- An extension is critical, so that the CRL can't be used where it isn't processed (RFC 5280 5.3), or is a CertificateIssuer, which says who issued
-- the certificate of its entry and those of the entries behind it (5.3.3).
abbrev pub marks : Extension → Bool
marks e = e.critical || bytes_eq e.extn_id (id_ce 29)

-- the entry has such an extension
abbrev pub is_marked : {P : Type 0} → RevokedCert P → Bool
is_marked entry = list_any marks (members entry.crl_entry_extensions)

-- the extensions of an entry that gives a reason, in an extension that isn't critical, and nothing else (5.3.1)
abbrev pub reason_alone : ℕ → List Extension
reason_alone reason = record { extn_id = id_ce 21; critical = false; extn_value = 0x0A ∷ 0x01 ∷ reason ∷ [] } ∷ []

-- ---- the fields of a CRL

-- SEQUENCE OF RevokedCert
abbrev pub entry_list : {P : Type 0} → (List ℕ → Result Unit ErrorKind) → Form (List (RevokedCert P))
entry_list check = universal Sequence (list_of (revoked_cert check))

-- The fields of the signed part, each as its own element, or as what it says, how many entries there are, and whether one is marked. Of the extensions it
-- is the element inside the explicit tag.
pub record FieldSpellings : Type 0 where
  pub version : Option Version
  pub signature : List ℕ
  pub issuer : List ℕ
  pub this_update : Time
  pub next_update : Option Time
  pub revoked_certificates : Option (List ℕ)
  pub entry_count : ℕ
  pub has_marked : Bool
  pub crl_extensions : Option (List ℕ)

pub record ListSpellings : Type 0 where
  pub tbs_cert_list : List ℕ
  pub fields : FieldSpellings
  pub signature_algorithm : List ℕ
  pub signature : List ℕ

-- those of a CRL
abbrev pub field_spellings : {P : Type 0} → (List ℕ → Result Unit ErrorKind) → TbsCertList P → FieldSpellings
field_spellings check part = record {
  version = part.version;
  signature = spelling algorithm_identifier part.signature;
  issuer = spelling name part.issuer;
  this_update = part.this_update;
  next_update = part.next_update;
  revoked_certificates = option_map (spelling (entry_list check)) part.revoked_certificates;
  entry_count = length (entries part.revoked_certificates);
  has_marked = list_any is_marked (entries part.revoked_certificates);
  crl_extensions = option_map (spelling extensions) part.crl_extensions;
}

abbrev pub list_spellings : {P : Type 0} → (List ℕ → Result Unit ErrorKind) → CertificateList P → ListSpellings
list_spellings check list = record {
  tbs_cert_list = spelling (tbs_cert_list check) list.tbs_cert_list;
  fields = field_spellings check list.tbs_cert_list;
  signature_algorithm = spelling algorithm_identifier list.signature_algorithm;
  signature = spelling bit_string list.signature;
}

-- what is lent
abbrev pub lent_fields : ListFields → FieldSpellings
lent_fields f = record {
  version = f.version;
  signature = f.signature.now;
  issuer = f.issuer.now;
  this_update = f.this_update;
  next_update = f.next_update;
  revoked_certificates = option_copied f.revoked_certificates;
  entry_count = f.entry_count;
  has_marked = f.has_marked;
  crl_extensions = option_copied f.crl_extensions;
}

abbrev pub lent_parts : ListParts → ListSpellings
lent_parts p = record { tbs_cert_list = p.tbs_cert_list.now; fields = lent_fields p.fields; signature_algorithm = p.signature_algorithm.now; signature = p.signature.now }

-- those of the CRL that the bytes are the encoding of
abbrev pub parts_reading : (P : Type 0) → (List ℕ → Result Unit ErrorKind) → List ℕ → Result ListSpellings ErrorKind
parts_reading P check bytes = whole_reading (certificate_list {P = P} check).reading bytes >>= λ list. Ok (list_spellings check list)
