-- CRLs of which the entries stay encoded: a CRL without its entries, and the elements of these (RFC 5280 5.1).
use Rattle.std.specs.Prelude.{◌≡◌, ℕ, List, [], map, Option, Some, None, option_map, Result, Ok, Err}
use Rattle.std.specs.Borrow.{Bor}
use Rattle.x509_base.specs.declared.profile.Raw.{Raw}
use Rattle.x509_cert.specs.AnySerial.{any_revoked_cert}
use Rattle.x509_cert.specs.Revoked.{entries}
use Rattle.x509_cert.specs.declared.crl.certificate_list.CertificateList.{CertificateList}
use Rattle.x509_cert.specs.declared.crl.revoked_cert.RevokedCert.{RevokedCert}
use Rattle.x509_cert.specs.declared.crl.tbs_cert_list.TbsCertList.{TbsCertList}
use Rattle.x509_der.specs.List.{list_reading}
use Rattle.x509_der.specs.Outcome.{IsRefusal}
use Rattle.x509_der.specs.declared.error.Error.{Error}
use Rattle.x509_der.specs.declared.error.ErrorKind.{ErrorKind}

-- ---- what stays of a CRL

-- the entry that a content of this identifier octet is, whatever its serial number
abbrev pub read_entry : ℕ → List ℕ → Result (RevokedCert Raw) ErrorKind
read_entry tag content = any_revoked_cert.reading tag content

-- the entries of which the octets are the elements, one after the other
abbrev pub read_entries : List ℕ → Result (List (RevokedCert Raw)) ErrorKind
read_entries octets = list_reading read_entry octets

-- the serial numbers of entries, in their order
abbrev pub serials : {P : Type 0} → List (RevokedCert P) → List (List ℕ)
serials {P} revoked = map (λ (e : RevokedCert P). e.serial_number) revoked

-- octets that are lent
abbrev pub lent_octets : List (Bor (List ℕ)) → List (List ℕ)
lent_octets slices = map (λ (slice : Bor (List ℕ)). slice.now) slices

-- what is kept of the list of entries: the elements of these; nothing of one that is left out
abbrev pub IsKept : Option (List (RevokedCert Raw)) → Option (List ℕ) → Type 0
IsKept None None = Unit {0}
IsKept None (Some octets) = ⊥
IsKept (Some revoked) None = ⊥
IsKept (Some revoked) (Some octets) = read_entries octets ≡ Ok revoked

-- the elements of the entries; none of a list that is left out
abbrev pub kept_octets : Option (List ℕ) → List ℕ
kept_octets None = []
kept_octets (Some octets) = octets

-- the list of entries without these, where there is one
abbrev pub emptied : {X : Type 0} → Option X → Option (List (RevokedCert Raw))
emptied list = option_map (λ _. []) list

-- the part that is signed, without the entries
abbrev pub part_without_entries : TbsCertList Raw → TbsCertList Raw
part_without_entries part = record {
  version = part.version;
  signature = part.signature;
  issuer = part.issuer;
  this_update = part.this_update;
  next_update = part.next_update;
  revoked_certificates = emptied part.revoked_certificates;
  crl_extensions = part.crl_extensions;
}

-- a CRL without the entries
abbrev pub without_entries : CertificateList Raw → CertificateList Raw
without_entries crl = record {
  tbs_cert_list = part_without_entries crl.tbs_cert_list;
  signature_algorithm = crl.signature_algorithm;
  signature = crl.signature;
}

-- the part that is signed stands in the first without its entries, and the octets are the elements of these
abbrev pub IsSplitPart : TbsCertList Raw → TbsCertList Raw → List ℕ → Type 0
IsSplitPart part front octets = (front ≡ part_without_entries part) × (read_entries octets ≡ Ok (entries part.revoked_certificates))

-- the same of a CRL
abbrev pub IsSplit : CertificateList Raw → CertificateList Raw → List ℕ → Type 0
IsSplit crl front octets = (front ≡ without_entries crl) × (read_entries octets ≡ Ok (entries crl.tbs_cert_list.revoked_certificates))

-- ---- what a call answers that splits

-- a call answers what is so related to the value that reading finds, or is refused as reading is, memory aside
abbrev pub GivesSo : {X Y : Type 0} → (X → Y → Type 0) → Result Y Error → Result X ErrorKind → Type 0
GivesSo {X} so (Ok y) reading = (value : X) × (reading ≡ Ok value) × so value y
GivesSo so (Err e) reading = IsRefusal e.kind reading

-- the same of a part of a sequence: the call leaves what follows the part
abbrev pub GivesSoBefore : {X Y : Type 0} → (X → Y → Type 0) → Result Y Error → List ℕ → Result (X × List ℕ) ErrorKind → Type 0
GivesSoBefore {X} so (Ok y) rest reading = (value : X) × (reading ≡ Ok (value, rest)) × so value y
GivesSoBefore so (Err e) rest reading = IsRefusal e.kind reading
