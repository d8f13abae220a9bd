-- What is lent of a CRL's bytes.
use Rattle.std.proofs.Common.{◌≡◌, ℕ, ◌≤◌, List, ◌++◌, length, Option, Some, None, option_map, Bor, Result, Ok, refl, sym, ap, ◌∙◌, subst, arith, length-append}
use Rattle.std.specs.Option.{option_copied}
use Rattle.std.specs.Prelude.{IfSome}
use Rattle.x509_base.specs.AlgorithmIdentifier.{algorithm_identifier}
use Rattle.x509_base.specs.Checked.{CheckRefuses}
use Rattle.x509_base.specs.Time.{time}
use Rattle.x509_cert.specs.CertificateList.{certificate_list, certificate_list_fields, certificate_list_lawful, tbs_cert_list, tbs_cert_list_fields}
use Rattle.x509_cert.specs.RevokedCert.{revoked_cert, revoked_cert_lawful}
use Rattle.x509_cert.specs.Signed.{IsSignedPart}
use Rattle.x509_cert.specs.Version.{version}
use Rattle.x509_cert.specs.declared.crl.certificate_list.CertificateList.{CertificateList}
use Rattle.x509_cert.specs.declared.crl.revoked_cert.RevokedCert.{RevokedCert}
use Rattle.x509_check.specs.CrlRefs.{ListSpellings, entry_list, lent_parts, list_spellings, parts_reading}
use Rattle.x509_check.specs.declared.lent.revoked.ListParts.{ListParts}
use Rattle.x509_der.specs.Element.{element, length_octets, limit}
use Rattle.x509_der.specs.Form.{Form, IsForm, Spells, spelling, whole_reading}
use Rattle.x509_der.specs.FormLaws.{universal_lawful, whole_complete, whole_sound}
use Rattle.x509_der.specs.Frames.{explicit, fields_good, fields_octets, optional_octets}
use Rattle.x509_der.specs.List.{joined, list_of, list_reading}
use Rattle.x509_der.specs.ListLaws.{list_lawful}
use Rattle.x509_der.specs.OutcomeLaws.{bind_ok, ok_is}
use Rattle.x509_der.specs.declared.error.ErrorKind.{ErrorKind}
use Rattle.x509_der.specs.declared.tag.Tag.TheVariants.{Sequence}
use Rattle.x509_ext.specs.Extension.{extensions}
use Rattle.x509_ext.specs.declared.extension.Extension.{Extension}
use Rattle.x509_name.specs.Names.{name}
use Rattle.x509_prim.specs.BitString.{bit_string}

pub entry_list_lawful : {P : Type 0} (check : List ℕ → Result Unit ErrorKind) → IsForm (CheckRefuses check) (entry_list {P = P} check)
entry_list_lawful check = universal_lawful Sequence (list_of (revoked_cert check)) (list_lawful (revoked_cert check) (revoked_cert_lawful check))

-- ---- how long a part is

inside_length : (tag : ℕ) (content : List ℕ) → length content ≤ length (element tag content)
unfolding element
inside_length tag content = omega (arith, length-append (length_octets (length content)) content)

-- the entries and the extensions of a signed part that stands within others
part_lengths : (tag outer : ℕ) (front next some others behind : List ℕ) → (length some ≤ length (element tag (element outer (front ++ (next ++ (some ++ others))) ++ behind)))
    × (length others ≤ length (element tag (element outer (front ++ (next ++ (some ++ others))) ++ behind)))
part_lengths tag outer front next some others behind =
    let part = front ++ (next ++ (some ++ others)) in
    let whole = inside_length tag (element outer part ++ behind) in
    let within = inside_length outer part in (
      omega (arith, whole, within, length-append (element outer part) behind, length-append front (next ++ (some ++ others)), length-append next (some ++ others), length-append some others),
      omega (arith, whole, within, length-append (element outer part) behind, length-append front (next ++ (some ++ others)), length-append next (some ++ others), length-append some others),
    )

-- ---- a field that may be left out

pub present : {X : Type 0} (form : Form X) (lent : List ℕ) (value : Option X) → Some lent ≡ option_map (spelling form) value → (x : X) × (value ≡ Some x) × (lent ≡ spelling form x)
present form lent None e = absurd cc
present form lent (Some x) e = (x, refl, cc)

pub absent : {X : Type 0} (form : Form X) (lent : Option (Bor (List ℕ))) (value : Option X) → lent ≡ None → option_copied lent ≡ option_map (spelling form) value → value ≡ None
absent form None None none e = refl
absent form None (Some x) none e = absurd cc
absent form (Some x) value none e = absurd cc

-- ---- a CRL

abbrev read_parts : ListSpellings → Result ListSpellings ErrorKind
read_parts s = Ok s

module _ {P : Type 0} (check : List ℕ → Result Unit ErrorKind) (bytes : List ℕ) where
  module _ (parts : ListParts) (lent : parts_reading P check bytes ≡ Ok (lent_parts parts)) where
    pub some_crl : length bytes ≤ limit → (list : CertificateList P) × Spells (certificate_list check) list bytes
    some_crl within =
        let b = bind_ok (whole_reading (certificate_list {P = P} check).reading bytes) (λ list. Ok (list_spellings check list)) (lent_parts parts) lent in
        let s = whole_sound (certificate_list check) (certificate_list_lawful check) bytes b.0 b.1 in
        (b.0, (s.0, s.1, within))

    pub parts_are : (list : CertificateList P) → Spells (certificate_list check) list bytes → lent_parts parts ≡ list_spellings check list
    parts_are list spells =
        let read = ap (whole_reading (certificate_list {P = P} check).reading) spells.1 ∙ whole_complete (certificate_list check) (certificate_list_lawful check) list spells.0 in
        ok_is _ _ (sym lent ∙ rw read refl)

  pub parts_read : (parts : ListParts) (list : CertificateList P) → whole_reading (certificate_list {P = P} check).reading bytes ≡ Ok list → lent_parts parts ≡ list_spellings check list → parts_reading P check bytes ≡ Ok (lent_parts parts)
  parts_read parts list read same = rw read (ap read_parts (sym same))

  module _ (list : CertificateList P) (spells : Spells (certificate_list check) list bytes) where
    stands : bytes ≡ element 48 (spelling (tbs_cert_list check) list.tbs_cert_list ++ (spelling algorithm_identifier list.signature_algorithm ++ spelling bit_string list.signature))
    unfolding certificate_list_fields fields_octets
    stands = spells.1

    part_good : (tbs_cert_list check).good list.tbs_cert_list
    unfolding certificate_list_fields fields_good
    part_good = spells.0.0

    pub part_spells : (lent : List ℕ) → lent ≡ spelling (tbs_cert_list check) list.tbs_cert_list → Spells (tbs_cert_list check) list.tbs_cert_list lent
    part_spells lent is = (
      part_good,
      is,
      (let whole = inside_length 48 (spelling (tbs_cert_list check) list.tbs_cert_list ++ (spelling algorithm_identifier list.signature_algorithm ++ spelling bit_string list.signature)) in
          omega (arith, whole, ap length stands, ap length is, spells.2, length-append (spelling (tbs_cert_list check) list.tbs_cert_list) (spelling algorithm_identifier list.signature_algorithm ++ spelling bit_string list.signature))),
    )

    pub is_signed : (lent : List ℕ) → lent ≡ spelling (tbs_cert_list check) list.tbs_cert_list → IsSignedPart bytes lent
    is_signed lent is = record {
      content = (tbs_cert_list check).content list.tbs_cert_list;
      behind = spelling algorithm_identifier list.signature_algorithm ++ spelling bit_string list.signature;
      part = is;
      whole = stands ∙ rw is refl;
      within = spells.2;
    }

    laid_out : bytes ≡ element 48 (element 48 ((optional_octets (spelling version) list.tbs_cert_list.version ++ (spelling algorithm_identifier list.tbs_cert_list.signature ++ (spelling name list.tbs_cert_list.issuer ++ spelling time list.tbs_cert_list.this_update)))
        ++ (optional_octets (spelling time) list.tbs_cert_list.next_update ++ (optional_octets (spelling (entry_list check)) list.tbs_cert_list.revoked_certificates ++ optional_octets (spelling (explicit 0 extensions)) list.tbs_cert_list.crl_extensions)))
        ++ (spelling algorithm_identifier list.signature_algorithm ++ spelling bit_string list.signature))
    unfolding certificate_list_fields tbs_cert_list_fields fields_octets
    laid_out = spells.1

    lengths : (length (optional_octets (spelling (entry_list check)) list.tbs_cert_list.revoked_certificates) ≤ limit) × (length (optional_octets (spelling (explicit 0 extensions)) list.tbs_cert_list.crl_extensions) ≤ limit)
    lengths =
        let part = list.tbs_cert_list in
        let l = part_lengths 48 48 (optional_octets (spelling version) part.version ++ (spelling algorithm_identifier part.signature ++ (spelling name part.issuer ++ spelling time part.this_update)))
        (optional_octets (spelling time) part.next_update) (optional_octets (spelling (entry_list check)) part.revoked_certificates) (optional_octets (spelling (explicit 0 extensions)) part.crl_extensions)
        (spelling algorithm_identifier list.signature_algorithm ++ spelling bit_string list.signature) in
        (omega (arith, l.0, ap length laid_out, spells.2), omega (arith, l.1, ap length laid_out, spells.2))

    -- what is lent spells the list of extensions
    extensions_good : (list' : List Extension) → list.tbs_cert_list.crl_extensions ≡ Some list' → extensions.good list'
    unfolding tbs_cert_list_fields fields_good
    extensions_good list' is = subst (λ (o : Option (List Extension)). IfSome o extensions.good) is part_good.1.1.1

    pub lent_extensions : (lent : List ℕ) → Some lent ≡ option_map (spelling extensions) list.tbs_cert_list.crl_extensions → (others : List Extension) × (list.tbs_cert_list.crl_extensions ≡ Some others) × Spells extensions others lent
    lent_extensions lent e =
        let x = present extensions lent list.tbs_cert_list.crl_extensions e in
        let outer : length (spelling (explicit 0 extensions) x.0) ≤ limit = subst (λ (o : Option (List Extension)). length (optional_octets (spelling (explicit 0 extensions)) o) ≤ limit) x.1 lengths.1 in
        (x.0, x.1, (extensions_good x.0 x.1, x.2, omega (arith, outer, inside_length 160 (spelling extensions x.0), ap length x.2)))

    -- what stands in the list of entries
    revoked_good : (revoked : List (RevokedCert P)) → list.tbs_cert_list.revoked_certificates ≡ Some revoked → (entry_list check).good revoked
    unfolding tbs_cert_list_fields fields_good
    revoked_good revoked is = subst (λ (o : Option (List (RevokedCert P))). IfSome o (entry_list check).good) is part_good.1.1.0

    pub lent_entries : (lent : List ℕ) → Some lent ≡ option_map (spelling (entry_list check)) list.tbs_cert_list.revoked_certificates
        → (revoked : List (RevokedCert P)) × (list.tbs_cert_list.revoked_certificates ≡ Some revoked) × ((lent ≡ element 48 (joined (spelling (revoked_cert check)) revoked))
        × ((list_reading (revoked_cert check).reading (joined (spelling (revoked_cert check)) revoked) ≡ Ok revoked) × (length (joined (spelling (revoked_cert check)) revoked) ≤ limit)))
    lent_entries lent e =
        let x = present (entry_list check) lent list.tbs_cert_list.revoked_certificates e in
        let outer : length (spelling (entry_list check) x.0) ≤ limit = subst (λ (o : Option (List (RevokedCert P))). length (optional_octets (spelling (entry_list check)) o) ≤ limit) x.1 lengths.0 in
        (x.0, x.1, (x.2, ((list_lawful (revoked_cert check) (revoked_cert_lawful check)).complete x.0 (revoked_good x.0 x.1), omega (arith, outer, inside_length 48 (joined (spelling (revoked_cert check)) x.0)))))
