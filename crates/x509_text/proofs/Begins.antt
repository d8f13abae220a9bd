-- What is to come of a document of a CRL at its begin is the document.
use Rattle.std.proofs.Common.{◌≡◌, ◌≤◌, ℕ, List, [], ◌++◌, length, Option, None, Some, Ok, codes, refl, sym, ap, ◌∙◌, append_assoc, append-nil}
use Rattle.std.proofs.lemmas.Bool.{le-leb}
use Rattle.std.specs.List.{flat_map}
use Rattle.x509_base.specs.declared.profile.Raw.{Raw}
use Rattle.x509_cert.specs.AnySerial.{any_certificate_list}
use Rattle.x509_cert.specs.Revoked.{entries}
use Rattle.x509_cert.specs.declared.crl.certificate_list.CertificateList.{CertificateList}
use Rattle.x509_cert.specs.declared.crl.revoked_cert.RevokedCert.{RevokedCert}
use Rattle.x509_cert.specs.declared.crl.tbs_cert_list.TbsCertList.{TbsCertList}
use Rattle.x509_der.specs.Element.{limit}
use Rattle.x509_der.specs.Form.{whole_reading}
use Rattle.x509_text.specs.Crls.{crl_lines, entry_lines, head_lines, part_lines, signature_lines, update_lines}
use Rattle.x509_text.specs.Extensions.{optional_extensions}
use Rattle.x509_text.specs.Lines.{closing, document, opening, top}
use Rattle.x509_text.specs.Objects.{shown_as}
use Rattle.x509_text.specs.Payloads.{value_of}
use Rattle.x509_text.specs.Pieces.{elements_lines, entries_read, text_from}
use Rattle.x509_crl_index.specs.Split.{IsSplit, IsSplitPart, emptied, part_without_entries}
use Rattle.x509_text.specs.declared.line.Place.{Place}
use Rattle.x509_text.specs.declared.line.Style.{Style}
use Rattle.x509_text.specs.declared.objects.Kind.TheVariants as kinds
use Rattle.x509_text.specs.declared.pieces.Stage.TheVariants.{Front}

-- ---- texts

with_behind : (head extensions behind : List ℕ) → (head ++ (extensions ++ [])) ++ behind ≡ head ++ (extensions ++ behind)
with_behind head extensions behind = append_assoc head (extensions ++ []) behind ∙ ap (λ xs. head ++ (xs ++ behind)) (append-nil extensions)

regroup : (o w f s c : List ℕ) → (o ++ w) ++ (f ++ (s ++ c)) ≡ o ++ (((w ++ f) ++ s) ++ c)
regroup o w f s c = append_assoc o w (f ++ (s ++ c)) ∙ ap (λ xs. o ++ xs) (sym (append_assoc w f (s ++ c)) ∙ sym (append_assoc (w ++ f) s c))

-- ---- a CRL without its entries, and these

none_left : (list : Option (List (RevokedCert Raw))) → entries (emptied list) ≡ []
none_left None = refl
none_left (Some revoked) = refl

all_entries : (at : Place) (part : TbsCertList Raw) → part_lines at (part_without_entries part) ++ flat_map (entry_lines at) (entries part.revoked_certificates) ≡ part_lines at part
unfolding part_lines head_lines update_lines
all_entries at part =
    ap (λ left. (head_lines at part ++ (optional_extensions at part.crl_extensions ++ flat_map (entry_lines at) left)) ++ flat_map (entry_lines at) (entries part.revoked_certificates)) (none_left part.revoked_certificates)
    ∙ with_behind (head_lines at part) (optional_extensions at part.crl_extensions) (flat_map (entry_lines at) (entries part.revoked_certificates))

part_same : (at : Place) (part front : TbsCertList Raw) (octets : List ℕ) → IsSplitPart part front octets → part_lines at front ++ elements_lines at octets ≡ part_lines at part
unfolding elements_lines
part_same at part front octets split =
    ap (λ read. part_lines at front ++ flat_map (entry_lines at) (entries_read read)) split.1
    ∙ ap (λ other. part_lines at other ++ flat_map (entry_lines at) (entries part.revoked_certificates)) split.0
    ∙ all_entries at part

crl_same : (at : Place) (list crl : CertificateList Raw) (octets : List ℕ) → IsSplit list crl octets → (part_lines at crl.tbs_cert_list ++ elements_lines at octets) ++ signature_lines at crl ≡ crl_lines at list
unfolding crl_lines signature_lines
crl_same at list crl octets split =
    let part : IsSplitPart list.tbs_cert_list crl.tbs_cert_list octets = (ap (λ (c : CertificateList Raw). c.tbs_cert_list) split.0, split.1) in
    let algorithm : crl.signature_algorithm ≡ list.signature_algorithm = ap (λ (c : CertificateList Raw). c.signature_algorithm) split.0 in
    let signature : crl.signature ≡ list.signature = ap (λ (c : CertificateList Raw). c.signature) split.0 in
    rw (part_same at list.tbs_cert_list crl.tbs_cert_list octets part, algorithm, signature) refl

begins : (style : Style) (list crl : CertificateList Raw) (octets : List ℕ) → IsSplit list crl octets → text_from Front style crl octets ≡ document (codes "CRL") (λ at. crl_lines at list) style
begins style list crl octets split =
    regroup (opening style (codes "CRL")) (part_lines (top style) crl.tbs_cert_list) (elements_lines (top style) octets) (signature_lines (top style) crl) (closing style)
    ∙ ap (λ xs. opening style (codes "CRL") ++ (xs ++ closing style)) (crl_same (top style) list crl octets split)

-- ---- the document of the CRL that is read

pub shown_crl : (style : Style) (bytes : List ℕ) (list crl : CertificateList Raw) (octets : List ℕ) → length bytes ≤ limit → whole_reading any_certificate_list.reading bytes ≡ Ok list → IsSplit list crl octets → Some (text_from Front style crl octets) ≡ shown_as kinds.Crl style bytes
unfolding shown_as value_of
shown_crl style bytes list crl octets within read split = rw (le-leb (length bytes) limit within, read) (ap (λ text. Some text) (begins style list crl octets split))
