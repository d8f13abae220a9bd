-- The entry of a certificate, sought entry by entry.
use Rattle.std.proofs.Common.{◌≡◌, ◌↔◌, Bool, true, false, inl, inr, List, [], ◌∷◌, Option, Some, None, refl}
use Rattle.std.specs.Bool.{IsTrue}
use Rattle.std.specs.Prelude.{MatchOption, is_some, option_map}
use Rattle.x509_cert.specs.Issuers.{issuers, or_else}
use Rattle.x509_ext.specs.declared.extension.Extension.{Extension}
use Rattle.x509_path.specs.Certificates.{Certificate}
use Rattle.x509_revocation.specs.Crls.{Crl, Entry}
use Rattle.x509_revocation.specs.Entries.{FindsAmong, FindsEntry, IsIssuer, listed_behind}

module _ (certificate : Certificate) (crl : Crl) where
  abbrev IsIssuedBy : List Extension → Type 0
  IsIssuedBy before = IsIssuer crl.tbs_cert_list.issuer certificate.tbs_certificate.issuer before

  -- It was found, or what is found among those that are left is found among all. Before those that are left the certificate's issuer is in
  -- force or not.
  abbrev pub Seeks : Bool → List Entry → Option Entry → Type 0
  Seeks is_issuer left found =
      (before : List Extension) × (IsTrue is_issuer ↔ IsIssuedBy before)
      × MatchOption found ((answer : Option Entry) → FindsAmong certificate crl (listed_behind before left) answer → FindsEntry certificate crl answer) (λ entry. FindsEntry certificate crl (Some entry))

  pub starts : (is_issuer : Bool) (left : List Entry) → IsTrue is_issuer ↔ IsIssuedBy [] → ((answer : Option Entry) → FindsAmong certificate crl (listed_behind [] left) answer → FindsEntry certificate crl answer) → Seeks is_issuer left None
  starts is_issuer left same all = ([], same, all)

  module _ {Y : Type 0} (view : Y → Entry) (is_issuer is_here : Bool) (entry : Entry) (left rest : List Entry) (is : left ≡ entry ∷ rest)
      (here : (before : List Extension) → IsTrue is_issuer ↔ IsIssuedBy before → IsTrue is_here ↔ IsIssuedBy (or_else (issuers entry) before)) where
    pub first : (found : Option Y) → is_some found ≡ false → IsTrue is_here × (entry.serial_number ≡ certificate.tbs_certificate.serial_number) → Seeks is_issuer left (option_map view found) → Seeks is_here rest (Some entry)
    first None none of (before, same, all) =
        let so = here before same in
        (or_else (issuers entry) before, so, all (Some entry) (rw is (inl ((of.1, so.0 of.0), refl))))
    first (Some y) none of seeks = absurd cc

    pub another : (found : Option Y) → is_some found ≡ false → (IsTrue is_here × (entry.serial_number ≡ certificate.tbs_certificate.serial_number) → ⊥) → Seeks is_issuer left (option_map view found) → Seeks is_here rest (option_map view found)
    another None none other (before, same, all) =
        let so = here before same in
        (or_else (issuers entry) before, so, λ answer finds. all answer (rw is (inr ((λ of. other (so.1 of.1, of.0)), finds))))
    another (Some y) none other seeks = absurd cc

    pub kept : (found : Option Y) → is_some found ≡ true → Seeks is_issuer left (option_map view found) → Seeks is_here rest (option_map view found)
    kept None some seeks = absurd cc
    kept (Some y) some (before, same, finds) = (or_else (issuers entry) before, here before same, finds)

  pub ended : {Y : Type 0} (view : Y → Entry) (is_issuer : Bool) (left : List Entry) (found : Option Y) → left ≡ [] → Seeks is_issuer left (option_map view found) → FindsEntry certificate crl (option_map view found)
  ended view is_issuer left None none (before, same, all) = all None (rw none refl)
  ended view is_issuer left (Some y) none (before, same, finds) = finds
