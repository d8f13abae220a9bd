-- Entries of which none is marked.
use Rattle.std.proofs.Common.{◌≡◌, ◌∙◌, Bool, true, false, not, inl, inr, List, [], ◌∷◌, ℕ, Option, Some, None, bytes_eq, option_map, refl, sym, ap, subst}
use Rattle.std.proofs.lemmas.Bool.{cases_Bool, true≢false}
use Rattle.std.proofs.lemmas.List.Elements.{All-nil, All-cons}
use Rattle.std.proofs.lemmas.Slice.Eq.{bytes_eq-Decides}
use Rattle.std.specs.List.{All, list_any}
use Rattle.x509_cert.specs.Issuers.{issuers, or_else}
use Rattle.x509_cert.specs.Revoked.{with_serial}
use Rattle.x509_check.specs.CrlRefs.{is_marked, lent_entry}
use Rattle.x509_check.specs.CrlRefs as checked
use Rattle.x509_check.specs.declared.lent.entry.RevokedCertRef.{RevokedCertRef}
use Rattle.x509_ext.specs.declared.extension.Extension.{Extension}
use Rattle.x509_path.specs.Certificates.{Certificate}
use Rattle.x509_revocation.proofs.Settled.{all_processed, neither, none_named}
use Rattle.x509_revocation.specs.Crls.{Crl, Entry, entry_extensions}
use Rattle.x509_revocation.specs.Entries.{FindsAmong, IsIssuer, IsUsable, listed_behind}

pub none_is : (b is : Bool) → is ≡ not b → is ≡ true → b ≡ false
none_is false is same true_is = refl
none_is true is same true_is = absurd (true≢false (sym true_is ∙ same))

-- each may be used
pub all_usable : (indirect : Bool) (entries : List Entry) → list_any is_marked entries ≡ false → All (IsUsable indirect) entries
all_usable indirect [] none = All-nil (IsUsable indirect)
all_usable indirect (entry ∷ others) none =
    let both = neither (is_marked entry) (list_any is_marked others) none in
    All-cons (IsUsable indirect) entry others (all_processed (entry_extensions entry) both.0, rw (none_named (entry_extensions entry) both.0) tt) (all_usable indirect others both.1)

-- ---- the first with a number

module _ (number : List ℕ) where
  heads : (a b : Entry) (behind others : List Entry) → a ∷ behind ≡ b ∷ others → a ≡ b
  heads a b behind others h = cc

  found_here : (entry : Entry) (others : List Entry) (found : Option RevokedCertRef) → bytes_eq entry.serial_number number ≡ true → checked.FindsEntry number (entry ∷ others) found → option_map lent_entry found ≡ Some entry
  found_here entry others found is h = by_found found h
    where
      first : with_serial number (entry ∷ others) ≡ entry ∷ with_serial number others
      first = rw is refl

      by_found : (found : Option RevokedCertRef) → checked.FindsEntry number (entry ∷ others) found → option_map lent_entry found ≡ Some entry
      by_found None h = absurd (let k = sym first ∙ h in cc)
      by_found (Some lent) h = ap (λ (e : Entry). Some e) (sym (heads entry (lent_entry lent) (with_serial number others) h.0 (sym first ∙ h.1)))

  found_behind : (entry : Entry) (others : List Entry) (found : Option RevokedCertRef) → bytes_eq entry.serial_number number ≡ false → checked.FindsEntry number (entry ∷ others) found → checked.FindsEntry number others found
  found_behind entry others found other h = by_found found h
    where
      behind : with_serial number (entry ∷ others) ≡ with_serial number others
      behind = rw other refl

      by_found : (found : Option RevokedCertRef) → checked.FindsEntry number (entry ∷ others) found → checked.FindsEntry number others found
      by_found None h = sym behind ∙ h
      by_found (Some lent) h = (h.0, sym behind ∙ h.1)

-- ---- the issuer of the CRL is in force at each

module _ (certificate : Certificate) (crl : Crl) where
  at_entry : (entry : Entry) (others : List Entry) (answer : Option Entry) → issuers entry ≡ [] → FindsAmong certificate crl (record { entry = entry; in_force = [] } ∷ listed_behind [] others) answer → FindsAmong certificate crl (listed_behind [] (entry ∷ others)) answer
  at_entry entry others answer named finds = subst (λ (own : List Extension). FindsAmong certificate crl (record { entry = entry; in_force = or_else own [] } ∷ listed_behind (or_else own []) others) answer) (sym named) finds

  -- where it issued the certificate, the first with the number is found
  pub finds_plain : (entries : List Entry) (found : Option RevokedCertRef) → list_any is_marked entries ≡ false → IsIssuer crl.tbs_cert_list.issuer certificate.tbs_certificate.issuer []
      → checked.FindsEntry certificate.tbs_certificate.serial_number entries found → FindsAmong certificate crl (listed_behind [] entries) (option_map lent_entry found)
  finds_plain [] None none issuer h = refl
  finds_plain [] (Some lent) none issuer h = absurd (let k = h.1 in cc)
  finds_plain (entry ∷ others) found none issuer h =
      let number = certificate.tbs_certificate.serial_number in
      let both = neither (is_marked entry) (list_any is_marked others) none in
      at_entry entry others (option_map lent_entry found) (none_named (entry_extensions entry) both.0) (elim (cases_Bool (bytes_eq entry.serial_number number)) [
        | inl is ↦ inl (((bytes_eq-Decides entry.serial_number number).0 is, issuer), found_here number entry others found is h)
        | inr other ↦ inr ((λ of. true≢false (sym ((bytes_eq-Decides entry.serial_number number).1 of.0) ∙ other)), finds_plain others found both.1 issuer (found_behind number entry others found other h))
      ])

  -- and where it didn't, none is
  pub finds_none : (entries : List Entry) → list_any is_marked entries ≡ false → (IsIssuer crl.tbs_cert_list.issuer certificate.tbs_certificate.issuer [] → ⊥) → FindsAmong certificate crl (listed_behind [] entries) None
  finds_none [] none other = refl
  finds_none (entry ∷ others) none other =
      let both = neither (is_marked entry) (list_any is_marked others) none in
      at_entry entry others None (none_named (entry_extensions entry) both.0) (inr ((λ of. other of.1), finds_none others both.1 other))
