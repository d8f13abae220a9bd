-- What a CertificateIssuer names.
use Rattle.std.proofs.Common.{◌≡◌, ◌↔◌, ℕ, Bool, true, List, [], ◌∷◌, Option, Some, None, Result, Ok, Err, refl, sym, ap, subst}
use Rattle.std.specs.Bool.{IsTrue}
use Rattle.std.specs.Prelude.{IfOk, MatchOption}
use Rattle.x509_cert.specs.Issuers.{or_else}
use Rattle.x509_check.specs.ExtensionRefs.{FindsLent, lent_extension}
use Rattle.x509_check.specs.declared.lent.extension.ExtensionRef.{ExtensionRef}
use Rattle.x509_der.specs.Form.{IsForm, Spells, universal}
use Rattle.x509_der.specs.FormLaws.{universal_lawful}
use Rattle.x509_der.specs.List.{list_of}
use Rattle.x509_der.specs.ListLaws.{list_lawful}
use Rattle.x509_der.specs.Round.{rounded_lawful}
use Rattle.x509_der.specs.SpellingLaws.{values}
use Rattle.x509_der.specs.declared.tag.Tag.TheVariants.{Sequence}
use Rattle.x509_ext.specs.CertificateIssuer.{certificate_issuer, certificate_issuer_round}
use Rattle.x509_ext.specs.GeneralName.{general_name, general_name_lawful}
use Rattle.x509_ext.specs.declared.extension.Extension.{Extension}
use Rattle.x509_ext.specs.declared.pkix.certificate_issuer.CertificateIssuer.{CertificateIssuer}
use Rattle.x509_ext.specs.declared.pkix.name.general_name.GeneralName.TheVariants.{DirectoryName}
use Rattle.x509_revocation.specs.Entries.{AreUsableIssuers, IsIssuer, IsUsableIssuer, NamesIssuer}
use Rattle.x509_revocation.specs.Names.{HasDirectoryName, HasMatch, Name}
use Rattle.x509_revocation.proofs.OneCover.{Never}

issuer_lawfully : IsForm Never certificate_issuer
issuer_lawfully = rounded_lawful certificate_issuer_round Sequence (universal Sequence (list_of general_name)) (λ v. refl) (universal_lawful Sequence _ (list_lawful general_name general_name_lawful))

one_issuer : (octets : List ℕ) (v w : CertificateIssuer) → Spells certificate_issuer v octets → Spells certificate_issuer w octets → v ≡ w
one_issuer octets v w spells other = values certificate_issuer issuer_lawfully v w octets spells other

-- a value that the octets are those of decides what they name
pub named : (name : Name) (octets : List ℕ) (issuer : CertificateIssuer) → Spells certificate_issuer issuer octets → HasDirectoryName issuer.0 → (is_named : Bool) → IsTrue is_named ↔ HasMatch (DirectoryName name) issuer.0
    → IsUsableIssuer octets × (IsTrue is_named ↔ NamesIssuer name octets)
named name octets issuer spells directory is_named same = (
  (issuer, spells, directory),
  (
    (λ is. (issuer, spells, same.0 is)),
    (λ (other, so, match). same.1 (subst (λ (v : CertificateIssuer). HasMatch (DirectoryName name) v.0) (one_issuer octets other issuer so spells) match)),
  ),
)

-- ---- the CertificateIssuer of an entry

pub found_one : (extensions : List Extension) (lent : ExtensionRef) → FindsLent extensions (Ok (Some lent)) → extensions ≡ lent_extension lent ∷ []
found_one [] lent finds = absurd cc
found_one (e ∷ []) lent finds = ap (λ x. x ∷ []) (sym finds)
found_one (e ∷ f ∷ others) lent finds = absurd finds

pub one_named : (own name : Name) (indirect : Bool) (before issuers : List Extension) (e : Extension) → indirect ≡ true → issuers ≡ e ∷ [] → (here : Option Bool)
    → MatchOption here (IsUsableIssuer e.extn_value → ⊥) (λ b. IsUsableIssuer e.extn_value × (IsTrue b ↔ NamesIssuer name e.extn_value))
    → MatchOption here (AreUsableIssuers indirect issuers → ⊥) (λ b. AreUsableIssuers indirect issuers × (IsTrue b ↔ IsIssuer own name (or_else issuers before)))
one_named own name indirect before issuers e so is None none = rw is (λ usable. none usable.1)
one_named own name indirect before issuers e so is (Some b) found = rw is ((so, found.0), found.1)

pub if_ok : {T E : Type 0} (P Q : T → Type 0) (r : Result T E) → ((x : T) → P x → Q x) → IfOk r P → IfOk r Q
if_ok P Q (Ok x) h p = h x p
if_ok P Q (Err e) h p = p
