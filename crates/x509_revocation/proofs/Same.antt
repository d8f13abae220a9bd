-- Extensions that two CRLs have alike.
use Rattle.std.proofs.Common.{◌≡◌, ◌↔◌, ◌∙◌, ℕ, Option, Some, None, inl, inr, List, [], ◌∷◌, bytes_eq, refl, sym, ap}
use Rattle.std.proofs.lemmas.Slice.Eq.{bytes_eq-Decides}
use Rattle.std.specs.Bool.{IsTrue}
use Rattle.std.specs.Prelude.{MatchOption}
use Rattle.x509_ext.specs.LookUp.{with_oid}
use Rattle.x509_ext.specs.declared.extension.Extension.{Extension}
use Rattle.x509_revocation.specs.Crls.{HaveSame}

pub same_octets : (oid : List ℕ) (a b : List Extension) (x y : Extension) → with_oid oid a ≡ x ∷ [] → with_oid oid b ≡ y ∷ [] → IsTrue (bytes_eq x.extn_value y.extn_value) ↔ HaveSame oid a b
same_octets oid a b x y is so = (
  (λ e. inr (x.extn_value, (x, is, refl), (y, so, sym ((bytes_eq-Decides x.extn_value y.extn_value).0 e)))),
  (λ same. elim same [
    | inl none ↦ absurd (let both : x ∷ [] ≡ [] = sym is ∙ none.0 in cc)
    | inr (octets, (e, p, q), (f, r, s)) ↦ (bytes_eq-Decides x.extn_value y.extn_value).1 (
        let first : x ∷ [] ≡ e ∷ [] = sym is ∙ p in
        let second : y ∷ [] ≡ f ∷ [] = sym so ∙ r in
        let left : x ≡ e = cc in
        let right : y ≡ f = cc in
        ap (λ (z : Extension). z.extn_value) left ∙ q ∙ sym s ∙ ap (λ (z : Extension). z.extn_value) (sym right)
        )
  ]),
)

-- what was found in a CRL that fits
pub with_fits : {Y : Type 0} (F U : Type 0) (P : Y → Type 0) (looked : Option Y) → F → MatchOption looked (U → ⊥) (λ x. U × P x) → MatchOption looked (F × U → ⊥) (λ x. (F × U) × P x)
with_fits F U P None fits none = λ both. none both.1
with_fits F U P (Some x) fits found = ((fits, found.0), found.1)
