-- What an extended key usage allows.
use Rattle.std.proofs.Common.{◌≡◌, ◌↔◌, ◌⊎◌, ◌∙◌, inl, inr, ℕ, true, false, List, Option, Some, None, filter, sym, subst}
use Rattle.x509_ext.specs.ExtendedKeyUsage.{extended_key_usage}
use Rattle.x509_ext.specs.Identifiers.{id_ce}
use Rattle.x509_ext.specs.declared.extension.Extension.{Extension}
use Rattle.x509_ext.specs.declared.pkix.extended_key_usage.ExtendedKeyUsage.{ExtendedKeyUsage}
use Rattle.x509_path.specs.Certificates.{Certificate, HasPayload, extensions_of}
use Rattle.x509_path_steps.specs.Validation.{AllowsPurpose, any_purpose}
use Rattle.x509_policy.proofs.Members.{In-filter, In-has, filter-In, has-In, not_both}
use Rattle.x509_policy.specs.Levels.{In}
use Rattle.x509_policy.specs.Values.{has}

abbrev pub Names : List (List ℕ) → List ℕ → Type 0
Names named p = In p named ⊎ In any_purpose named

pub by_any : (purposes named : List (List ℕ)) → has named any_purpose ≡ true → (p : List ℕ) → In p purposes ↔ (In p purposes × Names named p)
by_any purposes named any p = ((λ is. (is, inr (has-In any_purpose named any))), (λ h. h.0))

pub by_name : (purposes named : List (List ℕ)) → has named any_purpose ≡ false → (p : List ℕ) → In p (filter (λ q. has named q) purposes) ↔ (In p purposes × Names named p)
by_name purposes named none p = (
  (λ is. let (asked, passes) = In-filter (λ q. has named q) p purposes is in (asked, inl (has-In p named passes))),
  (λ (asked, way). elim way [
    | inl here ↦ filter-In (λ q. has named q) p purposes asked (In-has p named here)
    | inr any ↦ absurd (not_both (has named any_purpose) (In-has any_purpose named any) none)
  ]),
)

module _ (es : List Extension) (c : Certificate) (found : Option ExtendedKeyUsage) (has_it : (u : ExtendedKeyUsage) → HasPayload extended_key_usage (id_ce 37) es u ↔ (found ≡ Some u))
    (same : es ≡ extensions_of c) where
  there : (u : ExtendedKeyUsage) → found ≡ Some u → HasPayload extended_key_usage (id_ce 37) (extensions_of c) u
  there u is = subst (λ xs. HasPayload extended_key_usage (id_ce 37) xs u) same ((has_it u).1 is)

  back : (u : ExtendedKeyUsage) → HasPayload extended_key_usage (id_ce 37) (extensions_of c) u → found ≡ Some u
  back u payload = (has_it u).0 (subst (λ xs. HasPayload extended_key_usage (id_ce 37) xs u) (sym same) payload)

  pub allows_named : (u : ExtendedKeyUsage) → found ≡ Some u → (p : List ℕ) → Names u.0 p ↔ AllowsPurpose p c
  allows_named u is p = (
    (λ way w payload.
        let e : Some w ≡ Some u = sym (back w payload) ∙ is in
        let k : w ≡ u = cc in
        subst (λ (x : ExtendedKeyUsage). Names x.0 p) (sym k) way),
    (λ allows. allows u (there u is)),
  )

  pub allows_all : found ≡ None → (p : List ℕ) → AllowsPurpose p c
  allows_all none p w payload = let e : Some w ≡ None = sym (back w payload) ∙ none in absurd cc
