-- The issuers at the end of a list of entries, and the step to the next entry.
use Rattle.std.proofs.Common.{◌≡◌, ◌⊎◌, ◌++◌, ◌&&◌, ℕ, Bool, true, false, List, [], ◌∷◌, Option, Some, None, Result, Ok, Err, refl, sym, ap, subst, ◌∙◌, bytes_eq, inl, inr}
use Rattle.std.proofs.lemmas.Bool.{true≢false}
use Rattle.std.specs.Prelude.{IsErrAnd, MatchBool}
use Rattle.x509_cert.specs.Issuers.{FindsIssued, FindsIssuer, NamesIssuer, is_issued, is_issuer, issuer_behind, issuers, last_issuers, or_else}
use Rattle.x509_cert.specs.declared.crl.revoked_cert.RevokedCert.{RevokedCert}
use Rattle.x509_ext.specs.declared.extension.Extension.{Extension}
use Rattle.x509_der.specs.declared.error.Error.{Error}
use Rattle.x509_ext.specs.declared.pkix.name.general_name.GeneralName.{GeneralName}
use Rattle.x509_name.specs.declared.attr.type_and_value.AttributeTypeAndValue.{AttributeTypeAndValue}
use Rattle.x509_ext.specs.declared.pkix.certificate_issuer.CertificateIssuer.{CertificateIssuer}

-- ---- the last issuer

or_else-nil : {T : Type 0} (xs : List T) → or_else xs [] ≡ xs
or_else-nil [] = refl
or_else-nil (x ∷ xs) = refl

or_else-assoc : {T : Type 0} (xs ys zs : List T) → or_else (or_else xs ys) zs ≡ or_else xs (or_else ys zs)
or_else-assoc [] ys zs = refl
or_else-assoc (x ∷ xs) ys zs = refl

last_issuers-append : {P : Type 0} (entries : List (RevokedCert P)) (last : RevokedCert P) → last_issuers (entries ++ last ∷ []) ≡ or_else (issuers last) (last_issuers entries)
last_issuers-append [] last = sym (or_else-nil (issuers last))
last_issuers-append (entry ∷ entries) last =
    ap (λ xs. or_else xs (issuers entry)) (last_issuers-append entries last) ∙ or_else-assoc (issuers last) (last_issuers entries) (issuers entry)

abbrev Found : Type 0
Found = Result (Option (Bool × CertificateIssuer)) Error

-- extensions on which anything but None is answered stand before those of other entries
found_stands : (extensions others : List Extension) (answer : Found) → FindsIssuer extensions answer → ((answer ≡ Ok None) × (extensions ≡ [])) ⊎ (or_else extensions others ≡ extensions)
found_stands [] others answer finds = inl (finds, refl)
found_stands (x ∷ xs) others answer finds = inr refl

some_is_found : (found : Bool × CertificateIssuer) (answer : Found) → answer ≡ Ok (Some found) → answer ≡ Ok None → ⊥
some_is_found found answer is e = absurd cc

refusal_is_found : (e : Error) (answer : Found) → answer ≡ Err e → answer ≡ Ok None → ⊥
refusal_is_found e answer is h = absurd cc

no_issuer : (extensions : List Extension) → FindsIssuer extensions (Ok None) → extensions ≡ []
no_issuer [] finds = refl
no_issuer (x ∷ []) finds = absurd finds
no_issuer (x ∷ y ∷ xs) finds = absurd finds

module _ {P : Type 0} (entries rest others : List (RevokedCert P)) (last : RevokedCert P) (is : rest ≡ others ++ last ∷ []) (kept : last_issuers rest ≡ last_issuers entries) where
  held : last_issuers entries ≡ or_else (issuers last) (last_issuers others)
  held = sym kept ∙ ap last_issuers is ∙ last_issuers-append others last

  -- what the last entry doesn't name, those before it do
  pub before : FindsIssuer (issuers last) (Ok None) → last_issuers others ≡ last_issuers entries
  before none = sym (held ∙ ap (λ xs. or_else xs (last_issuers others)) (no_issuer (issuers last) none))

  stands : (answer : Found) → (answer ≡ Ok None → ⊥) → FindsIssuer (issuers last) answer → FindsIssuer (last_issuers entries) answer
  stands answer some finds = elim (found_stands (issuers last) (last_issuers others) answer finds) [
    | inl none ↦ absurd (some none.0)
    | inr first ↦ subst (λ xs. FindsIssuer xs answer) (sym (held ∙ first)) finds
  ]

  pub named : (found : Bool × CertificateIssuer) → FindsIssuer (issuers last) (Ok (Some found)) → FindsIssuer (last_issuers entries) (Ok (Some found))
  named found finds = stands (Ok (Some found)) (some_is_found found (Ok (Some found)) refl) finds

  pub refused : (e : Error) (answer : Result (Option CertificateIssuer) Error) → IsErrAnd answer (λ x. x ≡ e) → FindsIssuer (issuers last) (Err e) → NamesIssuer (last_issuers entries) answer
  refused e (Ok x) told finds = absurd told
  refused e (Err x) told finds = subst (λ y. FindsIssuer (last_issuers entries) (Err y)) (sym told) (stands (Err e) (refusal_is_found e (Err e) refl) finds)

-- ---- the step to the next entry

false_and : (a b : Bool) → (a ≡ false) ⊎ (b ≡ false) → (a && b) ≡ false
false_and true b (inl e) = absurd (true≢false e)
false_and true b (inr e) = e
false_and false b either = refl

abbrev Name : Type 0
Name = List (List AttributeTypeAndValue)

-- what is found of an entry's issuer, and whether that is the name
abbrev Behind : {P : Type 0} → Name → Name → Option (List GeneralName) → RevokedCert P → Bool → Type 0
Behind own name preceding entry is =
    (found : Option (Bool × CertificateIssuer)) × FindsIssuer (issuers entry) (Ok found) × (is ≡ is_issuer own name (issuer_behind preceding found))

-- what is answered on the rest of the entries is what is answered on all
abbrev pub Stays : {P : Type 0} → (Option (List GeneralName) → RevokedCert P → Bool) → Option (List GeneralName) → List (RevokedCert P) → List (RevokedCert P) → Type 0
Stays {P} is_wanted preceding rest all = (answer : Result (Option (RevokedCert P)) Error) → FindsIssued is_wanted preceding rest answer → FindsIssued is_wanted None all answer

module _ {P : Type 0} (own name : Name) (preceding : Option (List GeneralName)) (entry : RevokedCert P) (is : Bool) where
  pub other_issuer : (found : Option (Bool × CertificateIssuer)) (critical : Bool) (issuer : CertificateIssuer)
      → FindsIssuer (issuers entry) (Ok found) → found ≡ Some (critical, issuer) → is ≡ is_issuer own name (Some issuer.0) → Behind own name preceding entry is
  other_issuer found critical issuer finds there same = (Some (critical, issuer), subst (λ f. FindsIssuer (issuers entry) (Ok f)) there finds, same)

  pub same_issuer : (found : Option (Bool × CertificateIssuer))
      → FindsIssuer (issuers entry) (Ok found) → found ≡ None → is ≡ is_issuer own name preceding → Behind own name preceding entry is
  same_issuer found finds none same = (None, subst (λ f. FindsIssuer (issuers entry) (Ok f)) none finds, same)

  -- what is answered behind an entry that isn't wanted is the answer
  pub passes : (number : List ℕ) (rest others all : List (RevokedCert P)) → rest ≡ entry ∷ others → Stays (is_issued own name number) preceding rest all
      → Behind own name preceding entry is → (is ≡ false) ⊎ (bytes_eq entry.serial_number number ≡ false)
      → (behind : Option (List GeneralName)) × (is ≡ is_issuer own name behind) × Stays (is_issued own name number) behind others all
  passes number rest others all split whole (found, finds, same) other = (
    issuer_behind preceding found,
    same,
    (λ answer behind.
        let unwanted : is_issued own name number (issuer_behind preceding found) entry ≡ false = ap (λ b. b && bytes_eq entry.serial_number number) (sym same) ∙ false_and is (bytes_eq entry.serial_number number) other in
        whole answer (subst (λ l. FindsIssued (is_issued own name number) preceding l answer) (sym split) (inr (
          found,
          finds,
          subst (λ b. MatchBool b (answer ≡ Ok (Some entry)) (FindsIssued (is_issued own name number) (issuer_behind preceding found) others answer)) (sym unwanted) behind,
        )))),
  )
