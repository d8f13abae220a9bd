-- Keys of names, behind the number of their form, say which subtrees have them.
use Rattle.std.proofs.Common.{if◌then◌else◌, ◌==◌, ◌≡◌, ◌↔◌, inl, inr, ℕ, Bool, true, false, ◌||◌, List, [], ◌∷◌, map, Option, None, Some, is_some, refl, sym, ap, ◌∙◌, subst, arith}
use Rattle.std.proofs.lemmas.Bool.Decides.{eqb_tells}
use Rattle.x509_ext.specs.declared.pkix.name.general_name.GeneralName.{GeneralName}
use Rattle.x509_ext.specs.declared.pkix.name.general_name.GeneralName.TheVariants.{OtherName, Rfc822Name, DnsName, DirectoryName, EdiPartyName, UniformResourceIdentifier, IpAddress, RegisteredId}
use Rattle.x509_match.specs.Matching.{BeginsWith}
use Rattle.x509_constraints.specs.Constraints.{IsExcluded, IsUnclear, IsWithin, form_of, is_comparable}
use Rattle.x509_constraints.specs.Keys.{host_prefix}
use Rattle.x509_constraints.specs.Prefixes.{begins, has_prefix}
use Rattle.x509_constraints.specs.SubtreeKeys.{base_prefixes, distinguished_key, excluded_by, key_of_host, name_key, own_excluded, own_key, own_prefixes}
use Rattle.x509_constraints.specs.Uri.{IsHostWithin, host_of}
use Rattle.x509_constraints.proofs.AddressLaws.{address_answers}
use Rattle.x509_constraints.proofs.EmailLaws.{email_answers}
use Rattle.x509_constraints.proofs.InOrder.{distinguished_answers}
use Rattle.x509_constraints.proofs.KeyLaws.{dns_answers, has_prefix-one, host_key_answers}
use Rattle.x509_constraints.proofs.Wildcards.{excluded_dns_answers}

-- ---- behind a number

-- prefixes behind one number, and a key behind another
pub has_prefix-behind : (f g : ℕ) (b : Bool) → (f == g) ≡ b → (ps : List (List ℕ)) (k : List ℕ) →
    has_prefix (map (λ p. g ∷ p) ps) (f ∷ k) ≡ (if b then has_prefix ps k else false)
has_prefix-behind f g true is [] k = refl
has_prefix-behind f g false is [] k = refl
has_prefix-behind f g true is (p ∷ ps) k =
    ap (λ t. (if t then begins k p else false) || has_prefix (map (λ q. g ∷ q) ps) (f ∷ k)) is
    ∙ ap (λ t. begins k p || t) (has_prefix-behind f g true is ps k)
has_prefix-behind f g false is (p ∷ ps) k =
    ap (λ t. (if t then begins k p else false) || has_prefix (map (λ q. g ∷ q) ps) (f ∷ k)) is ∙ has_prefix-behind f g false is ps k

-- a name and a subtree, each behind the number of its form
form_answers : (f g : ℕ) (k : List ℕ) (ps : List (List ℕ)) (P : Type 0) → (f ≡ g → (has_prefix ps k ≡ true) ↔ P) → (P → g ≡ f) →
    (has_prefix (map (λ p. g ∷ p) ps) (f ∷ k) ≡ true) ↔ P
form_answers f g k ps P own form = elim (eqb_tells f g) [
  | inl (test, same) ↦
      let B : Bool → Type 0 = λ b. (b ≡ true) ↔ P in
      subst B (sym (has_prefix-behind f g true test ps k)) (own same)
  | inr (test, other) ↦ (
    (λ h. let e : false ≡ true = sym (has_prefix-behind f g false test ps k) ∙ h in absurd (cc)),
    (λ p. absurd (other (sym (form p)))),
  )
]

-- a name that only a URI without a host hasn't
abbrev pub IsKeyed : GeneralName → Type 0
IsKeyed name = form_of name ≡ 6 → is_comparable name ≡ true

uri_answers : (base : List ℕ) (host : Option (List ℕ)) → is_some host ≡ true →
    (has_prefix (host_prefix base ∷ []) (key_of_host host) ≡ true) ↔ IsHostWithin host base
uri_answers base None can = absurd (cc)
uri_answers base (Some host) can = host_key_answers host base

never : (false ≡ true) ↔ ⊥
never = ((λ h. absurd (cc)), (λ nothing. absurd nothing))

-- ---- all forms

own_answers : (name base : GeneralName) → IsKeyed name → form_of name ≡ form_of base →
    (has_prefix (own_prefixes base) (own_key name) ≡ true) ↔ IsWithin name base
own_answers (OtherName n) (OtherName b) keyed same = never
own_answers (Rfc822Name n) (Rfc822Name b) keyed same = email_answers n b
own_answers (DnsName n) (DnsName b) keyed same = dns_answers n b
own_answers (DirectoryName n) (DirectoryName b) keyed same =
    has_prefix-one (distinguished_key n) (distinguished_key b) (BeginsWith n b) (distinguished_answers n b)
own_answers (EdiPartyName n) (EdiPartyName b) keyed same = never
own_answers (UniformResourceIdentifier n) (UniformResourceIdentifier b) keyed same = uri_answers b (host_of n) (keyed refl)
own_answers (IpAddress n) (IpAddress b) keyed same = address_answers n b
own_answers (RegisteredId n) (RegisteredId b) keyed same = never
own_answers _ _ keyed same = absurd (omega (arith, same))

own_excluded_answers : (name base : GeneralName) → IsKeyed name → form_of name ≡ form_of base →
    (has_prefix (own_excluded base) (own_key name) ≡ true) ↔ IsExcluded name base
own_excluded_answers (DnsName n) (DnsName b) keyed same = excluded_dns_answers n b
own_excluded_answers (DnsName n) _ keyed same = absurd (omega (arith, same))
own_excluded_answers _ (DnsName b) keyed same = absurd (omega (arith, same))
own_excluded_answers name base keyed same = own_answers name base keyed same

-- what is within a subtree has its form
pub within_form : (name base : GeneralName) → IsWithin name base → form_of base ≡ form_of name
within_form (Rfc822Name n) (Rfc822Name b) h = refl
within_form (DnsName n) (DnsName b) h = refl
within_form (DirectoryName n) (DirectoryName b) h = refl
within_form (UniformResourceIdentifier n) (UniformResourceIdentifier b) h = refl
within_form (IpAddress n) (IpAddress b) h = refl
within_form _ _ h = absurd h

pub excluded_form : (name base : GeneralName) → IsExcluded name base → form_of base ≡ form_of name
excluded_form (DnsName n) (DnsName b) h = refl
excluded_form name base h = within_form name base h

pub unclear_form : (name base : GeneralName) → IsUnclear name base → form_of base ≡ form_of name
unclear_form (DirectoryName n) (DirectoryName b) h = refl
unclear_form _ _ h = absurd h

pub within_answers : (name base : GeneralName) → IsKeyed name → (has_prefix (base_prefixes base) (name_key name) ≡ true) ↔ IsWithin name base
within_answers name base keyed =
    form_answers (form_of name) (form_of base) (own_key name) (own_prefixes base) (IsWithin name base) (own_answers name base keyed) (within_form name base)

pub excluded_answers : (name base : GeneralName) → IsKeyed name → (has_prefix (excluded_by base) (name_key name) ≡ true) ↔ IsExcluded name base
excluded_answers name base keyed =
    form_answers (form_of name) (form_of base) (own_key name) (own_excluded base) (IsExcluded name base) (own_excluded_answers name base keyed)
    (excluded_form name base)

-- a URI without a host is within no subtree
without_host : (uri base : List ℕ) (host : Option (List ℕ)) → is_some host ≡ false → IsHostWithin host base → ⊥
without_host uri base None nothing h = h
without_host uri base (Some host) nothing h = absurd (cc)

pub no_host_within : (name base : GeneralName) → form_of name ≡ 6 → is_comparable name ≡ false → IsWithin name base → ⊥
no_host_within (UniformResourceIdentifier n) (UniformResourceIdentifier b) is nothing h = without_host n b (host_of n) nothing h
no_host_within (UniformResourceIdentifier n) _ is nothing h = h
no_host_within _ _ is nothing h = absurd (omega (arith, is))
