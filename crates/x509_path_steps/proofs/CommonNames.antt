-- Names of servers in common names: what a text names is one name at most, and all sets that apply allow it exactly where the constraints do.
use Rattle.std.proofs.Common.{◌≡◌, ◌↔◌, ◌⊎◌, ◌∙◌, ◌++◌, ◌<◌, ℕ, Bool, drop, true, false, inl, inr, List, [], ◌∷◌, Option, Some, None, get_or, length, ap, refl, sym, subst, arith, IsTrue}
use Rattle.std.proofs.NetLemmas.Theorems.{IsIpText_unique}
use Rattle.std.proofs.lemmas.List.Elements.{All-contains, Contains-get_or}
use Rattle.std.specs.List.{All}
use Rattle.x509_constraints.specs.Constraints.{IsAllowed, IsAllowedBy}
use Rattle.x509_der.specs.Arcs.{subidentifier}
use Rattle.x509_ext.specs.AlternativeNames.{subject_alt_name}
use Rattle.x509_ext.specs.Identifiers.{id_ce}
use Rattle.x509_ext.specs.declared.pkix.alternative_names.SubjectAltName.{SubjectAltName}
use Rattle.x509_ext.specs.declared.pkix.name.general_name.GeneralName.{GeneralName}
use Rattle.x509_ext.specs.declared.pkix.name.general_name.GeneralName.TheVariants.{OtherName, Rfc822Name, DnsName, DirectoryName, EdiPartyName, UniformResourceIdentifier, IpAddress, RegisteredId}
use Rattle.x509_ext.specs.declared.pkix.name_constraints.NameConstraints.{NameConstraints}
use Rattle.x509_host.specs.Host.{is_host_or_wildcard, without_root}
use Rattle.x509_match.specs.Keys.{attribute_key, octets_key, value_key}
use Rattle.x509_name.specs.AttributeTypes as types
use Rattle.x509_name.specs.declared.attr.type_and_value.AttributeTypeAndValue.{AttributeTypeAndValue}
use Rattle.x509_path.specs.Certificates.{Certificate, HasPayload, extensions_of}
use Rattle.x509_path_steps.proofs.AllowedNames.{one_found}
use Rattle.x509_path_steps.specs.CommonNames.{IsAddressText, IsServerText, NamesServer, has_form_of, ip_octets, text_of}
use Rattle.x509_path_steps.specs.Inputs.{Inputs}
use Rattle.x509_path_steps.specs.ServerNames.{AreForms, IsOneAllowed, has_form}
use Rattle.x509_path_steps.specs.Steps.{Collects}
use Rattle.x509_path_steps.specs.Validation.{AreCommonNamesAllowed, HasAlternativeNames}
use Rattle.x509_path_steps.specs.declared.common_names.Forms.{Forms}

-- ---- one name at most

address_unique : (text x y : List ℕ) → IsAddressText text x → IsAddressText text y → x ≡ y
address_unique text x y (a, is_a, at) (b, is_b, bt) = at ∙ (ap ip_octets (IsIpText_unique text a b is_a is_b) ∙ sym bt)

-- the one host, or an address
abbrev OneOf : List ℕ → GeneralName → Type 0
OneOf text name =
    (((octets : List ℕ) → IsAddressText text octets → ⊥) × (name ≡ DnsName (without_root text))) ⊎ ((octets : List ℕ) × IsAddressText text octets × (name ≡ IpAddress octets))

one_of : (text : List ℕ) (name : GeneralName) → IsServerText text name → OneOf text name
one_of text (DnsName name) (none, (is, host)) = inl (none, ap DnsName is)
one_of text (IpAddress octets) is = inr (octets, is, refl)
one_of text (OtherName x) is = absurd is
one_of text (Rfc822Name x) is = absurd is
one_of text (DirectoryName x) is = absurd is
one_of text (EdiPartyName x) is = absurd is
one_of text (UniformResourceIdentifier x) is = absurd is
one_of text (RegisteredId x) is = absurd is

one_at_most : (text : List ℕ) (a b : GeneralName) → OneOf text a → OneOf text b → a ≡ b
one_at_most text a b (inl (none, is)) (inl (others, at)) = is ∙ sym at
one_at_most text a b (inl (none, is)) (inr (octets, address, at)) = absurd (none octets address)
one_at_most text a b (inr (octets, address, is)) (inl (none, at)) = absurd (none octets address)
one_at_most text a b (inr (x, is_x, is)) (inr (y, is_y, at)) = is ∙ (ap IpAddress (address_unique text x y is_x is_y) ∙ sym at)

text_unique : {o : Option (List ℕ)} {x y : List ℕ} → o ≡ Some x → o ≡ Some y → x ≡ y
text_unique {o} {x} {y} is at = let e : Some x ≡ Some y = sym is ∙ at in cc

server_unique : (a : AttributeTypeAndValue) (x y : GeneralName) → NamesServer a x → NamesServer a y → x ≡ y
server_unique a x y (own, (s, is, names)) (other, (t, at, too)) =
    one_at_most t x y (one_of t x (subst (λ text. IsServerText text x) (text_unique is at) names)) (one_of t y too)

-- ---- what texts and attributes are no names

-- what is no address, and no host without the dot of the root, names no server
pub no_server : (text : List ℕ) → ((octets : List ℕ) → ¬ (IsAddressText text octets)) → is_host_or_wildcard (without_root text) ≡ false → (name : GeneralName) → ¬ (IsServerText text name)
no_server text none no_host (DnsName name) = λ (_, (is, host)). let e : true ≡ false = sym host ∙ (ap is_host_or_wildcard is ∙ no_host) in cc
no_server text none no_host (IpAddress octets) = none octets
no_server text none no_host (OtherName x) = λ h. h
no_server text none no_host (Rfc822Name x) = λ h. h
no_server text none no_host (DirectoryName x) = λ h. h
no_server text none no_host (EdiPartyName x) = λ h. h
no_server text none no_host (UniformResourceIdentifier x) = λ h. h
no_server text none no_host (RegisteredId x) = λ h. h

-- ---- keys of common names

common_name_octets : types.common_name ≡ 0x55 ∷ 0x04 ∷ 0x03 ∷ []
unfolding subidentifier
common_name_octets = refl

pub common_name_key : (a : AttributeTypeAndValue) → a.oid ≡ types.common_name → attribute_key a ≡ 3 ∷ 0x55 ∷ 0x04 ∷ 0x03 ∷ value_key (text_of a) a.value.tag a.value.value
unfolding octets_key
common_name_key a is = ap (λ oid. length oid ∷ oid ++ value_key (text_of a) a.value.tag a.value.value) (is ∙ common_name_octets)

module _ (key : List ℕ) (a : AttributeTypeAndValue) (own : a.oid ≡ types.common_name) (is : key ≡ attribute_key a) where
  abbrev Keyed : Option (List ℕ) → Type 0
  Keyed text = key ≡ 3 ∷ 0x55 ∷ 0x04 ∷ 0x03 ∷ value_key text a.value.tag a.value.value

  keyed : Keyed (text_of a)
  keyed = is ∙ common_name_key a own

  pub text_in_key : get_or key 4 0 ≡ 0 → Some (drop 5 key) ≡ text_of a
  text_in_key zero = by_text (text_of a) keyed
    where
      by_text : (text : Option (List ℕ)) → Keyed text → Some (drop 5 key) ≡ text
      by_text (Some text) at = ap (λ k. Some (drop 5 k)) at
      by_text None at = absurd (let e : 1 ≡ 0 = sym (ap (λ k. get_or k 4 0) at) ∙ zero in cc)

  pub no_text_in_key : (get_or key 4 0 ≡ 0 → ⊥) → None ≡ text_of a
  no_text_in_key other = by_text (text_of a) keyed
    where
      by_text : (text : Option (List ℕ)) → Keyed text → None ≡ text
      by_text (Some text) at = absurd (other (ap (λ k. get_or k 4 0) at))
      by_text None at = refl

  pub key_is_long : length key < 5 → ⊥
  key_is_long less = by_text (text_of a) keyed
    where
      by_text : (text : Option (List ℕ)) → Keyed text → ⊥
      by_text (Some text) at = omega (arith, less, ap length at)
      by_text None at = omega (arith, less, ap length at)

-- ---- one attribute

-- which forms the SAN has is known
pub form_known : (forms : Forms) (names : Option SubjectAltName) → AreForms forms names → (name : GeneralName) → has_form forms name ≡ has_form_of name names
form_known forms names are (DnsName x) = are.dns
form_known forms names are (IpAddress x) = are.ip
form_known forms names are (OtherName x) = refl
form_known forms names are (Rfc822Name x) = refl
form_known forms names are (DirectoryName x) = refl
form_known forms names are (EdiPartyName x) = refl
form_known forms names are (UniformResourceIdentifier x) = refl
form_known forms names are (RegisteredId x) = refl

-- it is asked as nothing
pub not_asked : (applied : List NameConstraints) (names : Option SubjectAltName) (a : AttributeTypeAndValue) → ((name : GeneralName) → ¬ (NamesServer a name)) → IsTrue true ↔ IsOneAllowed applied names a
not_asked applied names a none = ((λ h name asked. absurd (none name asked.0)), (λ h. refl))

-- it names a server, and the SAN has a name of that form
pub named_in_san : (applied : List NameConstraints) (names : Option SubjectAltName) (a : AttributeTypeAndValue) (found : GeneralName) → NamesServer a found → has_form_of found names ≡ true → IsTrue true ↔ IsOneAllowed applied names a
named_in_san applied names a found is has = (
  (λ h name asked. absurd (let e : true ≡ false = sym has ∙ (ap (λ n. has_form_of n names) (server_unique a found name is asked.0) ∙ asked.1) in cc)),
  (λ h. refl),
)

-- it is asked as that name
pub asked_as : (applied : List NameConstraints) (names : Option SubjectAltName) (a : AttributeTypeAndValue) (found : GeneralName) (b : Bool) → NamesServer a found → has_form_of found names ≡ false →
    IsTrue b ↔ IsAllowed applied found → IsTrue b ↔ IsOneAllowed applied names a
asked_as applied names a found b is has answers = (
  (λ h name asked. subst (IsAllowed applied) (server_unique a found name is asked.0) (answers.0 h)),
  (λ all. answers.1 (all found (is, has))),
)

-- ---- all constraints that apply

module _ (inputs : Inputs) (before : List Certificate) (c : Certificate) (sets : List NameConstraints) (collects : Collects inputs before sets) where
  -- of all attributes
  abbrev AllAllowed : Option SubjectAltName → Type 0
  AllAllowed names = All (λ rdn. All (λ a. IsOneAllowed sets names a) rdn) c.tbs_certificate.subject

  module _ (found : Option SubjectAltName) (has : HasAlternativeNames c found) where
    there : AllAllowed found → AreCommonNamesAllowed inputs before c
    there all constraints apply names is =
        let each : AllAllowed names = subst AllAllowed (one_found (HasPayload subject_alt_name (id_ce 17) (extensions_of c)) found names has is) all in
        λ k d less j e within name asked. All-contains (λ set. IsAllowedBy set name) sets constraints (each k d less j e within name asked) ((collects constraints).1 apply)

    back : AreCommonNamesAllowed inputs before c → AllAllowed found
    back each k d less j e within name asked i s inside =
        each (get_or sets i s) ((collects (get_or sets i s)).0 (Contains-get_or sets i s inside)) found has k d less j e within name asked

    pub common_allowed : AllAllowed found ↔ AreCommonNamesAllowed inputs before c
    common_allowed = (there, back)

  -- each is allowed where no constraints apply
  pub no_common_limits : sets ≡ [] → AreCommonNamesAllowed inputs before c
  no_common_limits none constraints apply names is = λ k d less. absurd (let (i, within, at) = (collects constraints).1 apply in omega (arith, within, ap length none))
