-- Which names a certificate may have under name constraints (RFC 5280 4.2.1.10, 6.1.3 (b) and (c), 6.1.4 (g)).
use Rattle.std.specs.Prelude.{◌≡◌, ◌⊎◌, ℕ, ◌==◌, ◌&&◌, ◌||◌, not, Bool, true, false, bytes_eq, List, [], ◌∷◌, ◌++◌, map, filter, All, Any, Option, Some, None, is_some, if◌then◌else◌}
use Rattle.std.specs.List.{list_any}
use Rattle.x509_der.specs.declared.tag.Tag.{Tag}
use Rattle.x509_der.specs.declared.tag.Tag.TheVariants.{Ia5String}
use Rattle.x509_ext.specs.declared.pkix.alternative_names.SubjectAltName.{SubjectAltName}
use Rattle.x509_ext.specs.declared.pkix.general_subtree.GeneralSubtree.{GeneralSubtree}
use Rattle.x509_ext.specs.declared.pkix.name.general_name.GeneralName.{GeneralName}
use Rattle.x509_ext.specs.declared.pkix.name.general_name.GeneralName.TheVariants.{OtherName, Rfc822Name, DnsName, DirectoryName, EdiPartyName, UniformResourceIdentifier, IpAddress, RegisteredId}
use Rattle.x509_ext.specs.declared.pkix.name_constraints.NameConstraints.{NameConstraints}
use Rattle.x509_match.specs.Matching.{BeginsWith, is_compared}
use Rattle.x509_name.specs.AttributeTypes as types
use Rattle.x509_name.specs.Iterators.{members_of}
use Rattle.x509_name.specs.declared.attr.type_and_value.AttributeTypeAndValue.{AttributeTypeAndValue}
use Rattle.x509_constraints.specs.Address.{IsWithinAddress, is_address_subtree}
use Rattle.x509_constraints.specs.AddressKeys.{is_address}
use Rattle.x509_constraints.specs.Email.{IsWithinEmail, is_mailbox, is_mailbox_at, mailbox_of}
use Rattle.x509_constraints.specs.Host.{IsOneWithinDns, IsWithinDns}
use Rattle.x509_constraints.specs.Uri.{IsWithinUri, host_of, is_named}
use Rattle.x509_host.specs.Host.{dot, is_host, is_host_or_wildcard}

-- ---- the subtrees of a set

-- an absent list has none
abbrev pub subtrees_of : Option (List GeneralSubtree) → List GeneralSubtree
subtrees_of None = []
subtrees_of (Some subtrees) = subtrees

abbrev pub permitted : NameConstraints → List GeneralSubtree
permitted set = subtrees_of set.permitted_subtrees

abbrev pub excluded : NameConstraints → List GeneralSubtree
excluded set = subtrees_of set.excluded_subtrees

-- ---- forms of names

-- the number of its tag (4.2.1.6)
abbrev pub form_of : GeneralName → ℕ
form_of (OtherName _) = 0
form_of (Rfc822Name _) = 1
form_of (DnsName _) = 2
form_of (DirectoryName _) = 4
form_of (EdiPartyName _) = 5
form_of (UniformResourceIdentifier _) = 6
form_of (IpAddress _) = 7
form_of (RegisteredId _) = 8

-- some subtree has the form
abbrev pub HasForm : ℕ → List GeneralSubtree → Type 0
HasForm form subtrees = Any (λ subtree. form_of subtree.base ≡ form) subtrees

-- ---- within (4.2.1.10)

-- the name is within the subtree with that base; both have one form
abbrev pub IsWithin : GeneralName → GeneralName → Type 0
IsWithin (DirectoryName name) (DirectoryName base) = BeginsWith name base
IsWithin (DnsName name) (DnsName base) = IsWithinDns name base
IsWithin (Rfc822Name name) (Rfc822Name base) = IsWithinEmail name base
IsWithin (UniformResourceIdentifier name) (UniformResourceIdentifier base) = IsWithinUri name base
IsWithin (IpAddress name) (IpAddress base) = IsWithinAddress name base
IsWithin _ _ = ⊥

abbrev pub IsWithinOne : GeneralName → List GeneralSubtree → Type 0
IsWithinOne name subtrees = Any (λ subtree. IsWithin name subtree.base) subtrees

-- ---- excluded

-- the name, or a host that its wildcard stands for, is within the subtree with that base
abbrev pub IsExcluded : GeneralName → GeneralName → Type 0
IsExcluded (DnsName name) (DnsName base) = IsOneWithinDns name base
IsExcluded name base = IsWithin name base

-- both are of one type, and one of them isn't compared as a text
abbrev pub AreUnclear : AttributeTypeAndValue → AttributeTypeAndValue → Type 0
AreUnclear a b = (a.oid ≡ b.oid) × ((is_compared a ≡ false) ⊎ (is_compared b ≡ false))

-- at some place the RDNs of both have attributes of one type of which one can't be compared
abbrev pub AreUnclearSomewhere : List (List AttributeTypeAndValue) → List (List AttributeTypeAndValue) → Type 0
AreUnclearSomewhere (x ∷ xs) (y ∷ ys) = Any (λ a. Any (λ b. AreUnclear a b) y) x ⊎ AreUnclearSomewhere xs ys
AreUnclearSomewhere _ _ = ⊥

abbrev pub IsUnclear : GeneralName → GeneralName → Type 0
IsUnclear (DirectoryName name) (DirectoryName base) = AreUnclearSomewhere name base
IsUnclear _ _ = ⊥

-- A name that can be compared with subtrees; of directory names each attribute is asked with its own place.
abbrev pub is_comparable : GeneralName → Bool
is_comparable (DirectoryName _) = true
is_comparable (DnsName name) = is_host_or_wildcard name
is_comparable (Rfc822Name name) = is_mailbox name
is_comparable (UniformResourceIdentifier name) = is_some (host_of name)
is_comparable (IpAddress name) = is_address name
is_comparable _ = false

-- ---- subtrees that can be used (4.2.1.10)

abbrev pub without_dot : List ℕ → List ℕ
without_dot [] = []
without_dot (c ∷ rest) = if c == dot then rest else c ∷ rest

-- empty, or a host, with or without a dot in front
abbrev pub is_hosts : List ℕ → Bool
is_hosts [] = true
is_hosts (c ∷ rest) = is_host (without_dot (c ∷ rest))

-- the same, and no address
abbrev pub is_named_hosts : List ℕ → Bool
is_named_hosts [] = true
is_named_hosts (c ∷ rest) = is_named (without_dot (c ∷ rest))

abbrev pub is_mailboxes_at : List ℕ → Option (List ℕ × List ℕ) → Bool
is_mailboxes_at base None = is_hosts base
is_mailboxes_at base parts = is_mailbox_at parts

-- a mailbox, or the hosts of some
abbrev pub is_mailboxes : List ℕ → Bool
is_mailboxes base = is_mailboxes_at base (mailbox_of base)

-- it has the syntax that names of its form are compared by, or that form isn't compared
abbrev pub is_usable_base : GeneralName → Bool
is_usable_base (DnsName base) = is_hosts base
is_usable_base (Rfc822Name base) = is_mailboxes base
is_usable_base (UniformResourceIdentifier base) = is_named_hosts base
is_usable_base (IpAddress base) = is_address_subtree base
is_usable_base _ = true

-- no other minimum than 0, no maximum, and such a base
abbrev pub is_usable_subtree : GeneralSubtree → Bool
is_usable_subtree subtree = (subtree.minimum == 0) && (not (is_some subtree.maximum) && is_usable_base subtree.base)

-- some subtree of the form can't be used
abbrev pub has_unusable : ℕ → List GeneralSubtree → Bool
has_unusable form subtrees = list_any (λ subtree. (form_of subtree.base == form) && not (is_usable_subtree subtree)) subtrees

-- ---- which names are allowed (6.1.3 (b), (c))

-- What one set says of a name.
pub record IsAllowedBy (set : NameConstraints) (name : GeneralName) : Type 0 where
  -- the subtrees of its form can be used
  pub usable : (has_unusable (form_of name) (permitted set) || has_unusable (form_of name) (excluded set)) ≡ false
  -- (b): where there are permitted subtrees of its form, it is within one of them
  pub within_permitted : HasForm (form_of name) (permitted set) → IsWithinOne name (permitted set)
  -- (c): it is within no excluded one
  pub not_excluded : Any (λ subtree. IsExcluded name subtree.base) (excluded set) → ⊥
  -- where excluded subtrees have its form, it can be compared with them
  pub compared : HasForm (form_of name) (excluded set) → is_comparable name ≡ true
  pub clear : Any (λ subtree. IsUnclear name subtree.base) (excluded set) → ⊥

-- The sets that apply to a certificate: the initial one, and that of each certificate above it that has one.
abbrev pub IsAllowed : List NameConstraints → GeneralName → Type 0
IsAllowed sets name = All (λ set. IsAllowedBy set name) sets

-- ---- which names are asked (6.1.3 (b), 4.2.1.6)

abbrev pub subject_asked : List (List AttributeTypeAndValue) → List GeneralName
subject_asked [] = []
subject_asked (rdn ∷ rdns) = DirectoryName (rdn ∷ rdns) ∷ []

-- The address of an emailAddress. One that is no IA5String, as it has to be (4.1.2.6), is taken for an empty text, which can't be compared.
abbrev pub address_of : Tag → List ℕ → List ℕ
address_of Ia5String octets = octets
address_of _ octets = []

abbrev pub email_of : AttributeTypeAndValue → GeneralName
email_of a = Rfc822Name (address_of a.value.tag a.value.value)

abbrev pub emails_of : List AttributeTypeAndValue → List GeneralName
emails_of attributes = map email_of (filter (λ a. bytes_eq a.oid types.email_address) attributes)

abbrev pub others_asked : List (List AttributeTypeAndValue) → Option SubjectAltName → List GeneralName
others_asked subject (Some alternative) = alternative.0
others_asked subject None = emails_of (members_of subject)

-- The subject if it isn't empty, the names of the SAN, and where there is none the e-mail addresses of the subject.
abbrev pub names_asked : List (List AttributeTypeAndValue) → Option SubjectAltName → List GeneralName
names_asked subject alternative = subject_asked subject ++ others_asked subject alternative

abbrev pub AreAllowed : List NameConstraints → List GeneralName → Type 0
AreAllowed sets names = All (λ name. IsAllowed sets name) names

-- of one attribute, where there is no SAN
abbrev pub IsAttributeAllowed : List NameConstraints → AttributeTypeAndValue → Type 0
IsAttributeAllowed sets a = bytes_eq a.oid types.email_address ≡ true → IsAllowed sets (email_of a)

-- ---- which constraints a certificate may have (4.2.1.10)

-- a list of subtrees that is there has one (SIZE (1..MAX))
abbrev pub IsUsable : NameConstraints → Type 0
IsUsable set = (set.permitted_subtrees ≡ Some [] → ⊥) × (set.excluded_subtrees ≡ Some [] → ⊥)
