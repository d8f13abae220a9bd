-- Keys of names and of subtrees, behind the number of their form: a name is within a subtree where its key begins with one of the subtree's.
use Rattle.std.specs.Prelude.{ℕ, zero, suc, ◌==◌, ◌||◌, Bool, true, false, List, [], ◌∷◌, ◌++◌, map, Option, None, Some, if◌then◌else◌}
use Rattle.std.specs.List.{flat_map, list_any}
use Rattle.x509_ext.specs.declared.pkix.general_subtree.GeneralSubtree.{GeneralSubtree}
use Rattle.x509_ext.specs.declared.pkix.name.general_name.GeneralName.{GeneralName}
use Rattle.x509_ext.specs.declared.pkix.name_constraints.NameConstraints.{NameConstraints}
use Rattle.x509_ext.specs.declared.pkix.name.general_name.GeneralName.TheVariants.{Rfc822Name, DnsName, DirectoryName, UniformResourceIdentifier, IpAddress}
use Rattle.x509_match.specs.Keys.{attribute_key}
use Rattle.x509_name.specs.declared.attr.type_and_value.AttributeTypeAndValue.{AttributeTypeAndValue}
use Rattle.x509_constraints.specs.AddressKeys.{address_key, address_prefixes}
use Rattle.x509_constraints.specs.Constraints.{excluded, form_of, has_unusable, permitted}
use Rattle.x509_constraints.specs.Directory.{directory_key}
use Rattle.x509_constraints.specs.Email.{email_key, email_prefix}
use Rattle.x509_constraints.specs.Keys.{dns_key, dns_prefixes, excluded_dns_prefixes, host_key, host_prefix}
use Rattle.x509_constraints.specs.Prefixes.{has_prefix, upto}
use Rattle.x509_constraints.specs.Uri.{host_of}

-- ---- directory names

abbrev pub placed : List ℕ → List (List ℕ) → List (List ℕ)
placed key [] = key ∷ []
placed key (x ∷ xs) = if upto key x then key ∷ x ∷ xs else x ∷ placed key xs

-- the keys in ascending order
abbrev pub in_order : List (List ℕ) → List (List ℕ)
in_order [] = []
in_order (x ∷ xs) = placed x (in_order xs)

-- what RDNs are compared by: what the attributes are, in ascending order, each with a stop behind it
abbrev pub rdn_octets : List AttributeTypeAndValue → List ℕ
rdn_octets rdn = directory_key (in_order (map attribute_key rdn))

abbrev pub distinguished_key : List (List AttributeTypeAndValue) → List ℕ
distinguished_key name = directory_key (map rdn_octets name)

-- ---- URIs

abbrev pub key_of_host : Option (List ℕ) → List ℕ
key_of_host None = []
key_of_host (Some host) = host_key host

-- ---- all forms

abbrev pub own_key : GeneralName → List ℕ
own_key (DirectoryName name) = distinguished_key name
own_key (DnsName name) = dns_key name
own_key (Rfc822Name name) = email_key name
own_key (UniformResourceIdentifier name) = key_of_host (host_of name)
own_key (IpAddress name) = address_key name
own_key _ = []

abbrev pub name_key : GeneralName → List ℕ
name_key name = form_of name ∷ own_key name

abbrev pub own_prefixes : GeneralName → List (List ℕ)
own_prefixes (DirectoryName base) = distinguished_key base ∷ []
own_prefixes (DnsName base) = dns_prefixes base
own_prefixes (Rfc822Name base) = email_prefix base ∷ []
own_prefixes (UniformResourceIdentifier base) = host_prefix base ∷ []
own_prefixes (IpAddress base) = address_prefixes base
own_prefixes _ = []

-- those of names that the subtree excludes
abbrev pub own_excluded : GeneralName → List (List ℕ)
own_excluded (DnsName base) = excluded_dns_prefixes base
own_excluded base = own_prefixes base

abbrev pub base_prefixes : GeneralName → List (List ℕ)
base_prefixes base = map (λ prefix. form_of base ∷ prefix) (own_prefixes base)

abbrev pub prefixes_of : List GeneralSubtree → List (List ℕ)
prefixes_of subtrees = flat_map (λ subtree. base_prefixes subtree.base) subtrees

abbrev pub excluded_by : GeneralName → List (List ℕ)
excluded_by base = map (λ prefix. form_of base ∷ prefix) (own_excluded base)

abbrev pub excluded_prefixes : List GeneralSubtree → List (List ℕ)
excluded_prefixes subtrees = flat_map (λ subtree. excluded_by subtree.base) subtrees

-- ---- forms that are constrained

abbrev pub has_form : ℕ → List GeneralSubtree → Bool
has_form form subtrees = list_any (λ subtree. form_of subtree.base == form) subtrees

-- all names of the form, where no subtree has it
abbrev pub open_form : List GeneralSubtree → ℕ → List (List ℕ)
open_form subtrees form = if has_form form subtrees then [] else (form ∷ []) ∷ []

-- those of the forms below a number
abbrev pub open_below : List GeneralSubtree → ℕ → List (List ℕ)
open_below subtrees zero = []
open_below subtrees (suc n) = open_below subtrees n ++ open_form subtrees n

-- where the keys of the names begin that are permitted, if there is a permitted subtree
abbrev pub permitted_prefixes : List GeneralSubtree → List (List ℕ)
permitted_prefixes subtrees = prefixes_of subtrees ++ open_below subtrees 9

-- ---- what one set says

abbrev pub has_none : List GeneralSubtree → Bool
has_none [] = true
has_none (subtree ∷ subtrees) = false

-- it has no permitted subtree, or permits names with such a key
abbrev pub permits : List ℕ → NameConstraints → Bool
permits key set = has_none (permitted set) || has_prefix (permitted_prefixes (permitted set)) key

abbrev pub excludes : List ℕ → NameConstraints → Bool
excludes key set = has_prefix (excluded_prefixes (excluded set)) key

-- ---- what is asked of sets by the form of a name

-- it has a subtree of the form
abbrev pub constrains : ℕ → NameConstraints → Bool
constrains form set = has_form form (permitted set) || has_form form (excluded set)

-- it has an excluded one
abbrev pub excludes_form : ℕ → NameConstraints → Bool
excludes_form form set = has_form form (excluded set)

-- it has one that can't be used
abbrev pub is_unusable_for : ℕ → NameConstraints → Bool
is_unusable_for form set = has_unusable form (permitted set) || has_unusable form (excluded set)
