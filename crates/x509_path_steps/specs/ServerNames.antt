-- Tools of the proofs: names of servers in common names, as they are asked under all constraints that apply.
use Rattle.std.specs.List.{list_any}
use Rattle.std.specs.Prelude.{◌≡◌, Bool, false, List, Option}
use Rattle.x509_constraints.specs.Constraints.{IsAllowed}
use Rattle.x509_ext.specs.declared.pkix.alternative_names.SubjectAltName.{SubjectAltName}
use Rattle.x509_ext.specs.declared.pkix.name.general_name.GeneralName.{GeneralName}
use Rattle.x509_ext.specs.declared.pkix.name.general_name.GeneralName.TheVariants.{DnsName, IpAddress}
use Rattle.x509_ext.specs.declared.pkix.name_constraints.NameConstraints.{NameConstraints}
use Rattle.x509_name.specs.declared.attr.type_and_value.AttributeTypeAndValue.{AttributeTypeAndValue}
use Rattle.x509_path_steps.specs.CommonNames.{IsAskedAs, is_dns_name, is_ip_address, names_of}
use Rattle.x509_path_steps.specs.declared.common_names.Forms.{Forms}

-- which of the two forms a SAN has
pub record AreForms (forms : Forms) (names : Option SubjectAltName) : Type 0 where
  pub dns : forms.dns ≡ list_any is_dns_name (names_of names)
  pub ip : forms.ip ≡ list_any is_ip_address (names_of names)

abbrev pub has_form : Forms → GeneralName → Bool
has_form forms (DnsName _) = forms.dns
has_form forms (IpAddress _) = forms.ip
has_form forms _ = false

-- what a common name is asked as is allowed by all sets
abbrev pub IsOneAllowed : List NameConstraints → Option SubjectAltName → AttributeTypeAndValue → Type 0
IsOneAllowed sets names a = (name : GeneralName) → IsAskedAs names a name → IsAllowed sets name
