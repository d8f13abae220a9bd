-- CertificatePolicies: list PolicyInformation (RFC 5280 4.2.1.4)
use Rattle.std.specs.Prelude.{List, refl}
use Rattle.x509_der.specs.declared.error.ErrorKind.{ErrorKind}
use Rattle.x509_der.specs.declared.tag.Tag.TheVariants.{Sequence}
use Rattle.x509_der.specs.List.{list_of}
use Rattle.x509_der.specs.ListLaws.{list_lawful}
use Rattle.x509_der.specs.Form.{Form, IsForm, universal}
use Rattle.x509_der.specs.FormLaws.{universal_lawful}
use Rattle.x509_der.specs.Round.{Round, rounded, rounded_lawful}
use Rattle.x509_ext.specs.PolicyInformation.{policy_information, policy_information_lawful}
use Rattle.x509_ext.specs.declared.pkix.certificate_policies.CertificatePolicies.{CertificatePolicies}
use Rattle.x509_ext.specs.declared.pkix.policy_information.PolicyInformation.{PolicyInformation}

abbrev pub policies_round : Round CertificatePolicies (List PolicyInformation)
policies_round = record { to = λ policies. policies.0; from = λ information. record { 0 = information }; back = λ policies. refl; there = λ information. refl }

abbrev policies : Form (List PolicyInformation)
policies = universal Sequence (list_of policy_information)

abbrev pub certificate_policies : Form CertificatePolicies
certificate_policies = rounded policies_round Sequence policies

pub certificate_policies_lawful : {R : ErrorKind → Type 0} → IsForm R certificate_policies
certificate_policies_lawful = rounded_lawful policies_round Sequence policies (λ v. refl) (universal_lawful Sequence _ (list_lawful policy_information policy_information_lawful))
