-- CertPolicies: flags about policies, as named bits (CertPolicyFlags; RFC 5914 2.5)
use Rattle.std.specs.Prelude.{ℕ, List, [], ◌∷◌, codes, refl}
use Rattle.x509_der.specs.declared.error.ErrorKind.{ErrorKind}
use Rattle.x509_der.specs.Form.{Form, IsForm}
use Rattle.x509_der.specs.Round.{Round}
use Rattle.x509_der.specs.Writing.{IsStable}
use Rattle.x509_prim.specs.NamedBits.{flag_bits, flag_writing}
use Rattle.x509_prim.specs.NamedBitsLaws.{flag_bits_lawful, flag_stable}
use Rattle.x509_cert.specs.declared.anchor.cert_policies.CertPolicies.{CertPolicies}

-- the named bits 0 to 2, each as the set of it alone
abbrev pub cert_policies_names : List (List ℕ × ℕ)
cert_policies_names = (codes "INHIBIT_POLICY_MAPPING", 1) ∷ (codes "REQUIRE_EXPLICIT_POLICY", 2) ∷ (codes "INHIBIT_ANY_POLICY", 4) ∷ []

-- each set of them is a number
abbrev pub cert_policies_set : Round CertPolicies ℕ
cert_policies_set = record { to = λ policies. policies.0; from = λ set. record { 0 = set }; back = λ policies. refl; there = λ set. refl }

abbrev pub cert_policies : Form CertPolicies
cert_policies = flag_bits cert_policies_set cert_policies_names

pub cert_policies_lawful : {R : ErrorKind → Type 0} → IsForm R cert_policies
cert_policies_lawful = flag_bits_lawful cert_policies_set cert_policies_names

pub cert_policies_stable : IsStable cert_policies.good (flag_writing cert_policies_set cert_policies_names)
cert_policies_stable = flag_stable cert_policies_set cert_policies_names
