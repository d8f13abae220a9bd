-- PolicyConstraints and InhibitAnyPolicy with numbers of any size, as SkipCerts is an INTEGER (0..MAX) (RFC 5280 4.2.1.11, 4.2.1.14):
-- require_explicit_policy: [0]INTEGER (0..MAX)?, inhibit_policy_mapping: [1]INTEGER (0..MAX)?, and INTEGER (0..MAX)
use Rattle.std.specs.Prelude.{ℕ, List, Option, refl}
use Rattle.x509_prim.specs.Integer.{unsigned_integer}
use Rattle.x509_prim.specs.IntegerLaws.{unsigned_integer_lawful}
use Rattle.x509_der.specs.declared.error.ErrorKind.{ErrorKind}
use Rattle.x509_der.specs.declared.tag.Tag.TheVariants.{Integer, Sequence}
use Rattle.x509_der.specs.Form.{Form, Contents, IsContents, universal}
use Rattle.x509_der.specs.Frames.{Part, implicit, optional, ◌⊗◌, fields}
use Rattle.x509_der.specs.PartRules.{part_rules}
use Rattle.x509_der.specs.Round.{Round, rounded}
use Rattle.x509_lint.specs.declared.skip_certs.AnyInhibitAnyPolicy.{AnyInhibitAnyPolicy}
use Rattle.x509_lint.specs.declared.skip_certs.AnyPolicyConstraints.{AnyPolicyConstraints}

unfoldable pub any_policy_constraints_fields : Part (Option (List ℕ) × Option (List ℕ))
any_policy_constraints_fields = optional (implicit 0 unsigned_integer) ⊗ optional (implicit 1 unsigned_integer)

abbrev pub any_policy_constraints_contents : Contents AnyPolicyConstraints
any_policy_constraints_contents = fields (λ c. (c.require_explicit_policy, c.inhibit_policy_mapping)) (λ (require_explicit_policy, inhibit_policy_mapping). record { require_explicit_policy = require_explicit_policy; inhibit_policy_mapping = inhibit_policy_mapping }) any_policy_constraints_fields

abbrev pub any_policy_constraints : Form AnyPolicyConstraints
any_policy_constraints = universal Sequence any_policy_constraints_contents

pub any_policy_constraints_contents_lawful : {R : ErrorKind → Type 0} → IsContents R any_policy_constraints_contents
unfolding any_policy_constraints_fields
any_policy_constraints_contents_lawful = search (part_rules, unsigned_integer_lawful) depth 20

abbrev pub any_inhibit_any_policy_round : Round AnyInhibitAnyPolicy (List ℕ)
any_inhibit_any_policy_round = record { to = λ inhibit. inhibit.0; from = λ number. record { 0 = number }; back = λ inhibit. refl; there = λ number. refl }

abbrev pub any_inhibit_any_policy : Form AnyInhibitAnyPolicy
any_inhibit_any_policy = rounded any_inhibit_any_policy_round Integer unsigned_integer
