-- BasicConstraints with a path length of any size: ca: BOOLEAN=FALSE, path_len_constraint: INTEGER (0..MAX)? (RFC 5280 4.2.1.9)
use Rattle.std.specs.Prelude.{ℕ, Bool, List, Option}
use Rattle.x509_prim.specs.Integer.{unsigned_integer}
use Rattle.x509_prim.specs.IntegerLaws.{unsigned_integer_lawful}
use Rattle.x509_der.specs.declared.error.ErrorKind.{ErrorKind}
use Rattle.x509_der.specs.declared.tag.Tag.TheVariants.{Sequence}
use Rattle.x509_der.specs.Form.{Form, Contents, IsContents, universal}
use Rattle.x509_der.specs.Boolean.{boolean}
use Rattle.x509_der.specs.Frames.{Part, optional, defaulted, ◌⊗◌, fields}
use Rattle.x509_der.specs.DefaultValues.{boolean_default}
use Rattle.x509_der.specs.PartRules.{part_rules}
use Rattle.x509_lint.specs.declared.basic_constraints.AnyBasicConstraints.{AnyBasicConstraints}

unfoldable pub any_basic_constraints_fields : Part (Bool × Option (List ℕ))
any_basic_constraints_fields = defaulted boolean_default boolean ⊗ optional unsigned_integer

abbrev pub any_basic_constraints_contents : Contents AnyBasicConstraints
any_basic_constraints_contents = fields (λ b. (b.ca, b.path_len_constraint)) (λ (ca, path_len_constraint). record { ca = ca; path_len_constraint = path_len_constraint }) any_basic_constraints_fields

abbrev pub any_basic_constraints : Form AnyBasicConstraints
any_basic_constraints = universal Sequence any_basic_constraints_contents

pub any_basic_constraints_contents_lawful : {R : ErrorKind → Type 0} → IsContents R any_basic_constraints_contents
unfolding any_basic_constraints_fields
any_basic_constraints_contents_lawful = search (part_rules, unsigned_integer_lawful) depth 20
