-- NameConstraints: permitted_subtrees: [0]list GeneralSubtree?, excluded_subtrees: [1]list GeneralSubtree? (RFC 5280 4.2.1.10)
use Rattle.std.specs.Prelude.{List, Option}
use Rattle.x509_der.specs.declared.error.ErrorKind.{ErrorKind}
use Rattle.x509_der.specs.declared.tag.Tag.TheVariants.{Sequence}
use Rattle.x509_der.specs.Form.{Form, IsForm, Contents, IsContents, universal}
use Rattle.x509_der.specs.FormLaws.{universal_lawful}
use Rattle.x509_der.specs.Frames.{Part, optional, implicit, ◌⊗◌, fields}
use Rattle.x509_der.specs.PartRules.{part_rules}
use Rattle.x509_ext.specs.GeneralSubtree.{general_subtrees, general_subtrees_lawful}
use Rattle.x509_ext.specs.declared.pkix.general_subtree.GeneralSubtree.{GeneralSubtree}
use Rattle.x509_ext.specs.declared.pkix.name_constraints.NameConstraints.{NameConstraints}

unfoldable pub name_constraints_fields : Part (Option (List GeneralSubtree) × Option (List GeneralSubtree))
name_constraints_fields = optional (implicit 0 general_subtrees) ⊗ optional (implicit 1 general_subtrees)

abbrev pub name_constraints_contents : Contents NameConstraints
name_constraints_contents = fields (λ n. (n.permitted_subtrees, n.excluded_subtrees)) (λ (permitted_subtrees, excluded_subtrees). record { permitted_subtrees = permitted_subtrees; excluded_subtrees = excluded_subtrees }) name_constraints_fields

abbrev pub name_constraints : Form NameConstraints
name_constraints = universal Sequence name_constraints_contents

pub name_constraints_contents_lawful : {R : ErrorKind → Type 0} → IsContents R name_constraints_contents
unfolding name_constraints_fields
name_constraints_contents_lawful = search (part_rules, general_subtrees_lawful) depth 20

pub name_constraints_lawful : {R : ErrorKind → Type 0} → IsForm R name_constraints
name_constraints_lawful = universal_lawful Sequence name_constraints_contents name_constraints_contents_lawful
