-- GeneralSubtree: base: GeneralName, minimum: [0]u32=0, maximum: [1]u32? (RFC 5280 4.2.1.10)
-- GeneralSubtrees: list GeneralSubtree
use Rattle.std.specs.Prelude.{ℕ, ◌^◌, List, Option}
use Rattle.x509_der.specs.declared.error.ErrorKind.{ErrorKind}
use Rattle.x509_der.specs.declared.tag.Tag.TheVariants.{Sequence}
use Rattle.x509_der.specs.Form.{Form, IsForm, Contents, IsContents, universal}
use Rattle.x509_der.specs.FormLaws.{universal_lawful}
use Rattle.x509_der.specs.Natural.{natural}
use Rattle.x509_der.specs.DefaultValues.{zero_default}
use Rattle.x509_der.specs.Frames.{Part, required, optional, defaulted, implicit, ◌⊗◌, fields}
use Rattle.x509_der.specs.List.{list_of}
use Rattle.x509_der.specs.ListLaws.{list_lawful}
use Rattle.x509_der.specs.PartRules.{part_rules}
use Rattle.x509_ext.specs.GeneralName.{general_name, general_name_lawful}
use Rattle.x509_ext.specs.declared.pkix.name.general_name.GeneralName.{GeneralName}
use Rattle.x509_ext.specs.declared.pkix.general_subtree.GeneralSubtree.{GeneralSubtree}

unfoldable pub general_subtree_fields : Part (GeneralName × (ℕ × Option ℕ))
general_subtree_fields = required general_name ⊗ (defaulted zero_default (implicit 0 (natural (2 ^ 32))) ⊗ optional (implicit 1 (natural (2 ^ 32))))

abbrev pub general_subtree_contents : Contents GeneralSubtree
general_subtree_contents = fields (λ s. (s.base, (s.minimum, s.maximum))) (λ (base, (minimum, maximum)). record { base = base; minimum = minimum; maximum = maximum }) general_subtree_fields

abbrev pub general_subtree : Form GeneralSubtree
general_subtree = universal Sequence general_subtree_contents

pub general_subtree_contents_lawful : {R : ErrorKind → Type 0} → IsContents R general_subtree_contents
unfolding general_subtree_fields
general_subtree_contents_lawful = search (part_rules, general_name_lawful) depth 20

pub general_subtree_lawful : {R : ErrorKind → Type 0} → IsForm R general_subtree
general_subtree_lawful = universal_lawful Sequence general_subtree_contents general_subtree_contents_lawful

abbrev pub general_subtrees : Form (List GeneralSubtree)
general_subtrees = universal Sequence (list_of general_subtree)

pub general_subtrees_lawful : {R : ErrorKind → Type 0} → IsForm R general_subtrees
general_subtrees_lawful = universal_lawful Sequence _ (list_lawful general_subtree general_subtree_lawful)
