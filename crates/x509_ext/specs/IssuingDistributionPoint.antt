-- IssuingDistributionPoint: distribution_point: {0}DistributionPointName?, only_contains_user_certs: [1]BOOLEAN=FALSE,
-- only_contains_ca_certs: [2]BOOLEAN=FALSE, only_some_reasons: [3]Reasons?, indirect_crl: [4]BOOLEAN=FALSE,
-- only_contains_attribute_certs: [5]BOOLEAN=FALSE (RFC 5280 5.2.5)
use Rattle.std.specs.Prelude.{ℕ, Bool, Option, refl}
use Rattle.x509_der.specs.declared.error.ErrorKind.{ErrorKind}
use Rattle.x509_der.specs.Boolean.{boolean}
use Rattle.x509_der.specs.Form.{Form, Contents, IsContents, universal}
use Rattle.x509_der.specs.StableLaws.{with_field_stable, in_option_stable}
use Rattle.x509_der.specs.Writing.{Writing, with_field, in_option, IsStable}
use Rattle.x509_der.specs.DefaultValues.{boolean_default}
use Rattle.x509_der.specs.Frames.{Part, optional, defaulted, implicit, explicit, ◌⊗◌, fields, fields_good}
use Rattle.x509_der.specs.PartRules.{part_rules}
use Rattle.x509_ext.specs.DistributionPointName.{distribution_point_name, distribution_point_name_lawful}
use Rattle.x509_ext.specs.declared.pkix.name.distribution_point_name.DistributionPointName.{DistributionPointName}
use Rattle.x509_ext.specs.Reasons.{reasons, reasons_lawful}
use Rattle.x509_ext.specs.declared.pkix.reasons.Reasons.{Reasons}
use Rattle.x509_ext.specs.declared.pkix.issuing_distribution_point.IssuingDistributionPoint.{IssuingDistributionPoint}
use Rattle.x509_der.specs.declared.tag.Tag.TheVariants.{Sequence}

-- [n]BOOLEAN=FALSE
abbrev said_or_not : ℕ → Part Bool
said_or_not n = defaulted boolean_default (implicit n boolean)

unfoldable pub issuing_distribution_point_fields : Part ((Option DistributionPointName × (Bool × Bool)) × (Option Reasons × (Bool × Bool)))
issuing_distribution_point_fields =
    (optional (explicit 0 distribution_point_name) ⊗ (said_or_not 1 ⊗ said_or_not 2))
    ⊗ (optional (implicit 3 reasons) ⊗ (said_or_not 4 ⊗ said_or_not 5))

abbrev pub issuing_distribution_point_contents : Contents IssuingDistributionPoint
issuing_distribution_point_contents = fields
    (λ i. ((i.distribution_point, (i.only_contains_user_certs, i.only_contains_ca_certs)), (i.only_some_reasons, (i.indirect_crl, i.only_contains_attribute_certs))))
    (λ ((distribution_point, (only_contains_user_certs, only_contains_ca_certs)), (only_some_reasons, (indirect_crl, only_contains_attribute_certs))). record { distribution_point = distribution_point; only_contains_user_certs = only_contains_user_certs; only_contains_ca_certs = only_contains_ca_certs; only_some_reasons = only_some_reasons; indirect_crl = indirect_crl; only_contains_attribute_certs = only_contains_attribute_certs })
    issuing_distribution_point_fields

abbrev pub issuing_distribution_point : Form IssuingDistributionPoint
issuing_distribution_point = universal Sequence issuing_distribution_point_contents

pub issuing_distribution_point_contents_lawful : {R : ErrorKind → Type 0} → IsContents R issuing_distribution_point_contents
unfolding issuing_distribution_point_fields
issuing_distribution_point_contents_lawful = search (part_rules, distribution_point_name_lawful, reasons_lawful) depth 20

-- the reasons as they are written, the rest as it is
abbrev pub issuing_distribution_point_writing : Writing Reasons → Writing IssuingDistributionPoint
issuing_distribution_point_writing writing = with_field (λ i. i.only_some_reasons) (λ i r. record i { only_some_reasons = r }) (in_option writing)

pub issuing_distribution_point_stable : (writing : Writing Reasons) → IsStable reasons.good writing → IsStable issuing_distribution_point.good (issuing_distribution_point_writing writing)
unfolding issuing_distribution_point_fields fields_good
issuing_distribution_point_stable writing stable = with_field_stable _ _ (in_option writing) (λ i r. refl) (λ i q r. refl) (λ i g. g.1.0) (λ i r g h. (g.0, (h, g.1.1))) (in_option_stable writing stable)
