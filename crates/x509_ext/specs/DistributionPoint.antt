-- DistributionPoint: distribution_point: {0}DistributionPointName?, reasons: [1]Reasons?, crl_issuer: [2]list GeneralName?
-- (RFC 5280 4.2.1.13)
-- CrlDistributionPoints and FreshestCrl: list DistributionPoint (RFC 5280 4.2.1.13, 4.2.1.15)
use Rattle.std.specs.Prelude.{List, Option, refl}
use Rattle.x509_der.specs.declared.error.ErrorKind.{ErrorKind}
use Rattle.x509_der.specs.Form.{Form, Contents, IsContents, universal}
use Rattle.x509_der.specs.StableLaws.{with_field_stable, in_option_stable}
use Rattle.x509_der.specs.Writing.{Writing, with_field, in_option, IsStable}
use Rattle.x509_der.specs.Frames.{Part, optional, implicit, explicit, ◌⊗◌, fields, fields_good}
use Rattle.x509_der.specs.PartRules.{part_rules}
use Rattle.x509_ext.specs.DistributionPointName.{distribution_point_name, distribution_point_name_lawful}
use Rattle.x509_ext.specs.GeneralName.{general_names, general_names_lawful}
use Rattle.x509_ext.specs.declared.pkix.name.distribution_point_name.DistributionPointName.{DistributionPointName}
use Rattle.x509_ext.specs.declared.pkix.name.general_name.GeneralName.{GeneralName}
use Rattle.x509_ext.specs.Reasons.{reasons, reasons_lawful}
use Rattle.x509_ext.specs.declared.pkix.reasons.Reasons.{Reasons}
use Rattle.x509_ext.specs.declared.pkix.distribution_point.DistributionPoint.{DistributionPoint}
use Rattle.x509_der.specs.declared.tag.Tag.TheVariants.{Sequence}
use Rattle.x509_der.specs.List.{list_of}
use Rattle.x509_der.specs.Round.{Round, rounded}
use Rattle.x509_ext.specs.declared.pkix.distribution_points.CrlDistributionPoints.{CrlDistributionPoints}
use Rattle.x509_ext.specs.declared.pkix.distribution_points.FreshestCrl.{FreshestCrl}

unfoldable pub distribution_point_fields : Part (Option DistributionPointName × (Option Reasons × Option (List GeneralName)))
distribution_point_fields = optional (explicit 0 distribution_point_name) ⊗ (optional (implicit 1 reasons) ⊗ optional (implicit 2 general_names))

abbrev pub distribution_point_contents : Contents DistributionPoint
distribution_point_contents = fields (λ d. (d.distribution_point, (d.reasons, d.crl_issuer))) (λ (distribution_point, (reasons, crl_issuer)). record { distribution_point = distribution_point; reasons = reasons; crl_issuer = crl_issuer }) distribution_point_fields

abbrev pub distribution_point : Form DistributionPoint
distribution_point = universal Sequence distribution_point_contents

abbrev points : Form (List DistributionPoint)
points = universal Sequence (list_of distribution_point)

abbrev pub crl_distribution_points_round : Round CrlDistributionPoints (List DistributionPoint)
crl_distribution_points_round = record { to = λ places. places.0; from = λ points. record { 0 = points }; back = λ places. refl; there = λ points. refl }

abbrev pub crl_distribution_points : Form CrlDistributionPoints
crl_distribution_points = rounded crl_distribution_points_round Sequence points

abbrev pub freshest_crl_round : Round FreshestCrl (List DistributionPoint)
freshest_crl_round = record { to = λ places. places.0; from = λ points. record { 0 = points }; back = λ places. refl; there = λ points. refl }

abbrev pub freshest_crl : Form FreshestCrl
freshest_crl = rounded freshest_crl_round Sequence points

pub distribution_point_contents_lawful : {R : ErrorKind → Type 0} → IsContents R distribution_point_contents
unfolding distribution_point_fields
distribution_point_contents_lawful = search (part_rules, distribution_point_name_lawful, reasons_lawful, general_names_lawful) depth 20

-- the reasons as they are written, the rest as it is
abbrev pub distribution_point_writing : Writing Reasons → Writing DistributionPoint
distribution_point_writing writing = with_field (λ d. d.reasons) (λ d r. record d { reasons = r }) (in_option writing)

pub distribution_point_stable : (writing : Writing Reasons) → IsStable reasons.good writing → IsStable distribution_point.good (distribution_point_writing writing)
unfolding distribution_point_fields fields_good
distribution_point_stable writing stable = with_field_stable _ _ (in_option writing) (λ d r. refl) (λ d q r. refl) (λ d g. g.1.0) (λ d r g h. (g.0, (h, g.1.1))) (in_option_stable writing stable)
