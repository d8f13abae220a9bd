-- DistributionPointName: [0]list GeneralName / [1]RelativeDistinguishedName (RFC 5280 4.2.1.13)
use Rattle.std.specs.Prelude.{refl}
use Rattle.x509_der.specs.declared.error.ErrorKind.{ErrorKind}
use Rattle.x509_der.specs.Form.{Form, IsForm}
use Rattle.x509_der.specs.Cases.{Cases, ◌∥◌, ◌holds◌, none, CaseOf, choice, choice_lawful}
use Rattle.x509_der.specs.Frames.{implicit}
use Rattle.x509_der.specs.FrameLaws.{implicit_lawful}
use Rattle.x509_name.specs.Names.{relative_distinguished_name, rdn_lawful}
use Rattle.x509_ext.specs.GeneralName.{general_names, general_names_lawful}
use Rattle.x509_ext.specs.declared.pkix.name.distribution_point_name.DistributionPointName.{DistributionPointName}
use Rattle.x509_ext.specs.declared.pkix.name.distribution_point_name.DistributionPointName.TheVariants.{FullName, NameRelativeToCRLIssuer}

abbrev pub distribution_point_name_cases : Cases DistributionPointName
distribution_point_name_cases = FullName holds implicit 0 general_names ∥ NameRelativeToCRLIssuer holds implicit 1 relative_distinguished_name ∥ none

abbrev pub distribution_point_name_case : (v : DistributionPointName) → CaseOf distribution_point_name_cases v
distribution_point_name_case (FullName names) = (0, (names, refl))
distribution_point_name_case (NameRelativeToCRLIssuer rdn) = (1, (rdn, refl))

abbrev pub distribution_point_name : Form DistributionPointName
distribution_point_name = choice distribution_point_name_cases distribution_point_name_case

pub distribution_point_name_lawful : {R : ErrorKind → Type 0} → IsForm R distribution_point_name
distribution_point_name_lawful = choice_lawful distribution_point_name_cases distribution_point_name_case refl (
  (implicit_lawful 0 _ refl (λ v. refl) general_names_lawful, λ x. refl),
  (
    (implicit_lawful 1 _ refl (λ v. refl) rdn_lawful, λ x. refl),
    tt,
  ),
)
