-- Equality of what extensions say of constrained names and of CRLs is exact.
use Rattle.std.specs.Prelude.{refl}
use Rattle.x509_der.specs.Exact.{IsExact, exact_number, exact_bool, exact_octets, exact_list, exact_option, exact_both, exact_by, exact_bare}
use Rattle.x509_ext.specs.GeneralNameEquality.{exact_general_name, exact_distribution_point_name}
use Rattle.x509_ext.specs.contracts.pkix.certificate_issuer.CertificateIssuerPartialEq.TheImpl as certificate_issuer_eq
use Rattle.x509_ext.specs.contracts.pkix.crl_number.BaseCrlNumberPartialEq.TheImpl as base_crl_number_eq
use Rattle.x509_ext.specs.contracts.pkix.crl_number.CrlNumberPartialEq.TheImpl as crl_number_eq
use Rattle.x509_ext.specs.contracts.pkix.crl_reason.CrlReason.{enum as reasons_of_entries}
use Rattle.x509_ext.specs.contracts.pkix.crl_reason.CrlReasonPartialEq.TheImpl as crl_reason_eq
use Rattle.x509_ext.specs.contracts.pkix.distribution_point.DistributionPointPartialEq.TheImpl as distribution_point_eq
use Rattle.x509_ext.specs.contracts.pkix.distribution_points.CrlDistributionPointsPartialEq.TheImpl as crl_distribution_points_eq
use Rattle.x509_ext.specs.contracts.pkix.distribution_points.FreshestCrlPartialEq.TheImpl as freshest_crl_eq
use Rattle.x509_ext.specs.contracts.pkix.general_subtree.GeneralSubtreePartialEq.TheImpl as general_subtree_eq
use Rattle.x509_ext.specs.contracts.pkix.issuing_distribution_point.IssuingDistributionPointPartialEq.TheImpl as issuing_distribution_point_eq
use Rattle.x509_ext.specs.contracts.pkix.name_constraints.NameConstraintsPartialEq.TheImpl as name_constraints_eq
use Rattle.x509_ext.specs.contracts.pkix.reasons.ReasonsPartialEq.TheImpl as reasons_eq
use Rattle.x509_ext.specs.declared.pkix.certificate_issuer.CertificateIssuer.{CertificateIssuer}
use Rattle.x509_ext.specs.declared.pkix.crl_number.BaseCrlNumber.{BaseCrlNumber}
use Rattle.x509_ext.specs.declared.pkix.crl_number.CrlNumber.{CrlNumber}
use Rattle.x509_ext.specs.declared.pkix.distribution_point.DistributionPoint.{DistributionPoint}
use Rattle.x509_ext.specs.declared.pkix.distribution_points.CrlDistributionPoints.{CrlDistributionPoints}
use Rattle.x509_ext.specs.declared.pkix.distribution_points.FreshestCrl.{FreshestCrl}
use Rattle.x509_ext.specs.declared.pkix.general_subtree.GeneralSubtree.{GeneralSubtree}
use Rattle.x509_ext.specs.declared.pkix.issuing_distribution_point.IssuingDistributionPoint.{IssuingDistributionPoint}
use Rattle.x509_ext.specs.declared.pkix.name_constraints.NameConstraints.{NameConstraints}
use Rattle.x509_ext.specs.declared.pkix.reasons.Reasons.{Reasons}

pub exact_general_subtree : IsExact general_subtree_eq.ghosts.eq
exact_general_subtree =
    exact_by (λ (g : GeneralSubtree). (g.base, (g.minimum, g.maximum)))
    (λ (base, (minimum, maximum)). record { base = base; minimum = minimum; maximum = maximum })
    (λ g. refl) (exact_both exact_general_name (exact_both exact_number (exact_option exact_number)))

pub exact_name_constraints : IsExact name_constraints_eq.ghosts.eq
exact_name_constraints =
    exact_by (λ (n : NameConstraints). (n.permitted_subtrees, n.excluded_subtrees))
    (λ (permitted_subtrees, excluded_subtrees). record { permitted_subtrees = permitted_subtrees; excluded_subtrees = excluded_subtrees })
    (λ n. refl) (exact_both (exact_option (exact_list exact_general_subtree)) (exact_option (exact_list exact_general_subtree)))

pub exact_reasons : IsExact reasons_eq.ghosts.eq
exact_reasons = exact_by (λ (r : Reasons). r.0) (λ x. record { 0 = x }) (λ r. refl) exact_number

pub exact_distribution_point : IsExact distribution_point_eq.ghosts.eq
exact_distribution_point =
    exact_by (λ (d : DistributionPoint). (d.distribution_point, (d.reasons, d.crl_issuer)))
    (λ (distribution_point, (reasons, crl_issuer)). record { distribution_point = distribution_point; reasons = reasons; crl_issuer = crl_issuer })
    (λ d. refl) (exact_both (exact_option exact_distribution_point_name) (exact_both (exact_option exact_reasons) (exact_option (exact_list exact_general_name))))

pub exact_crl_distribution_points : IsExact crl_distribution_points_eq.ghosts.eq
exact_crl_distribution_points = exact_by (λ (c : CrlDistributionPoints). c.0) (λ x. record { 0 = x }) (λ c. refl) (exact_list exact_distribution_point)

pub exact_freshest_crl : IsExact freshest_crl_eq.ghosts.eq
exact_freshest_crl = exact_by (λ (f : FreshestCrl). f.0) (λ x. record { 0 = x }) (λ f. refl) (exact_list exact_distribution_point)

pub exact_issuing_distribution_point : IsExact issuing_distribution_point_eq.ghosts.eq
exact_issuing_distribution_point =
    exact_by (λ (i : IssuingDistributionPoint). (i.distribution_point, (i.only_contains_user_certs, (i.only_contains_ca_certs, (i.only_some_reasons, (i.indirect_crl, i.only_contains_attribute_certs))))))
    (λ (distribution_point, (only_contains_user_certs, (only_contains_ca_certs, (only_some_reasons, (indirect_crl, only_contains_attribute_certs))))). record { distribution_point = distribution_point; only_contains_user_certs = only_contains_user_certs; only_contains_ca_certs = only_contains_ca_certs; only_some_reasons = only_some_reasons; indirect_crl = indirect_crl; only_contains_attribute_certs = only_contains_attribute_certs })
    (λ i. refl) (exact_both (exact_option exact_distribution_point_name) (exact_both exact_bool (exact_both exact_bool (exact_both (exact_option exact_reasons) (exact_both exact_bool exact_bool)))))

pub exact_crl_number : IsExact crl_number_eq.ghosts.eq
exact_crl_number = exact_by (λ (c : CrlNumber). c.0) (λ x. record { 0 = x }) (λ c. refl) exact_octets

pub exact_base_crl_number : IsExact base_crl_number_eq.ghosts.eq
exact_base_crl_number = exact_by (λ (b : BaseCrlNumber). b.0) (λ x. record { 0 = x }) (λ b. refl) exact_octets

pub exact_crl_reason : IsExact crl_reason_eq.ghosts.eq
exact_crl_reason = exact_bare reasons_of_entries tt

pub exact_certificate_issuer : IsExact certificate_issuer_eq.ghosts.eq
exact_certificate_issuer = exact_by (λ (i : CertificateIssuer). i.0) (λ x. record { 0 = x }) (λ i. refl) (exact_list exact_general_name)
