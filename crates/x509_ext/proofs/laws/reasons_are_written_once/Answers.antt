use Rattle.x509_der.specs.ListWriting.{members_stable}
use Rattle.x509_der.specs.Round.{round_stable}
use Rattle.x509_ext.specs.DistributionPoint.{crl_distribution_points_round, distribution_point_stable, freshest_crl_round}
use Rattle.x509_ext.specs.IssuingDistributionPoint.{issuing_distribution_point_stable}
use Rattle.x509_ext.specs.Reasons.{reasons_stable}
use Rattle.x509_ext.proofs.laws.reasons_are_written_once.Goals as goal

pub returns-clause-reasons : goal.returns-clause-reasons
returns-clause-reasons c = reasons_stable

pub returns-clause-point : goal.returns-clause-point
returns-clause-point c = distribution_point_stable _ reasons_stable

pub returns-clause-points : goal.returns-clause-points
returns-clause-points c = round_stable crl_distribution_points_round _ (members_stable _ (distribution_point_stable _ reasons_stable))

pub returns-clause-freshest : goal.returns-clause-freshest
returns-clause-freshest c = round_stable freshest_crl_round _ (members_stable _ (distribution_point_stable _ reasons_stable))

pub returns-clause-issuing : goal.returns-clause-issuing
returns-clause-issuing c = issuing_distribution_point_stable _ reasons_stable
