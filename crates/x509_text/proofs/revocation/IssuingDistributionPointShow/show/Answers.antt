use Rattle.x509_text.specs.Revocation.{issuing_point_lines}
use Rattle.x509_text.proofs.Written.{four_written}
use Rattle.x509_text.proofs.revocation.IssuingDistributionPointShow.show.Goals as goal

pub returns : goal.returns
unfolding issuing_point_lines
returns c =
    four_written c.write_where.result _ _ _ _ _ _ _ _ _
    c.in_ok-show_option.ensures
    c.in_ok-write_coverage.ensures
    c.in_ok-show_option-2.ensures
    c.write_where.ensures
