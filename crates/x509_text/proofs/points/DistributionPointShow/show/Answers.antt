use Rattle.x509_text.specs.Points.{point_lines}
use Rattle.x509_text.proofs.Written.{four_written}
use Rattle.x509_text.proofs.points.DistributionPointShow.show.Goals as goal

pub returns : goal.returns
unfolding point_lines
returns c =
    four_written c.write_optional_names.result _ _ _ _ _ _ _ _ _
    c.in_ok-write_line.ensures
    (rw c.below.ensures at c.in_ok-show_option.ensures)
    (rw c.below-2.ensures at c.in_ok-show_option-2.ensures)
    (rw c.below-3.ensures at c.write_optional_names.ensures)
