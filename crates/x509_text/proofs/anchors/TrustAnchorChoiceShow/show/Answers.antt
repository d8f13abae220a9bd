use Rattle.x509_text.specs.Anchors.{anchor_lines}
use Rattle.x509_text.proofs.Written.{written_behind}
use Rattle.x509_text.proofs.anchors.TrustAnchorChoiceShow.show.Goals as goal

pub returns-in_ok-write_line-in-Certificate : goal.returns-in_ok-write_line-in-Certificate
unfolding anchor_lines
returns-in_ok-write_line-in-Certificate g c =
    rw c.in-Certificate.is (written_behind c.show.result _ _ _ _ _ c.in_ok-write_line-in-Certificate.ensures c.show.ensures)
