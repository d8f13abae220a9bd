use Rattle.x509_cert.proofs.Unchanged.{anchors_stay, controls_stay, infos_stay}
use Rattle.x509_cert.proofs.anchor.laws.raw_anchors_stay.Goals as goal

pub returns-clause-controls : goal.returns-clause-controls
returns-clause-controls c = controls_stay _

pub returns-clause-info : goal.returns-clause-info
returns-clause-info c = infos_stay _

pub returns-clause-anchor : goal.returns-clause-anchor
returns-clause-anchor c = anchors_stay _
