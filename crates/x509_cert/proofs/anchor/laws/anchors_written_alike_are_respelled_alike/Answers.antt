use Rattle.x509_cert.proofs.AnchorRespelled.{anchors_alike, controls_alike, infos_alike}
use Rattle.x509_cert.proofs.anchor.laws.anchors_written_alike_are_respelled_alike.Goals as goal

pub returns-clause-controls : goal.returns-clause-controls
returns-clause-controls g c = λ stable. controls_alike _ _ stable

pub returns-clause-info : goal.returns-clause-info
returns-clause-info g c = λ stable. infos_alike _ _ stable

pub returns-clause-anchor : goal.returns-clause-anchor
returns-clause-anchor g c = λ stable. anchors_alike _ _ stable
