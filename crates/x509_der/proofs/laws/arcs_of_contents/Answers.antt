use Rattle.x509_der.proofs.laws.arcs_of_contents.Goals as goal
use Rattle.x509_der.specs.ArcLaws.{arcs_of-content_of, content_of-arcs_of}

pub returns-clause-content : goal.returns-clause-content
returns-clause-content c = λ content passes. content_of-arcs_of content passes

pub returns-clause-arcs : goal.returns-clause-arcs
returns-clause-arcs c = λ arcs h. arcs_of-content_of arcs h.begin
