use Rattle.std.proofs.Common.{sym}
use Rattle.x509_der.specs.ObjectIdentifier.{arcs_of}
use Rattle.x509_der.proofs.laws.tested_contents.Goals as goal
use Rattle.x509_der.specs.ArcLaws.{content_of-arcs_of, content_of-passes}

pub returns : goal.returns
returns c = λ content. (
  λ passes. let h = content_of-arcs_of content passes in (arcs_of content, h.0, sym h.1),
  λ made. rw made.2 (content_of-passes made.0 made.1),
)
