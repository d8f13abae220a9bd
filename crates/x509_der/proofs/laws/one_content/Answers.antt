use Rattle.std.proofs.Common.{sym, ap, ◌∙◌}
use Rattle.x509_der.specs.ObjectIdentifier.{arcs_of}
use Rattle.x509_der.proofs.laws.one_content.Goals as goal
use Rattle.x509_der.specs.ArcLaws.{arcs_of-content_of}

pub returns : goal.returns
returns c = λ xs ys p q e. sym (arcs_of-content_of xs p.begin) ∙ ap arcs_of e ∙ arcs_of-content_of ys q.begin
