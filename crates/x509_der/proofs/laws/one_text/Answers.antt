use Rattle.x509_der.proofs.laws.one_text.Goals as goal
use Rattle.x509_der.specs.ArcLaws.{some_arcs, small_arcs}
use Rattle.x509_der.proofs.TextLaws.{dotted_injective}

pub returns : goal.returns
returns c = λ xs ys p q e. dotted_injective xs ys (some_arcs xs p) (some_arcs ys q) (small_arcs xs p) (small_arcs ys q) e
