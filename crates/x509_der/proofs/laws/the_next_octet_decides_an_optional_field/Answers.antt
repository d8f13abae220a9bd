use Rattle.x509_der.specs.Frames.{optional}
use Rattle.x509_der.specs.FrameLaws.{optional_lawful, one_part}
use Rattle.x509_der.proofs.laws.the_next_octet_decides_an_optional_field.Goals as goal

pub returns : goal.returns
returns g c = one_part (optional g.T.Grammar.form) (optional_lawful g.T.Grammar.form g.met.T.Grammar.lawful)
