use Rattle.std.proofs.Common.{refl}
use Rattle.x509_der.specs.StableLaws.{spelled_alike}
use Rattle.x509_der.proofs.laws.what_is_written_alike_is_respelled_alike.Goals as goal

pub returns : goal.returns
returns g c = λ stable. spelled_alike g.T.Grammar.form g.T.Grammar.form g.met.T.Grammar.lawful (λ v. refl) _ stable
