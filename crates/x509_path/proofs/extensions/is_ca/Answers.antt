use Rattle.x509_ext.specs.BasicConstraints.{basic_constraints}
use Rattle.x509_ext.specs.Identifiers.{id_ce}
use Rattle.x509_path.specs.Certificates.{HasPayload}
use Rattle.x509_path.proofs.Payloads.{told, untold}
use Rattle.x509_path.proofs.extensions.is_ca.Goals as goal

pub returns-in-Some : goal.returns-in-Some
returns-in-Some c = λ extensions said. told (HasPayload basic_constraints (id_ce 19) extensions) c.args.constraints said c.in-Some.constraints c.in-Some.is (λ b. b.ca)

pub returns-in-None : goal.returns-in-None
returns-in-None c = λ extensions said. untold (HasPayload basic_constraints (id_ce 19) extensions) c.args.constraints said c.in-None.is (λ b. b.ca)
