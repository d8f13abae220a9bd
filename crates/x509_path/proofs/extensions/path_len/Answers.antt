use Rattle.x509_ext.specs.BasicConstraints.{basic_constraints}
use Rattle.x509_ext.specs.Identifiers.{id_ce}
use Rattle.x509_path.specs.Certificates.{HasPayload}
use Rattle.x509_path.proofs.Payloads.{limit, no_limit}
use Rattle.x509_path.proofs.extensions.path_len.Goals as goal

pub returns-in-Some : goal.returns-in-Some
returns-in-Some c = λ extensions said. limit (HasPayload basic_constraints (id_ce 19) extensions) c.args.constraints said c.in-Some.constraints c.in-Some.is (λ b. b.path_len_constraint)

pub returns-in-None : goal.returns-in-None
returns-in-None c = λ extensions said. no_limit (HasPayload basic_constraints (id_ce 19) extensions) c.args.constraints said c.in-None.is (λ b. b.path_len_constraint)
