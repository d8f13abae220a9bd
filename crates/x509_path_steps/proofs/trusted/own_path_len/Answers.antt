use Rattle.std.proofs.Common.{Some}
use Rattle.x509_ext.specs.BasicConstraints.{basic_constraints}
use Rattle.x509_path_steps.proofs.Values.{value_of}
use Rattle.x509_path_steps.proofs.trusted.own_path_len.Goals as goal

pub returns-in-Ok-Some : goal.returns-in-Ok-Some
returns-in-Ok-Some c = (
  Some c.in-Ok-Some.constraints,
  value_of basic_constraints _ _ _ c.in-Ok-Some.field-0 (c.in-Ok-Some.field-0-0-0, c.in-Ok-Some.constraints) c.in-Ok-Some.field-0-is c.in-Ok-Some.ensures,
  c.length_of.ensures,
)
