use Rattle.std.proofs.Common.{ap, ◌∙◌}
use Rattle.x509_c_calls.proofs.KeyTables.{is_curve}
use Rattle.x509_c_calls.proofs.key.kinds.are_named.Goals as goal
use Rattle.x509_der.specs.Tag.{octet_of}

pub returns-in-Some : goal.returns-in-Some
returns-in-Some c = rw c.in-Some.is (is_curve _ _ (c.octet.ensures.octet ∙ ap octet_of c.tag.ensures))
