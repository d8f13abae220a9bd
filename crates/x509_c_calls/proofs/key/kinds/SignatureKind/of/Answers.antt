use Rattle.std.proofs.Common.{ap, ◌∙◌}
use Rattle.x509_c_calls.proofs.KeyTables.{signatures_are}
use Rattle.x509_c_calls.proofs.key.kinds.SignatureKind.of.Goals as goal
use Rattle.x509_c_calls.specs.Kinds.{named_in, signature_algorithms, signature_kind}
use Rattle.x509_c_calls.specs.declared.key.kinds.SignatureKind.TheVariants as signatures

pub returns : goal.returns
unfolding signature_kind
returns c = c.find.ensures ∙ ap (λ rows. named_in signatures.Other rows c.as_bytes.result.now) signatures_are ∙ ap (named_in signatures.Other signature_algorithms) c.as_bytes.ensures.octets
