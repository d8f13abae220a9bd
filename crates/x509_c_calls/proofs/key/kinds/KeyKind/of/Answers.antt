use Rattle.std.proofs.Common.{ap, ◌∙◌}
use Rattle.x509_c_calls.proofs.KeyTables.{elliptic, elliptic_is, keys_are, other_key}
use Rattle.x509_c_calls.proofs.key.kinds.KeyKind.of.Goals as goal
use Rattle.x509_c_calls.specs.Kinds.{key_algorithms, named_in}
use Rattle.x509_c_calls.specs.declared.key.kinds.KeyKind.TheVariants as keys

pub returns-then-eq : goal.returns-then-eq
returns-then-eq c = c.of_curve.ensures ∙ elliptic _ _ _ _ c.as_bytes.ensures.octets (c.as_slice.ensures ∙ elliptic_is) c.eq.ensures c.if-eq.true

pub returns : goal.returns
returns c =
    c.find.ensures ∙ ap (λ rows. named_in keys.Other rows c.as_bytes-2.result.now) keys_are ∙ ap (named_in keys.Other key_algorithms) c.as_bytes-2.ensures.octets
    ∙ other_key _ _ _ _ c.as_bytes.ensures.octets (c.as_slice.ensures ∙ elliptic_is) c.eq.ensures c.if-eq.false
