use Rattle.std.proofs.Common.{ap, ◌∙◌}
use Rattle.x509_prim.specs.Integer.{number, without_zeros}
use Rattle.x509_prim.proofs.Naturals.{number-without_zeros, some_octets, is_unsigned-some}
use Rattle.x509_prim.proofs.uint.Uint.as_bytes.Goals as goal

pub returns-clause-number : goal.returns-clause-number
returns-clause-number c = ap number (c.strip_zeros.ensures ∙ ap without_zeros (c.as_slice.ensures ∙ c.self.view_is)) ∙ number-without_zeros c.args.self.now

pub returns-clause-some : goal.returns-clause-some
returns-clause-some c = rw (c.strip_zeros.ensures, c.as_slice.ensures) (some_octets c.self.inside.content (is_unsigned-some c.self.inside.content c.self.invariant))
