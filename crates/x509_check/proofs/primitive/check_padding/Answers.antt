use Rattle.x509_prim.proofs.LastOctets.{padding_is}
use Rattle.x509_check.proofs.primitive.check_padding.Goals as goal

pub returns-then-unused-lt8 : goal.returns-then-unused-lt8
returns-then-unused-lt8 c = padding_is c.args.unused c.args.octets.now c.if-unused-eq0.false c.if-unused-lt8.true c.in-len1-up.len_at_least
