use Rattle.std.proofs.Common.{refl, arith}
use Rattle.x509_text.proofs.ColonHex.{fill_step, fill_done}
use Rattle.x509_text.proofs.digits.fill_colon_hex.Goals as goal

pub octets-init : goal.octets-init
octets-init c = refl

pub octets-preserved : goal.octets-preserved
octets-preserved c =
    fill_step c.args.octets.now c.octets.digits c.octets.i _ _ (omega arith) (omega arith) c.hex_digit.ensures c.hex_digit-in-octets.ensures c.octets.invariant

pub returns : goal.returns
returns c = fill_done _ _ c.octets.i (omega arith) (omega arith) c.octets.invariant
