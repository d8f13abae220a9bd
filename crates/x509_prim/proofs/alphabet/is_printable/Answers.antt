use Rattle.std.proofs.Common.{arith}
use Rattle.x509_prim.proofs.PrintableTable.{bit_is_printable}
use Rattle.x509_prim.proofs.alphabet.is_printable.Goals as goal

pub returns : goal.returns
returns c = bit_is_printable c.args.octet (omega arith)
