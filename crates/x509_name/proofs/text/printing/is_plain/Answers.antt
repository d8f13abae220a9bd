use Rattle.std.proofs.Common.{arith}
use Rattle.x509_name.proofs.PrintedText.{bit_is_plain}
use Rattle.x509_name.proofs.text.printing.is_plain.Goals as goal

pub returns : goal.returns
returns c = bit_is_plain c.args.byte (omega arith)
