use Rattle.std.proofs.Common.{arith}
use Rattle.x509_text.proofs.Blocks.{run_of_plain}
use Rattle.x509_text.proofs.line.run_in_whole_block.Goals as goal

pub returns-then-is_plain_block : goal.returns-then-is_plain_block
returns-then-is_plain_block c = omega (arith, run_of_plain c.args.style 16 c.args.bytes.now c.requires c.if-is_plain_block.ensures)
