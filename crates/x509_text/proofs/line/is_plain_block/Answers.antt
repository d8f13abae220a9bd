use Rattle.x509_text.proofs.Blocks.{plain_block}
use Rattle.x509_text.proofs.line.is_plain_block.Goals as goal

pub returns : goal.returns
returns c = plain_block c.args.bytes.now c.requires c.type_inv.bytes
