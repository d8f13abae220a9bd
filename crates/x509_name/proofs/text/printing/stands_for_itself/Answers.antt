use Rattle.x509_name.proofs.PrintedText.{escaped_nothing, escaped_where}
use Rattle.x509_name.proofs.text.printing.stands_for_itself.Goals as goal

pub returns-in_default : goal.returns-in_default
returns-in_default c = escaped_nothing c.args.bytes.now c.in_default.len_below

pub returns : goal.returns
returns c = escaped_where _ c.args.bytes.now c.if-first-eq32.false c.if-first-eq35.false c.if-bytes-eq32.false c.are_plain.ensures
