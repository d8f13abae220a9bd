use Rattle.std.proofs.Common.{sym}
use Rattle.x509_name.proofs.TableFacts.{octets_of_key}
use Rattle.x509_name.proofs.text.keys.key_of.Goals as goal

pub of_row-requires : goal.of_row-requires
of_row-requires c = octets_of_key c.args.oid.now _ (sym c.in_ok-row.ensures)
