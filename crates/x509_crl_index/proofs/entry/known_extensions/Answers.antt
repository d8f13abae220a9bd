use Rattle.std.proofs.Common.{arith}
use Rattle.std.proofs.lemmas.Bool.Decides.{nat_tests}
use Rattle.x509_check.proofs.KnownEntries.{no_extensions}
use Rattle.x509_crl_index.proofs.entry.known_extensions.Goals as goal

pub returns-then-is_empty : goal.returns-then-is_empty
returns-then-is_empty c = no_extensions c.args.bytes.now (grind (arith, nat_tests))
