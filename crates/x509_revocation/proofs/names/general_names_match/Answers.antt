use Rattle.std.proofs.Common.{sym}
use Rattle.x509_ext.specs.GeneralNameEquality.{exact_general_name}
use Rattle.x509_revocation.proofs.Matches.{plain}
use Rattle.x509_revocation.proofs.names.general_names_match.Goals as goal

pub returns-in_default : goal.returns-in_default
returns-in_default c = plain _ exact_general_name c.args.a.now c.args.b.now c.eq.result (sym c.in_default.ensures) c.eq.ensures
