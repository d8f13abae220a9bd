use Rattle.std.proofs.Common.{[], refl}
use Rattle.x509_revocation.proofs.Settled.{unmarked}
use Rattle.x509_revocation.proofs.entries.issuer_of_entry.Goals as goal

pub returns-in-None : goal.returns-in-None
returns-in-None c = λ certificate own before lends same. rw c.in-None.is (unmarked c.args.is_indirect own certificate.tbs_certificate.issuer before [] c.args.is_issuer refl same)

pub returns-in-Some : goal.returns-in-Some
returns-in-Some c = rw c.in-Some.is c.issuer_of_extensions.ensures
