use Rattle.x509_lint.proofs.EntryWalks.{none_noted}
use Rattle.x509_lint.proofs.entries.EntryFindings.none.Goals as goal

pub returns : goal.returns
returns c = none_noted
