use Rattle.std.proofs.Common.{◌++◌, [], ◌∷◌, inl, inr, sym, ap, ◌∙◌}
use Rattle.x509_check.specs.ExtensionRefs.{extensions_left}
use Rattle.x509_log.proofs.Reissues.{identified_by, one_of_alone, unidentified_members}
use Rattle.x509_log.proofs.part.reissued_members.Goals as goal
use Rattle.x509_log.specs.Logged.{authority_key_identifier}

pub returns-in-Absent-clause-found : goal.returns-in-Absent-clause-found
returns-in-Absent-clause-found c =
    (inl c.in-Absent.ensures, c.around.ensures ∙ unidentified_members (extensions_left c.args.list) (extensions_left c.args.above) c.args.poison.now c.requires c.in-Absent.ensures)

pub returns-in-One-find_one-clause-found : goal.returns-in-One-find_one-clause-found
returns-in-One-find_one-clause-found c = (
  inr (one_of_alone authority_key_identifier _ _ c.in-One.ensures, one_of_alone authority_key_identifier _ _ c.in-One-find_one.ensures),
  c.changed_members.ensures (extensions_left c.args.list) c.requires c.in-One.ensures ∙ identified_by (extensions_left c.args.list) (extensions_left c.args.above) c.in-One-find_one.key c.in-One-find_one.ensures,
)
