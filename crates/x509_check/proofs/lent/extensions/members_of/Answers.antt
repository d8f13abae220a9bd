use Rattle.x509_check.proofs.LentLists.{members_read, no_piece}
use Rattle.x509_ext.specs.Extension.{extension, extension_lawful}
use Rattle.x509_check.proofs.lent.extensions.members_of.Goals as goal

pub returns-in-Ok : goal.returns-in-Ok
returns-in-Ok c = λ list spells. members_read {R = λ e. ⊥} extension extension_lawful list _ _ spells c.in-Ok.ensures.exact

pub returns-in-Err : goal.returns-in-Err
returns-in-Err c = λ list spells. absurd (no_piece extension list _ _ spells c.in-Err.ensures.exact c.in-Err.ensures.err)
