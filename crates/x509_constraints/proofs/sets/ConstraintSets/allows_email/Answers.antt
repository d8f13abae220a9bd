use Rattle.std.proofs.Common.{refl, sym}
use Rattle.x509_ext.specs.declared.pkix.name.general_name.GeneralName.TheVariants.{Rfc822Name}
use Rattle.x509_constraints.specs.Stacks.{in_all, in_some}
use Rattle.x509_constraints.proofs.Allowed.{key_answers}
use Rattle.x509_constraints.proofs.sets.ConstraintSets.allows_email.Goals as goal

pub returns-in-Some : goal.returns-in-Some
returns-in-Some c sets applied = c.in-Some.ensures sets (Rfc822Name c.args.address.now) applied refl (sym c.is_mailbox.ensures)

pub returns-in_ok-key-in-None : goal.returns-in_ok-key-in-None
returns-in_ok-key-in-None c sets applied =
    key_answers (Rfc822Name c.args.address.now) sets c.in_ok-key-in-None.key c.allows_key.result
    (in_all c.args.self.now.permitted.items c.in_ok-key-in-None.key) (in_some c.args.self.now.excluded.items c.in_ok-key-in-None.key) _
    (c.in-None.ensures sets (Rfc822Name c.args.address.now) applied refl (sym c.is_mailbox.ensures))
    c.in_ok-key-in-None.ensures
    (applied.permitted c.in_ok-key-in-None.key) (applied.excluded c.in_ok-key-in-None.key) refl refl c.allows_key.ensures
