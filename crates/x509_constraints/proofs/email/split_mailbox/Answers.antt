use Rattle.std.proofs.Common.{◌-◌, arith}
use Rattle.x509_constraints.proofs.Mailboxes.{mailbox_at}
use Rattle.x509_constraints.proofs.email.split_mailbox.Goals as goal

pub returns-then-address-left-eq64 : goal.returns-then-address-left-eq64
returns-then-address-left-eq64 c =
    mailbox_at c.args.address.now (c.loop-left.left - 1) c.loop-left.left (omega arith) (omega arith) c.if-address-left-eq64.true c.loop-left.invariant.1
