use Rattle.x509_check.specs.ExtensionRefs.{extensions_left, lent_extension}
use Rattle.x509_ext.specs.LookUp.{with_oid}
use Rattle.x509_revocation.proofs.Named.{found_one}
use Rattle.x509_revocation.proofs.Same.{same_octets}
use Rattle.x509_revocation.proofs.extensions.have_same.Goals as goal

pub returns-in-Ok-Some-find_extension : goal.returns-in-Ok-Some-find_extension
returns-in-Ok-Some-find_extension c =
    let oid = c.args.oid in
    let first = found_one (with_oid oid (extensions_left c.args.a.now)) c.in-Ok-Some.first (rw c.in-Ok-Some.field-0-is at c.in-Ok-Some.ensures) in
    let second = found_one (with_oid oid (extensions_left c.args.b.now)) c.in-Ok-Some-find_extension.second (rw c.in-Ok-Some-find_extension.field-0-is at c.in-Ok-Some-find_extension.ensures) in
    rw c.eq.ensures (same_octets oid (extensions_left c.args.a.now) (extensions_left c.args.b.now) (lent_extension c.in-Ok-Some.first) (lent_extension c.in-Ok-Some-find_extension.second) first second)
