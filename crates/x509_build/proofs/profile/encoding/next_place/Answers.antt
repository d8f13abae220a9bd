use Rattle.std.proofs.Common.{sym}
use Rattle.x509_build.proofs.OrderFacts.{one_unbroken}
use Rattle.x509_build.proofs.profile.encoding.next_place.Goals as goal

-- the type stands behind all earlier ones, so it is new
pub returns-clause-ok : goal.returns-clause-ok
returns-clause-ok c =
    let rdn = c.as_slice.ensures.members in
    one_unbroken c.args.multiple_allowed c.args.earlier.now c.args.rdn.now c.attribute-item.result c.in-Some.place c.args.next
    (rw rdn at c.in-len1.len_at_least) (rw rdn at c.in-len1.len_below) (rw rdn at c.attribute-item.is) (sym c.in-Some.ensures.place) c.if-place-next.true c.requires
