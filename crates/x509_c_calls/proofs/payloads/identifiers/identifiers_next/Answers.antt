use Rattle.x509_c_calls.proofs.Octets.{is_oid}
use Rattle.x509_c_calls.proofs.payloads.identifiers.identifiers_next.Goals as goal
use Rattle.x509_c_calls.specs.Cursor.{Steps}

pub returns-in-Ok-Some : goal.returns-in-Ok-Some
unfolding Steps
returns-in-Ok-Some c =
    let found = (rw c.in-Ok-Some.field-0-is at c.in-Ok-Some.ensures).found in
    (c.in-Ok-Some._oid, found.0, c.in-Ok-Some.span, found.1, c.content_at.ensures.stands 6 c.in-Ok-Some._oid found.0 is_oid found.1.stands.0)
