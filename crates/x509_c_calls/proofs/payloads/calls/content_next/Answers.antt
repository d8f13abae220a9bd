use Rattle.x509_c_calls.proofs.payloads.calls.content_next.Goals as goal
use Rattle.x509_c_calls.specs.Cursor.{Steps}

pub returns-in-Ok-Some : goal.returns-in-Ok-Some
unfolding Steps
returns-in-Ok-Some g c =
    let found = (rw c.in-Ok-Some.field-0-is at c.in-Ok-Some.ensures).found in
    let value = c.in-Ok-Some._value in
    let form = g.T.Grammar.form in
    (value, found.0, c.in-Ok-Some.span, found.1, c.content_at.ensures.stands (form.tag value) (form.content value) found.0 (g.met.T.Grammar.lawful.tagged value found.1.good).1 found.1.stands.0)
