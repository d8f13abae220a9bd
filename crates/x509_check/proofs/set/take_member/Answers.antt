use Rattle.x509_check.proofs.Rising.{front_of}
use Rattle.x509_der.specs.FrameLaws.{field_sound}
use Rattle.x509_der.specs.Form.{spelling}
use Rattle.x509_check.proofs.set.take_member.Goals as goal

pub returns-clause-taken : goal.returns-clause-taken
returns-clause-taken g c =
    let f = g.T.Grammar.form in
    let p = c.in_ok-check_field.ensures.exact in
    let s = field_sound f g.met.T.Grammar.lawful _ p.0 _ p.1 in
    (p.0, p.1, front_of c.args.rest.now.now (spelling f p.0) c.check_field.new.rest.now s.1)
