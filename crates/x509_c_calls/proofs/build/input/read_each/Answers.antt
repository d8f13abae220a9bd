use Rattle.x509_c_calls.proofs.Each.{refused, spelled}
use Rattle.x509_c_calls.proofs.build.input.read_each.Goals as goal

pub returns-in-Ok : goal.returns-in-Ok
returns-in-Ok g c = spelled g.T.Grammar.form g.met.T.Grammar.lawful c.args.bytes.now c.in-Ok.values.items c.in-Ok.ensures.exact

pub returns-in-Err : goal.returns-in-Err
returns-in-Err g c = rw c.kind.ensures (refused g.T.Grammar.form g.met.T.Grammar.lawful c.args.bytes.now c.in-Err.e.kind c.in-Err.ensures.exact)
