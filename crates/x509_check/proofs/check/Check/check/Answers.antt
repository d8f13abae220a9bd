use Rattle.std.proofs.Common.{◌≤◌, length, arith}
use Rattle.x509_check.proofs.Whole.{found_whole, every_whole, refused_whole}
use Rattle.x509_der.specs.Element.{limit}
use Rattle.x509_check.proofs.check.Check.check.Goals as goal

pub returns-clause-found : goal.returns-clause-found
returns-clause-found g c =
    let within : length c.args.bytes.now ≤ limit = omega arith in
    found_whole g.Self.Grammar.form g.met.Self.Grammar.lawful c.args.bytes.now c.pass_whole.result within c.pass_whole.ensures

pub returns-clause-every : goal.returns-clause-every
returns-clause-every g c = every_whole g.Self.Grammar.form g.met.Self.Grammar.lawful c.args.bytes.now c.pass_whole.result c.pass_whole.ensures

pub returns-clause-refused : goal.returns-clause-refused
returns-clause-refused g c = λ within. refused_whole g.Self.Grammar.form g.met.Self.Grammar.lawful c.args.bytes.now c.pass_whole.result c.pass_whole.ensures
