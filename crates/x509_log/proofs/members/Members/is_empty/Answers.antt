use Rattle.std.proofs.Common.{sym, ◌∙◌, arith}
use Rattle.x509_log.proofs.Emptiness.{there, total}
use Rattle.x509_log.proofs.members.Members.is_empty.Goals as goal
use Rattle.x509_log.specs.Logged.{changed_octets}

pub returns-then-is_some-clause-some : goal.returns-then-is_some-clause-some
returns-then-is_some-clause-some c = λ same.
    let m = c.args.self.now in
    omega (arith, there m.first (sym c.is_some.ensures ∙ c.if-is_some.true), total m.before.now (changed_octets m.first) m.between.now (changed_octets m.second) m.behind.now)

pub returns-then-is_some-2-clause-some : goal.returns-then-is_some-2-clause-some
returns-then-is_some-2-clause-some c = λ same.
    let m = c.args.self.now in
    omega (arith, there m.second (sym c.is_some-2.ensures ∙ c.if-is_some-2.true), total m.before.now (changed_octets m.first) m.between.now (changed_octets m.second) m.behind.now)
