use Rattle.x509_c_calls.proofs.NameAnswers.{same-answers}
use Rattle.x509_c_calls.proofs.named.equal.names_equal.Goals as goal
use Rattle.x509_c_calls.specs.NamesMatch.{TellsWhetherNamesEqual}

pub returns-clause-told : goal.returns-clause-told
unfolding TellsWhetherNamesEqual
returns-clause-told c =
    let left = c.in_default.ensures.found in
    let right = c.in_default-check.ensures.found in
    (record { left = left.0; right = right.0; left_spelled = left.1; right_spelled = right.1 }, same-answers c.args.a.now c.args.b.now c.eq.result c.eq.ensures _ c.flag.ensures)
