use Rattle.x509_path_steps.proofs.Refusals.{check_refused}
use Rattle.x509_path_steps.proofs.trusted.checked.Goals as goal

pub returns-in-Err : goal.returns-in-Err
returns-in-Err g c =
    let h = c.in-Err.ensures in
    check_refused g.T.Grammar.form g.T.Grammar.refuses c.args.octets.now c.in-Err.e.kind c.requires h.overlength h.refused (λ value spells. let ok = h.every value spells in cc) h.which
