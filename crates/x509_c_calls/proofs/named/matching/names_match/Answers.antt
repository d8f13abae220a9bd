use Rattle.std.proofs.Common.{inl, refl}
use Rattle.std.proofs.lemmas.Bool.{false≢true}
use Rattle.x509_c_calls.proofs.NameAnswers.{flag-answers}
use Rattle.x509_c_calls.proofs.named.matching.names_match.Goals as goal
use Rattle.x509_c_calls.specs.NamesMatch.{TellsWhetherNamesMatch}

pub returns-in-Ok-clause-told : goal.returns-in-Ok-clause-told
unfolding TellsWhetherNamesMatch
returns-in-Ok-clause-told c =
    let left = c.in_default.ensures.found in
    let right = c.in_default-check.ensures.found in
    let same = c.in-Ok.ensures.same left.0 right.0 left.1 right.1 in
    (record { left = left.0; right = right.0; left_spelled = left.1; right_spelled = right.1 }, flag-answers left.0 right.0 c.in-Ok.found same _ c.flag.ensures)

pub returns-in-Err-checked_names_match-clause-told : goal.returns-in-Err-checked_names_match-clause-told
unfolding TellsWhetherNamesMatch
returns-in-Err-checked_names_match-clause-told c =
    let left = c.in_default.ensures.found in
    let right = c.in_default-check.ensures.found in
    let plain = c.in-Err-checked_names_match.ensures.plain left.0 right.0 left.1 right.1 in
    (inl (refl, record { left = left.0; right = right.0; left_spelled = left.1; right_spelled = right.1 }, λ is_left is_right. false≢true (plain is_left is_right)), refl)
