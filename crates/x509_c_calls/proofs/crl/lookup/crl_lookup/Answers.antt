use Rattle.std.proofs.Common.{◌≡◌, inl}
use Rattle.x509_c_calls.specs.Revoked.{LooksUp}
use Rattle.x509_c_calls.proofs.Parts.{is_integer}
use Rattle.x509_c_calls.proofs.crl.lookup.crl_lookup.Goals as goal

pub returns-in-Ok-check-clause-looks_up : goal.returns-in-Ok-check-clause-looks_up
unfolding LooksUp
returns-in-Ok-check-clause-looks_up c =
    let list = c.in-Ok.ensures.found in
    let number = c.in-Ok-check.ensures.found in
    let same : c.content_of.result.now ≡ number.0 = c.content_of.ensures 2 number.0 is_integer number.1.1 in
    inl (record { list = list.0; number = number.0; list_spelled = list.1; number_spelled = number.1 }, c.tell.ensures.tells _ number.0 (rw same at list.2))
