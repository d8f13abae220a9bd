use Rattle.x509_c_calls.proofs.IssuedEntries.{in_force}
use Rattle.x509_c_calls.proofs.crl.issued.crl_issued_next.Goals as goal
use Rattle.x509_c_calls.specs.Issued.{StepsIssued}
use Rattle.x509_ext.specs.Identifiers.{id_ce}

pub returns-in-Ok : goal.returns-in-Ok
unfolding StepsIssued
returns-in-Ok c =
    let (more, is_next) = (rw c.in-Ok-Some.field-0-is at c.in-Ok-Some.ensures).found in
    let entry = c.in-Ok-Some.entry in
    let entry_is = c.view-view.ensures more is_next.stands.0 in (
      entry,
      more,
      c.in-Ok-Some.span,
      is_next,
      entry_is,
      c.in-Ok.ensures.found,
      in_force c.args.input.now entry.crl_entry_extensions (id_ce 29) more c.enter.new.at c.view-view.result.extensions c.in-Ok.own c.args.issuer.now c.unwrap_or.result c.in-Ok.ensures.place c.unwrap_or.ensures entry_is.extensions
          (λ tag content behind id e. (c.enter.ensures.stands tag content behind id e).1),
    )
