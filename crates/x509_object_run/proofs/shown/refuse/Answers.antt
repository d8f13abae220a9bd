use Rattle.std.proofs.Common.{◌≡◌, ◌∙◌, inl, inr, refl, subst}
use Rattle.x509_object_run.specs.Object.{heading_for}
use Rattle.x509_object_run.specs.Program.{IsTold}
use Rattle.x509_object_run.proofs.shown.refuse.Goals as goal

pub returns-in-Ok : goal.returns-in-Ok
returns-in-Ok g c =
    let subject = g.P.Printer.subject c.args.printer.now in
    let text : c.as_slice.result.now ≡ subject.refused (heading_for c.args.headed c.args.label.now) c.args.bytes.now c.args.fault = c.as_slice.ensures.value ∙ c.in-Ok.ensures.printed in
    inl (
      subst (λ text. IsTold g.W.Sink.takes c.args.writer.now text c.try_write.new.writer) text c.try_write.ensures,
      rw (c.name.ensures, c.as_bytes.ensures.value, c.as_bytes-in-Ok.ensures.value, c.as_str.ensures.value, c.in-Ok.ensures.told) at c.complain_of.ensures,
    )

pub returns-in-Err : goal.returns-in-Err
returns-in-Err g c = inr (refl, c.forget.ensures)
