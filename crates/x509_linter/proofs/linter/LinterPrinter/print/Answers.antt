use Rattle.std.proofs.Common.{Err, None, refl, string_bytes, subst, true, ◌∙◌}
use Rattle.x509_object_run.specs.Object.{heading_text}
use Rattle.x509_linter.specs.Linter.{IsNone, IsPut, Tells, front_for, status_of, told}
use Rattle.x509_linter.proofs.NoObject.{no_object}
use Rattle.x509_linter.proofs.Puts.{failed}
use Rattle.x509_linter.proofs.linter.LinterPrinter.print.Goals as goal

pub returns-in-Ok : goal.returns-in-Ok
returns-in-Ok g c = (
  told c.args.self.now.telling true (heading_text c.args.heading) (string_bytes c.in-Ok-Some.report.text),
  (c.in-Ok-Some.report, rw c.in-Ok-Some.field-0-is at c.in-Ok-Some.ensures.ok, refl, c.status_of.ensures),
  rw (c.as_bytes-text.ensures.value, c.as_str.ensures.value) at c.in-Ok.ensures,
)

pub returns-in-Ok-Some : goal.returns-in-Ok-Some
returns-in-Ok-Some g c =
    let linter = c.args.self.now in
    let heading = heading_text c.args.heading in
    let report = c.in-Ok-Some.report in
    failed g.W.Sink.takes _ (told linter.telling true heading (string_bytes report.text)) _ c.in-Err-tell.e (Tells linter heading c.args.bytes.now) (IsNone linter c.args.bytes.now) (status_of report.has_error)
    (report, rw c.in-Ok-Some.field-0-is at c.in-Ok-Some.ensures.ok, refl, refl)
    (subst (λ text. IsPut g.W.Sink.takes c.args.writer.now (told linter.telling true heading text) c.tell.new.writer (Err c.in-Err-tell.e)) (c.as_bytes-text.ensures.value ∙ c.as_str.ensures.value) c.in-Err-tell.ensures)

pub returns-in-Ok-None : goal.returns-in-Ok-None
returns-in-Ok-None g c =
    let linter = c.args.self.now in (
      no_object linter.rules linter.kind (front_for linter.telling (heading_text c.args.heading)) None c.args.bytes.now (rw c.in-Ok-None.field-0-is at c.in-Ok-None.ensures.ok),
      refl,
    )
