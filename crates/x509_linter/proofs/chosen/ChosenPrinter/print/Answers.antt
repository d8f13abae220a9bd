use Rattle.std.proofs.Common.{Err, None, ap, map, refl, subst, ◌∙◌}
use Rattle.x509_object_run.specs.Object.{heading_text}
use Rattle.x509_linter.specs.Choice.{asks}
use Rattle.x509_linter.specs.Chosen.{AreFindings, Tells}
use Rattle.x509_linter.specs.Linter.{IsNone, IsPut, front_for, status_of, told}
use Rattle.x509_linter.proofs.NoObject.{no_object}
use Rattle.x509_linter.proofs.Puts.{failed}
use Rattle.x509_linter.proofs.chosen.ChosenPrinter.print.Goals as goal

pub returns-in-Ok : goal.returns-in-Ok
returns-in-Ok g c =
    let linter = c.args.self.now.linter in
    let options = map (λ option. option.now) c.args.self.now.options.now in
    let heading = heading_text c.args.heading in
    let findings = c.in-Ok-Some.findings in
    let are : AreFindings linter options heading c.args.bytes.now findings = rw c.in-Ok-Some.field-0-is at c.in-Ok-Some.ensures.ok in (
      told linter.telling (asks options linter.rules linter.kind) heading findings.text.items,
      (are.0, are.1, ap (told linter.telling (asks options linter.rules linter.kind) heading) are.2.0, c.status_of.ensures ∙ ap status_of are.2.1),
      rw (c.as_slice-text.ensures.value, c.asks-is_asked.ensures) at c.in-Ok.ensures,
    )

pub returns-in-Ok-Some : goal.returns-in-Ok-Some
returns-in-Ok-Some g c =
    let linter = c.args.self.now.linter in
    let options = map (λ option. option.now) c.args.self.now.options.now in
    let heading = heading_text c.args.heading in
    let findings = c.in-Ok-Some.findings in
    let are : AreFindings linter options heading c.args.bytes.now findings = rw c.in-Ok-Some.field-0-is at c.in-Ok-Some.ensures.ok in
    failed g.W.Sink.takes _ (told linter.telling (asks options linter.rules linter.kind) heading findings.text.items) _ c.in-Err-tell.e (Tells linter options heading c.args.bytes.now) (IsNone linter c.args.bytes.now) (status_of findings.counts)
    (are.0, are.1, ap (told linter.telling (asks options linter.rules linter.kind) heading) are.2.0, ap status_of are.2.1)
    (subst (λ asked. IsPut g.W.Sink.takes c.args.writer.now (told linter.telling asked heading findings.text.items) c.tell.new.writer (Err c.in-Err-tell.e)) c.asks-is_asked.ensures
    (subst (λ text. IsPut g.W.Sink.takes c.args.writer.now (told linter.telling c.asks-is_asked.result heading text) c.tell.new.writer (Err c.in-Err-tell.e)) c.as_slice-text.ensures.value c.in-Err-tell.ensures))

pub returns-in-Ok-None : goal.returns-in-Ok-None
returns-in-Ok-None g c =
    let linter = c.args.self.now.linter in (
      no_object linter.rules linter.kind (front_for linter.telling (heading_text c.args.heading)) None c.args.bytes.now (rw c.in-Ok-None.field-0-is at c.in-Ok-None.ensures.ok),
      refl,
    )
