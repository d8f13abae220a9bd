use Rattle.std.proofs.Common.{◌≡◌, ◌∙◌, map, string_bytes, subst}
use Rattle.x509_linter.specs.Chosen.{IsChosen}
use Rattle.x509_object_run.specs.Object.{heading_text}
use Rattle.x509_linter.proofs.chosen.findings_of.Goals as goal

pub returns-in_ok-findings-in-Some-clause-ok : goal.returns-in_ok-findings-in-Some-clause-ok
returns-in_ok-findings-in-Some-clause-ok c =
    let text : c.as_bytes-text.result.now ≡ string_bytes c.in-Some.report.text = c.as_bytes-text.ensures.value ∙ c.as_str.ensures.value in (
      c.in-Some.report,
      rw c.in-Some.is at c.in_ok-report.ensures.ok,
      subst
          (λ text. IsChosen c.args.linter.telling (map (λ option. option.now) c.args.options.now) (heading_text c.args.heading) text c.in_ok-findings-in-Some.findings)
          text
          c.in_ok-findings-in-Some.ensures,
    )
