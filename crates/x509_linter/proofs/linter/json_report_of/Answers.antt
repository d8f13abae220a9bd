use Rattle.std.proofs.Common.{◌≡◌, ◌∙◌}
use Rattle.x509_object_run.specs.Object.{heading_text}
use Rattle.x509_linter.specs.Linter.{json_front}
use Rattle.x509_linter.proofs.linter.json_report_of.Goals as goal

pub returns-clause-ok : goal.returns-clause-ok
returns-clause-ok c =
    let front : c.as_str.result.now ≡ json_front (heading_text c.args.heading) = c.as_str.ensures.value ∙ c.in_ok-front.ensures in
    rw front at c.said_by.ensures.ok
