use Rattle.x509_lint_web.specs.Rules.{web_sentence}
use Rattle.x509_lint_web.proofs.report.seen_line.Goals as goal

pub returns-in-Json : goal.returns-in-Json
returns-in-Json c = rw c.in-Json.is (c.kind_line.ensures (web_sentence c.args.rule).wording c.entry.ensures.0)
