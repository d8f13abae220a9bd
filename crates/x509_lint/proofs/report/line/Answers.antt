use Rattle.x509_lint.specs.Rules.{rule_wording}
use Rattle.x509_lint.proofs.report.line.Goals as goal

pub returns-in_ok-seen-in-Json : goal.returns-in_ok-seen-in-Json
returns-in_ok-seen-in-Json g c =
    rw c.in-Json.is (rw (c.word-in-Json.ensures, c.as_str.ensures.value, c.in_ok-seen-in-Json.ensures) at (c.json_line.ensures (rule_wording c.args.rule) c.entry.ensures))
