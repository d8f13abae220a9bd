use Rattle.x509_lint_web.proofs.report.kind_line.Goals as goal

pub returns : goal.returns
returns c = λ wording says.
    rw (c.as_str.ensures.value, c.as_str-2.ensures.value, c.in_ok-quoted.ensures, c.in_ok-kind.ensures.ok, c.told_kind-kind.ensures) at (c.json_line.ensures wording says)
