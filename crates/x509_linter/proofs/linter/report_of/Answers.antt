use Rattle.std.proofs.Common.{IfOk, subst, sym}
use Rattle.x509_linter.specs.Said.{is_said_by}
use Rattle.x509_linter.proofs.Fronts.{of_json, of_lines}
use Rattle.x509_linter.proofs.linter.report_of.Goals as goal
use Rattle.x509_object_run.specs.Object.{heading_text}

pub returns-in-Json-clause-ok : goal.returns-in-Json-clause-ok
returns-in-Json-clause-ok c =
    subst (λ front. IfOk c.json_report_of.result (is_said_by c.args.linter.rules c.args.linter.kind front c.args.bytes.now)) (sym (of_json c.args.linter.telling (heading_text c.args.heading) c.in-Json.is)) c.json_report_of.ensures.ok

pub returns-in-Lines-clause-ok : goal.returns-in-Lines-clause-ok
returns-in-Lines-clause-ok c =
    subst (λ front. IfOk c.said_by.result (is_said_by c.args.linter.rules c.args.linter.kind front c.args.bytes.now)) (sym (of_lines c.args.linter.telling (heading_text c.args.heading) c.in-Lines.is)) c.said_by.ensures.ok
