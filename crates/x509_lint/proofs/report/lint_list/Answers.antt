use Rattle.std.proofs.Common.{◌≤◌, ◌∙◌, length, arith}
use Rattle.x509_der.specs.Element.{limit}
use Rattle.x509_lint.specs.Report.{front_of}
use Rattle.x509_lint.proofs.ListSaid.{are_entries, is_none, is_said}
use Rattle.x509_lint.proofs.report.lint_list.Goals as goal

pub invariant_of-crl : goal.invariant_of-crl
invariant_of-crl c =
    let within : length c.args.bytes.now ≤ limit = omega arith in
    let split = c.in-Ok.ensures in record {
      are_entries = are_entries c.args.bytes.now within split.0 c.in-Ok.front c.in-Ok.octets.now split.1 split.2;
    }

pub returns-in_ok-report_of-in-Ok-clause-ok : goal.returns-in_ok-report_of-in-Ok-clause-ok
returns-in_ok-report_of-in-Ok-clause-ok c =
    let within : length c.args.bytes.now ≤ limit = omega arith in
    let split = c.in-Ok.ensures in
    is_said c.args.bytes.now within split.0 c.in-Ok.front c.in-Ok.octets.now split.1 split.2 (front_of c.args.style) c.in_ok-report_of-in-Ok.field-0 c.in_ok-report_of-in-Ok.ensures.ok

pub returns-in_default : goal.returns-in_default
returns-in_default c =
    let within : length c.args.bytes.now ≤ limit = omega arith in record {
      ok = is_none c.args.bytes.now within c.in-Err.e.kind (front_of c.args.style) (λ is. c.in_default.not-Memory (c.kind.ensures ∙ is)) c.in-Err.ensures;
      err = tt;
    }
