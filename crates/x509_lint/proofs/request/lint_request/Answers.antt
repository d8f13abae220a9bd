use Rattle.std.proofs.Common.{◌≡◌, ◌∙◌, ◌++◌, filter, map, sym}
use Rattle.x509_lint.specs.List.{extension_kinds}
use Rattle.x509_lint.specs.Request.{request_name_rules, request_rules}
use Rattle.x509_lint.specs.Rules.{request_breaks}
use Rattle.x509_lint.specs.declared.rule.Rule.TheVariants as rules
use Rattle.x509_lint.proofs.Broken.{behind, filter-map}
use Rattle.x509_lint.proofs.request.lint_request.Goals as goal

pub returns-clause-ok : goal.returns-clause-ok
returns-clause-ok c =
    let p = request_breaks c.args.request.now c.in_ok-values.values in
    let none : c.add_broken.new.findings.items ≡ map rules.Request (filter (λ r. p (rules.Request r)) request_rules) = rw c.new-findings.ensures.items at c.in_ok-add_broken.ensures in
    let so = none ∙ sym (filter-map rules.Request p request_rules) in
    let first = map rules.Request request_rules in
    let so_malformed = behind rules.RequestExtensionMalformed p first extension_kinds _ _ so c.in_ok-add_broken-2.ensures in (
      c.in_ok-values.values,
      c.in_ok-values.ensures.ok,
      behind rules.RequestName p (first ++ map rules.RequestExtensionMalformed extension_kinds) request_name_rules _ _ so_malformed c.in_ok-add_broken-3.ensures,
    )
