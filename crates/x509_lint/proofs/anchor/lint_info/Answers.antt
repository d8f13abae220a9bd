use Rattle.std.proofs.Common.{◌∙◌, ◌++◌, map, refl, sym}
use Rattle.x509_lint.specs.Anchor.{anchor_extension_rules, anchor_rules}
use Rattle.x509_lint.specs.Constraint.{constraint_rules}
use Rattle.x509_lint.specs.List.{extension_kinds}
use Rattle.x509_lint.specs.Rules.{info_breaks}
use Rattle.x509_lint.specs.declared.rule.Rule.TheVariants as rules
use Rattle.x509_lint.proofs.Broken.{behind, filter-map}
use Rattle.x509_lint.proofs.anchor.lint_info.Goals as goal

pub returns-clause-ok : goal.returns-clause-ok
returns-clause-ok c =
    let p = info_breaks c.args.info.now c.in_ok-values.values in
    let constraints = map rules.Anchor anchor_rules ++ map rules.AnchorConstraint constraint_rules in
    let so_constraint = behind rules.AnchorConstraint p (map rules.Anchor anchor_rules) constraint_rules _ _ (sym (filter-map rules.Anchor p anchor_rules)) refl in
    let so_extension = behind rules.AnchorExtension p constraints anchor_extension_rules _ _ so_constraint refl in (
      c.in_ok-values.values,
      c.in_ok-values.ensures.ok,
      rw c.new-findings.ensures.items at c.in_ok-add_info.ensures ∙ behind rules.AnchorExtensionMalformed p (constraints ++ map rules.AnchorExtension anchor_extension_rules) extension_kinds _ _ so_extension refl,
    )
