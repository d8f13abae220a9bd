use Rattle.std.proofs.Common.{◌≡◌, ◌∙◌, List, ◌++◌, map, filter, refl, sym}
use Rattle.x509_lint.specs.Alternative.{alternative_rules}
use Rattle.x509_lint.specs.Authority.{authority_rules}
use Rattle.x509_lint.specs.Constraint.{constraint_rules}
use Rattle.x509_lint.specs.Critical.{critical_rules}
use Rattle.x509_lint.specs.Field.{field_rules}
use Rattle.x509_lint.specs.Key.{key_rules}
use Rattle.x509_lint.specs.List.{extension_kinds, list_rules}
use Rattle.x509_lint.specs.Name.{name_rules}
use Rattle.x509_lint.specs.Point.{point_rules}
use Rattle.x509_lint.specs.Policy.{policy_rules}
use Rattle.x509_lint.specs.PublicKey.{public_key_rules}
use Rattle.x509_lint.specs.Rules.{breaks}
use Rattle.x509_lint.specs.Values.{CertificateParts}
use Rattle.x509_lint.specs.Words.{Certificate}
use Rattle.x509_lint.specs.declared.rule.Rule.{Rule}
use Rattle.x509_lint.specs.declared.rule.Rule.TheVariants as rules
use Rattle.x509_lint.proofs.Broken.{behind, filter-map}
use Rattle.x509_lint.proofs.certificate.lint_certificate.Goals as goal

-- the rules of the first five groups
abbrev first_rules : List Rule
first_rules = map rules.Field field_rules ++ map rules.Name name_rules ++ map rules.ExtensionList list_rules ++ map rules.ExtensionMalformed extension_kinds ++ map rules.Critical critical_rules

abbrev first_found : Certificate → CertificateParts → List Rule
first_found certificate parts =
    map rules.Field (filter (λ r. breaks certificate parts (rules.Field r)) field_rules) ++ map rules.Name (filter (λ r. breaks certificate parts (rules.Name r)) name_rules)
    ++ map rules.ExtensionList (filter (λ r. breaks certificate parts (rules.ExtensionList r)) list_rules)
    ++ map rules.ExtensionMalformed (filter (λ r. breaks certificate parts (rules.ExtensionMalformed r)) extension_kinds) ++ map rules.Critical (filter (λ r. breaks certificate parts (rules.Critical r)) critical_rules)

first : (certificate : Certificate) (parts : CertificateParts) → first_found certificate parts ≡ filter (breaks certificate parts) first_rules
first certificate parts =
    let p = breaks certificate parts in
    let names = map rules.Field field_rules ++ map rules.Name name_rules in
    let lists = names ++ map rules.ExtensionList list_rules in
    behind rules.Critical p (lists ++ map rules.ExtensionMalformed extension_kinds) critical_rules _ _ (
    behind rules.ExtensionMalformed p lists extension_kinds _ _ (
    behind rules.ExtensionList p names list_rules _ _ (behind rules.Name p (map rules.Field field_rules) name_rules _ _ (sym (filter-map rules.Field p field_rules)) refl) refl
    ) refl
    ) refl

pub returns-clause-ok : goal.returns-clause-ok
returns-clause-ok c =
    let parts : CertificateParts = record {
      facts = c.in_ok-facts.facts;
      authority = c.in_ok-add_group.ensures.ok.0;
      key = c.in_ok-add_group-2.ensures.ok.0;
      alternative = c.in_ok-add_group-3.ensures.ok.0;
      policy = c.in_ok-add_group-4.ensures.ok.0;
      constraint = c.in_ok-add_group-5.ensures.ok.0;
      point = c.in_ok-add_group-6.ensures.ok.0;
      public_key = c.in_ok-add_group-7.ensures.ok.0;
    } in
    let p = breaks c.args.certificate.now parts in
    let none : c.add_first.new.findings.items ≡ first_found c.args.certificate.now parts = rw c.new-findings.ensures.items at c.in_ok-add_first.ensures in
    let so = none ∙ first c.args.certificate.now parts in
    let so_authority = behind rules.Authority p (first_rules) authority_rules _ _ so c.in_ok-add_group.ensures.ok.2 in
    let so_key = behind rules.Key p (first_rules ++ map rules.Authority authority_rules) key_rules _ _ so_authority c.in_ok-add_group-2.ensures.ok.2 in
    let so_alternative = behind rules.Alternative p (first_rules ++ map rules.Authority authority_rules ++ map rules.Key key_rules) alternative_rules _ _ so_key c.in_ok-add_group-3.ensures.ok.2 in
    let so_policy = behind rules.Policy p (first_rules ++ map rules.Authority authority_rules ++ map rules.Key key_rules ++ map rules.Alternative alternative_rules) policy_rules _ _ so_alternative c.in_ok-add_group-4.ensures.ok.2 in
    let so_constraint = behind rules.Constraint p (first_rules ++ map rules.Authority authority_rules ++ map rules.Key key_rules ++ map rules.Alternative alternative_rules ++ map rules.Policy policy_rules) constraint_rules _ _ so_policy c.in_ok-add_group-5.ensures.ok.2 in
    let so_point = behind rules.Point p (first_rules ++ map rules.Authority authority_rules ++ map rules.Key key_rules ++ map rules.Alternative alternative_rules ++ map rules.Policy policy_rules ++ map rules.Constraint constraint_rules) point_rules _ _ so_constraint c.in_ok-add_group-6.ensures.ok.2 in
    let so_public_key = behind rules.PublicKey p (first_rules ++ map rules.Authority authority_rules ++ map rules.Key key_rules ++ map rules.Alternative alternative_rules ++ map rules.Policy policy_rules ++ map rules.Constraint constraint_rules ++ map rules.Point point_rules) public_key_rules _ _ so_point c.in_ok-add_group-7.ensures.ok.2 in
    (parts, (c.in_ok-facts.ensures.ok, c.in_ok-add_group.ensures.ok.1, c.in_ok-add_group-2.ensures.ok.1, c.in_ok-add_group-3.ensures.ok.1, c.in_ok-add_group-4.ensures.ok.1, c.in_ok-add_group-5.ensures.ok.1, c.in_ok-add_group-6.ensures.ok.1, c.in_ok-add_group-7.ensures.ok.1), so_public_key)
