use Rattle.std.proofs.Common.{◌≡◌, ◌∙◌, ◌++◌, filter, map, sym}
use Rattle.x509_lint.specs.CrlEntry.{crl_entry_rules}
use Rattle.x509_lint.specs.CrlExtension.{crl_extension_rules}
use Rattle.x509_lint.specs.CrlField.{crl_entry_list_rules, crl_extension_kinds, crl_field_rules}
use Rattle.x509_lint.specs.Rules.{crl_breaks}
use Rattle.x509_lint.specs.declared.rule.Rule.TheVariants as rules
use Rattle.x509_lint.proofs.Broken.{behind, filter-map}
use Rattle.x509_lint.proofs.crl.broken_rules.Goals as goal

pub returns-clause-ok : goal.returns-clause-ok
returns-clause-ok c =
    let p = crl_breaks c.args.crl.now c.args.parts.now in
    let none : c.add_broken.new.findings.items ≡ map rules.CrlField (filter (λ r. p (rules.CrlField r)) crl_field_rules) = rw c.new-findings.ensures.items at c.in_ok-add_broken.ensures in
    let so = none ∙ sym (filter-map rules.CrlField p crl_field_rules) in
    let fields = map rules.CrlField crl_field_rules in
    let so_malformed = behind rules.CrlExtensionMalformed p fields crl_extension_kinds _ _ so c.in_ok-add_broken-2.ensures in
    let malformed = fields ++ map rules.CrlExtensionMalformed crl_extension_kinds in
    let so_list = behind rules.CrlEntryList p malformed crl_entry_list_rules _ _ so_malformed c.in_ok-add_broken-3.ensures in
    let lists = malformed ++ map rules.CrlEntryList crl_entry_list_rules in
    let so_extension = behind rules.CrlExtension p lists crl_extension_rules _ _ so_list c.in_ok-add_broken-4.ensures in
    behind rules.CrlEntry p (lists ++ map rules.CrlExtension crl_extension_rules) crl_entry_rules _ _ so_extension c.in_ok-add_broken-5.ensures
