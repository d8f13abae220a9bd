-- All rules, in their order, and which of them a certificate breaks.
use Rattle.std.specs.Prelude.{◌≡◌, ◌&&◌, Bool, List, ◌++◌, map, filter}
use Rattle.x509_base.specs.CivilTime.{CivilTime}
use Rattle.x509_lint.specs.Words.{Certificate}
use Rattle.x509_lint_web.specs.Authority as authority
use Rattle.x509_lint_web.specs.Constrained as constrained
use Rattle.x509_lint_web.specs.Field as field
use Rattle.x509_lint_web.specs.Key as key
use Rattle.x509_lint_web.specs.Name as name
use Rattle.x509_lint_web.specs.Policy as policy
use Rattle.x509_lint_web.specs.Precertificate as precertificate
use Rattle.x509_lint_web.specs.Responder as responder
use Rattle.x509_lint_web.specs.Root as root
use Rattle.x509_lint_web.specs.Subject as subject
use Rattle.x509_lint_web.specs.Subordinate as subordinate
use Rattle.x509_lint_web.specs.Usage as usage
use Rattle.x509_lint_web.specs.Validity as validity
use Rattle.x509_lint_web.specs.Sentence.{Sentence, is_in_force}
use Rattle.x509_lint_web.specs.Values.{AreWebValues}
use Rattle.x509_lint_web.specs.Words.{is_above_servers, is_responder, is_root, is_server, is_subordinate}
use Rattle.x509_lint_web.specs.declared.rule.WebRule.{WebRule}
use Rattle.x509_lint_web.specs.declared.rule.WebRule.TheVariants as rules
use Rattle.x509_lint_web.specs.declared.values.WebValues.{WebValues}

-- a rule on those alone of whom this holds
abbrev pub of_those : (Certificate → WebValues → Bool) → Sentence → Sentence
of_those holds sentence = record sentence { breaks = λ c v. holds c v && sentence.breaks c v }

abbrev pub web_sentence : WebRule → Sentence
web_sentence (rules.Field rule) = field.field_sentence rule
web_sentence (rules.Key rule) = key.key_sentence rule
web_sentence (rules.Validity rule) = of_those is_server (validity.validity_sentence rule)
web_sentence (rules.Name rule) = of_those is_server (name.name_sentence rule)
web_sentence (rules.Subject rule) = of_those is_server (subject.subject_sentence rule)
web_sentence (rules.Usage rule) = of_those is_server (usage.usage_sentence rule)
web_sentence (rules.Policy rule) = of_those is_server (policy.policy_sentence rule)
web_sentence (rules.Authority rule) = of_those is_above_servers (authority.authority_sentence rule)
web_sentence (rules.Root rule) = of_those is_root (root.root_sentence rule)
web_sentence (rules.Subordinate rule) = of_those is_subordinate (subordinate.subordinate_sentence rule)
web_sentence (rules.Responder rule) = of_those is_responder (responder.responder_sentence rule)
web_sentence (rules.Precertificate rule) = precertificate.precertificate_sentence rule
web_sentence (rules.Constrained rule) = constrained.constrained_sentence rule

abbrev pub web_rules : List WebRule
web_rules =
    map rules.Field field.field_rules ++ map rules.Key key.key_rules ++ map rules.Validity validity.validity_rules ++ map rules.Name name.name_rules
    ++ map rules.Subject subject.subject_rules ++ map rules.Usage usage.usage_rules ++ map rules.Policy policy.policy_rules
    ++ map rules.Authority authority.authority_rules ++ map rules.Root root.root_rules ++ map rules.Subordinate subordinate.subordinate_rules
    ++ map rules.Responder responder.responder_rules ++ map rules.Precertificate precertificate.precertificate_rules
    ++ map rules.Constrained constrained.constrained_rules

-- the rule is in force at the moment, and the certificate, of which these are the values, breaks it
abbrev pub is_found : CivilTime → Certificate → WebValues → WebRule → Bool
is_found moment c v rule = is_in_force (web_sentence rule) moment && (web_sentence rule).breaks c v

-- the findings are those of the rules, in their order
abbrev pub AreWebFindings : CivilTime → Certificate → List WebRule → Type 0
AreWebFindings moment c findings = (v : WebValues) × AreWebValues c v × (findings ≡ filter (is_found moment c v) web_rules)
