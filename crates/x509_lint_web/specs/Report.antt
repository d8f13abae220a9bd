-- What is said of a certificate: a line for each finding, of which there is one for each name of the SAN that breaks a rule.
use Rattle.std.specs.Prelude.{◌≡◌, ℕ, Bool, List, [], ◌∷◌, ◌++◌, codes, filter, string_bytes, Option, Some, None, if◌then◌else◌}
use Rattle.std.specs.List.{flat_map, list_any}
use Rattle.x509_base.specs.CivilTime.{CivilTime}
use Rattle.x509_cert.specs.Certificate.{certificate}
use Rattle.x509_der.specs.Form.{Spells}
use Rattle.x509_ext.specs.declared.pkix.alternative_names.SubjectAltName.{SubjectAltName}
use Rattle.x509_ext.specs.declared.pkix.name.general_name.GeneralName.{GeneralName}
use Rattle.x509_lint.specs.Report.{any_serial_number, is_bad, json_line_with}
use Rattle.x509_lint.specs.Wording.{Wording, wording_text}
use Rattle.x509_lint.specs.Words.{Certificate, is_empty}
use Rattle.x509_lint.specs.declared.report.Report.{Report}
use Rattle.x509_lint_web.specs.Name.{has_fault}
use Rattle.x509_lint_web.specs.Rules.{is_found, web_rules, web_sentence}
use Rattle.x509_lint_web.specs.Seen.{fault_of, kind_of_name, kind_of_part, kind_word, name_seen, part_of, part_seen}
use Rattle.x509_lint_web.specs.Values.{AreWebValues}
use Rattle.x509_lint_web.specs.declared.names.NameFault.{NameFault}
use Rattle.x509_lint_web.specs.declared.rule.WebRule.{WebRule}
use Rattle.x509_lint_web.specs.declared.seen.SeenKind.{SeenKind}
use Rattle.x509_lint_web.specs.declared.seen.SeenKind.TheVariants as kinds
use Rattle.x509_lint_web.specs.declared.values.WebValues.{WebValues}
use Rattle.x509_text.specs.Lines.{shown}
use Rattle.x509_text.specs.declared.line.Style.TheVariants as styles

abbrev pub is_error : WebRule → Bool
is_error rule = is_bad (web_sentence rule).wording.severity

-- behind a tab what is seen, as `dNSName "a_b.example.com"`, between quotation marks as in JSON (RFC 8259 7); nothing where that is nothing
abbrev pub seen_text : SeenKind → List ℕ → List ℕ
seen_text kind seen = if is_empty seen then [] else 9 ∷ (kind_word kind ++ (codes " \"" ++ (shown styles.Json seen ++ codes "\"")))

-- as `certificate: error subject_alt_name_absent (TLS BR 7.1.2.7.12)`, what is seen, and a line feed
abbrev pub text_line : WebRule → SeenKind → List ℕ → List ℕ
text_line rule kind seen = codes "certificate: " ++ (wording_text (web_sentence rule).wording ++ (seen_text kind seen ++ codes "\n"))

-- the kind of what is seen, as an object of JSON has it
abbrev pub told_kind : SeenKind → List ℕ → SeenKind
told_kind kind seen = if is_empty seen then kinds.Nothing else kind

-- of which kind what is seen is
abbrev pub kind_member : SeenKind → List ℕ → List ℕ
kind_member kind seen = codes ", \"seen_as\": \"" ++ (kind_word (told_kind kind seen) ++ codes "\"")

-- the members of a finding of x509_lint, and that
abbrev pub json_line : List ℕ → Wording → SeenKind → List ℕ → List ℕ
json_line front w kind seen = json_line_with (kind_member kind seen) front (codes "certificate") w (shown styles.Json seen)

-- what stands in front of the members of an object of JSON is given, and None for a text
abbrev pub seen_line : Option (List ℕ) → WebRule → SeenKind → List ℕ → List ℕ
seen_line None rule kind seen = text_line rule kind seen
seen_line (Some front) rule kind seen = json_line front (web_sentence rule).wording kind seen

-- the line on a name that has the fault
abbrev pub name_line : Option (List ℕ) → WebRule → NameFault → GeneralName → List ℕ
name_line front rule fault n = if has_fault fault n then seen_line front rule (kind_of_name n) (name_seen n) else []

-- a line for each name of the SAN that has it
abbrev pub names_lines : Option (List ℕ) → WebRule → NameFault → Option SubjectAltName → List ℕ
names_lines front rule fault None = []
names_lines front rule fault (Some s) = flat_map (name_line front rule fault) s.0

-- the line on a rule that speaks of another part
abbrev pub part_line : Option (List ℕ) → Certificate → WebRule → List ℕ
part_line front c rule = seen_line front rule (kind_of_part (part_of rule)) (part_seen c (part_of rule))

-- the lines on a rule: of names with the fault, where there is one
abbrev pub lines_for : Option (List ℕ) → Certificate → WebValues → WebRule → Option NameFault → List ℕ
lines_for front c v rule (Some fault) = names_lines front rule fault v.subject_alt_name
lines_for front c v rule None = part_line front c rule

abbrev pub rule_lines : Option (List ℕ) → Certificate → WebValues → WebRule → List ℕ
rule_lines front c v rule = lines_for front c v rule (fault_of (part_of rule))

-- the lines on each of the rules that a certificate of these values breaks
abbrev pub IsReportOf : Option (List ℕ) → Certificate → WebValues → List WebRule → Report → Type 0
IsReportOf front c v findings report =
    (string_bytes report.text ≡ flat_map (rule_lines front c v) findings) × (report.has_error ≡ list_any is_error findings)

-- the findings are those of the rules that are in force at the moment and broken, in their order
abbrev pub IsWebReport : Option (List ℕ) → CivilTime → Certificate → Report → Type 0
IsWebReport front moment c report =
    (v : WebValues) × AreWebValues c v × ((findings : List WebRule) × (findings ≡ filter (is_found moment c v) web_rules) × IsReportOf front c v findings report)

-- of bytes: what is said of the certificate that they spell, where they spell one
abbrev pub IsWebSaid : Option (List ℕ) → CivilTime → List ℕ → Option Report → Type 0
IsWebSaid front moment bytes (Some report) = (c : Certificate) × Spells (certificate any_serial_number) c bytes × IsWebReport front moment c report
IsWebSaid front moment bytes None = (c : Certificate) → Spells (certificate any_serial_number) c bytes → ⊥
