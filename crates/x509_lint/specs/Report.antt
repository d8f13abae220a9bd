-- What is said of an object: a line for each finding.
use Rattle.std.specs.Prelude.{◌≡◌, ◌⊎◌, ℕ, Bool, true, false, List, [], ◌∷◌, ◌++◌, codes, string_bytes, Option, Some, None, Result, Ok}
use Rattle.std.specs.List.{flat_map, list_any}
use Rattle.x509_cert.specs.CertReq.{cert_req}
use Rattle.x509_cert.specs.Certificate.{certificate}
use Rattle.x509_cert.specs.CertificateList.{certificate_list}
use Rattle.x509_cert.specs.TrustAnchorChoice.{trust_anchor_choice}
use Rattle.x509_der.specs.Form.{Form, Spells}
use Rattle.x509_der.specs.declared.error.ErrorKind.{ErrorKind}
use Rattle.x509_lint.specs.Rules.{AreAnchorFindings, AreCrlFindings, AreFindings, AreRequestFindings, rule_wording}
use Rattle.x509_lint.specs.Seen.{anchor_seen, certificate_seen, crl_seen, request_seen}
use Rattle.x509_lint.specs.Wording.{Wording, severity_text, which_text, wording_text}
use Rattle.x509_lint.specs.declared.entry.Severity.{Severity}
use Rattle.x509_lint.specs.declared.entry.Severity.TheVariants.{Error, Warning, NotJudged}
use Rattle.x509_lint.specs.declared.report.Kind.{Kind}
use Rattle.x509_lint.specs.declared.report.Kind.TheVariants as kinds
use Rattle.x509_lint.specs.declared.report.Report.{Report}
use Rattle.x509_lint.specs.declared.report.Style.{Style}
use Rattle.x509_lint.specs.declared.report.Style.TheVariants.{Text, Json}
use Rattle.x509_lint.specs.declared.rule.Rule.{Rule}

abbrev pub is_bad : Severity → Bool
is_bad Error = true
is_bad Warning = false
is_bad NotJudged = false

abbrev pub is_error : Rule → Bool
is_error rule = is_bad (rule_wording rule).severity

-- ---- lines

-- what stands in front of the members of an object of JSON; None for a text
abbrev pub front_of : Style → Option (List ℕ)
front_of Text = None
front_of (Json front) = Some front.now

-- as `certificate: error serial_number_not_positive (RFC 5280 4.1.2.2)`, and a line feed
abbrev pub text_line : List ℕ → Rule → List ℕ
text_line word rule = ((word ++ (codes ": " ++ wording_text (rule_wording rule))) ++ which_text (rule_wording rule)) ++ 10 ∷ []

-- the members of an object of JSON
abbrev pub what_members : List ℕ → Wording → List ℕ
what_members word w =
    codes "\"object\": \"" ++ (word ++ (codes "\", \"rule\": \"" ++ (w.name ++ (codes "\", \"severity\": \"" ++ (severity_text w.severity ++ codes "\"")))))

abbrev pub place_members : Wording → List ℕ → List ℕ
place_members w seen =
    codes "\"section\": \"" ++ (w.standard ++ (codes " " ++ (w.section ++ (codes "\", \"place\": \"" ++ (w.place ++ (codes "\", \"seen\": \"" ++ (seen ++ codes "\"")))))))

-- the object of JSON (RFC 8259), more members behind these, and a line feed
abbrev pub json_line_with : List ℕ → List ℕ → List ℕ → Wording → List ℕ → List ℕ
json_line_with more front word w seen = front ++ (what_members word w ++ (codes ", " ++ (place_members w seen ++ (more ++ codes "}\n"))))

-- without more members; none of x509_lint's has a character that would be quoted
abbrev pub json_line : List ℕ → List ℕ → Wording → List ℕ → List ℕ
json_line front word w seen = json_line_with [] front word w seen

abbrev pub line_of : Option (List ℕ) → List ℕ → (Rule → List ℕ) → Rule → List ℕ
line_of None word seen rule = text_line word rule
line_of (Some front) word seen rule = json_line front word (rule_wording rule) (seen rule)

abbrev pub report_text : Option (List ℕ) → List ℕ → (Rule → List ℕ) → List Rule → List ℕ
report_text front word seen findings = flat_map (line_of front word seen) findings

-- ---- reports

-- what is said of an object that is called so, of its findings and of what is seen at their places
abbrev pub IsReportOf : List ℕ → (List Rule → Type 0) → (Rule → List ℕ) → Option (List ℕ) → Report → Type 0
IsReportOf word are_findings seen front report =
    (findings : List Rule) × are_findings findings × (string_bytes report.text ≡ report_text front word seen findings) × (report.has_error ≡ list_any is_error findings)

-- of bytes: what is said of the object of the form that they spell, where they spell one
abbrev pub IsSaid : {X : Type 0} → Form X → List ℕ → (X → List Rule → Type 0) → (X → Rule → List ℕ) → Option (List ℕ) → List ℕ → Option Report → Type 0
IsSaid {X} form word are_findings seen front bytes (Some report) = (x : X) × Spells form x bytes × IsReportOf word (are_findings x) (seen x) front report
IsSaid {X} form word are_findings seen front bytes None = (x : X) → Spells form x bytes → ⊥

-- any content octets are let in as a serial number
abbrev pub any_serial_number : List ℕ → Result Unit ErrorKind
any_serial_number content = Ok tt

-- of an object of this kind
unfoldable pub IsSaidAs : Kind → Option (List ℕ) → List ℕ → Option Report → Type 0
IsSaidAs kinds.Certificate front bytes said = IsSaid (certificate any_serial_number) (codes "certificate") AreFindings certificate_seen front bytes said
IsSaidAs kinds.Crl front bytes said = IsSaid (certificate_list any_serial_number) (codes "crl") AreCrlFindings crl_seen front bytes said
IsSaidAs kinds.Csr front bytes said = IsSaid cert_req (codes "csr") AreRequestFindings request_seen front bytes said
IsSaidAs kinds.Anchor front bytes said = IsSaid (trust_anchor_choice any_serial_number) (codes "anchor") AreAnchorFindings anchor_seen front bytes said

-- of the first of these kinds, or else of another
abbrev pub IsSaidFirst : (Option Report → Type 0) → (Option Report → Type 0) → Option Report → Type 0
IsSaidFirst first other said = ((report : Report) × (said ≡ Some report) × first (Some report)) ⊎ (first None × other said)

-- of a certificate, else of a CRL, else of a CSR, or else of a trust anchor
abbrev pub IsReport : Option (List ℕ) → List ℕ → Option Report → Type 0
IsReport front bytes said =
    IsSaidFirst (IsSaidAs kinds.Certificate front bytes)
    (IsSaidFirst (IsSaidAs kinds.Crl front bytes) (IsSaidFirst (IsSaidAs kinds.Csr front bytes) (IsSaidAs kinds.Anchor front bytes))) said
