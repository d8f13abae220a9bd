-- What is said of the bytes of an object, by the rules that are asked.
use Rattle.std.specs.Prelude.{◌≡◌, ◌||◌, ℕ, List, ◌++◌, Option, Some, None, string_bytes}
use Rattle.x509_base.specs.CivilTime.{CivilTime}
use Rattle.x509_base.specs.Time.{date_time_of}
use Rattle.x509_cert.specs.Certificate.{certificate}
use Rattle.x509_der.specs.Form.{Spells}
use Rattle.x509_lint.specs.Report.{IsReport, IsSaidAs, any_serial_number}
use Rattle.x509_lint.specs.Words.{Certificate}
use Rattle.x509_lint.specs.declared.report.Kind.{Kind}
use Rattle.x509_lint.specs.declared.report.Kind.TheVariants as kinds
use Rattle.x509_lint.specs.declared.report.Report.{Report}
use Rattle.x509_lint_web.specs.Report.{IsWebReport}
use Rattle.x509_linter.specs.declared.said.Moment.{Moment}
use Rattle.x509_linter.specs.declared.said.Moment.TheVariants.{At, NotBefore}
use Rattle.x509_linter.specs.declared.said.Rules.{Rules}
use Rattle.x509_linter.specs.declared.said.Rules.TheVariants.{Rfc, Web, Both}

-- what is said of the object that was asked for
abbrev pub is_said : Option Kind → Option (List ℕ) → List ℕ → Option Report → Type 0
is_said None front bytes said = IsReport front bytes said
is_said (Some kind) front bytes said = IsSaidAs kind front bytes said

-- bytes spell no certificate
abbrev pub IsNoCertificate : List ℕ → Type 0
IsNoCertificate bytes = (c : Certificate) → Spells (certificate any_serial_number) c bytes → ⊥

-- the date and time of notBefore (RFC 5280 4.1.2.5)
abbrev pub not_before : Certificate → CivilTime
not_before c = date_time_of c.tbs_certificate.validity.not_before

-- of bytes: that of the certificate that they spell, where they spell one
abbrev pub IsNotBefore : List ℕ → Option CivilTime → Type 0
IsNotBefore bytes (Some moment) = (c : Certificate) × Spells (certificate any_serial_number) c bytes × (moment ≡ not_before c)
IsNotBefore bytes None = IsNoCertificate bytes

-- the moment at which rules have to be in force that are asked of a certificate
abbrev pub moment_for : Moment → Certificate → CivilTime
moment_for (At moment) c = moment
moment_for NotBefore c = not_before c

-- what is said of the certificate that bytes spell by the rules of the Baseline Requirements, where they spell one
abbrev pub IsWebSaidAt : Moment → Option (List ℕ) → List ℕ → Option Report → Type 0
IsWebSaidAt moment front bytes (Some report) =
    (c : Certificate) × Spells (certificate any_serial_number) c bytes × IsWebReport front (moment_for moment c) c report
IsWebSaidAt moment front bytes None = IsNoCertificate bytes

-- one report behind the other
abbrev pub AreJoined : Report → Report → Report → Type 0
AreJoined first second report =
    (string_bytes report.text ≡ string_bytes first.text ++ string_bytes second.text) × (report.has_error ≡ (first.has_error || second.has_error))

-- behind a report what is said of it by the rules of the Baseline Requirements
abbrev pub IsSaidBehind : Report → Moment → Option (List ℕ) → List ℕ → Option Report → Type 0
IsSaidBehind first moment front bytes (Some report) = (second : Report) × IsWebSaidAt moment front bytes (Some second) × AreJoined first second report
IsSaidBehind first moment front bytes None = IsNoCertificate bytes

-- what is said of it by the rules of RFC 5280 and the others, and behind that what is said by those of the Baseline Requirements
abbrev pub IsBothSaid : Moment → Option (List ℕ) → List ℕ → Option Report → Type 0
IsBothSaid moment front bytes (Some report) =
    (first : Report) × IsSaidAs kinds.Certificate front bytes (Some first) × IsSaidBehind first moment front bytes (Some report)
IsBothSaid moment front bytes None = IsNoCertificate bytes

-- by the rules that are asked
abbrev pub is_said_by : Rules → Option Kind → Option (List ℕ) → List ℕ → Option Report → Type 0
is_said_by Rfc kind front bytes said = is_said kind front bytes said
is_said_by (Web moment) kind front bytes said = IsWebSaidAt moment front bytes said
is_said_by (Both moment) kind front bytes said = IsBothSaid moment front bytes said
