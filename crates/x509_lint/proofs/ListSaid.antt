-- What is said of the encoding of a CRL, by the CRL without its entries.
use Rattle.std.proofs.Common.{◌≡◌, ◌≢◌, ◌≤◌, ◌∙◌, ℕ, List, length, Option, Some, None, Result, Ok, ap, refl}
use Rattle.std.specs.Prelude.{IsOk, codes}
use Rattle.x509_base.specs.declared.profile.Raw.{Raw}
use Rattle.x509_cert.specs.AnySerial.{any_certificate_list}
use Rattle.x509_cert.specs.CertificateList.{certificate_list_lawful}
use Rattle.x509_cert.specs.Respelling.{no_check}
use Rattle.x509_crl_index.specs.Split.{IsSplit, read_entries}
use Rattle.x509_der.specs.Element.{limit}
use Rattle.x509_der.specs.Form.{Spells, whole_reading}
use Rattle.x509_der.specs.FormLaws.{whole_complete, whole_sound}
use Rattle.x509_der.specs.Outcome.{IsRefusal}
use Rattle.x509_der.specs.declared.error.ErrorKind.{ErrorKind}
use Rattle.x509_der.specs.declared.error.ErrorKind.TheVariants.{Memory}
use Rattle.x509_lint.specs.Report.{IsReportOf, IsSaid, report_text}
use Rattle.x509_lint.specs.Rules.{AreCrlFindings}
use Rattle.x509_lint.specs.Seen.{crl_seen, crl_seen_among}
use Rattle.x509_lint.specs.Words.{Crl, crl_extensions_of}
use Rattle.x509_lint.specs.declared.report.Report.{Report}
use Rattle.x509_lint.specs.declared.rule.Rule.{Rule}

refusal : (kind : ErrorKind) (reading : Result Crl ErrorKind) (list : Crl) → kind ≢ Memory → IsRefusal kind reading → reading ≡ Ok list → ⊥
refusal Memory reading list other refused read = other refl
refusal kind reading list other refused read = absurd cc

module _ (bytes : List ℕ) (within : length bytes ≤ limit) where
  -- a CRL that is split
  module _ (list front : Crl) (octets : List ℕ) (read : whole_reading any_certificate_list.reading bytes ≡ Ok list) (split : IsSplit list front octets) where
    spells : Spells any_certificate_list list bytes
    spells =
        let s = whole_sound any_certificate_list (certificate_list_lawful no_check) bytes list read in
        (s.0, s.1, within)

    pub are_entries : IsOk (read_entries octets)
    are_entries = rw split.1 refl

    same_seen : (style : Option (List ℕ)) (findings : List Rule) → report_text style (codes "crl") (crl_seen front) findings ≡ report_text style (codes "crl") (crl_seen list) findings
    same_seen style findings = ap (λ extensions. report_text style (codes "crl") (crl_seen_among extensions) findings) (ap crl_extensions_of split.0)

    pub is_said : (style : Option (List ℕ)) (report : Report)
        → IsReportOf (codes "crl") (λ findings. (other : Crl) → IsSplit other front octets → AreCrlFindings other findings) (crl_seen front) style report
        → IsSaid any_certificate_list (codes "crl") AreCrlFindings crl_seen style bytes (Some report)
    is_said style report of = (list, spells, (of.0, of.1 list split, of.2 ∙ same_seen style of.0, of.3))

  -- what is no CRL
  pub is_none : (kind : ErrorKind) (style : Option (List ℕ)) → kind ≢ Memory → IsRefusal kind (whole_reading (any_certificate_list {P = Raw}).reading bytes) → IsSaid (any_certificate_list {P = Raw}) (codes "crl") AreCrlFindings crl_seen style bytes None
  is_none kind style other refused = λ list spells.
      let read : whole_reading (any_certificate_list {P = Raw}).reading bytes ≡ Ok list = ap (whole_reading (any_certificate_list {P = Raw}).reading) spells.1 ∙ whole_complete (any_certificate_list {P = Raw}) (certificate_list_lawful no_check) list spells.0 in
      refusal kind (whole_reading (any_certificate_list {P = Raw}).reading bytes) list other refused read
