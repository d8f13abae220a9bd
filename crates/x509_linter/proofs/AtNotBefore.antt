-- What is said of a certificate by the rules that are in force at its notBefore, or at a moment.
use Rattle.std.proofs.Common.{ℕ, List, Option, Some, None, Result, Ok, Err, IfOk, ap, subst, ◌∙◌}
use Rattle.x509_base.specs.CivilTime.{CivilTime}
use Rattle.x509_cert.specs.Certificate.{certificate, certificate_lawful}
use Rattle.x509_der.specs.SpellingLaws.{values}
use Rattle.x509_der.specs.declared.error.Error.{Error}
use Rattle.x509_lint.specs.Report.{any_serial_number}
use Rattle.x509_lint.specs.declared.report.Report.{Report}
use Rattle.x509_lint_web.specs.Report.{IsWebReport, IsWebSaid}
use Rattle.x509_linter.specs.Said.{IsNotBefore, IsWebSaidAt, not_before}
use Rattle.x509_linter.specs.declared.said.Moment.TheVariants.{At, NotBefore}

module _ (front : Option (List ℕ)) (moment : CivilTime) (bytes : List ℕ) where
  -- there is one certificate that the bytes spell
  at_it : (said : Option Report) → IsNotBefore bytes (Some moment) → IsWebSaid front moment bytes said → IsWebSaidAt NotBefore front bytes said
  at_it (Some report) is h =
      let same = values (certificate any_serial_number) (certificate_lawful any_serial_number) is.0 h.0 bytes is.1 h.1 in
      (h.0, h.1, subst (λ m. IsWebReport front m h.0 report) (is.2 ∙ ap not_before same) h.2)
  at_it None is h = h

  pub at : (result : Result (Option Report) Error) → IsNotBefore bytes (Some moment) → IfOk result (IsWebSaid front moment bytes) → IfOk result (IsWebSaidAt NotBefore front bytes)
  at (Ok said) is h = at_it said is h
  at (Err e) is h = tt

  -- by the rules that are in force at a moment
  pub at_moment : (result : Result (Option Report) Error) → IfOk result (IsWebSaid front moment bytes) → IfOk result (IsWebSaidAt (At moment) front bytes)
  at_moment (Ok (Some report)) h = h
  at_moment (Ok None) h = h
  at_moment (Err e) h = tt
