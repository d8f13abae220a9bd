-- What is said of a certificate by two sets of rules.
use Rattle.std.proofs.Common.{ℕ, List, Option, Some, None, Result, Ok, Err, IfOk}
use Rattle.x509_der.specs.declared.error.Error.{Error}
use Rattle.x509_lint.specs.Report.{IsSaidAs}
use Rattle.x509_lint.specs.declared.report.Kind.TheVariants.{Certificate}
use Rattle.x509_lint.specs.declared.report.Report.{Report}
use Rattle.x509_linter.specs.Said.{IsBothSaid, IsNoCertificate, IsSaidBehind}
use Rattle.x509_linter.specs.declared.said.Moment.{Moment}

module _ (moment : Moment) (front : Option (List ℕ)) (bytes : List ℕ) (first : Report) where
  both : (said : Option Report) → IsSaidAs Certificate front bytes (Some first) → IsSaidBehind first moment front bytes said → IsBothSaid moment front bytes said
  both (Some report) is h = (first, is, h)
  both None is h = h

  pub behind_first : IsSaidAs Certificate front bytes (Some first) → (result : Result (Option Report) Error) → IfOk result (IsSaidBehind first moment front bytes) → IfOk result (IsBothSaid moment front bytes)
  behind_first is (Ok said) h = both said is h
  behind_first is (Err e) h = tt

pub no_certificate : (front : Option (List ℕ)) (bytes : List ℕ) → IsSaidAs Certificate front bytes None → IsNoCertificate bytes
unfolding IsSaidAs
no_certificate front bytes h = h
