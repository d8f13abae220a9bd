-- What is answered of paths, once the statuses of certificates are asked.
use Rattle.std.proofs.Common.{◌≡◌, ℕ, List, [], ◌∷◌, ◌++◌, Option, Some, None, Result, Ok, Err, refl, sym, subst, arith}
use Rattle.std.proofs.lemmas.List.Elements.{Contains-append_left, Contains-append_right}
use Rattle.std.specs.List.{Contains}
use Rattle.x509_path.specs.Certificates.{Accepting}
use Rattle.x509_path.specs.Lent.{Lends}
use Rattle.x509_revocation.specs.Says.{GivenCrl, Question}
use Rattle.x509_revocation.specs.Status as statuses
use Rattle.x509_revocation.specs.declared.status.RevocationStatus.{RevocationStatus}
use Rattle.x509_trust.specs.Limits.{KeepsPeer}
use Rattle.x509_trust.specs.Peers.{AnswersPath, AnswersPeer, Bars, FindsUsable, IsBarred, IsTold, NamesPeer, NoneIsUsable, Passes}
use Rattle.x509_trust.specs.Searched.{AnswersAbove}
use Rattle.x509_trust.specs.declared.error.RefusedCertificate.{RefusedCertificate}
use Rattle.x509_trust.specs.declared.error.VerifyError.TheVariants.{OtherName, Path, Revocation, TooManyRefused}
use Rattle.x509_trust.specs.declared.error.VerifyError.{VerifyError}
use Rattle.x509_trust.specs.declared.peer.PeerName.{PeerName}
use Rattle.x509_trust.specs.declared.revocation.RevocationCheck.{RevocationCheck}
use Rattle.x509_verify.specs.Effort.{KeepsLimits}
use Rattle.x509_verify.specs.Found.{Wanted}
use Rattle.x509_verify.specs.declared.anchors.Anchors.{Anchors}
use Rattle.x509_verify.specs.declared.find_error.FindError.{FindError}
use Rattle.x509_verify.specs.declared.found.Found.{Found}
use Rattle.x509_verify.specs.declared.limits.SearchLimits.{SearchLimits}
use Rattle.x509_verify.specs.declared.pool.Pool.{Pool}
use Rattle.x509_trust.proofs.Without.{keeps_own}

-- where nothing is found above, that is the answer
pub of_error : (accepts : Accepting) (wanted : Wanted) (check : RevocationCheck) (given : List GivenCrl) (error : VerifyError) → AnswersAbove accepts wanted check given check.max_refused (Err error)
    → AnswersPath accepts wanted (Some check) given (Err error)
of_error accepts wanted check given OtherName is = is
of_error accepts wanted check given (Path error) is = is
of_error accepts wanted check given (Revocation refused) (none, (trusted, above, leads, there), barred) = (
  (λ trusted above usable. none trusted above usable.leads usable.passes.0),
  record {
    asked = check;
    is = refl;
    stands = (trusted, above, leads, Contains-append_left above (wanted.leaf ∷ []) refused.certificate.now there);
    barred = barred;
  },
)
of_error accepts wanted check given TooManyRefused is = (check, refl, is)

-- the last one alone is left to ask
pub of_found : (accepts : Accepting) (wanted : Wanted) (check : RevocationCheck) (given : List GivenCrl) (found : Found) → AnswersAbove accepts wanted check given check.max_refused (Ok found)
    → Passes accepts check given wanted.leaf → FindsUsable accepts wanted (Some check) given found
of_found accepts wanted check given found is pass = record {
  found = is.found;
  passes = (is.passes, pass);
  shortest = λ trusted above usable. is.shortest trusted above usable.leads usable.passes.0;
}

pub of_barred : (accepts : Accepting) (wanted : Wanted) (check : RevocationCheck) (given : List GivenCrl) (found : Found) (refused : RefusedCertificate)
    → AnswersAbove accepts wanted check given check.max_refused (Ok found)
    → ((question : Question) (given : List GivenCrl) (s t : RevocationStatus) → statuses.Answers question given s → statuses.Answers question given t → s ≡ t)
    → wanted.leaf ≡ refused.certificate.now → IsBarred accepts check given refused.certificate.now refused.status
    → NoneIsUsable accepts wanted (Some check) given × IsTold accepts wanted (Some check) given refused
of_barred accepts wanted check given found refused answers one_status is barred = (
  (λ trusted above usable.
      let (status, has, free) = usable.passes.1 barred.certificate (subst (λ b. Lends b barred.certificate) (sym is) barred.lends) in
      free (subst (λ s. Bars check s) (one_status _ given refused.status status barred.has has) barred.bars)),
  record {
    asked = check;
    is = refl;
    stands = (
      found.trusted,
      answers.found.above,
      answers.found.leads,
      subst (λ b. Contains (answers.found.above ++ wanted.leaf ∷ []) b) is
          (Contains-append_right answers.found.above (wanted.leaf ∷ []) wanted.leaf (0, omega arith, refl)),
    );
    barred = barred;
  },
)

-- with the name
pub named : (accepts : Accepting) (wanted : Wanted) (name : Option PeerName) (check : Option RevocationCheck) (given : List GivenCrl) (result : Result Found VerifyError) → NamesPeer name wanted.leaf
    → AnswersPath accepts wanted check given result → AnswersPeer accepts wanted name check given result
named accepts wanted name check given (Ok found) names is = (names, is)
named accepts wanted name check given (Err OtherName) names is = absurd is
named accepts wanted name check given (Err (Path error)) names is = ((λ decodable. names), is)
named accepts wanted name check given (Err (Revocation refused)) names is = (names, is)
named accepts wanted name check given (Err TooManyRefused) names is = (names, is)

-- what keeps to the limits over all candidates
pub keeps_all : (accepts : Accepting) (check : Option RevocationCheck) (given : List GivenCrl) (anchors : Anchors) (limits : SearchLimits) (leaf : List ℕ) (pool : Pool)
    (result : Result Found FindError) → KeepsLimits anchors pool limits leaf result → KeepsPeer accepts check given anchors limits leaf pool result
keeps_all accepts None given anchors limits leaf pool result keeps = keeps
keeps_all accepts (Some check) given anchors limits leaf pool result keeps = keeps_own accepts check given anchors limits leaf check.max_refused pool result keeps
