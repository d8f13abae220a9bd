use Rattle.std.proofs.Common.{◌+◌, ◌≤◌, drop}
use Rattle.std.specs.List.{All}
use Rattle.x509_base.specs.SubjectPublicKeyInfo.{subject_public_key_info}
use Rattle.x509_base.specs.declared.subject_public_key_info.SubjectPublicKeyInfo.{SubjectPublicKeyInfo}
use Rattle.x509_der.specs.Form.{Spells}
use Rattle.x509_verify.specs.Found.{octets}
use Rattle.x509_verify.specs.Progress.{IsAnswer}
use Rattle.x509_verify.proofs.SigningSteps.{Passed}
use Rattle.x509_verify.proofs.signatures.unsigned_place.Given as goal

-- what was answered is right, and under the key above what follows is signed where all is; each place took at most one signature
abbrev pub invariant-loop-place : goal.invariant-loop-place
invariant-loop-place g l = record {
  counted : l.initial.left ≤ l.left + l.place;
  tells : All (IsAnswer (g.V.SliceVerifier.accepts l.verifier)) l.initial.asked.items → record {
    remembered : All (IsAnswer (g.V.SliceVerifier.accepts l.verifier)) l.asked.items;
    passed : (key : SubjectPublicKeyInfo) → Spells subject_public_key_info key l.trusted → Passed (g.V.SliceVerifier.accepts l.verifier) key (octets l.path) l.place l.above.items;
  };
}
