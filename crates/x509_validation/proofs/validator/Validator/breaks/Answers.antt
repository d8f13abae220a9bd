use Rattle.std.proofs.Common.{◌↔◌, subst, sym}
use Rattle.std.proofs.lemmas.Result.{IfOk-weaker}
use Rattle.std.specs.Bool.{IsTrue}
use Rattle.x509_match.specs.Matching.{NamesMatch}
use Rattle.x509_path.proofs.Lent.{differ}
use Rattle.x509_path.proofs.PathLengths.{too_deep}
use Rattle.x509_path_steps.specs.Keys.{key_behind}
use Rattle.x509_path_steps.specs.Steps.{asked_before}
use Rattle.x509_validation.proofs.OwnFaults.{IsLeft, of_path}
use Rattle.x509_validation.proofs.validator.Validator.breaks.Goals as goal
use Rattle.x509_validation.specs.Last.{HasOwnFault}

pub returns-in_ok-is_signed-in-Signature : goal.returns-in_ok-is_signed-in-Signature
returns-in_ok-is_signed-in-Signature g c = λ inputs above before n certificate stands knows own.
    rw c.in-Signature.is (differ c.in_ok-is_signed-in-Signature.field-0
    (c.in_ok-is_signed-in-Signature.ensures certificate above (key_behind inputs.trust.anchor.key before) knows.lends stands.lends stands.key))

pub returns-then-not-stand-3 : goal.returns-then-not-stand-3
returns-then-not-stand-3 g c = λ inputs above before n certificate stands knows own.
    let many = too_deep NamesMatch certificate c.args.parts.now.is_self_issued knows.own c.is_over.result inputs.trust.max_path_length before c.args.stand.now.max_path_length stands.leaves c.is_over.ensures in
    rw c.in-PathLen.is ((λ is. (c.if-not-stand-3.true, many.0 is)), (λ h. many.1 h.1))

pub returns-in-Purpose : goal.returns-in-Purpose
returns-in-Purpose g c = IfOk-weaker c.lacks_purpose.result _ _ (λ b said inputs above before n certificate stands knows own. rw c.in-Purpose.is (said inputs above before certificate stands knows.extensions)) c.lacks_purpose.ensures

pub returns-in-Names : goal.returns-in-Names
returns-in-Names g c = IfOk-weaker c.breaks_names.result _ _ (λ b said inputs above before n certificate stands knows own. rw c.in-Names.is (said inputs above before n certificate stands knows)) c.breaks_names.ensures

pub returns-in_default : goal.returns-in_default
returns-in_default g c = IfOk-weaker c.has_own_fault.result _ _ (λ b said inputs above before n certificate stands knows own.
    let asks = c.is_any_asked-asks_purpose.ensures inputs.purposes (asked_before inputs.uses.is_chained before) stands.purposes in
    let left : IsLeft c.args.reason = record {
      issuer = c.in_default.not-Issuer;
      signature = c.in_default.not-Signature;
      not_ca = c.in_default.not-NotCa;
      key_usage = c.in_default.not-KeyUsage;
      path_len = c.in_default.not-PathLen;
      usage = c.in_default.not-Usage;
      purpose = c.in_default.not-Purpose;
      names = c.in_default.not-Names;
      constraints = c.in_default.not-Constraints;
    } in
    of_path (g.S.Trust.accepts c.args.self.now.signatures.now) inputs above before c.args.stand.now.is_last n c.args.parts.now.certificate.now.bytes.now certificate b c.args.reason left own
    (subst (λ asks. IsTrue b ↔ HasOwnFault inputs.moment asks certificate c.args.reason) asks
    (subst (λ moment. IsTrue b ↔ HasOwnFault moment c.is_any_asked-asks_purpose.result certificate c.args.reason) (sym stands.at) (said certificate knows.lends knows.extensions))))
    c.has_own_fault.ensures
