use Rattle.std.proofs.Common.{◌∙◌, ◌↔◌, Some, ap, subst, sym}
use Rattle.std.proofs.lemmas.Result.{IfOk-weaker}
use Rattle.std.specs.Bool.{IsTrue}
use Rattle.x509_base.specs.SubjectPublicKeyInfo.{subject_public_key_info}
use Rattle.x509_der.specs.Form.{Spells}
use Rattle.x509_path.specs.Certificates.{IsSigned}
use Rattle.x509_path_steps.proofs.KeyAnswers.{lent_some}
use Rattle.x509_path_steps.proofs.WorkingKeys.{none_held}
use Rattle.x509_path_steps.specs.Keys.{with_parameters}
use Rattle.x509_validation.proofs.validator.Validator.is_signed.Goals as goal

pub returns-in_default : goal.returns-in_default
returns-in_default g c = IfOk-weaker c.is_signed.result _ _
    (λ b said certificate above key lends lent holds.
    subst (λ k. IsTrue b ↔ IsSigned (g.S.Trust.accepts c.args.self.now.signatures.now) k c.args.certificate.now.bytes.now certificate) (sym (none_held c.args.stand.now.above key c.in_default.is holds))
    (said certificate (record { name = above.name; key = holds.own }) lends (lent.0, holds.spells)))
    c.is_signed.ensures.ok

pub returns : goal.returns
returns g c = IfOk-weaker c.is_signed-2.result _ _
    (λ b said certificate above key lends lent holds.
    let (x, some, spells) = lent_some c.args.stand.now.above.inherited c.in-Some.parameters holds.inherited c.in-Some.is holds.lends in
    let filled = subst (λ o. Spells subject_public_key_info (with_parameters holds.own (Some x)) o) (sym c.as_slice.ensures.value) (c.in-Ok.ensures holds.own x holds.spells spells) in
    subst (λ k. IsTrue b ↔ IsSigned (g.S.Trust.accepts c.args.self.now.signatures.now) k c.args.certificate.now.bytes.now certificate) (sym (holds.is ∙ ap (with_parameters holds.own) some))
    (said certificate (record { name = above.name; key = with_parameters holds.own (Some x) }) lends (lent.0, filled)))
    c.is_signed-2.ensures.ok
