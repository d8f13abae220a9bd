use Rattle.std.proofs.Common.{subst}
use Rattle.x509_base.specs.declared.subject_public_key_info.SubjectPublicKeyInfo.{SubjectPublicKeyInfo}
use Rattle.x509_build.specs.Answer.{Gives, key_lent}
use Rattle.x509_build.proofs.LentKeys.{lent_key}
use Rattle.x509_build.proofs.certificate_builder.of_profile.Goals as goal

pub returns : goal.returns
returns g c =
    let asked = g.P.BuilderProfile.extensions_of c.args.profile.now in
    let P : SubjectPublicKeyInfo → Type 0 = λ key. Gives (λ extensions. extensions.items) (asked key c.args.issuer_key.now c.args.bare.now) c.build_extensions.result in
    let lent = key_lent c.owned_to_ref.result.algorithm.now c.owned_to_ref.result.subject_public_key.now in
    let Q : SubjectPublicKeyInfo → Type 0 = λ key. Gives (λ extensions. extensions.items) (asked lent key c.args.bare.now) c.build_extensions.result in
    subst P c.subject_public_key_info.ensures
    (lent_key P _ _ _ c.owned_to_ref.ensures.algorithm c.owned_to_ref.ensures.key
    (lent_key Q _ _ _ c.owned_to_ref-2.ensures.algorithm c.owned_to_ref-2.ensures.key c.build_extensions.ensures))
