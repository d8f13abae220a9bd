use Rattle.std.proofs.Common.{◌≡◌, subst}
use Rattle.x509_base.specs.SubjectPublicKeyInfo.{subject_public_key_info, subject_public_key_info_lawful}
use Rattle.x509_der.specs.Form.{IsForm, Spells}
use Rattle.x509_der.specs.SpellingLaws.{values}
use Rattle.x509_der.specs.declared.error.ErrorKind.{ErrorKind}
use Rattle.x509_path.proofs.Lent.{key_spells}
use Rattle.x509_path_steps.specs.Keys.{working_key}
use Rattle.x509_verify.proofs.signatures.key_below.Goals as goal

abbrev Never : ErrorKind → Type 0
Never e = ⊥

lawful : IsForm Never subject_public_key_info
lawful = subject_public_key_info_lawful

pub returns-in-Ok : goal.returns-in-Ok
returns-in-Ok c = λ certificate key lends spells.
    let (a, k, above, own, used) = c.in-Ok.ensures in
    let same = values subject_public_key_info lawful a key c.args.above.now above spells in
    let lent = key_spells certificate c.args.certificate.now.bytes.now lends c.subject_public_key_info.result.now (c.subject_public_key_info.ensures certificate lends) in
    let is = values subject_public_key_info lawful k certificate.tbs_certificate.subject_public_key_info c.subject_public_key_info.result.now own lent in
    subst (λ b. Spells subject_public_key_info (working_key b certificate.tbs_certificate.subject_public_key_info) c.in-Ok.key.items) same
    (subst (λ l. Spells subject_public_key_info (working_key a l) c.in-Ok.key.items) is used)
