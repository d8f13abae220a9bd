-- A key both parts of which are lent is the key.
use Rattle.std.proofs.Common.{◌≡◌, subst}
use Rattle.x509_base.specs.declared.algorithm_identifier.AlgorithmIdentifier.{AlgorithmIdentifier}
use Rattle.x509_base.specs.declared.subject_public_key_info.SubjectPublicKeyInfo.{SubjectPublicKeyInfo}
use Rattle.x509_build.specs.Answer.{key_lent}
use Rattle.x509_prim.specs.BitString.{BitParts}

pub lent_key : (F : SubjectPublicKeyInfo → Type 0) (key : SubjectPublicKeyInfo) (algorithm : AlgorithmIdentifier) (bits : BitParts) → algorithm ≡ key.algorithm → bits ≡ key.subject_public_key → F (key_lent algorithm bits) → F key
lent_key F key algorithm bits same_algorithm same_bits holds =
    let P : AlgorithmIdentifier → Type 0 = λ a. F (key_lent a bits) in
    let Q : BitParts → Type 0 = λ b. F (key_lent key.algorithm b) in
    subst Q same_bits (subst P same_algorithm holds)
