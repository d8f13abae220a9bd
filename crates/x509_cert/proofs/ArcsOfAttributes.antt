-- The contents of 1.2.840.113549.1.9.n.
use Rattle.std.specs.Prelude.{◌≡◌, ◌<◌, ◌/◌, ◌%◌, ℕ, [], ◌∷◌, refl}
use Rattle.std.proofs.Common.{arith}
use Rattle.x509_cert.specs.Identifiers.{pkcs_9}
use Rattle.x509_der.specs.Arcs.{content_of, subidentifier}

low_digits : (n : ℕ) → n < 128 → subidentifier n ≡ n ∷ []
unfolding subidentifier
low_digits n small =
    let none : n / 128 ≡ 0 = omega arith in
    let same : n % 128 ≡ n = omega arith in
    rw (none, same) refl

pub pkcs_9_content : (n : ℕ) → n < 128 → pkcs_9 n ≡ content_of (1 ∷ 2 ∷ 840 ∷ 113549 ∷ 1 ∷ 9 ∷ n ∷ [])
unfolding subidentifier
pkcs_9_content n small = rw (low_digits n small) refl
