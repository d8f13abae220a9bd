-- The contents of 2.5.29.n and of 1.3.6.1.5.5.7.a.n.
use Rattle.std.specs.Prelude.{◌≡◌, ◌<◌, ◌/◌, ◌%◌, ℕ, [], ◌∷◌, refl}
use Rattle.std.proofs.Common.{arith}
use Rattle.x509_der.specs.Arcs.{content_of, subidentifier}
use Rattle.x509_ext.specs.Identifiers.{id_ce, id_pkix}

low_digits : (n : ℕ) → n < 128 → subidentifier n ≡ n ∷ []
unfolding subidentifier
low_digits n small =
    let none : n / 128 ≡ 0 = omega arith in
    let same : n % 128 ≡ n = omega arith in
    rw (none, same) refl

pub id_ce_content : (n : ℕ) → n < 128 → id_ce n ≡ content_of (2 ∷ 5 ∷ 29 ∷ n ∷ [])
unfolding subidentifier
id_ce_content n small = rw (low_digits n small) refl

pub id_pkix_content : (a n : ℕ) → a < 128 → n < 128 → id_pkix a n ≡ content_of (1 ∷ 3 ∷ 6 ∷ 1 ∷ 5 ∷ 5 ∷ 7 ∷ a ∷ n ∷ [])
unfolding subidentifier
id_pkix_content a n low small = rw (low_digits a low, low_digits n small) refl
