-- Which numbers are no identifier octets.
use Rattle.std.proofs.Common.{◌≡◌, ◌<◌, ℕ, false, arith}
use Rattle.std.proofs.lemmas.Bool.Decides.{nat_tests}
use Rattle.x509_der.specs.Element.{is_identifier, is_universal}

pub begins_none : (n : ℕ) → 255 < n → is_identifier n ≡ false
unfolding is_identifier is_universal
begins_none n lt = grind (arith, nat_tests)
