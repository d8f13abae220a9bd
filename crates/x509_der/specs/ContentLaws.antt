-- How long the content of an element may be.
use Rattle.std.proofs.Common.{ℕ, ◌<◌, ◌≤◌, List, length, arith, length-append}
use Rattle.std.proofs.lemmas.Bool.Decides.{nat_tests}
use Rattle.x509_der.specs.Element.{element, length_octets, limit}

pub content_fits : (content : List ℕ) → length content ≤ 268435449 → (tag : ℕ) → length (element tag content) ≤ limit
unfolding element length_octets
content_fits content h tag = grind (arith, nat_tests, length-append)

pub content_overlong : (content : List ℕ) → 268435449 < length content → (tag : ℕ) → limit < length (element tag content)
unfolding element length_octets
content_overlong content h tag = grind (arith, nat_tests, length-append)
