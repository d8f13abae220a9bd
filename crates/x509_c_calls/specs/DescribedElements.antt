-- Elements that are encoded of their identifier octet and their content (X.690 8.1.1).
use Rattle.std.specs.Prelude.{◌≡◌, ◌<◌, ◌≤◌, ◌⊎◌, ℕ, List, length, false, true, Result, Ok, Err}
use Rattle.x509_der.specs.Element.{element, is_identifier, limit}
use Rattle.x509_der.specs.declared.error.ErrorKind.{ErrorKind}
use Rattle.x509_der.specs.declared.error.ErrorKind.TheVariants.{Overlength, Value}

-- The element with that identifier octet and that content, whose length octets are between them; or why there is none: no element begins
-- with the octet, or the element is too long.
abbrev pub EncodesElement : ℕ → List ℕ → Result (List ℕ) ErrorKind → Type 0
EncodesElement identifier content (Ok bytes) = (is_identifier identifier ≡ true) × (bytes ≡ element identifier content) × (length bytes ≤ limit)
EncodesElement identifier content (Err e) =
    ((e ≡ Value) × (is_identifier identifier ≡ false))
    ⊎ ((e ≡ Overlength) × (is_identifier identifier ≡ true) × (limit < length (element identifier content)))
