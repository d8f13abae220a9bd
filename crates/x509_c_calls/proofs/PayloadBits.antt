-- Where the octets of bits stand.
use Rattle.std.proofs.Common.{◌≡◌, ◌≤◌, ◌+◌, ◌-◌, ℕ, List, ◌∷◌, length, drop, sym, ap, ◌∙◌, arith, length-append, length-drop}
use Rattle.std.proofs.lemmas.List.{drop-drop}
use Rattle.x509_c_calls.specs.Place.{IsAt}
use Rattle.x509_c_calls.specs.declared.place.span.Span.{Span}

module _ (bytes rest more : List ℕ) (first : ℕ) (span : Span) (stands : IsAt (first ∷ rest) more bytes span) where
  pub no_bits : {Q : Type 0} → span.len ≡ 0 → Q
  no_bits none = absurd (omega (arith, stands.1))

  fits : span.place + 1 ≤ length bytes
  fits = omega (arith, stands.2, ap length stands.0, length-drop span.place bytes, length-append (first ∷ rest) more)

  -- behind the first of the octets stand the rest
  pub behind_first : IsAt rest more bytes (record { place = span.place + 1; len = span.len - 1 })
  behind_first = (sym (drop-drop 1 span.place bytes) ∙ ap (drop 1) stands.0, omega (arith, stands.1), fits)
