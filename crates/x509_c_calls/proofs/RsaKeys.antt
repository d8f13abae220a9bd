-- The numbers of an RSA key, within the bytes that it is read from.
use Rattle.std.proofs.Common.{◌≡◌, ◌≤◌, ℕ, true, List, [], ◌∷◌, ◌++◌, length, refl, subst, inl, inr, arith}
use Rattle.std.proofs.lemmas.Bool.{cases_Bool}
use Rattle.std.specs.Prelude.{nat_eq}
use Rattle.x509_c_calls.specs.RsaKeys.{rsa_public_key, rsa_public_key_fields}
use Rattle.x509_c_calls.specs.declared.key.rsa.RsaPublicKey.{RsaPublicKey}
use Rattle.x509_der.specs.Element.{element, is_identifier, is_universal, limit}
use Rattle.x509_der.specs.Form.{Spells, spelling}
use Rattle.x509_der.specs.Frames.{fields_octets}
use Rattle.x509_der.specs.OrderLaws.{content_length, part_length}
use Rattle.x509_prim.specs.Integer.{unsigned_integer, without_zeros}

pub is_integer : is_identifier 2 ≡ true
unfolding is_identifier is_universal
is_integer = refl

without_zeros_length : (octets : List ℕ) → length (without_zeros octets) ≤ length octets
without_zeros_length [] = omega arith
without_zeros_length (first ∷ []) = omega arith
without_zeros_length (first ∷ second ∷ octets) = elim (cases_Bool (nat_eq first 0)) [
  | inl none ↦ rw none (let rest = without_zeros_length (second ∷ octets) in omega arith)
  | inr some ↦ rw some (omega arith)
]

module _ (key : RsaPublicKey) (bytes : List ℕ) (spells : Spells rsa_public_key key bytes) where
  pub laid_out : bytes ≡ element 48 (spelling unsigned_integer key.modulus ++ spelling unsigned_integer key.public_exponent)
  unfolding fields_octets rsa_public_key_fields
  laid_out = spells.1

  pub modulus_fits : length (without_zeros key.modulus) ≤ limit
  modulus_fits =
      let whole = part_length 48 (spelling unsigned_integer key.modulus) (spelling unsigned_integer key.public_exponent) limit (subst (λ (b : List ℕ). length b ≤ limit) laid_out spells.2) in
      let first = content_length 2 key.modulus limit whole.0 in
      omega (arith, without_zeros_length key.modulus, first)
