-- A public key by its place (RFC 5280 4.1.2.7).
use Rattle.std.specs.Prelude.{◌≡◌, ◌^◌, ℕ, nat_lt, List, ◌++◌, Option, Some, None, if◌then◌else◌}
use Rattle.x509_base.specs.declared.subject_public_key_info.SubjectPublicKeyInfo.{SubjectPublicKeyInfo}
use Rattle.x509_c_calls.specs.Algorithms.{parameters_text}
use Rattle.x509_c_calls.specs.Kinds.{key_kind, key_number, named_curve}
use Rattle.x509_c_calls.specs.Optional.{IsPerhapsAt}
use Rattle.x509_c_calls.specs.Place.{IsAt}
use Rattle.x509_c_calls.specs.declared.key.key.KeyView.{KeyView}
use Rattle.x509_der.specs.Any.{any}
use Rattle.x509_der.specs.Form.{spelling}
pub use Rattle.x509_path_steps.specs.WorkingKeys.{AnswersKey}
use Rattle.x509_prim.specs.BitString.{bit_string}
use Rattle.x509_text.specs.Algorithms.{known_bits}

-- the bits as they are written
abbrev pub bits_text : SubjectPublicKeyInfo → List ℕ
bits_text key = spelling bit_string key.subject_public_key

-- a size as a number of 32 bits, which that of every key is that is no longer than the limit; 0 where it isn't known
abbrev pub size_told : Option ℕ → ℕ
size_told (Some bits) = if nat_lt bits (2 ^ 32) then bits else 0
size_told None = 0

-- what the view says of a key in these bytes, behind which those others stand
pub record IsKey (bytes : List ℕ) (key : SubjectPublicKeyInfo) (behind : List ℕ) (view : KeyView) : Type 0 where
  pub kind : view.kind ≡ key_number (key_kind key.algorithm)
  pub oid : IsAt key.algorithm.oid (parameters_text key.algorithm ++ (bits_text key ++ behind)) bytes view.oid
  pub parameters : IsPerhapsAt (spelling any) key.algorithm.parameters (bits_text key ++ behind) bytes view.parameters
  pub bits : IsAt key.subject_public_key.octets behind bytes view.bits
  pub unused_bits : view.unused_bits ≡ key.subject_public_key.unused
  pub curve : IsPerhapsAt (λ octets. octets) (named_curve key.algorithm) (bits_text key ++ behind) bytes view.curve
  pub size : view.size ≡ size_told (known_bits key)
