-- RSAPublicKey: modulus: Uint, public_exponent: Uint (RFC 8017 A.1.1), and its parts by their places
use Rattle.std.specs.Prelude.{◌≡◌, List, [], ℕ}
use Rattle.x509_c_calls.specs.declared.key.rsa.RsaKeyView.{RsaKeyView}
use Rattle.x509_c_calls.specs.declared.key.rsa.RsaPublicKey.{RsaPublicKey}
use Rattle.x509_c_calls.specs.Place.{IsAt}
use Rattle.x509_der.specs.declared.error.ErrorKind.{ErrorKind}
use Rattle.x509_der.specs.declared.tag.Tag.TheVariants.{Sequence}
use Rattle.x509_der.specs.Form.{Form, Contents, IsContents, spelling, universal}
use Rattle.x509_der.specs.Frames.{Part, required, ◌⊗◌, fields}
use Rattle.x509_der.specs.PartRules.{part_rules}
use Rattle.x509_prim.specs.Integer.{unsigned_integer, without_zeros}
use Rattle.x509_prim.specs.IntegerLaws.{unsigned_integer_lawful}
use Rattle.x509_text.specs.Algorithms.{bit_count}

unfoldable pub rsa_public_key_fields : Part (List ℕ × List ℕ)
rsa_public_key_fields = required unsigned_integer ⊗ required unsigned_integer

abbrev pub rsa_public_key_contents : Contents RsaPublicKey
rsa_public_key_contents = fields (λ k. (k.modulus, k.public_exponent)) (λ (modulus, public_exponent). record { modulus = modulus; public_exponent = public_exponent }) rsa_public_key_fields

abbrev pub rsa_public_key : Form RsaPublicKey
rsa_public_key = universal Sequence rsa_public_key_contents

pub rsa_public_key_contents_lawful : {R : ErrorKind → Type 0} → IsContents R rsa_public_key_contents
unfolding rsa_public_key_fields
rsa_public_key_contents_lawful = search (part_rules, unsigned_integer_lawful) depth 20

-- what the view says of a key, which the bytes are: where the content octets of its numbers stand, and how many bits the modulus has
pub record IsRsaKey (bytes : List ℕ) (key : RsaPublicKey) (view : RsaKeyView) : Type 0 where
  pub modulus : IsAt key.modulus (spelling unsigned_integer key.public_exponent) bytes view.modulus
  pub public_exponent : IsAt key.public_exponent [] bytes view.public_exponent
  pub modulus_bits : view.modulus_bits ≡ bit_count (without_zeros key.modulus)
