-- Why signers and builders refuse.
use Rattle.std.specs.Prelude.{◌≡◌, ◌⊎◌}
use Rattle.x509_der.specs.declared.error.ErrorKind.TheVariants as kinds
use Rattle.x509_build.specs.declared.error.Error.{Error}
use Rattle.x509_build.specs.declared.error.Error.TheVariants.{Asn1, PublicKey, Signature}
use Rattle.x509_build.specs.declared.error.KeyError.{KeyError}
use Rattle.x509_build.specs.declared.error.KeyError.TheVariants as keys
use Rattle.x509_build.specs.declared.error.SignError.{SignError}
use Rattle.x509_build.specs.declared.error.SignError.TheVariants as signing

-- a signer doesn't tell its algorithm or its key: out of memory, or it refuses, where it may
abbrev pub KeyRefuses : Type 0 → KeyError → Type 0
KeyRefuses may e = (e ≡ keys.Memory) ⊎ ((e ≡ keys.Refused) × may)

-- it doesn't sign: out of memory, or it refuses, where it may
abbrev pub SigningRefuses : Type 0 → SignError → Type 0
SigningRefuses may e = (e ≡ signing.Memory) ⊎ ((e ≡ signing.Refused) × may)

-- ---- what builders make of that

abbrev pub ByKey : Type 0 → Error → Type 0
ByKey may (PublicKey e) = KeyRefuses may e
ByKey may _ = ⊥

abbrev pub BySigning : Type 0 → Error → Type 0
BySigning may (Signature e) = SigningRefuses may e
BySigning may _ = ⊥

-- out of memory, for a value
abbrev pub LacksMemory : Error → Type 0
LacksMemory (Asn1 e) = e.kind ≡ kinds.Memory
LacksMemory _ = ⊥
