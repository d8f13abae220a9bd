-- Serialized timestamps, and lists of them (RFC 6962 3.3).
use Rattle.std.specs.Prelude.{ℕ, List, refl}
use Rattle.x509_sct.specs.Form.{Form, IsForm, struct}
use Rattle.x509_sct.specs.FormLaws.{struct_lawful}
use Rattle.x509_sct.specs.Numbers.{uint16, vector16, vector16_lawful, uint16_moves}
use Rattle.x509_sct.specs.Items.{Moves}
use Rattle.x509_sct.specs.ItemsLaws.{counted_moves, struct_moves}
use Rattle.x509_sct.specs.Lists.{IsList}
use Rattle.x509_sct.specs.declared.serialized.SerializedSct.{SerializedSct}

-- SerializedSCT: opaque<0..2^16-1>; one without bytes is read and written too
abbrev pub serialized : Form SerializedSct
serialized = struct (λ v. v.octets) (λ x. record { octets = x }) vector16

pub serialized_lawful : IsForm serialized
serialized_lawful = struct_lawful _ _ vector16 (λ v. refl) (λ x. refl) vector16_lawful

pub serialized_moves : Moves serialized.reading
serialized_moves = struct_moves (λ x. record { octets = x }) vector16.reading (counted_moves uint16.reading uint16_moves)

-- SignedCertificateTimestampList: sct_list: SerializedSCT<0..2^16-1>; one without timestamps is read and written too
abbrev pub IsTimestampList : List SerializedSct → List ℕ → Type 0
IsTimestampList items octets = IsList uint16 serialized items octets
