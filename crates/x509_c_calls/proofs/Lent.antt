-- What the lent elements of a certificate say of its fields.
use Rattle.std.proofs.Common.{◌≡◌, ℕ, List, length, Option, Some, None, is_some, option_map, Bor, refl, ◌∙◌}
use Rattle.std.specs.Option.{option_copied}
use Rattle.x509_c_calls.proofs.Parts.{same_presence}
use Rattle.x509_der.specs.Form.{Form, spelling}
use Rattle.x509_der.specs.Frames.{optional_octets}

-- ---- which fields are there

mapped_presence : {X : Type 0} (form : Form X) (value : Option X) → is_some (option_map (spelling form) value) ≡ is_some value
mapped_presence form None = refl
mapped_presence form (Some value) = refl

pub is_there : {X : Type 0} (form : Form X) (lent : Option (Bor (List ℕ))) (value : Option X) → option_copied lent ≡ option_map (spelling form) value → is_some lent ≡ is_some value
is_there form lent value e = same_presence lent _ e ∙ mapped_presence form value

-- how long they are
pub optional_len : {X : Type 0} (form : Form X) (lent : Option (Bor (List ℕ))) (value : Option X) → option_copied lent ≡ option_map (spelling form) value
    → length (optional_octets (λ octets. octets) (option_copied lent)) ≡ length (optional_octets (spelling form) value)
optional_len form lent None e = rw e refl
optional_len form lent (Some value) e = rw e refl
