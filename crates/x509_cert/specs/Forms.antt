-- When two forms are of the same bytes.
use Rattle.std.specs.Prelude.{◌↔◌, ℕ, List}
use Rattle.x509_der.specs.Form.{Form, Spells}

-- bytes spell a value by the one where they spell it by the other
abbrev pub AreAlike : {T : Type 0} → Form T → Form T → Type 0
AreAlike {T} form other = (value : T) (bytes : List ℕ) → Spells form value bytes ↔ Spells other value bytes
