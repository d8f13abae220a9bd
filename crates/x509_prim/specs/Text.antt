-- Texts: the content octets are the octets of the characters (X.690 8.23).
use Rattle.std.specs.Prelude.{ℕ, Bool, List}
use Rattle.x509_der.specs.Form.{Form, under}
use Rattle.x509_der.specs.Tested.{tested_contents}

-- the octets that are texts of a type, under its identifier octet
abbrev pub text : ℕ → (List ℕ → Bool) → Form (List ℕ)
text tag is_text = under tag (tested_contents is_text)
