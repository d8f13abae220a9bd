-- Texts that are borrowed or owned.
use Rattle.std.specs.Prelude.{ℕ, List, Bool, true, false, string_bytes}
use Rattle.x509_name.specs.declared.name.text_ref.TextRef.{TextRef}
use Rattle.x509_name.specs.declared.name.text_ref.TextRef.TheVariants.{Borrowed, Owned}

-- the octets of the text, whoever owns it
abbrev pub octets_of : TextRef → List ℕ
octets_of (Borrowed text) = text.now
octets_of (Owned text) = string_bytes text

-- whether the text is owned
abbrev pub is_owned : TextRef → Bool
is_owned (Borrowed text) = false
is_owned (Owned text) = true
