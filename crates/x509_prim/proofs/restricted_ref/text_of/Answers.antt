use Rattle.std.proofs.Common.{sym, ◌∙◌}
use Rattle.x509_prim.proofs.Ascii.{text_is_utf8}
use Rattle.x509_prim.proofs.restricted_ref.text_of.Goals as goal

pub from_utf8_unchecked-requires : goal.from_utf8_unchecked-requires
from_utf8_unchecked-requires g c = text_is_utf8 g.A.Alphabet.has_char g.met.A.Alphabet.ascii c.args.octets.now (sym c.check_text.ensures ∙ c.if-not-check_text.false)
