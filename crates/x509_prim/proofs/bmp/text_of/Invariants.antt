use Rattle.std.proofs.Common.{◌≡◌, ◌++◌, length, true, string_bytes, encode_utf8_all}
use Rattle.x509_prim.specs.Bmp.{is_bmp, bmp_chars}
use Rattle.x509_prim.proofs.bmp.text_of.Given as goal

abbrev pub invariant-loop-rest : goal.invariant-loop-rest
invariant-loop-rest l = record { text : string_bytes l.text ++ encode_utf8_all (bmp_chars l.rest) ≡ encode_utf8_all (bmp_chars l.octets); plane : is_bmp l.rest ≡ true }

abbrev pub decreases-loop-rest : goal.decreases-loop-rest
decreases-loop-rest l = length l.rest
