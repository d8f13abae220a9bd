use Rattle.x509_prim.proofs.Plane.{is_bmp-bmp_octets, bmp_chars-bmp_octets, bmp_octets-bmp_chars}
use Rattle.x509_prim.proofs.laws.bmp_contents_are_texts.Goals as goal

pub returns : goal.returns
returns c = record { chars = λ chars good. (is_bmp-bmp_octets chars good, bmp_chars-bmp_octets chars); octets = bmp_octets-bmp_chars }
