use Rattle.std.proofs.Common.{◌∙◌, ap}
use Rattle.x509_prim.specs.Bmp.{is_bmp}
use Rattle.std.specs.Str.{chars}
use Rattle.x509_prim.proofs.Plane.{is_bmp-bmp_octets}
use Rattle.x509_prim.proofs.bmp.BmpString.from_str.Goals as goal

pub invariant_of-result : goal.invariant_of-result
invariant_of-result c = ap is_bmp (c.from.ensures ∙ c.in_ok-octets.ensures.ok) ∙ is_bmp-bmp_octets (chars c.args.text.now) cc
