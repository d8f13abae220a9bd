use Rattle.std.proofs.Common.{◌≡◌, ◌*◌, take}
use Rattle.std.specs.List.{flat_map}
use Rattle.x509_text.specs.ColonHex.{octet_colon}
use Rattle.x509_text.proofs.digits.fill_colon_hex.Given as goal

abbrev pub invariant-octets : goal.invariant-octets
invariant-octets l = take (3 * l.i) l.digits ≡ flat_map octet_colon (take l.i l.octets)
