-- Whose key may sign CRLs (RFC 5280 4.2.1.3, 6.3.3 (f)).
use Rattle.std.specs.Prelude.{◌≡◌, ◌⊎◌, true, List, []}
use Rattle.x509_ext.specs.Identifiers.{id_ce}
use Rattle.x509_ext.specs.KeyUsage.{has_bit, key_usage}
use Rattle.x509_ext.specs.LookUp.{with_oid}
use Rattle.x509_ext.specs.declared.extension.Extension.{Extension}
use Rattle.x509_ext.specs.declared.pkix.key_usage.KeyUsage.{KeyUsage}
use Rattle.x509_path.specs.Certificates.{HasPayload}

-- that of a certificate without KeyUsage, or where it has cRLSign, bit 6
abbrev pub MaySignCrls : List Extension → Type 0
MaySignCrls extensions = (with_oid (id_ce 15) extensions ≡ []) ⊎ ((usage : KeyUsage) × HasPayload key_usage (id_ce 15) extensions usage × (has_bit usage 6 ≡ true))
