use Rattle.x509_c_calls.proofs.KeyTables.{elliptic_is, same_octets}
use Rattle.std.proofs.Common.{◌∙◌}
use Rattle.x509_c_calls.proofs.key.kinds.is_elliptic.Goals as goal

pub returns : goal.returns
returns c = c.eq.ensures ∙ same_octets _ _ _ _ c.as_bytes.ensures.octets (c.as_slice.ensures ∙ elliptic_is)
