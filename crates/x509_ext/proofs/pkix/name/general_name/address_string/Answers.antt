use Rattle.std.proofs.Common.{rules}
use Rattle.x509_ext.proofs.pkix.name.general_name.address_string.Goals as goal
use Rattle.x509_prim.specs.ShortOctets.{short_octets_are_held}

pub returns : goal.returns
returns c = short_octets_are_held _ c.new.result (search rules) c.new.ensures.ok c.new.ensures.err
