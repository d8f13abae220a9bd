use Rattle.std.proofs.Common.{ap, arith, length}
use Rattle.x509_constraints.specs.SubtreeKeys.{rdn_octets}
use Rattle.x509_constraints.proofs.Directories.{key_of_taken}
use Rattle.x509_constraints.proofs.distinguished.push_name.Goals as goal

pub returns : goal.returns
returns c =
    key_of_taken rdn_octets c.args.name.now c.loop-rdn.rdn-index c.args.key.now c.loop-rdn.key
    (omega (arith, ap length c.as_slice-rdns.ensures, ap length c.as_ref.ensures, c.loop-rdn-test.false)) c.loop-rdn.invariant
