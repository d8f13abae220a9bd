use Rattle.std.proofs.Common.{◌≤◌, length, arith}
use Rattle.x509_check.proofs.KnownExtensions as known
use Rattle.x509_check.proofs.lent.extensions.ExtensionRefs.next_content.Goals as goal

pub returns-in_default : goal.returns-in_default
returns-in_default c =
    let none = known.none_left c.args.self.now.rest.now _ c.in_default.ensures.exact c.in_default.ensures.err c.args.self.now.are_extensions in
    (none, none)

pub invariant_of-self : goal.invariant_of-self
invariant_of-self c =
    let some : 1 ≤ length c.args.self.now.rest.now = omega (arith, c.in-Ok.ensures.within) in
    record { are_extensions = (known.is_first_of c.args.self.now.rest.now _ c.in-Ok.ensures.exact some c.args.self.now.are_extensions).known }

pub returns : goal.returns
returns c =
    let some : 1 ≤ length c.args.self.now.rest.now = omega (arith, c.in-Ok.ensures.within) in
    let first = known.is_first_of c.args.self.now.rest.now _ c.in-Ok.ensures.exact some c.args.self.now.are_extensions in
    (first.first, first.read, first.list)
