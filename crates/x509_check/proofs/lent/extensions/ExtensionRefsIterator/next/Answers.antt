use Rattle.std.proofs.Common.{◌<◌, length, ap, rules, arith}
use Rattle.x509_check.proofs.LentLists.{first_left, none_further}
use Rattle.x509_check.specs.Lending.{listed}
use Rattle.x509_der.specs.List.{list_reading}
use Rattle.x509_ext.specs.Extension.{extension}
use Rattle.x509_check.proofs.lent.extensions.ExtensionRefsIterator.next.Goals as goal

pub returns-in_default-clause-steps : goal.returns-in_default-clause-steps
returns-in_default-clause-steps c = let none = none_further extension.reading _ _ c.in_default.ensures c.args.self.now.are_extensions in (none, none)

pub invariant_of-self : goal.invariant_of-self
invariant_of-self c = record { are_extensions = (first_left extension.reading _ _ _ c.in-Ok.ensures c.args.self.now.are_extensions).1 }

pub returns-clause-steps : goal.returns-clause-steps
returns-clause-steps c = (first_left extension.reading _ _ _ c.in-Ok.ensures c.args.self.now.are_extensions).0

pub returns-clause-goes : goal.returns-clause-goes
returns-clause-goes c =
    let first = first_left extension.reading _ _ _ c.in-Ok.ensures c.args.self.now.are_extensions in
    let shorter : length (listed (list_reading extension.reading c.in-Ok.others.now)) < length (listed (list_reading extension.reading c.args.self.now.rest.now)) = omega (arith, ap length first.0) in
    search rules
