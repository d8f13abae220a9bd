-- A set that takes an attribute has it in its place.
use Rattle.x509_build.proofs.Requests.{added}
use Rattle.x509_build.proofs.request.request_builder.add.Goals as goal

pub returns-clause-ok : goal.returns-clause-ok
returns-clause-ok c =
    added c.insert.result c.args.attributes.now c.insert.new.self c.args.attribute c.as_slice-in_order.ensures.sorted c.insert.ensures.put c.insert.ensures.sorted c.insert.ensures.duplicate
