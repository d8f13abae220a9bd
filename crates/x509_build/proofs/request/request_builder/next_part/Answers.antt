-- The part has what was added.
use Rattle.x509_build.proofs.Requests.{made_part, refused_part}
use Rattle.x509_build.proofs.request.request_builder.next_part.Goals as goal

pub returns-in_err-add : goal.returns-in_err-add
returns-in_err-add c =
    refused_part c.args.part.subject c.args.public_key c.args.attributes c.args.extension_req.0 c.in_ok-asked.asked c.in_ok-asked.ensures.0
    c.in_err-add.field-0.0 c.from_residual-in_err-add.result c.from_residual-in_err-add.ensures.1 c.in_err-add.ensures.err

pub returns : goal.returns
returns c =
    made_part c.args.part.subject c.args.public_key c.args.attributes c.args.extension_req.0 c.in_ok-asked.asked c.in_ok-asked.ensures.0
    c.add.new.attributes c.in_ok-asked.ensures.1 c.in_ok-add.ensures.ok
