use Rattle.std.proofs.Common.{subst}
use Rattle.x509_build.specs.RequestParts.{next_part}
use Rattle.x509_build.specs.declared.request.request_builder.RequestBuilder.{RequestBuilder}
use Rattle.x509_c_calls.proofs.BuildParts.{is_asking}
use Rattle.x509_c_calls.proofs.build.request.request_part.Goals as goal
use Rattle.x509_c_calls.specs.Refusals.{FinalizesTo}
use Rattle.x509_cert.specs.CertReq.{cert_req_info}
use Rattle.x509_der.specs.Writing.{plain}

pub returns : goal.returns
returns c =
    let inputs = c.args.inputs in
    subst (λ (b : RequestBuilder). FinalizesTo (λ bytes. bytes.items) cert_req_info plain (next_part b.info.subject b.attributes b.extension_req.0 inputs.key) c.finalized.result)
    (is_asking inputs.subject inputs.attributes _ c.with_attributes.result _ inputs.extensions.items _ c.in_ok-new.ensures c.with_attributes.ensures c.in_ok-builder.ensures.ok c.from.ensures)
    c.finalized.ensures
