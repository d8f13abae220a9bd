use Rattle.std.proofs.Common.{◌∙◌, sym}
use Rattle.x509_object_run.proofs.ContentInfo.{is_nil, is_some, no_algorithms, no_certificates, no_content, no_crls, no_signers, no_version, signed_left, signed_read}
use Rattle.x509_object_run.proofs.signed_data.elements_in.Goals as goal

pub returns-in_err-take_content : goal.returns-in_err-take_content
returns-in_err-take_content c = rw c.from_residual.ensures (no_version c.args.content.now c.in_err-take_content.ensures)

pub returns-in_err-take_content-2 : goal.returns-in_err-take_content-2
returns-in_err-take_content-2 c = rw c.from_residual-in_err-take_content-2.ensures (no_algorithms c.args.content.now c.in_ok-take_content.field-0.now c.take_content.new.rest.now c.in_ok-take_content.ensures c.in_err-take_content-2.ensures)

pub returns-in_err-take_content-3 : goal.returns-in_err-take_content-3
returns-in_err-take_content-3 c = rw c.from_residual-in_err-take_content-3.ensures (no_content c.args.content.now c.in_ok-take_content.field-0.now c.take_content.new.rest.now c.in_ok-take_content.ensures c.in_ok-take_content-2.field-0.now c.take_content-2.new.rest.now c.in_ok-take_content-2.ensures c.in_err-take_content-3.ensures)

pub returns-in_err-certificates : goal.returns-in_err-certificates
returns-in_err-certificates c = rw c.from_residual-in_err-certificates.ensures (no_certificates c.args.content.now c.in_ok-take_content.field-0.now c.take_content.new.rest.now c.in_ok-take_content.ensures c.in_ok-take_content-2.field-0.now c.take_content-2.new.rest.now c.in_ok-take_content-2.ensures c.in_ok-take_content-3.field-0.now c.take_content-3.new.rest.now c.in_ok-take_content-3.ensures c.in_err-certificates.ensures)

pub returns-in_err-crls : goal.returns-in_err-crls
returns-in_err-crls c = rw c.from_residual-in_err-crls.ensures (no_crls c.args.content.now c.in_ok-take_content.field-0.now c.take_content.new.rest.now c.in_ok-take_content.ensures c.in_ok-take_content-2.field-0.now c.take_content-2.new.rest.now c.in_ok-take_content-2.ensures c.in_ok-take_content-3.field-0.now c.take_content-3.new.rest.now c.in_ok-take_content-3.ensures c.in_ok-certificates.ensures.0 c.take_elements.new.rest.now c.in_ok-certificates.ensures.1 c.in_err-crls.ensures)

pub returns-in_err-take_content-4 : goal.returns-in_err-take_content-4
returns-in_err-take_content-4 c = rw c.from_residual-in_err-take_content-4.ensures (no_signers c.args.content.now c.in_ok-take_content.field-0.now c.take_content.new.rest.now c.in_ok-take_content.ensures c.in_ok-take_content-2.field-0.now c.take_content-2.new.rest.now c.in_ok-take_content-2.ensures c.in_ok-take_content-3.field-0.now c.take_content-3.new.rest.now c.in_ok-take_content-3.ensures c.in_ok-certificates.ensures.0 c.take_elements.new.rest.now c.in_ok-certificates.ensures.1 c.in_ok-crls.ensures.0 c.take_elements-2.new.rest.now c.in_ok-crls.ensures.1 c.in_err-take_content-4.ensures)

pub returns-then-is_empty : goal.returns-then-is_empty
returns-then-is_empty c = (_, signed_read c.args.content.now c.in_ok-take_content.field-0.now c.take_content.new.rest.now c.in_ok-take_content.ensures c.in_ok-take_content-2.field-0.now c.take_content-2.new.rest.now c.in_ok-take_content-2.ensures c.in_ok-take_content-3.field-0.now c.take_content-3.new.rest.now c.in_ok-take_content-3.ensures c.in_ok-certificates.ensures.0 c.take_elements.new.rest.now c.in_ok-certificates.ensures.1 c.in_ok-crls.ensures.0 c.take_elements-2.new.rest.now c.in_ok-crls.ensures.1 c.in_ok-take_content-4.field-0.now c.take_content-4.new.rest.now c.in_ok-take_content-4.ensures (is_nil _ (sym c.is_empty.ensures ∙ c.if-is_empty.true)), (c.in_ok-certificates.ensures.2, c.in_ok-crls.ensures.2))

pub returns-else-is_empty : goal.returns-else-is_empty
returns-else-is_empty c = signed_left c.args.content.now c.in_ok-take_content.field-0.now c.take_content.new.rest.now c.in_ok-take_content.ensures c.in_ok-take_content-2.field-0.now c.take_content-2.new.rest.now c.in_ok-take_content-2.ensures c.in_ok-take_content-3.field-0.now c.take_content-3.new.rest.now c.in_ok-take_content-3.ensures c.in_ok-certificates.ensures.0 c.take_elements.new.rest.now c.in_ok-certificates.ensures.1 c.in_ok-crls.ensures.0 c.take_elements-2.new.rest.now c.in_ok-crls.ensures.1 c.in_ok-take_content-4.field-0.now c.take_content-4.new.rest.now c.in_ok-take_content-4.ensures (is_some _ (sym c.is_empty.ensures ∙ c.if-is_empty.false))
