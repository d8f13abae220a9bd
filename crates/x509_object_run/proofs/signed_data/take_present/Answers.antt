use Rattle.std.proofs.Common.{◌∙◌, sym}
use Rattle.x509_der.specs.Any.{any}
use Rattle.x509_der.specs.List.{list_of}
use Rattle.x509_object_run.proofs.ContentInfo.{present_read, present_refused}
use Rattle.x509_object_run.proofs.Elements.{field_none}
use Rattle.x509_object_run.proofs.signed_data.take_present.Goals as goal

pub returns-in_err-octets : goal.returns-in_err-octets
returns-in_err-octets c = rw c.from_residual.ensures (field_none (list_of any) c.args.identifier c.args.rest.now.now c.in_err-octets.ensures)

pub returns-then-are_elements : goal.returns-then-are_elements
returns-then-are_elements c = present_read c.args.identifier c.args.rest.now.now _ _ c.in_ok-octets.ensures (sym c.are_elements.ensures ∙ c.if-are_elements.true)

pub returns-else-are_elements : goal.returns-else-are_elements
returns-else-are_elements c = present_refused c.args.identifier c.args.rest.now.now _ _ c.in_ok-octets.ensures (sym c.are_elements.ensures ∙ c.if-are_elements.false)
