use Rattle.std.proofs.Common.{◌∙◌, sym}
use Rattle.x509_object_run.proofs.ObjectsLeft.{empty_signed_data, no_signed_data, signed_objects}
use Rattle.x509_object_run.specs.SignedData.{elements_of}
use Rattle.x509_object_run.proofs.objects.Objects.of.Goals as goal

pub returns-in_default : goal.returns-in_default
returns-in_default c = rw (no_signed_data c.args.bytes.now c.in_default.ensures) c.alone.ensures

pub returns-then-are_none : goal.returns-then-are_none
returns-then-are_none c =
    rw (empty_signed_data c.args.bytes.now _ _ c.in-Some.ensures.0 c.in-Some.ensures.1 c.in-Some.ensures.2 (sym c.are_none.ensures ∙ c.if-are_none.true)) c.alone-then-are_none.ensures

pub returns : goal.returns
returns c = (
  elements_of c.in-Some.ensures.0.certificates,
  elements_of c.in-Some.ensures.0.crls,
  c.in-Some.ensures.2.0,
  c.in-Some.ensures.2.1,
  signed_objects c.args.bytes.now _ _ c.in-Some.ensures.0 c.in-Some.ensures.1 c.in-Some.ensures.2 (sym c.are_none.ensures ∙ c.if-are_none.false),
)
