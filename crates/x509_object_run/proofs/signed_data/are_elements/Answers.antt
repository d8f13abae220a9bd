use Rattle.std.proofs.Common.{◌∙◌}
use Rattle.x509_der.specs.Any.{any_reading}
use Rattle.x509_der.specs.ListLaws.{field_shorter}
use Rattle.x509_der.specs.declared.error.ErrorKind.TheVariants.{Malformed}
use Rattle.x509_object_run.proofs.ContentInfo.{any_at, elements_behind, no_element, refused_piece}
use Rattle.x509_object_run.proofs.signed_data.are_elements.Goals as goal

pub loop-piece-smaller : goal.loop-piece-smaller
loop-piece-smaller c = field_shorter any_reading _ _ _ (any_at _ _ c.in-Ok.ensures.exact)

pub loop-piece-preserved : goal.loop-piece-preserved
loop-piece-preserved c = elements_behind _ _ c.in-Ok.ensures.exact ∙ c.loop-piece.invariant

pub returns : goal.returns
returns c =
    no_element c.loop-piece.rest.now c.is_empty.result Malformed (refused_piece _ _ c.in_default.ensures.exact c.in_default.ensures.err) c.is_empty.ensures
    ∙ c.loop-piece.invariant
