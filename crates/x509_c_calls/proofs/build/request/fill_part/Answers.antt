use Rattle.std.proofs.Common.{◌∙◌, inl, inr, refl, sym}
use Rattle.x509_c_calls.proofs.Filled.{fills_with}
use Rattle.x509_c_calls.proofs.build.request.fill_part.Goals as goal
use Rattle.x509_c_calls.specs.Status.{Fills}

pub returns-in-Ok : goal.returns-in-Ok
returns-in-Ok c = fills_with _ _ _ _ _ _ _ (rw c.as_slice.ensures.value c.in-Ok.ensures) c.fill.ensures.left

pub returns-in-Err : goal.returns-in-Err
unfolding Fills
returns-in-Err c = (
  elim c.in-Err.ensures [ inl memory ↦ inl (c.kind_of.ensures ∙ memory) | inr refuses ↦ inr (c.in-Err.e, sym c.kind_of.ensures, refuses) ],
  refl,
)
