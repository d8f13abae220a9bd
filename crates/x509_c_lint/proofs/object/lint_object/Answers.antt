use Rattle.std.proofs.Common.{◌≤◌, length, string_bytes, refl, inl, inr, ◌∙◌}
use Rattle.x509_c_lint.proofs.Filled.{fills_same}
use Rattle.x509_c_lint.proofs.object.lint_object.Goals as goal
use Rattle.x509_c_lint.specs.Findings.{AreFindings, IsSaidIn, Lints}
use Rattle.x509_der.specs.Element.{limit}

pub returns-in-Ok-Some : goal.returns-in-Ok-Some
unfolding Lints
returns-in-Ok-Some c =
    let within : length c.args.input.now ≤ limit = rw c.as_u32.ensures.octets at c.if-input-as_u32.false in
    let said : IsSaidIn c.args.kind c.args.input.now (string_bytes c.in-Ok-Some.report.text) =
    (c.in-Ok-Some.report, rw c.in-Ok-Some.field-0-is at c.in-Ok-Some.ensures.ok, refl) in
    let text = c.as_bytes.ensures.value ∙ c.as_str.ensures.value in (
      fills_same (AreFindings c.args.kind c.args.input.now) _ _ _ _ _ _ _ c.fill.ensures.left (within, said) text,
      elim c.fill.ensures.accepted [ inl done ↦ inl done | inr full ↦ inr (c.fill.ensures.unchanged full) ],
      λ memory. within,
    )
