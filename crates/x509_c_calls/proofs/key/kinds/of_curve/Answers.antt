use Rattle.std.proofs.Common.{refl, ap, ◌∙◌}
use Rattle.x509_c_calls.proofs.KeyTables.{curves_are, of_named, of_unnamed}
use Rattle.x509_c_calls.proofs.key.kinds.of_curve.Goals as goal
use Rattle.x509_c_calls.specs.Kinds.{curve_kind, curves, named_in}
use Rattle.x509_c_calls.specs.declared.key.kinds.KeyKind.TheVariants as keys
use Rattle.x509_der.specs.Tag.{octet_of}

pub returns-in-None : goal.returns-in-None
unfolding curve_kind
returns-in-None c = rw c.in-None.is refl

pub returns-then-octet-eq6 : goal.returns-then-octet-eq6
returns-then-octet-eq6 c =
    rw c.in-Some.is (c.find.ensures ∙ ap (λ rows. named_in keys.EcOther rows c.value.result.now) curves_are ∙ ap (named_in keys.EcOther curves) c.value.ensures ∙ of_named _ _ (c.octet.ensures.octet ∙ ap octet_of c.tag.ensures) c.if-octet-eq6.true)

pub returns-else-octet-eq6 : goal.returns-else-octet-eq6
returns-else-octet-eq6 c = rw c.in-Some.is (of_unnamed _ _ (c.octet.ensures.octet ∙ ap octet_of c.tag.ensures) c.if-octet-eq6.false)
