use Rattle.std.proofs.Common.{◌≡◌, ◌∷◌, [], List, length, refl, sym, ap, subst, ◌∙◌}
use Rattle.x509_c_calls.proofs.Ends.{end_before, match_none, value_end}
use Rattle.x509_c_calls.specs.Extensions.{FindsExtension}
use Rattle.x509_c_calls.specs.declared.status.status.Status.TheVariants.{Done}
use Rattle.x509_check.specs.ExtensionRefs.{extensions_left, lent_extension}
use Rattle.x509_ext.specs.LookUp.{with_oid}
use Rattle.x509_ext.specs.declared.extension.Extension.{Extension}
use Rattle.x509_c_calls.proofs.certificate.extension.pick.Goals as goal

pub returns-clause-finds : goal.returns-clause-finds
unfolding FindsExtension
returns-clause-finds c = λ more ends at.
    let first = lent_extension c.in-Some.extension in
    let left = extensions_left c.next_with.new.self in
    let none : with_oid c.args.oid.now left ≡ [] = (match_none c.next_with-2.result _ _ c.next_with-2.ensures.found (sym c.is_some.ensures ∙ c.if-is_some.false)).0 in
    let one : with_oid c.args.oid.now (extensions_left c.args.extensions) ≡ first ∷ [] = c.in-Some.ensures.found ∙ ap (λ (es : List Extension). first ∷ es) none in
    let split = c.in-Some.ensures.behind in
    let here = value_end (extensions_left c.args.extensions) split.0 left first more c.args.input.now split.1 ends in
    let end = end_before _ _ more _ _ _ _ here at (ap length c.as_bytes-behind.ensures) c.saturating_sub-end.ensures in
    subst (λ (es : List Extension). FindsExtension c.args.input.now (extensions_left c.args.extensions) more es c.args.found.now (record { critical = c.flag.result; value = c.ending_at.result }) Done) (sym one)
    (refl, split.0, left, split.1, (c.flag.ensures, c.ending_at.ensures _ _ here refl end))
