use Rattle.std.proofs.Common.{◌≡◌, ◌∙◌, ◌-◌, IfOk, Some, length, map, sym, ap, subst}
use Rattle.std.specs.List.{slice_get}
use Rattle.x509_policy.specs.Edges.{IsLevelOf, certificate_leads, expectation_of}
use Rattle.x509_policy.specs.Follows.{expectations_of}
use Rattle.x509_policy.specs.Views.{certificate_of}
use Rattle.x509_policy.proofs.States.{last_expectations}
use Rattle.x509_policy.proofs.state.PolicyState.next.Goals as goal

pub returns-in-Some : goal.returns-in-Some
returns-in-Some c =
    let levels = c.args.self.now.levels.items in
    let level = c.in-Some.level.now in
    let policies = (certificate_of c.args.certificate.now).policies in
    let last : slice_get levels (length levels - 1) ≡ Some level = subst (λ ls. slice_get ls (length ls - 1) ≡ Some level) c.deref.ensures.value (sym c.in-Some.ensures.value) in
    let expected : map expectation_of c.deref-in-Some.result.now ≡ expectations_of levels = ap (map expectation_of) c.deref-in-Some.ensures.value ∙ sym (last_expectations levels level last) in
    subst (λ t. IfOk c.of_certificate.result (IsLevelOf (certificate_leads policies t (expectations_of levels)))) c.takes_any_policy-takes_any.ensures
    (subst (λ e. IfOk c.of_certificate.result (IsLevelOf (certificate_leads policies c.takes_any_policy-takes_any.result e))) expected c.of_certificate.ensures)
