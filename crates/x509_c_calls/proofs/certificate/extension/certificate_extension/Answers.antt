use Rattle.std.proofs.Common.{◌≡◌, ◌-◌, length, inl, sym, ap, subst, ◌∙◌}
use Rattle.x509_base.specs.Profiles.{rfc5280_serial_number}
use Rattle.x509_c_calls.specs.Extensions.{LooksUpExtension}
use Rattle.x509_c_calls.proofs.Ends.{end_is, list_end}
use Rattle.x509_c_calls.proofs.Members.{absent, no_list, some_list}
use Rattle.x509_c_calls.proofs.certificate.extension.certificate_extension.Goals as goal
use Rattle.x509_cert.specs.Certificate.{certificate}
use Rattle.x509_check.specs.ExtensionRefs.{extensions_left}
use Rattle.x509_der.specs.Form.{Spells}
use Rattle.x509_ext.specs.LookUp.{members}

pub returns-then-is_none-clause-looks_up : goal.returns-then-is_none-clause-looks_up
unfolding LooksUpExtension
returns-then-is_none-clause-looks_up c =
    let found = c.in-Ok.ensures.found in
    let value = found.1.0 in
    let elements = c.slices-slices.ensures value (subst (λ bytes. Spells (certificate rfc5280_serial_number) value bytes) (sym found.0) found.1.1) in
    inl (value, found.1.1, absent _ _ _ _ _ (no_list _ _ (ap (λ e. e.fields.extensions) elements) (rw c.if-is_none.true at c.is_none.ensures)))

pub returns-clause-looks_up : goal.returns-clause-looks_up
unfolding LooksUpExtension
returns-clause-looks_up c =
    let found = c.in-Ok.ensures.found in
    let value = found.1.0 in
    let lent = subst (λ bytes. Spells (certificate rfc5280_serial_number) value bytes) (sym found.0) found.1.1 in
    let elements = c.slices-slices.ensures value lent in
    let some = some_list _ value.tbs_certificate.extensions (ap (λ e. e.fields.extensions) elements) (rw c.if-is_none.false at c.is_none.ensures) in
    let same = c.extensions.ensures value lent in
    let left : extensions_left c.extensions.result ≡ some.0 = same ∙ ap members (sym some.1) in
    let ends = list_end _ value _ found.1.1 some.0 some.1 in
    let at = end_is _ _ _ _ _ _ _ ends (ap (λ e. length e.signature_algorithm) elements) (ap (λ e. length e.signature) elements) (c.saturating_sub-end.ensures ∙ ap (λ n. n - length c.slices-slices.result.now.signature.now) c.saturating_sub.ensures) in
    inl (value, found.1.1, rw (sym same) (c.pick.ensures.finds _ (rw left ends) at))
