use Rattle.std.proofs.Common.{sym, ap, ◌∙◌}
use Rattle.x509_check.specs.ExtensionRefs.{lent_extension}
use Rattle.x509_ext.specs.LookUp.{with_oid}
use Rattle.x509_log.proofs.Found.{finds_by}
use Rattle.x509_log.proofs.Refusals.{err_by, lacks_items, lacks_list}
use Rattle.x509_sct.specs.Identifier.{embedded_timestamps}
use Rattle.x509_log.proofs.embedded.embedded_in.Goals as goal

pub returns-in_ok-timestamps-in-Ok-Some-clause-found : goal.returns-in_ok-timestamps-in-Ok-Some-clause-found
returns-in_ok-timestamps-in-Ok-Some-clause-found g c = λ value spells. record {
  extension = lent_extension c.in-Ok-Some.extension;
  list = c.in_ok-list-in-Ok-Some.list;
  one = ap (with_oid embedded_timestamps) (sym (c.extensions-extensions.ensures value spells)) ∙ finds_by _ _ c.in-Ok-Some.extension c.in-Ok-Some.field-0-is c.in-Ok-Some.ensures;
  holds = c.in_ok-list-in-Ok-Some.ensures.found;
  are = c.in_ok-timestamps-in-Ok-Some.ensures.found;
}

pub returns-in_err-list-in-Ok-Some-clause-refused : goal.returns-in_err-list-in-Ok-Some-clause-refused
returns-in_err-list-in-Ok-Some-clause-refused g c =
    err_by c.from_residual.result _ _ c.from_residual.ensures.1
    (λ e is value spells one.
    let found = ap (with_oid embedded_timestamps) (sym (c.extensions-extensions.ensures value spells)) ∙ finds_by _ _ c.in-Ok-Some.extension c.in-Ok-Some.field-0-is c.in-Ok-Some.ensures in
    let told = c.in_err-list-in-Ok-Some.ensures in
    lacks_list value.tbs_certificate (lent_extension c.in-Ok-Some.extension) c.in_err-list-in-Ok-Some.field-0.0 e found is told.overlength told.refused told.only)

pub returns-in_err-timestamps-in-Ok-Some-clause-refused : goal.returns-in_err-timestamps-in-Ok-Some-clause-refused
returns-in_err-timestamps-in-Ok-Some-clause-refused g c =
    err_by c.from_residual-in_err-timestamps-in-Ok-Some.result _ _ c.from_residual-in_err-timestamps-in-Ok-Some.ensures.1
    (λ e is value spells one.
    let found = ap (with_oid embedded_timestamps) (sym (c.extensions-extensions.ensures value spells)) ∙ finds_by _ _ c.in-Ok-Some.extension c.in-Ok-Some.field-0-is c.in-Ok-Some.ensures in
    lacks_items value.tbs_certificate (lent_extension c.in-Ok-Some.extension) c.in_ok-list-in-Ok-Some.list e found c.in_ok-list-in-Ok-Some.ensures.found
    (rw is c.in_err-timestamps-in-Ok-Some.ensures.refused))
