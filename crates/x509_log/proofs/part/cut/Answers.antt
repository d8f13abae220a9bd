use Rattle.std.proofs.Common.{◌++◌, sym, ap, ◌∙◌}
use Rattle.x509_check.specs.ExtensionRefs.{extensions_left}
use Rattle.x509_der.specs.Form.{spelling}
use Rattle.x509_der.specs.List.{joined}
use Rattle.x509_ext.specs.Extension.{extension}
use Rattle.x509_log.proofs.Cuts.{cut_found, joined_append}
use Rattle.x509_log.proofs.part.cut.Goals as goal

pub returns-in-One-clause-found : goal.returns-in-One-clause-found
returns-in-One-clause-found g c = λ value spells.
    let it = c.in-One.ensures.stands in
    let behind = extensions_left c.in-One.around.behind in
    let split = sym (c.extensions.ensures value spells) ∙ it.split in
    cut_found g.P.Profile.serial_check value c.args.certificate.now.bytes.now spells c.args.oid.now it.before it.found behind split it.first it.has c.in-One.ensures.alone
    (record { fields = c.slices.result.now.fields; members = c.around.result })
    (ap (λ e. e.fields) (c.slices.ensures value spells))
    (c.around.ensures ∙ ap (λ x. x ++ joined (spelling extension) behind) it.before_is ∙ sym (joined_append (spelling extension) it.before behind))
