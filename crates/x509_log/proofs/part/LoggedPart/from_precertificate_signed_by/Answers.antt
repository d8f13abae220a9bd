use Rattle.std.proofs.Common.{List, sym, ap, ◌∙◌, subst}
use Rattle.x509_ext.specs.declared.extension.Extension.{Extension}
use Rattle.x509_log.proofs.Reissues.{reissued_by}
use Rattle.x509_log.proofs.part.LoggedPart.from_precertificate_signed_by.Goals as goal

pub returns-in-Ok-clause-found : goal.returns-in-Ok-clause-found
returns-in-Ok-clause-found g c = λ value above s t.
    reissued_by g.P.Profile.serial_check value above c.args.precertificate.now.bytes.now c.args.signing.now.bytes.now s t
    c.slices.result.now.fields (record { fields = c.issued_fields.result; members = c.in-Ok.members })
    (ap (λ e. e.fields) (c.slices.ensures value s)) c.issued_fields.ensures.others (c.issued_fields.ensures.issuer ∙ c.issuer.ensures above t)
    c.extensions-list.result c.extensions-above.result (c.extensions-list.ensures value s) (c.extensions-above.ensures above t)
    c.in-One.poison c.in-One.ensures c.in-Ok.ensures.found
