use Rattle.std.proofs.Common.{◌↔◌, subst, sym}
use Rattle.std.proofs.lemmas.Result.{IfOk-weaker}
use Rattle.x509_path.specs.Lent.{lent_extensions}
use Rattle.x509_path_steps.proofs.Allowed.{allows_all, allows_named}
use Rattle.x509_path_steps.proofs.purposes.allowed.Goals as goal
use Rattle.x509_path_steps.specs.Validation.{AllowsPurpose}
use Rattle.x509_policy.specs.Levels.{In}
use Rattle.x509_policy.specs.Views.{octets_of}

pub returns-in-Some : goal.returns-in-Some
returns-in-Some c = IfOk-weaker c.named.result _ _
    (λ found said certificate same p.
    let names = allows_named (lent_extensions c.args.extensions.now) certificate _ c.in_ok-usage.ensures same c.in-Some.usage c.in-Some.is p in
    ((λ within. let (asked, named) = (said p).0 within in (asked, names.0 named)), (λ (asked, allows). (said p).1 (asked, names.1 allows))))
    c.named.ensures

pub returns-in-None : goal.returns-in-None
returns-in-None c = IfOk-weaker c.from_slice.result _ _
    (λ found is certificate same p. subst (λ items. In p (octets_of items) ↔ (In p (octets_of c.args.purposes.now) × AllowsPurpose p certificate)) (sym is)
    ((λ within. (within, allows_all (lent_extensions c.args.extensions.now) certificate _ c.in_ok-usage.ensures same c.in-None.is p)), (λ h. h.0)))
    c.from_slice.ensures.items
