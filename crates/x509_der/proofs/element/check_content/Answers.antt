use Rattle.std.proofs.Common.{ap}
use Rattle.x509_der.specs.ContentLaws.{content_fits, content_overlong}
use Rattle.x509_der.specs.declared.error.Error.{Error}
use Rattle.x509_der.proofs.element.check_content.Goals as goal

pub returns-then-content-gt-LONGEST_CONTENT-clause-err :
    goal.returns-then-content-gt-LONGEST_CONTENT-clause-err
returns-then-content-gt-LONGEST_CONTENT-clause-err c = (ap (λ (e : Error). e.kind) c.into.ensures, content_overlong c.args.content.now c.if-content-gt-LONGEST_CONTENT.true)

pub returns-clause-ok : goal.returns-clause-ok
returns-clause-ok c = content_fits c.args.content.now c.if-content-gt-LONGEST_CONTENT.false
