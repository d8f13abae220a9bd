use Rattle.std.proofs.Common.{refl}
use Rattle.x509_check.proofs.LentFields.{front_is}
use Rattle.x509_der.specs.Form.{universal}
use Rattle.x509_der.specs.FormLaws.{universal_lawful}
use Rattle.x509_check.proofs.lent.checked.take_with_value.Goals as goal

pub returns-clause-exact : goal.returns-clause-exact
returns-clause-exact g c =
    let read = c.in_ok-value.ensures.exact in
    (c.in_ok-value.value, read, (front_is (universal g.T.Content.IDENTIFIER g.T.Content.contents) (universal_lawful g.T.Content.IDENTIFIER g.T.Content.contents g.met.T.Content.contents_lawful) _ _ c.in_ok-value.value read, refl))
