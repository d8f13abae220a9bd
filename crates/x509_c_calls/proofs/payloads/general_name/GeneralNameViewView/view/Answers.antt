use Rattle.std.proofs.Common.{refl}
use Rattle.x509_c_calls.proofs.Names.{content_is, is_name}
use Rattle.x509_c_calls.proofs.payloads.general_name.GeneralNameViewView.view.Goals as goal
use Rattle.x509_c_calls.specs.GeneralNames.{held}
use Rattle.x509_c_calls.specs.Place.{IsAt}
use Rattle.x509_der.specs.Form.{spelling}
use Rattle.x509_ext.specs.GeneralName.{general_name}

pub returns : goal.returns
returns c = λ behind e.
    let it = c.args.value.now in
    let element = c.step-element.ensures.stands (spelling general_name it) behind (general_name.tag it, general_name.content it, is_name it, refl) e in
    let inside = c.content_at-content.ensures.stands (general_name.tag it) (general_name.content it) behind (is_name it) e in
    let content : IsAt (held it) behind c.args.input.now c.content_at-content.result = rw content_is at inside in
    record { kind = c.kind_of.ensures; element = element.0; content = content; other = c.other_at.ensures behind content.0; party = c.party_at.ensures behind content.0 }
