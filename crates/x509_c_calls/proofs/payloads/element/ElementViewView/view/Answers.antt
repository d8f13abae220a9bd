use Rattle.std.proofs.Common.{refl, ap, ◌∙◌}
use Rattle.x509_c_calls.proofs.payloads.element.ElementViewView.view.Goals as goal
use Rattle.x509_der.specs.Tag.{octet_of}
use Rattle.x509_der.specs.TagLaws.{tag_is_identifier}
use Rattle.x509_der.specs.Any.{any}
use Rattle.x509_der.specs.Form.{spelling}

pub returns : goal.returns
returns c = λ behind e.
    let it = c.args.value.now in
    let tag = tag_is_identifier it.tag in
    let content = c.content_at-content.ensures.stands (octet_of it.tag) it.value behind tag e in
    let element = c.step.ensures.stands (spelling any it) behind (octet_of it.tag, it.value, tag, refl) e in
    record { tag = c.from.ensures ∙ c.octet.ensures.octet ∙ ap octet_of c.tag.ensures; element = element.0; content = content }
