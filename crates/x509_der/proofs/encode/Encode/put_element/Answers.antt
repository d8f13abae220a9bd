use Rattle.std.proofs.Common.{sym, ◌∙◌}
use Rattle.std.proofs.lemmas.Result.{err_from_is_err_and}
use Rattle.x509_der.specs.WritingLaws.{puts_header, puts_no_element}
use Rattle.x509_der.proofs.encode.Encode.put_element.Goals as goal

pub returns-in_err-put_content : goal.returns-in_err-put_content
returns-in_err-put_content g c =
    let p = err_from_is_err_and c.from_residual.result c.from_residual.ensures.1 in
    rw (p.1, p.2) (puts_no_element g.R.Room.kind _ _ _ c.in_err-put_content.field-0.0 c.args.room.now c.put_content.new.room c.in_err-put_content.ensures)

pub returns : goal.returns
returns g c =
    puts_header g.R.Room.kind g.met.R.Room.lawful c.octet.result _ _ c.len.result c.len-before.result _ _ c.put_header.result c.args.room.now c.put_content.new.room c.put_header.new.room
    (c.octet.ensures.octet ∙ c.identifier.ensures ∙ sym (g.met.Self.Encode.same_tag c.args.self.now))
    c.in_ok-put_content.ensures c.len.ensures.count c.len-before.ensures.count c.put_header.ensures
