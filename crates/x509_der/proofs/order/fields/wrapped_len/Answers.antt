use Rattle.std.proofs.Common.{ap, ◌∙◌, refl, Ok, Err}
use Rattle.std.proofs.lemmas.Result.{err_from_is_err_and}
use Rattle.x509_der.specs.declared.length.Length.{Length}
use Rattle.x509_der.specs.CountingRoom.{counting}
use Rattle.x509_der.specs.WritingLaws.{count_header, puts_no_element, count_refused, count_put}
use Rattle.x509_der.proofs.order.fields.wrapped_len.Goals as goal

pub returns-in_err-put_element-clause-err : goal.returns-in_err-put_element-clause-err
returns-in_err-put_element-clause-err g c =
    let p = err_from_is_err_and c.from_residual.result c.from_residual.ensures.1 in
    rw (p.1, p.2) (count_refused _ _ c.in_err-put_element.field-0.0 c.new-room.result c.put_element.new.room c.new-room.ensures (puts_no_element counting 160 _ _ c.in_err-put_element.field-0.0 c.new-room.result c.put_element.new.room c.in_err-put_element.ensures))

pub returns-in_err-put_header-clause-err : goal.returns-in_err-put_header-clause-err
returns-in_err-put_header-clause-err g c =
    let p = err_from_is_err_and c.from_residual-in_err-put_header.result c.from_residual-in_err-put_header.ensures.1 in
    let n = c.as_u32.ensures.octets ∙ ap (λ (l : Length). l.octets) c.count-content.ensures in
    rw (p.1, p.2) (count_refused _ _ c.in_err-put_header.field-0.0 c.new-room.result c.put_header.new.room c.new-room.ensures
    (count_header 160 160 _ _ _ _ (Err c.in_err-put_header.field-0.0) c.new-room.result c.put_element.new.room c.put_header.new.room refl c.new-room.ensures c.in_ok-put_element.ensures n c.in_err-put_header.ensures))

pub returns-clause-ok : goal.returns-clause-ok
returns-clause-ok g c =
    let content-is = ap (λ (l : Length). l.octets) c.count-content.ensures in
    let n = c.as_u32.ensures.octets ∙ content-is in
    let whole = count_put _ _ tt c.new-room.result c.put_header.new.room c.new-room.ensures
    (count_header 160 160 _ _ _ _ (Ok tt) c.new-room.result c.put_element.new.room c.put_header.new.room refl c.new-room.ensures c.in_ok-put_element.ensures n c.in_ok-put_header.ensures) in
    let own = count_put _ _ _ c.new-room.result c.put_element.new.room c.new-room.ensures c.in_ok-put_element.ensures in
    (content-is ∙ own.2, (whole.0, whole.1))
