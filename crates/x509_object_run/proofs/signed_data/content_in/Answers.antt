use Rattle.std.proofs.Common.{◌≡◌, ◌∙◌, rules, sym, true, false, bytes_eq, []}
use Rattle.x509_object_run.specs.SignedData.{id_signed_data}
use Rattle.x509_object_run.proofs.ContentInfo.{is_nil, is_some, match_option, info_left, info_read, no_held, no_info, no_signed, no_type, other_type, signed_data_octets}
use Rattle.x509_object_run.proofs.signed_data.content_in.Goals as goal

pub returns-in_err-rest : goal.returns-in_err-rest
returns-in_err-rest c = rw c.from_residual.ensures (no_info c.args.octets.now c.in_err-rest.ensures)

pub returns-in_err-take_content : goal.returns-in_err-take_content
returns-in_err-take_content c =
    rw c.from_residual-in_err-take_content.ensures (no_type c.args.octets.now c.in_ok-rest.rest.now c.in_ok-rest.ensures c.in_err-take_content.ensures)

pub returns-then-ne : goal.returns-then-ne
returns-then-ne c =
    let other : bytes_eq c.in_ok-take_content.field-0.now id_signed_data ≡ false = rw signed_data_octets (search rules) in
    other_type c.args.octets.now c.in_ok-rest.rest.now c.in_ok-rest.ensures c.in_ok-take_content.field-0.now c.take_content.new.rest.now c.in_ok-take_content.ensures other

pub returns-in_err-tagged : goal.returns-in_err-tagged
returns-in_err-tagged c =
    let same : bytes_eq c.in_ok-take_content.field-0.now id_signed_data ≡ true = rw signed_data_octets (search rules) in
    rw c.from_residual-in_err-tagged.ensures (no_held c.args.octets.now c.in_ok-rest.rest.now c.in_ok-rest.ensures c.in_ok-take_content.field-0.now c.take_content.new.rest.now c.in_ok-take_content.ensures same c.in_err-tagged.ensures)

pub returns-then-not-is_empty : goal.returns-then-not-is_empty
returns-then-not-is_empty c =
    let same : bytes_eq c.in_ok-take_content.field-0.now id_signed_data ≡ true = rw signed_data_octets (search rules) in
    info_left c.args.octets.now c.in_ok-rest.rest.now c.in_ok-rest.ensures c.in_ok-take_content.field-0.now c.take_content.new.rest.now c.in_ok-take_content.ensures same c.in_ok-tagged.tagged.now c.take_content-2.new.rest.now c.in_ok-tagged.ensures (is_some _ (sym c.is_empty.ensures ∙ c.if-not-is_empty.true))

pub returns : goal.returns
returns c =
    let same : bytes_eq c.in_ok-take_content.field-0.now id_signed_data ≡ true = rw signed_data_octets (search rules) in
    let none : c.take_content-2.new.rest.now ≡ [] = is_nil _ (sym c.is_empty.ensures ∙ c.if-not-is_empty.false) in
    match_option c.content_of-2.result
    (λ other. no_signed c.args.octets.now c.in_ok-rest.rest.now c.in_ok-rest.ensures c.in_ok-take_content.field-0.now c.take_content.new.rest.now c.in_ok-take_content.ensures same c.in_ok-tagged.tagged.now c.take_content-2.new.rest.now c.in_ok-tagged.ensures other none)
    (λ content whole. info_read c.args.octets.now c.in_ok-rest.rest.now c.in_ok-rest.ensures c.in_ok-take_content.field-0.now c.take_content.new.rest.now c.in_ok-take_content.ensures same c.in_ok-tagged.tagged.now c.take_content-2.new.rest.now c.in_ok-tagged.ensures none content.now whole)
    c.content_of-2.ensures
