use Rattle.std.proofs.Common.{◌≡◌, ◌∙◌, Some, None, ap, sym}
use Rattle.std.specs.Option.{option_map}
use Rattle.std.specs.Result.{result_map_both}
use Rattle.x509_object_run.specs.Program.{items_from}
use Rattle.x509_object_run.proofs.Readings.{items_none, items_some}
use Rattle.x509_tool_run.specs.Scan.{ended, mark_from, start}
use Rattle.x509_object_run.proofs.lines.do_line.Goals as goal

pub returns-in-Some-clause-told : goal.returns-in-Some-clause-told
returns-in-Some-clause-told g c = λ lines first at told.
    let ends : ended (mark_from start lines) c.args.line.now ≡ Some (result_map_both (λ bytes. bytes.items) (λ why. why) c.in-Some.text) =
    ap (λ m. ended m c.args.line.now) (sym at) ∙ sym c.in_ok-text.ensures.text
    ∙ ap (option_map (λ text. result_map_both (λ bytes. bytes.items) (λ why. why) text)) c.in-Some.is in
    rw (items_some lines c.args.line.now (result_map_both (λ bytes. bytes.items) (λ why. why) c.in-Some.text) ends)
    (rw c.item_of.ensures at (c.put_item.ensures (items_from lines) first told))

pub returns-in-None-clause-told : goal.returns-in-None-clause-told
returns-in-None-clause-told g c = λ lines first at told.
    let ends : ended (mark_from start lines) c.args.line.now ≡ None =
    ap (λ m. ended m c.args.line.now) (sym at) ∙ sym c.in_ok-text.ensures.text
    ∙ ap (option_map (λ text. result_map_both (λ bytes. bytes.items) (λ why. why) text)) c.in-None.is in
    rw (items_none lines c.args.line.now ends) told
