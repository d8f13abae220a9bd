use Rattle.std.proofs.Common.{length, sym, ap, ◌∙◌}
use Rattle.std.specs.Option.{option_copied}
use Rattle.x509_c_calls.proofs.Ends.{list_stands}
use Rattle.x509_c_calls.proofs.certificate.view.step_back_over_extensions.Goals as goal
use Rattle.x509_der.specs.Element.{header}

pub returns-clause-stands : goal.returns-clause-stands
returns-clause-stands c = λ value more is ends at.
    list_stands c.in-Some.list.now value more c.args.input.now _ _ _ (sym (ap option_copied c.in-Some.is) ∙ is) ends
    (λ text h same. let found = c.step_back-found.ensures.stands text more h same at in (found.0, found.2))
    (λ tag text behind h same from. (c.step_back.ensures.stands (header tag (length text)) behind h (c.header_len.ensures tag ∙ ap (λ n. length (header tag n)) (sym same)) from).2)
