use Rattle.std.proofs.Common.{rules, refl, sym, ◌∙◌}
use Rattle.std.proofs.Output.{has_written_append, has_written_of_eq}
use Rattle.x509_name.proofs.PrintedText.{escape_other}
use Rattle.x509_name.proofs.text.printing.write_escape.Goals as goal

pub returns-else-is_control : goal.returns-else-is_control
returns-else-is_control g c = λ plain ok.
    has_written_of_eq _ _ _ _ _ (escape_other c.args.byte c.requires (sym c.is_control.ensures ∙ c.if-is_control.false))
    (has_written_append _ _ _ _ _ _ (c.in_ok-write_char.ensures.writes plain refl) (search rules))
