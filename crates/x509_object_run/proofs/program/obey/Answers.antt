use Rattle.std.proofs.Common.{refl, sym, ◌∙◌}
use Rattle.x509_object_run.proofs.InputsShown.{misused}
use Rattle.x509_object_run.proofs.program.obey.Goals as goal

pub returns-in-None : goal.returns-in-None
returns-in-None g c =
    rw (misused g.P.Asked.asked g.P.Asked.misuse _ _ (sym c.has_option.ensures ∙ c.if-has_option.false) (sym c.has_option-2.ensures ∙ c.if-has_option-2.false) (rw c.in-None.is at c.from_words.ensures))
    (refl, refl, rw (c.misuse.ensures, c.usage.ensures) at c.tell_misuse.ensures, refl)
