use Rattle.std.proofs.Common.{◌∙◌, Bor, ℕ, List, Err, map, refl, subst, sym}
use Rattle.std.proofs.lemmas.Bool.{true≢false}
use Rattle.x509_path_steps.specs.Validation.{Answers, AnswersUnreadable}
use Rattle.x509_path_steps.specs.declared.validation_fault.ValidationFault.TheVariants.{Empty, Initial}
use Rattle.x509_validation.proofs.Stepping.{unreadable}
use Rattle.x509_validation.proofs.validate.walk.Goals as goal

pub returns-in_default : goal.returns-in_default
returns-in_default g c = record {
  lent = λ inputs lends. c.in_default.ensures;
  unreadable = λ none. subst (λ path. AnswersUnreadable path (Err Empty)) (sym c.in_default.ensures) refl;
}

pub returns-then-not-are_readable : goal.returns-then-not-are_readable
returns-then-not-are_readable g c = record {
  lent = λ inputs lends. absurd (true≢false (sym (c.are_readable.ensures.1 (inputs, lends)) ∙ c.if-not-are_readable.true));
  unreadable = λ none. subst (λ path. AnswersUnreadable path (Err Initial)) (sym c.in-Some.ensures) (unreadable (map (λ (input : Bor (List ℕ)). input.now) c.in-Some.front.now) c.in-Some.last.now);
}

pub returns : goal.returns
returns g c = record {
  lent = λ inputs lends. subst (λ path. Answers (g.S.Trust.accepts c.args.signatures.now) inputs path c.walk_under.result) (sym c.in-Some.ensures) (c.walk_under.ensures inputs lends);
  unreadable = λ none. let (inputs, lends) = c.are_readable.ensures.0 c.if-not-are_readable.false in absurd (none inputs lends);
}
