use Rattle.std.proofs.Common.{◌∙◌, sym}
use Rattle.std.proofs.lemmas.Bool.{true≢false}
use Rattle.x509_path_steps.proofs.Readables.{asked_constraints, asked_oids, inputs_of, its_trust}
use Rattle.x509_path_steps.proofs.readable.are_readable.Goals as goal

pub returns-then-not-is_readable : goal.returns-then-not-is_readable
returns-then-not-is_readable c = ((λ never. absurd (true≢false (sym never))), (λ h. absurd (true≢false (sym (c.is_readable.ensures.1 (its_trust c.args.trusted.now c.args.settings.now h)) ∙ c.if-not-is_readable.true))))

pub returns-then-not-is_encoding_if_any : goal.returns-then-not-is_encoding_if_any
returns-then-not-is_encoding_if_any c = ((λ never. absurd (true≢false (sym never))), (λ h. absurd (true≢false (sym (c.is_encoding_if_any.ensures.1 (asked_constraints c.args.trusted.now c.args.settings.now h)) ∙ c.if-not-is_encoding_if_any.true))))

pub returns : goal.returns
returns c = (
  (λ yes. inputs_of c.args.trusted.now c.args.settings.now (c.is_readable.ensures.0 c.if-not-is_readable.false) (c.is_encoding_if_any.ensures.0 c.if-not-is_encoding_if_any.false) (c.are_oids.ensures.0 yes)),
  (λ h. c.are_oids.ensures.1 (asked_oids c.args.trusted.now c.args.settings.now h)),
)
