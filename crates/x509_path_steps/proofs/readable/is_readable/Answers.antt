use Rattle.std.proofs.Common.{◌∙◌, sym}
use Rattle.std.proofs.lemmas.Bool.{true≢false}
use Rattle.x509_path_steps.proofs.Readables.{its_anchor, its_constraints, its_policies, trust_of}
use Rattle.x509_path_steps.proofs.readable.is_readable.Goals as goal

pub returns-then-not-is_anchor : goal.returns-then-not-is_anchor
returns-then-not-is_anchor c = ((λ never. absurd (true≢false (sym never))), (λ h. absurd (true≢false (sym (c.is_anchor.ensures.1 (its_anchor c.args.trusted.now h)) ∙ c.if-not-is_anchor.true))))

pub returns-then-not-is_encoding_if_any : goal.returns-then-not-is_encoding_if_any
returns-then-not-is_encoding_if_any c = ((λ never. absurd (true≢false (sym never))), (λ h. absurd (true≢false (sym (c.is_encoding_if_any.ensures.1 (its_constraints c.args.trusted.now h)) ∙ c.if-not-is_encoding_if_any.true))))

pub returns : goal.returns
returns c = (
  (λ yes. trust_of c.args.trusted.now (c.is_anchor.ensures.0 c.if-not-is_anchor.false) (c.is_encoding_if_any.ensures.0 c.if-not-is_encoding_if_any.false) (c.is_encoding_if_any-2.ensures.0 yes)),
  (λ h. c.is_encoding_if_any-2.ensures.1 (its_policies c.args.trusted.now h)),
)
