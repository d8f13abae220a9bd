use Rattle.std.proofs.Common.{◌∙◌, sym}
use Rattle.std.proofs.lemmas.Bool.{true≢false}
use Rattle.x509_path_steps.proofs.Readables.{anchor_of, its_key, its_name}
use Rattle.x509_path_steps.proofs.readable.is_anchor.Goals as goal

pub returns-then-not-is_encoding : goal.returns-then-not-is_encoding
returns-then-not-is_encoding c = ((λ never. absurd (true≢false (sym never))), (λ h. absurd (true≢false (sym (c.is_encoding.ensures.1 (its_name c.args.anchor h)) ∙ c.if-not-is_encoding.true))))

pub returns : goal.returns
returns c = ((λ yes. anchor_of c.args.anchor (c.is_encoding.ensures.0 c.if-not-is_encoding.false) (c.is_encoding-2.ensures.0 yes)), (λ h. c.is_encoding-2.ensures.1 (its_key c.args.anchor h)))
