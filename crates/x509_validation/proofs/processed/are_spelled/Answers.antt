use Rattle.std.proofs.Common.{◌∙◌, sym}
use Rattle.std.proofs.lemmas.Bool.{true≢false}
use Rattle.x509_path.proofs.Looks.{all_hold, one_fails, one_more}
use Rattle.x509_path_steps.specs.Validation.{IsDecodable}
use Rattle.x509_validation.proofs.processed.are_spelled.Goals as goal

pub returns-then-not-is_decodable : goal.returns-then-not-is_decodable
returns-then-not-is_decodable c = one_fails (λ e. IsDecodable e) c.args.extensions.now c.loop-extension.extension-index c.extension-item.result c.loop-extension-test.true c.extension-item.is (λ here. true≢false (sym (c.is_decodable.ensures.1 here) ∙ c.if-not-is_decodable.true))

pub loop-extension-preserved : goal.loop-extension-preserved
loop-extension-preserved c = one_more (λ e. IsDecodable e) c.args.extensions.now c.loop-extension.extension-index c.extension-item.result c.loop-extension-test.true c.extension-item.is (c.is_decodable.ensures.0 c.if-not-is_decodable.false) c.loop-extension.invariant

pub returns : goal.returns
returns c = all_hold (λ e. IsDecodable e) c.args.extensions.now c.loop-extension.extension-index c.loop-extension-test.false c.loop-extension.invariant
