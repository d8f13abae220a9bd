use Rattle.std.proofs.Common.{rules, ◌==◌}
use Rattle.std.proofs.lemmas.Iterator.Search.{any_from_yields_List}
use Rattle.std.proofs.lemmas.Iterator.Splits.{YieldsList-from_slice_split}
use Rattle.x509_lint.specs.Words.{is_same}
use Rattle.x509_lint_web.proofs.countries.is_code_of.Goals as goal

pub returns : goal.returns
returns c =
    any_from_yields_List (is_same c.args.text.now) _ _ c.any.result c.any.ensures.ran
    (YieldsList-from_slice_split _ (λ octet. octet == 32) c.args.codes.now c.split.ensures.rest c.split.ensures.done c.split.ensures.closure
    (λ x b q k. search rules))
    (λ x b q k. search rules)
