use Rattle.std.proofs.Common.{rules, ◌==◌}
use Rattle.std.proofs.lemmas.Iterator.Search.{all_from_yields_List}
use Rattle.std.proofs.lemmas.Iterator.Splits.{YieldsList-from_slice_split}
use Rattle.x509_lint.specs.Anchor.{is_subtag}
use Rattle.x509_lint.proofs.rule.anchor.are_subtags.Goals as goal

pub returns : goal.returns
returns c =
    all_from_yields_List is_subtag _ _ c.all.result c.all.ensures.ran
    (YieldsList-from_slice_split _ (λ octet. octet == 45) c.args.text.now c.split.ensures.rest c.split.ensures.done c.split.ensures.closure (λ x b q k. search rules))
    (λ x b q k. search rules)
