use Rattle.std.proofs.Common.{rules, map, ◌==◌}
use Rattle.std.proofs.lemmas.Iterator.Search.{any_from_yields_List}
use Rattle.std.proofs.lemmas.Iterator.Splits.{YieldsList-from_slice_split}
use Rattle.x509_linter.specs.Lines.{counts}
use Rattle.x509_linter.proofs.lines.has_counted.Goals as goal

pub returns : goal.returns
returns c =
    any_from_yields_List (counts (map (λ option. option.now) c.args.options.now) c.args.front) _ _ c.any.result c.any.ensures.ran
    (YieldsList-from_slice_split _ (λ octet. octet == 10) c.args.text.now c.split.ensures.rest c.split.ensures.done c.split.ensures.closure (λ x b q k. search rules))
    (λ x b q k. search rules)
