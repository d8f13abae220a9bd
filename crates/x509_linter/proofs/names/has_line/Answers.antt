use Rattle.std.proofs.Common.{bytes_eq, rules, ◌==◌}
use Rattle.std.proofs.lemmas.Iterator.Search.{any_from_yields_List}
use Rattle.std.proofs.lemmas.Iterator.Splits.{YieldsList-from_slice_split}
use Rattle.x509_linter.proofs.names.has_line.Goals as goal

pub returns : goal.returns
returns c =
    any_from_yields_List (λ line. bytes_eq line c.args.name.now) _ _ c.any.result c.any.ensures.ran
    (YieldsList-from_slice_split _ (λ octet. octet == 10) c.args.text.now c.split.ensures.rest c.split.ensures.done c.split.ensures.closure (λ x b q k. search rules))
    (λ x b q k. search rules)
