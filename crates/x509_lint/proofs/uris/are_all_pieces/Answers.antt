use Rattle.std.proofs.Common.{rules, ◌==◌}
use Rattle.std.proofs.lemmas.Iterator.Search.{all_from_yields_List}
use Rattle.std.proofs.lemmas.Iterator.Splits.{YieldsList-from_slice_split}
use Rattle.x509_lint.specs.Uri.{is_piece}
use Rattle.x509_lint.proofs.uris.are_all_pieces.Goals as goal

pub returns : goal.returns
returns c =
    all_from_yields_List is_piece _ _ c.all.result c.all.ensures.ran
    (YieldsList-from_slice_split _ (λ octet. octet == 58) c.args.text.now c.split.ensures.rest c.split.ensures.done c.split.ensures.closure (λ x b q k. search rules))
    (λ x b q k. search rules)
