use Rattle.std.proofs.Common.{rules, ◌==◌}
use Rattle.std.proofs.lemmas.Iterator.Search.{all_from_yields_List}
use Rattle.std.proofs.lemmas.Iterator.Splits.{YieldsList-from_slice_split}
use Rattle.x509_host.specs.Host.{is_label_of, octets_of}
use Rattle.x509_host.proofs.labels.are_labels_of.Goals as goal

pub returns : goal.returns
returns c =
    all_from_yields_List (is_label_of (octets_of c.args.octets)) _ _ c.all.result c.all.ensures.ran
    (YieldsList-from_slice_split _ (λ octet. octet == 46) c.args.name.now c.split.ensures.rest c.split.ensures.done c.split.ensures.closure (λ x b q k. search rules))
    (λ x b q k. search rules)
