use Rattle.std.proofs.lemmas.List.Sorted.{IsPermutation-map}
use Rattle.x509_match.specs.Keys.{attribute_key}
use Rattle.x509_match.proofs.laws.the_order_of_attributes_does_not_matter.Goals as goal

pub returns : goal.returns
returns c x y p = IsPermutation-map attribute_key x y p
