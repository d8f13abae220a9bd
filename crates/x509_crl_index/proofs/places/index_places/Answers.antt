use Rattle.std.proofs.Common.{ap, ◌∙◌, sym}
use Rattle.std.proofs.lemmas.List.Sorted.{list_any-IsPermutation}
use Rattle.std.specs.List.{list_any}
use Rattle.x509_crl_index.proofs.places.index_places.Goals as goal

pub returns : goal.returns
returns c = record {
  same = λ test. ap (list_any test) (sym c.put_places.ensures) ∙ list_any-IsPermutation test _ _ c.sort_places.ensures.same;
  order = c.sort_places.ensures.order;
}
