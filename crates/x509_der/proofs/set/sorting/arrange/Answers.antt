use Rattle.std.proofs.lemmas.List.Sorted.{IsPermutation-trans}
use Rattle.x509_der.proofs.set.sorting.arrange.Goals as goal

pub returns-in-Some : goal.returns-in-Some
returns-in-Some g c = IsPermutation-trans _ _ _ c.fill_runs.ensures c.sort_runs.ensures
