use Rattle.std.proofs.Common.{◌≡◌, inl}
use Rattle.x509_c_calls.proofs.CrlFields.{is_integer}
use Rattle.x509_c_calls.proofs.crl.index.crl_index_find.Goals as goal
use Rattle.x509_c_calls.specs.CrlIndexes.{LooksUpByIndex}

pub returns-in-Ok : goal.returns-in-Ok
unfolding LooksUpByIndex
returns-in-Ok c =
    let number = c.in-Ok.ensures.found in
    let same : c.content_of.result.now ≡ number.0 = c.content_of.ensures 2 number.0 is_integer number.1.1 in
    inl (number.0, number.1, rw same at c.find_by_index.ensures)
