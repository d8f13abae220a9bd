use Rattle.std.proofs.Common.{◌↔◌, subst}
use Rattle.std.specs.Bool.{IsTrue}
use Rattle.x509_path.proofs.Lent.{differ}
use Rattle.x509_path.specs.Certificates.{extensions_of}
use Rattle.x509_path_steps.specs.Validation.{AreProcessed, AreSpelled}
use Rattle.x509_validation.proofs.own.has_own_fault.Goals as goal

pub returns-in-Extension : goal.returns-in-Extension
returns-in-Extension c = λ certificate lends same.
    let said : IsTrue c.are_spelled.result ↔ AreSpelled (extensions_of certificate) = subst (λ es. IsTrue c.are_spelled.result ↔ AreSpelled es) same c.are_spelled.ensures in
    rw c.in-Extension.is (differ c.are_spelled.result said)

pub returns-in-Critical : goal.returns-in-Critical
returns-in-Critical c = λ certificate lends same.
    let said : IsTrue c.are_processed.result ↔ AreProcessed c.args.asks_purpose (extensions_of certificate) =
    subst (λ es. IsTrue c.are_processed.result ↔ AreProcessed c.args.asks_purpose es) same c.are_processed.ensures in
    rw c.in-Critical.is (differ c.are_processed.result said)
