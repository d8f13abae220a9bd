use Rattle.std.proofs.Common.{◌≡◌, ◌↔◌, ◌++◌, ◌∷◌, [], None, false, subst, IsTrue}
use Rattle.x509_path.specs.Certificates.{AreEqual, AreHandled, extensions_of}
use Rattle.x509_path.proofs.Lent.{differ}
use Rattle.x509_path.proofs.PathLengths.{too_deep, unlimited_too_long}
use Rattle.x509_path.proofs.judge.Judge.breaks.Goals as goal

pub returns-in-Critical-clause-ok :
    goal.returns-in-Critical-clause-ok
returns-in-Critical-clause-ok g c = λ certificate above lends same constraints stands before leaves.
    let said : IsTrue c.are_handled.result ↔ AreHandled (extensions_of certificate) = subst (λ es. IsTrue c.are_handled.result ↔ AreHandled es) same c.are_handled.ensures in
    rw c.in-Critical.is (differ c.are_handled.result said)

pub returns-then-not-place-clause-ok : goal.returns-then-not-place-clause-ok
returns-then-not-place-clause-ok g c = λ certificate above lends same constraints stands before leaves.
    let early : c.args.place.now.is_last ≡ false = c.if-not-place.true in
    let ca = c.is_ca.ensures (extensions_of certificate) (constraints early) in
    rw c.in-NotCa.is ((λ is. (early, (differ c.is_ca.result ca).0 is)), (λ h. (differ c.is_ca.result ca).1 h.1))

pub returns-then-not-place-3-clause-ok : goal.returns-then-not-place-3-clause-ok
returns-then-not-place-3-clause-ok g c = λ certificate above lends same constraints stands before leaves.
    let early : c.args.place.now.is_last ≡ false = c.if-not-place-3.true in
    let many = too_deep AreEqual certificate c.is_self_issued.result (c.is_self_issued.ensures certificate lends) c.is_over.result None before c.args.place.now.max_path_length leaves c.is_over.ensures in
    let deep = unlimited_too_long AreEqual (before ++ certificate ∷ []) in
    rw c.in-PathLen.is ((λ is. (early, deep.0 (many.0 is))), (λ h. many.1 (deep.1 h.1)))
