use Rattle.std.proofs.Common.{◌≡◌, ◌≤◌, ◌++◌, ℕ, List, length, drop}
use Rattle.x509_c_calls.proofs.crl.issued.first_issuer.Given as goal
use Rattle.x509_der.specs.Form.{spelling}
use Rattle.x509_der.specs.List.{joined}
use Rattle.x509_ext.specs.Extension.{extension}
use Rattle.x509_ext.specs.Identifiers.{id_ce}
use Rattle.x509_ext.specs.LookUp.{with_oid}
use Rattle.x509_ext.specs.declared.extension.Extension.{Extension}

-- what was passed has another OID, and the rest stands at the place that was reached
abbrev pub invariant-loop-first : goal.invariant-loop-first
invariant-loop-first l =
    (l.at ≤ length l.input)
    × ((before : List Extension) × (l.extensions ≡ before ++ l.rest) × (with_oid (id_ce 29) l.extensions ≡ with_oid (id_ce 29) l.rest))
    × ((more : List ℕ) → drop l.place l.input ≡ joined (spelling extension) l.extensions ++ more → drop l.at l.input ≡ joined (spelling extension) l.rest ++ more)

abbrev pub decreases-loop-first : goal.decreases-loop-first
decreases-loop-first l = length l.rest
