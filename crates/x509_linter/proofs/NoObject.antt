-- Bytes of which nothing is said are no object, whatever would stand in front of it.
use Rattle.std.proofs.Common.{◌≡◌, ℕ, List, Option, Some, None, inl, inr}
use Rattle.x509_lint.specs.Report.{IsReport, IsSaidAs}
use Rattle.x509_lint.specs.declared.report.Kind.{Kind}
use Rattle.x509_lint.specs.declared.report.Kind.TheVariants.{Certificate, Crl, Csr, Anchor}
use Rattle.x509_lint.specs.declared.report.Report.{Report}
use Rattle.x509_linter.specs.Said.{is_said, is_said_by}
use Rattle.x509_linter.specs.declared.said.Rules.{Rules}
use Rattle.x509_linter.specs.declared.said.Rules.TheVariants.{Rfc, Web, Both}

none_as : (kind : Kind) (front other : Option (List ℕ)) (bytes : List ℕ) → IsSaidAs kind front bytes None → IsSaidAs kind other bytes None
unfolding IsSaidAs
none_as Certificate front other bytes h = h
none_as _ front other bytes h = h

none_is_some : {Q : Type 0} (report : Report) → None ≡ Some report → Q
none_is_some report h = absurd cc

none_of_any : (front other : Option (List ℕ)) (bytes : List ℕ) → IsReport front bytes None → IsReport other bytes None
none_of_any front other bytes h = elim h [
  | inl found ↦ none_is_some found.0 found.1
  | inr h ↦ elim h.1 [
    | inl found ↦ none_is_some found.0 found.1
    | inr k ↦ elim k.1 [
      | inl found ↦ none_is_some found.0 found.1
      | inr l ↦ inr (none_as Certificate front other bytes h.0, inr (none_as Crl front other bytes k.0, inr (none_as Csr front other bytes l.0, none_as Anchor front other bytes l.1)))
    ]
  ]
]

said_none : (kind : Option Kind) (front other : Option (List ℕ)) (bytes : List ℕ) → is_said kind front bytes None → is_said kind other bytes None
said_none None front other bytes h = none_of_any front other bytes h
said_none (Some kind) front other bytes h = none_as kind front other bytes h

pub no_object : (rules : Rules) (kind : Option Kind) (front other : Option (List ℕ)) (bytes : List ℕ) → is_said_by rules kind front bytes None → is_said_by rules kind other bytes None
no_object Rfc kind front other bytes h = said_none kind front other bytes h
no_object (Web moment) kind front other bytes h = h
no_object (Both moment) kind front other bytes h = h
