-- What is told of the extensions of an entry on the way through the entries of a CRL.
use Rattle.std.specs.Prelude.{◌↔◌, Bool, List, Option, IsTrue, MatchOption}
use Rattle.std.specs.List.{All}
use Rattle.x509_cert.specs.Issuers.{or_else}
use Rattle.x509_ext.specs.Identifiers.{id_ce}
use Rattle.x509_ext.specs.LookUp.{with_oid}
use Rattle.x509_ext.specs.declared.extension.Extension.{Extension}
use Rattle.x509_revocation.specs.Entries.{AreUsableIssuers, IsIssuer, IsProcessedInEntry}
use Rattle.x509_revocation.specs.Names.{Name}

-- an entry with these extensions may be used
abbrev pub AreUsable : Bool → List Extension → Type 0
AreUsable indirect extensions = All IsProcessedInEntry extensions × AreUsableIssuers indirect (with_oid (id_ce 29) extensions)

-- whether the name is that of the issuer at the entry, where this was in force before it; None where the entry may not be used
abbrev pub Settles : Bool → Name → Name → List Extension → List Extension → Option Bool → Type 0
Settles indirect own name before extensions here =
    MatchOption here (AreUsable indirect extensions → ⊥)
    (λ is_here. AreUsable indirect extensions × (IsTrue is_here ↔ IsIssuer own name (or_else (with_oid (id_ce 29) extensions) before)))
