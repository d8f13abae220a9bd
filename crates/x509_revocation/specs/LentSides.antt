-- What is lent of a certificate's side and of a CRL's.
use Rattle.std.specs.Prelude.{◌≡◌, ◌↔◌, IsTrue}
use Rattle.x509_der.specs.Form.{Spells}
use Rattle.x509_match.specs.Matching.{NamesMatch}
use Rattle.x509_name.specs.Names.{name}
use Rattle.x509_revocation.specs.Points as points
use Rattle.x509_revocation.specs.declared.points.Sides.{Sides}

pub record LendsSides (lent : Sides) (sides : points.Sides) : Type 0 where
  pub issuer : Spells name sides.issuer lent.issuer.now
  pub own : Spells name sides.own lent.own.now
  pub is_issuers : IsTrue lent.is_issuers ↔ NamesMatch sides.own sides.issuer
  pub list : sides.list ≡ lent.list.now
