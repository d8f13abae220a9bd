-- What is to hold of CRLs that a program made, so that each is a value of its grammar: the serial numbers of its entries may
-- stand.
use Rattle.std.specs.List.{All}
use Rattle.std.specs.Prelude.{◌≡◌, ℕ, List, Some}
use Rattle.x509_cert.specs.declared.crl.revoked_cert.RevokedCert.{RevokedCert}
use Rattle.x509_cert.specs.declared.crl.tbs_cert_list.TbsCertList.{TbsCertList}

module _ {P : Type 0} (stands : List ℕ → Type 0) where
  abbrev pub MadeEntry : RevokedCert P → Type 0
  MadeEntry entry = stands entry.serial_number

  abbrev pub MadeList : TbsCertList P → Type 0
  MadeList signed = (revoked : List (RevokedCert P)) → signed.revoked_certificates ≡ Some revoked → All MadeEntry revoked
