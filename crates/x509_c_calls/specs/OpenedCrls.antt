-- What is lent of a CRL and of its signer.
use Rattle.std.specs.Prelude.{◌≡◌}
use Rattle.x509_c_calls.specs.declared.revocation.Opened.{Opened}
use Rattle.x509_revocation.specs.Lent.{LendsCrl, LendsSigner}
use Rattle.x509_revocation.specs.Says.{GivenCrl}

pub record IsOpened (opened : Opened) (given : GivenCrl) : Type 0 where
  pub bytes : opened.crl.bytes.now ≡ given.bytes
  pub crl : LendsCrl opened.crl.bytes.now given.crl
  pub signer : LendsSigner opened.signer given.signer
