-- The numbers of CRLs that were read.
use Rattle.std.specs.Prelude.{ℕ, Option, option_map}
use Rattle.x509_ext.specs.declared.pkix.crl_number.CrlNumber.{CrlNumber}
use Rattle.x509_prim.specs.Integer.{number}

abbrev pub numbers : Option CrlNumber → Option ℕ
numbers read = option_map (λ v. number v.0) read
