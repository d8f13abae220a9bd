-- What stands around one extension in a list of extensions.
use Rattle.std.specs.Prelude.{◌≡◌, ◌≤◌, true, ℕ, List, [], ◌∷◌, ◌++◌, length, bytes_eq}
use Rattle.x509_check.specs.ExtensionRefs.{extensions_left}
use Rattle.x509_der.specs.Form.{spelling}
use Rattle.x509_der.specs.List.{joined}
use Rattle.x509_ext.specs.Extension.{extension}
use Rattle.x509_ext.specs.LookUp.{with_oid}
use Rattle.x509_ext.specs.declared.extension.Extension.{Extension}
use Rattle.x509_log.specs.declared.around.Around.{Around}
use Rattle.x509_log.specs.declared.around.Found.{Found}
use Rattle.x509_log.specs.declared.around.Found.TheVariants.{Absent, One, Repeated}

-- the extension is the first with the OID: what is lent are the members before it, its value, and the members behind it
pub record IsAround (oid : List ℕ) (all : List Extension) (around : Around) : Type 0 where
  pub before : List Extension
  pub found : Extension
  pub split : all ≡ before ++ found ∷ extensions_left around.behind
  pub first : with_oid oid before ≡ []
  pub has : bytes_eq found.extn_id oid ≡ true
  pub critical : found.critical ≡ around.critical
  pub value : found.extn_value ≡ around.value.now
  pub before_is : around.before.now ≡ joined (spelling extension) before

-- it is the only one
pub record IsAlone (oid : List ℕ) (all : List Extension) (around : Around) : Type 0 where
  pub stands : IsAround oid all around
  pub alone : with_oid oid (extensions_left around.behind) ≡ []

-- what a look-up finds of an extension that may be there once
abbrev pub IsFound : List ℕ → List Extension → Found → Type 0
IsFound oid all Absent = with_oid oid all ≡ []
IsFound oid all (One around) = IsAlone oid all around
IsFound oid all Repeated = 2 ≤ length (with_oid oid all)
