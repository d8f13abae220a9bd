-- Extensions that are lent from their bytes (RFC 5280 4.1, 4.2).
use Rattle.std.specs.Prelude.{◌≡◌, ℕ, List, [], ◌∷◌, Option, Some, None, Result, Ok, IsErrAnd, IsOkAnd, IsSomeAnd}
use Rattle.x509_check.specs.Lending.{listed}
use Rattle.x509_check.specs.declared.lent.extension.ExtensionRef.{ExtensionRef}
use Rattle.x509_check.specs.declared.lent.extensions.ExtensionRefs.{ExtensionRefs}
use Rattle.x509_der.specs.Form.{Spells}
use Rattle.x509_der.specs.List.{list_reading}
use Rattle.x509_der.specs.declared.error.Error.{Error}
use Rattle.x509_der.specs.declared.error.ErrorKind.TheVariants.{Failed}
use Rattle.x509_ext.specs.Extension.{extension, extensions}
use Rattle.x509_ext.specs.declared.extension.Extension.{Extension}

-- the extension that is lent
abbrev pub lent_extension : ExtensionRef → Extension
lent_extension e = record { extn_id = e.extn_id; critical = e.critical; extn_value = e.extn_value.now }

-- the extensions that were not given yet: those of which the bytes that are left are the elements
abbrev pub extensions_left : ExtensionRefs → List Extension
extensions_left refs = listed (list_reading extension.reading refs.rest.now)

-- the bytes are the list of extensions; none, where it is left out
abbrev pub SpellsOptional : Option (List Extension) → List ℕ → Type 0
SpellsOptional None bytes = bytes ≡ []
SpellsOptional (Some list) bytes = Spells extensions list bytes

-- What a look-up answers, where these have the OID: None exactly for none; the one; Failed exactly for two or more.
abbrev pub FindsLent : List Extension → Result (Option ExtensionRef) Error → Type 0
FindsLent [] answer = answer ≡ Ok None
FindsLent (extension ∷ []) answer = IsOkAnd answer (λ found. IsSomeAnd found (λ lent. lent_extension lent ≡ extension))
FindsLent (first ∷ second ∷ others) answer = IsErrAnd answer (λ e. e.kind ≡ Failed)
