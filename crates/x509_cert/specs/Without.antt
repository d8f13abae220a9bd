-- Extensions without those of a type (RFC 6962 3.2).
use Rattle.std.specs.Prelude.{ℕ, List, [], ◌∷◌, filter, not, bytes_eq, Option, Some, None}
use Rattle.x509_ext.specs.declared.extension.Extension.{Extension}

-- those whose identifier has other content octets, in their order
abbrev pub without_oid : List ℕ → List Extension → List Extension
without_oid oid extensions = filter (λ e. not (bytes_eq e.extn_id oid)) extensions

-- A list has one member at least, so one without members is left out (RFC 5280 4.1).
abbrev pub where_any : List Extension → Option (List Extension)
where_any [] = None
where_any (extension ∷ extensions) = Some (extension ∷ extensions)
