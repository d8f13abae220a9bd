-- Public keys along a path, with the parameters of their algorithms (RFC 5280 6.1.2 (g) to (i), 6.1.4 (d) to (f)).
use Rattle.std.specs.Prelude.{ℕ, List, [], ◌∷◌, Option, Some, None, bytes_eq, if◌then◌else◌}
use Rattle.x509_base.specs.declared.subject_public_key_info.SubjectPublicKeyInfo.{SubjectPublicKeyInfo}
use Rattle.x509_der.specs.Any.{any}
use Rattle.x509_der.specs.Form.{spelling}
use Rattle.x509_der.specs.declared.any.Any.{Any}
use Rattle.x509_path.specs.Certificates.{Certificate}

-- the encoding of NULL (X.690 8.8)
abbrev pub null : List ℕ
null = 5 ∷ 0 ∷ []

-- NULL gives no parameters, as leaving them out does (6.1.4 (e))
abbrev pub given : Option Any → Option Any
given None = None
given (Some parameters) = if bytes_eq (spelling any parameters) null then None else Some parameters

abbrev pub parameters_of : SubjectPublicKeyInfo → Option Any
parameters_of key = given key.algorithm.parameters

-- the key with the parameters, if there are any
abbrev pub with_parameters : SubjectPublicKeyInfo → Option Any → SubjectPublicKeyInfo
with_parameters key None = key
with_parameters key (Some parameters) = record key { algorithm = record { oid = key.algorithm.oid; parameters = Some parameters } }

-- what a key that gives none, or these, has from the one above it: the parameters of that, where both are of one algorithm
abbrev pub inherited : SubjectPublicKeyInfo → SubjectPublicKeyInfo → Option Any → Option Any
inherited above key None = if bytes_eq key.algorithm.oid above.algorithm.oid then parameters_of above else None
inherited above key (Some parameters) = None

-- the key as it is used under the one above it, which has its parameters
abbrev pub working_key : SubjectPublicKeyInfo → SubjectPublicKeyInfo → SubjectPublicKeyInfo
working_key above key = with_parameters key (inherited above key (parameters_of key))

-- the key that is used behind these certificates, where that one is trusted
abbrev pub key_behind : SubjectPublicKeyInfo → List Certificate → SubjectPublicKeyInfo
key_behind trusted [] = trusted
key_behind trusted (c ∷ behind) = key_behind (working_key trusted c.tbs_certificate.subject_public_key_info) behind
