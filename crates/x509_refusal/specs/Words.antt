-- Where bytes stop being an object, in words.
use Rattle.std.specs.Prelude.{ℕ, Bool, true, false, List, ◌++◌, Option, Some, None, codes}
use Rattle.std.specs.Fmt.{decimal}
use Rattle.x509_refusal.specs.Fields.{field_text}
use Rattle.x509_refusal.specs.declared.place.Kind.{Kind}
use Rattle.x509_refusal.specs.declared.place.Kind.TheVariants as kinds
use Rattle.x509_refusal.specs.declared.place.Refusal.{Refusal}

abbrev pub kind_text : Kind → List ℕ
kind_text kinds.Certificate = codes "a certificate"
kind_text kinds.Crl = codes "a CRL"
kind_text kinds.Csr = codes "a CSR"

-- of octets behind the last field of one, or of a field that can't be read
abbrev pub place_text : Bool → List ℕ → ℕ → List ℕ → List ℕ
place_text true path offset kind =
    codes "behind the last field of " ++ (path ++ (codes ", at offset " ++ (decimal offset ++ (codes ", stand octets that " ++ (kind ++ codes " hasn't there")))))
place_text false path offset kind = path ++ (codes ", at offset " ++ (decimal offset ++ (codes ", isn't what " ++ (kind ++ codes " has there"))))

abbrev pub refusal_text : Refusal → List ℕ
refusal_text refusal = place_text refusal.place.is_behind (field_text refusal.place.field) refusal.place.offset (kind_text refusal.kind)

-- what in bytes is wrong, where it is known where they stop being an object, or isn't
abbrev pub wrong_text : Option Refusal → List ℕ
wrong_text (Some refusal) = refusal_text refusal
wrong_text None = codes "something in it is wrong"
