-- The objects that bytes stand for, as they are taken one after the other.
use Rattle.std.specs.Prelude.{◌≡◌, ℕ, ◌+◌, List, [], ◌∷◌, ◌++◌, length, map, Option, Some, None}
use Rattle.std.specs.Option.{option_map, option_to_list}
use Rattle.x509_der.specs.declared.any.Any.{Any}
use Rattle.x509_der.specs.Any.{any}
use Rattle.x509_der.specs.Form.{spelling}
use Rattle.x509_der.specs.List.{joined}
use Rattle.x509_object_run.specs.declared.objects.Objects.{Objects}

-- the first of elements is taken from octets, where there is one
abbrev pub IsTaken : List Any → Option (List ℕ) → List ℕ → Type 0
IsTaken [] taken rest = (taken ≡ None) × (rest ≡ [])
IsTaken (element ∷ elements) taken rest = (taken ≡ Some (spelling any element)) × (rest ≡ joined (spelling any) elements)

-- these are left: bytes that stand for themselves, or certificates and CRLs
abbrev pub AreLeft : Objects → List (List ℕ) → Type 0
AreLeft left objects =
    (certificates : List Any) × (crls : List Any)
    × (left.certificates.now ≡ joined (spelling any) certificates) × (left.crls.now ≡ joined (spelling any) crls)
    × (objects ≡ option_to_list (option_map (λ bytes. bytes.now) left.whole) ++ map (spelling any) (certificates ++ crls))

-- the first of them is taken, where there is one
abbrev pub IsNext : List (List ℕ) → Option (List ℕ) → Objects → Type 0
IsNext [] taken left = taken ≡ None
IsNext (object ∷ objects) taken left = (taken ≡ Some object) × AreLeft left objects

-- how much is left, which is less behind each that is taken
abbrev pub octets_left : Objects → ℕ
octets_left left = length (option_to_list left.whole) + (length left.certificates.now + length left.crls.now)
