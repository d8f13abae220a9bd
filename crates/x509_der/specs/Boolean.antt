-- BOOLEAN: one octet, 00 or FF (X.690 8.2, 11.1).
use Rattle.std.specs.Prelude.{◌≡◌, ℕ, Bool, true, false, nat_eq, List, [], ◌∷◌, Result, Ok, Err, if◌then◌else◌, refl}
use Rattle.std.proofs.Common.{arith, inl}
use Rattle.std.proofs.lemmas.Bool.Decides.{nat_tests}
use Rattle.x509_der.specs.declared.error.ErrorKind.{ErrorKind}
use Rattle.x509_der.specs.declared.error.ErrorKind.TheVariants.{Malformed}
use Rattle.x509_der.specs.declared.tag.Tag.TheVariants.{Boolean}
use Rattle.x509_der.specs.Form.{Form, IsForm, Contents, IsContents, universal}
use Rattle.x509_der.specs.FormLaws.{universal_lawful}

unfoldable pub boolean_octets : Bool → List ℕ
boolean_octets true = 0xFF ∷ []
boolean_octets false = 0x00 ∷ []

unfoldable pub boolean_reading : List ℕ → Result Bool ErrorKind
boolean_reading [] = Err Malformed
boolean_reading (a ∷ []) = if nat_eq a 0x00 then Ok false else (if nat_eq a 0xFF then Ok true else Err Malformed)
boolean_reading (a ∷ b ∷ bytes) = Err Malformed

abbrev pub boolean_contents : Contents Bool
boolean_contents = record { octets = boolean_octets; good = λ value. Unit {0}; reading = boolean_reading }

abbrev pub boolean : Form Bool
boolean = universal Boolean boolean_contents

boolean_sound : (bytes : List ℕ) (v : Bool) → boolean_reading bytes ≡ Ok v → Unit {0} × (bytes ≡ boolean_octets v)
unfolding boolean_octets boolean_reading
boolean_sound [] v e = absurd cc
boolean_sound (a ∷ []) true e = (tt, grind (arith, nat_tests))
boolean_sound (a ∷ []) false e = (tt, grind (arith, nat_tests))
boolean_sound (a ∷ b ∷ bytes) v e = absurd cc

boolean_complete : (v : Bool) → Unit {0} → boolean_reading (boolean_octets v) ≡ Ok v
unfolding boolean_octets boolean_reading
boolean_complete true g = refl
boolean_complete false g = refl

boolean_refused : (bytes : List ℕ) (e : ErrorKind) → boolean_reading bytes ≡ Err e → e ≡ Malformed
unfolding boolean_octets boolean_reading
boolean_refused [] e h = cc
boolean_refused (a ∷ []) e h = grind (arith, nat_tests)
boolean_refused (a ∷ b ∷ bytes) e h = cc

pub boolean_contents_lawful : {R : ErrorKind → Type 0} → IsContents R boolean_contents
boolean_contents_lawful = record { sound = boolean_sound; complete = boolean_complete; refused = λ bytes e r. inl (boolean_refused bytes e r) }

pub boolean_lawful : {R : ErrorKind → Type 0} → IsForm R boolean
boolean_lawful = universal_lawful Boolean boolean_contents boolean_contents_lawful
