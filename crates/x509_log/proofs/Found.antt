-- The one extension that a look-up found.
use Rattle.std.proofs.Common.{◌≡◌, List, [], ◌∷◌, Option, Some, Ok, refl, subst}
use Rattle.x509_check.specs.ExtensionRefs.{FindsLent, lent_extension}
use Rattle.x509_check.specs.declared.lent.extension.ExtensionRef.{ExtensionRef}
use Rattle.x509_ext.specs.declared.extension.Extension.{Extension}

finds_one : (xs : List Extension) (x : ExtensionRef) → FindsLent xs (Ok (Some x)) → (xs ≡ lent_extension x ∷ [])
finds_one [] x h = absurd cc
finds_one (e ∷ []) x h = rw h refl
finds_one (a ∷ b ∷ xs) x h = absurd h

pub finds_by : (xs : List Extension) (o : Option ExtensionRef) (x : ExtensionRef) → o ≡ Some x → FindsLent xs (Ok o) → (xs ≡ lent_extension x ∷ [])
finds_by xs o x is h = finds_one xs x (subst (λ (o : Option ExtensionRef). FindsLent xs (Ok o)) is h)
