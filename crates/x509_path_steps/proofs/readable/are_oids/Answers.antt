use Rattle.std.proofs.Common.{◌≡◌, true, List, [], ℕ, refl}
use Rattle.std.proofs.lemmas.List.Elements.{All-cons, All-nil}
use Rattle.x509_der.specs.ObjectIdentifier.{is_object_identifier}
use Rattle.x509_path_steps.proofs.readable.are_oids.Goals as goal
use Rattle.x509_policy.specs.Values.{any_policy}

abbrev IsOid : List ℕ → Type 0
IsOid octets = is_object_identifier octets ≡ true

pub returns-in-None : goal.returns-in-None
returns-in-None c = rw c.in-None.is ((λ yes. All-cons IsOid any_policy [] refl (All-nil IsOid)), (λ h. refl))
