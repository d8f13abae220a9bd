-- Where the members of a set are kept.
use Rattle.std.specs.Prelude.{List}
use Rattle.x509_der.specs.declared.set.members.Kept.{Kept}
use Rattle.x509_der.specs.declared.set.members.Kept.TheVariants.{One, Several}

abbrev pub kept_members : {T : Type 0} → Kept T → List T
kept_members (One one alloc) = one
kept_members (Several members) = members.items
