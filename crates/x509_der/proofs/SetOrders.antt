-- The order that a set names is that of the encodings of its members.
use Rattle.std.proofs.Common.{◌≡◌, List, sym, subst}
use Rattle.std.specs.List.Sorted.{IsStrictlySortedBy}
use Rattle.x509_der.specs.Order.{Order}

module _ {X : Type 0} (named order : Order X) (same : named ≡ order) (members : List X) where
  pub as_named : IsStrictlySortedBy order members → IsStrictlySortedBy named members
  as_named rising = subst (λ (o : Order X). IsStrictlySortedBy o members) (sym same) rising

  pub as_encoded : IsStrictlySortedBy named members → IsStrictlySortedBy order members
  as_encoded rising = subst (λ (o : Order X). IsStrictlySortedBy o members) same rising
