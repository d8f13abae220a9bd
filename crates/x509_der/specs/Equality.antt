-- Equality of elements that aren't decoded further is exact, and of lists where that of their members is.
use Rattle.std.specs.Prelude.{refl}
use Rattle.x509_der.specs.contracts.any.AnyPartialEq.TheImpl as any_eq
use Rattle.x509_der.specs.declared.any.Any.{Any}
use Rattle.x509_der.specs.Exact.{IsExact, exact_octets, exact_both, exact_by}
use Rattle.x509_der.specs.TagEquality.{exact_tag}

pub exact_any : IsExact any_eq.ghosts.eq
exact_any = exact_by (λ (a : Any). (a.tag, a.value)) (λ (tag, value). record { tag = tag; value = value }) (λ a. refl) (exact_both exact_tag exact_octets)
