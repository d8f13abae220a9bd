-- Equality of extensions is exact.
use Rattle.std.specs.Prelude.{refl}
use Rattle.x509_der.specs.Exact.{IsExact, exact_bool, exact_octets, exact_both, exact_by}
use Rattle.x509_ext.specs.contracts.extension.ExtensionPartialEq.TheImpl as extension_eq
use Rattle.x509_ext.specs.declared.extension.Extension.{Extension}

pub exact_extension : IsExact extension_eq.ghosts.eq
exact_extension =
    exact_by (λ (e : Extension). (e.extn_id, (e.critical, e.extn_value))) (λ (extn_id, (critical, extn_value)). record { extn_id = extn_id; critical = critical; extn_value = extn_value }) (λ e. refl)
    (exact_both exact_octets (exact_both exact_bool exact_octets))
