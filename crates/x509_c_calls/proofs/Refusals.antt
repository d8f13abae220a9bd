-- When a read is refused for memory.
use Rattle.std.proofs.Common.{◌≡◌, ◌≤◌, ◌<◌, ◌⊎◌, nat_lt, ℕ, Bool, true, false, length, Result, Ok, Err, if◌then◌else◌, sym, ap, ◌∙◌, subst, inl, inr}
use Rattle.std.proofs.lemmas.Bool.{cases_lt}
use Rattle.x509_base.specs.Checked.{CheckRefuses}
use Rattle.x509_base.specs.Profiles.{rfc5280_serial_number}
use Rattle.x509_c_calls.specs.declared.status.status.Status.{Status}
use Rattle.x509_c_calls.specs.declared.status.status.Status.TheVariants.{Refused}
use Rattle.x509_der.specs.Element.{limit}
use Rattle.x509_der.specs.declared.error.ErrorKind.{ErrorKind}
use Rattle.x509_der.specs.declared.error.ErrorKind.TheVariants.{Memory, Overlength, Malformed}

abbrev kind_of : Status → ErrorKind
kind_of (Refused e) = e
kind_of _ = Malformed

overlength_is_other : {Q : Type 0} → Overlength ≡ Memory → Q
overlength_is_other e = absurd cc

malformed_is_other : {Q : Type 0} → Malformed ≡ Memory → Q
malformed_is_other e = absurd cc

-- it is wanted, or the type refuses so
pub memory_is : {W : Type 0} (R : ErrorKind → Type 0) (kind : ErrorKind) (status : Status) (n : ℕ) → status ≡ Refused kind → (limit < n → kind ≡ Overlength) → (n ≤ limit → ((kind ≡ Memory) × W) ⊎ ((kind ≡ Malformed) ⊎ R kind))
    → status ≡ Refused Memory → W ⊎ R Memory
memory_is R kind status n is long within memory =
    let same : kind ≡ Memory = ap kind_of (sym is ∙ memory) in
    elim (cases_lt limit n) [
      | inl over ↦ overlength_is_other (sym (long over) ∙ same)
      | inr fits ↦ elim (within fits) [
        | inl wanted ↦ inl wanted.1
        | inr other ↦ elim other [ inl malformed ↦ malformed_is_other (sym malformed ∙ same) | inr refused ↦ inr (subst R same refused) ]
      ]
    ]

-- the rules of RFC 5280 refuse no serial number for memory
abbrev refused_where : Bool → Result Unit ErrorKind
refused_where long = if long then Err Malformed else Ok tt

not_for_memory : {Q : Type 0} (long : Bool) → refused_where long ≡ Err Memory → Q
not_for_memory true e = absurd cc
not_for_memory false e = absurd cc

pub never_memory : {Q : Type 0} → CheckRefuses rfc5280_serial_number Memory → Q
never_memory refuses = not_for_memory (nat_lt 21 (length refuses.0)) refuses.1
