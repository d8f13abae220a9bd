-- The defaults of BOOLEAN and INTEGER fields (X.690 11.5).
use Rattle.std.specs.Prelude.{ℕ, Bool, true, false, not, nat_eq, refl}
use Rattle.std.proofs.lemmas.Bool.{eqb-true}
use Rattle.x509_der.specs.Frames.{Default, IsDefault}

-- FALSE
abbrev pub boolean_default : Default Bool
boolean_default = record { default_value = false; is_default = not }

pub boolean_default_lawful : IsDefault boolean_default
boolean_default_lawful = record { same = refl; only = elim [ true ↦ (λ e. absurd cc) | false ↦ (λ e. refl) ] }

-- 0
abbrev pub zero_default : Default ℕ
zero_default = record { default_value = 0; is_default = λ n. nat_eq n 0 }

pub zero_default_lawful : IsDefault zero_default
zero_default_lawful = record { same = refl; only = λ n e. eqb-true n 0 e }
