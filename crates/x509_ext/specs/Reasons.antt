-- Reasons: why certificates are revoked, as named bits (ReasonFlags; RFC 5280 4.2.1.13)
use Rattle.std.specs.Prelude.{ℕ, List, [], ◌∷◌, codes, refl}
use Rattle.x509_der.specs.declared.error.ErrorKind.{ErrorKind}
use Rattle.x509_der.specs.Form.{Form, IsForm}
use Rattle.x509_der.specs.Round.{Round}
use Rattle.x509_der.specs.Writing.{IsStable}
use Rattle.x509_prim.specs.NamedBits.{flag_bits, flag_writing}
use Rattle.x509_prim.specs.NamedBitsLaws.{flag_bits_lawful, flag_stable}
use Rattle.x509_ext.specs.declared.pkix.reasons.Reasons.{Reasons}

-- the named bits 0 to 8, each as the set of it alone
abbrev pub reason_names : List (List ℕ × ℕ)
reason_names =
    (codes "UNUSED", 1) ∷ (codes "KEY_COMPROMISE", 2) ∷ (codes "CA_COMPROMISE", 4) ∷ (codes "AFFILIATION_CHANGED", 8)
    ∷ (codes "SUPERSEDED", 16) ∷ (codes "CESSATION_OF_OPERATION", 32) ∷ (codes "CERTIFICATE_HOLD", 64)
    ∷ (codes "PRIVILEGE_WITHDRAWN", 128) ∷ (codes "AA_COMPROMISE", 256) ∷ []

-- each set of them is a number
abbrev pub reason_set : Round Reasons ℕ
reason_set = record { to = λ reasons. reasons.0; from = λ set. record { 0 = set }; back = λ reasons. refl; there = λ set. refl }

abbrev pub reasons : Form Reasons
reasons = flag_bits reason_set reason_names

pub reasons_lawful : {R : ErrorKind → Type 0} → IsForm R reasons
reasons_lawful = flag_bits_lawful reason_set reason_names

pub reasons_stable : IsStable reasons.good (flag_writing reason_set reason_names)
reasons_stable = flag_stable reason_set reason_names
