-- A list that is left out.
use Rattle.std.proofs.Common.{◌≡◌, ◌≢◌, eqb, false, ◌<◌, ◌⊎◌, inl, inr, ℕ, List, [], ◌∷◌, length, get_or, None, Result, Ok, refl, arith}
use Rattle.std.proofs.lemmas.Bool.{cases_Bool, eqb-true}
use Rattle.x509_der.specs.Form.{is_in}
use Rattle.x509_der.specs.FrameLaws.{optional_none}
use Rattle.x509_der.specs.Frames.{optional_at}
use Rattle.x509_der.specs.declared.error.ErrorKind.{ErrorKind}

no_sequence : (tag : ℕ) → tag ≢ 0x30 → is_in tag (0x30 ∷ []) ≡ false
no_sequence tag n = elim (cases_Bool (eqb tag 0x30)) [ inl same ↦ absurd (n (eqb-true tag 0x30 same)) | inr other ↦ rw other refl ]

-- where nothing is left, or something else than a SEQUENCE stands at the front
pub left_out : {X : Type 0} (read : ℕ → List ℕ → Result X ErrorKind) (bytes : List ℕ) → (length bytes < 1) ⊎ (get_or bytes 0 0 ≢ 0x30) → optional_at (0x30 ∷ []) read bytes ≡ Ok (None, bytes)
left_out read [] h = optional_none (0x30 ∷ []) read [] tt
left_out read (tag ∷ bytes) (inl few) = absurd (omega arith)
left_out read (tag ∷ bytes) (inr other) = optional_none (0x30 ∷ []) read (tag ∷ bytes) (no_sequence tag other)
