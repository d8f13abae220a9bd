-- What writing the encoding of what a text says answers.
use Rattle.std.proofs.Common.{◌≡◌, ◌⊎◌, ◌≤◌, List, ℕ, length, Result, Ok, Err, sym, subst, inl, inr}
use Rattle.std.specs.Prelude.{IfOk, IfErr}
use Rattle.x509_der.specs.Element.{limit}
use Rattle.x509_der.specs.declared.error.Error.{Error}
use Rattle.x509_der.specs.declared.error.ErrorKind.{ErrorKind}
use Rattle.x509_der.specs.declared.error.ErrorKind.TheVariants.{Memory}
use Rattle.x509_der.specs.Form.{Form}
use Rattle.x509_der.specs.Writing.{plain, writes, written_spelling, IsWritable, IsUnwritable}
use Rattle.x509_name.specs.Encodings.{SaysEncoding, EncodingRefused}

module _ {X V : Type 0} (form : Form X) (reads : List ℕ → X → Type 0) (items : V → List ℕ) (text : List ℕ) (value : X) (is : reads text value) where
  pub encoded : (result : Result V Error) → IfOk result (λ v. (items v ≡ written_spelling form (writes plain value)) × IsWritable form (writes plain value) limit)
      → IfOk result (λ v. SaysEncoding form reads text (items v))
  encoded (Ok v) h = (value, is, h.0, subst (λ (bytes : List ℕ). length bytes ≤ limit) (sym h.0) h.1.1)
  encoded (Err e) h = tt

  pub not_encoded : (refused : List ℕ → ErrorKind → Type 0) (result : Result V Error) → IfErr result (λ e. (e.kind ≡ Memory) ⊎ IsUnwritable form (writes plain value) limit e.kind)
      → IfErr result (λ e. (e.kind ≡ Memory) ⊎ EncodingRefused form reads refused text e.kind)
  not_encoded refused (Ok v) h = tt
  not_encoded refused (Err e) (inl memory) = inl memory
  not_encoded refused (Err e) (inr (inl refusal)) = absurd cc
  not_encoded refused (Err e) (inr (inr long)) = inr (inr (long.0, value, is, long.1))
