-- Lines of SCTs that are written one after the other.
use Rattle.std.proofs.Common.{◌≡◌, ◌<◌, ◌+◌, inl, inr, ℕ, List, [], ◌∷◌, ◌++◌, length, get_or, take, false, Result, Ok, Err, refl, sym, ap, subst, append_assoc, append-nil}
use Rattle.std.proofs.lemmas.List.{take_more}
use Rattle.x509_object_run.specs.Object.{Steps}
use Rattle.x509_sct.specs.Answers.{Answers}
use Rattle.x509_sct.specs.Form.{IsWholeFault, Spells}
use Rattle.x509_sct.specs.SignedInput.{Entry, entry_of, signed_input, signed_of}
use Rattle.x509_sct.specs.Timestamp.{timestamp}
use Rattle.x509_sct.specs.declared.entry.SignedEntry.{SignedEntry}
use Rattle.x509_sct.specs.declared.error.Error.{Error}
use Rattle.x509_sct.specs.declared.error.Error.TheVariants as errors
use Rattle.x509_sct.specs.declared.serialized.SerializedSct.{SerializedSct}
use Rattle.x509_sct.specs.declared.timestamp.SignedCertificateTimestamp.{SignedCertificateTimestamp}
use Rattle.x509_sct.specs.declared.tls.error.TlsError.TheVariants.{Memory}
use Rattle.x509_show.specs.Timestamps.{AreLines, AreWritten, IsLineOf, IsLineWritten, IsTextWritten, is_memory, signed_line, undecodable_line}
use Rattle.x509_show.specs.declared.reason.Reason.{Reason}
use Rattle.x509_tool_run.specs.Program.{IsCutOff, IsWritten}
use Rattle.x509_tool_run.proofs.Writes.{cut_off_behind, written_behind}

-- ---- a line

module _ {W : Type 0} (takes : Steps W) (entry : SignedEntry) (sct : SerializedSct) (old new : W) where
  line_written : (line : List ℕ) (result : Result Unit Reason) → IsLineOf (entry_of entry) sct line → IsTextWritten line takes old new result → IsLineWritten entry sct takes old new result
  line_written line (Ok u) is k = (line, is, k)
  line_written line (Err e) is (inl k) = inl (line, is, k.0, k.1)
  line_written line (Err e) is (inr k) = inr (inl k.0, k.1)

  -- that of an SCT, and of what its signature is over
  pub signed_written : (it : SignedCertificateTimestamp) (octets : List ℕ) (result : Result Unit Reason) → Spells timestamp it sct.octets → Spells signed_input (signed_of it entry) octets → IsTextWritten (signed_line it octets) takes old new result → IsLineWritten entry sct takes old new result
  signed_written it octets result says signs k = line_written (signed_line it octets) result (inl (it, octets, says, signs, refl)) k

  not_memory : (e : Error) → is_memory e ≡ false → e ≡ errors.Tls Memory → ⊥
  not_memory e not is = cc (ap is_memory is)

  -- that of bytes that are none
  pub undecodable_written : (e : Error) (result : Result Unit Reason) → is_memory e ≡ false → Answers (λ x. x) (λ e. errors.Tls e) (λ x. Spells timestamp x sct.octets) (IsWholeFault timestamp sct.octets) Unit (Err e) → IsTextWritten undecodable_line takes old new result → IsLineWritten entry sct takes old new result
  undecodable_written e result not answers k =
      line_written undecodable_line result (inr ((λ it says. not_memory e not (answers.value it says).0), refl)) k

-- ---- lines

-- one line more
lines_behind : (entry : Entry) (scts : List SerializedSct) (sct : SerializedSct) (text line : List ℕ) → AreLines entry scts text → IsLineOf entry sct line → AreLines entry (scts ++ sct ∷ []) (text ++ line)
lines_behind entry [] sct text line h k = (line, [], k, refl, rw h (sym (append-nil line)))
lines_behind entry (first ∷ scts) sct text line h k =
    (h.0, h.1 ++ line, h.2, lines_behind entry scts sct h.1 line h.3 k, rw h.4 (append_assoc h.0 h.1 line))

-- the lines of the first SCTs are written
abbrev pub FirstWritten : {W : Type 0} → SignedEntry → List SerializedSct → ℕ → Steps W → W → W → Type 0
FirstWritten entry scts count takes old new = (text : List ℕ) × AreLines (entry_of entry) (take count scts) text × IsWritten takes old text new

module _ {W : Type 0} (takes : Steps W) (entry : SignedEntry) (scts : List SerializedSct) (i : ℕ) (d : SerializedSct) (old middle new : W) (lt : i < length scts) (h : FirstWritten entry scts i takes old middle) where
  lines_next : (line : List ℕ) → IsLineOf (entry_of entry) (get_or scts i d) line → AreLines (entry_of entry) (take (i + 1) scts) (h.0 ++ line)
  lines_next line k = rw (take_more scts i d lt) (lines_behind (entry_of entry) (take i scts) (get_or scts i d) h.0 line h.1 k)

  -- one line more is written
  pub first_further : IsLineWritten entry (get_or scts i d) takes middle new (Ok tt) → FirstWritten entry scts (i + 1) takes old new
  first_further k = (h.0 ++ k.0, lines_next k.0 k.1, written_behind takes old middle new h.0 h.2 k.0 k.2)

  -- a line isn't
  pub stopped : (e : Reason) → IsLineWritten entry (get_or scts i d) takes middle new (Err e) → AreWritten entry scts takes old new (Err e)
  stopped e (inl k) = (
    i + 1,
    h.0 ++ k.0,
    lines_next k.0 k.1,
    inl (k.2, subst (λ xs. IsCutOff takes old xs new) (ap (λ xs. h.0 ++ xs) (append-nil k.0)) (cut_off_behind takes old middle new h.0 h.2 k.0 [] k.3)),
  )
  stopped e (inr k) = (i, h.0, h.1, inr (k.0, subst (λ w. IsWritten takes old h.0 w) (sym k.1) h.2))
