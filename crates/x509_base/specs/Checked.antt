-- A content whose octets pass a check, made in reading after the octets were read.
use Rattle.std.specs.Prelude.{◌≡◌, ℕ, List, Result, Ok, Err}
use Rattle.std.proofs.Common.{refl, subst, inl, inr}
use Rattle.x509_der.specs.declared.error.ErrorKind.{ErrorKind}
use Rattle.x509_der.specs.Form.{Contents, IsContents}
use Rattle.x509_der.specs.Outcome.{◌>>=◌}
use Rattle.x509_der.specs.OutcomeLaws.{ok_is, bind_ok, bind_err, not_refused}

-- what reading gives, unless the check refuses the octets
unfoldable pub checked_reading : {X : Type 0} → (List ℕ → Result Unit ErrorKind) → (List ℕ → Result X ErrorKind) → List ℕ → Result X ErrorKind
checked_reading check reading bytes = reading bytes >>= λ value. check bytes >>= λ done. Ok value

abbrev pub checked : {X : Type 0} → (List ℕ → Result Unit ErrorKind) → Contents X → Contents X
checked check contents = record {
  octets = contents.octets;
  good = λ value. contents.good value × (check (contents.octets value) ≡ Ok tt);
  reading = checked_reading check contents.reading;
}

-- the errors of a check
abbrev pub CheckRefuses : (List ℕ → Result Unit ErrorKind) → ErrorKind → Type 0
CheckRefuses check e = (octets : List ℕ) × (check octets ≡ Err e)

pub checked_lawful : {X : Type 0} (check : List ℕ → Result Unit ErrorKind) (contents : Contents X) → IsContents (CheckRefuses check) contents → IsContents (CheckRefuses check) (checked check contents)
unfolding checked_reading
checked_lawful {X} check contents h = record {
  sound = λ bytes value e.
      let read = bind_ok (contents.reading bytes) (λ (v : X). check bytes >>= λ done. Ok v) value e in
      let passed = bind_ok (check bytes) (λ done. Ok read.0) value read.2 in
      let same : read.0 ≡ value = ok_is read.0 value passed.2 in
      let is = subst (λ (v : X). contents.good v × (bytes ≡ contents.octets v)) same (h.sound bytes read.0 read.1) in
      ((is.0, subst (λ (octets : List ℕ). check octets ≡ Ok tt) is.1 passed.1), is.1);
  complete = λ value good. rw (h.complete value good.0, good.1) refl;
  refused = λ bytes e r.
      elim (bind_err (contents.reading bytes) (λ (v : X). check bytes >>= λ done. Ok v) e r) [
        | inl k ↦ h.refused bytes e k
        | inr k ↦ elim (bind_err (check bytes) (λ done. Ok k.0) e k.2) [
          | inl j ↦ inr (bytes, j)
          | inr j ↦ not_refused k.0 e j.2
        ]
      ];
}
