-- Paths with candidates above, from the lowest up and from the topmost down.
use Rattle.std.proofs.Common.{◌≡◌, ◌↔◌, ◌∙◌, ◌⊎◌, inl, inr, ℕ, zero, suc, ◌+◌, ◌<◌, ◌≤◌, List, [], ◌∷◌, ◌++◌, length, Some, refl, sym, ap, subst, append_assoc, arith}
use Rattle.std.specs.List.{All, Contains}
use Rattle.std.proofs.lemmas.List.Elements.{All-cons, All-head, All-tail, All-append, All-push}
use Rattle.x509_cert.specs.Certificate.{rfc5280_certificate}
use Rattle.x509_der.specs.Form.{Spells}
use Rattle.x509_match.specs.Matching.{NamesMatch}
use Rattle.x509_path.specs.Certificates.{Accepting, Certificate}
use Rattle.x509_path.specs.Path.{Faults, HasFaultBehind, subject_of}
use Rattle.x509_path.specs.declared.anchor.Anchor.{Anchor}
use Rattle.x509_path_steps.specs.Inputs.{Inputs}
use Rattle.x509_path_steps.specs.Validation.{HasFault, PathIsValid, faults_at}
use Rattle.x509_path_steps.specs.declared.validation_fault.ValidationReason.TheVariants.{Issuer}
use Rattle.x509_verify.specs.Found.{AreDistinct}
use Rattle.x509_verify.specs.Named.{IsDecodable}
use Rattle.x509_verify.specs.Progress.{AreDecodable, climbed}

-- ---- from the lowest up, and from the topmost down

climbed-append : (us vs path : List (List ℕ)) → climbed (us ++ vs) path ≡ climbed vs (climbed us path)
climbed-append [] vs path = refl
climbed-append (u ∷ us) vs path = climbed-append us vs (u ∷ path)

-- those above a path, topmost first, from the lowest up
pub record Upwards (P : List ℕ → Type 0) (above path : List (List ℕ)) : Type 0 where
  pub up : List (List ℕ)
  pub same : climbed up path ≡ above ++ path
  pub all : All P up
  pub many : length up ≡ length above

push_length : (xs : List (List ℕ)) (x : List ℕ) → length (xs ++ x ∷ []) ≡ suc (length xs)
push_length [] x = refl
push_length (y ∷ xs) x = ap suc (push_length xs x)

pub upwards : (P : List ℕ → Type 0) (above path : List (List ℕ)) → All P above → Upwards P above path
upwards P [] path all = record { up = []; same = refl; all = all; many = refl }
upwards P (bytes ∷ above) path all =
    let rest = upwards P above path (All-tail P bytes above all) in record {
      up = rest.up ++ bytes ∷ [];
      same = climbed-append rest.up (bytes ∷ []) path ∙ ap (λ p. bytes ∷ p) rest.same;
      all = All-push P rest.up bytes rest.all (All-head P bytes above all);
      many = push_length rest.up bytes ∙ ap suc rest.many;
    }

-- the other way round
pub record Downwards (P : List ℕ → Type 0) (up path : List (List ℕ)) : Type 0 where
  pub above : List (List ℕ)
  pub same : climbed up path ≡ above ++ path
  pub all : All P above

pub downwards : (P : List ℕ → Type 0) (up path : List (List ℕ)) → All P up → Downwards P up path
downwards P [] path all = record { above = []; same = refl; all = all }
downwards P (bytes ∷ up) path all =
    let rest = downwards P up (bytes ∷ path) (All-tail P bytes up all) in record {
      above = rest.above ++ bytes ∷ [];
      same = rest.same ∙ sym (append_assoc rest.above (bytes ∷ []) path);
      all = All-push P rest.above bytes rest.all (All-head P bytes up all);
    }

-- what stands below others is distinct too
pub distinct_below : (up path : List (List ℕ)) → AreDistinct (climbed up path) → AreDistinct path
distinct_below [] path once = once
distinct_below (bytes ∷ up) path once = (distinct_below up (bytes ∷ path) once).1

-- ---- faults below certificates that can be decoded

-- what stands above the rest of a path
pub record Below {R : Type 0} (f : Faults R) (anchor : Anchor) (before : List Certificate) (above : List (List ℕ)) : Type 0 where
  pub over : Anchor
  pub passed : List Certificate
  pub moves : (rest : List (List ℕ)) (place at : ℕ) (r : R) → at ≡ length above + place → HasFaultBehind f over passed rest place r → HasFaultBehind f anchor before (above ++ rest) at r

pub below : {R : Type 0} (f : Faults R) (anchor : Anchor) (before : List Certificate) (above : List (List ℕ)) → AreDecodable above → Below f anchor before above
below f anchor before [] all = record {
  over = anchor;
  passed = before;
  moves = λ rest place at r is fault. let same : place ≡ at = omega (arith, is) in subst (λ n. HasFaultBehind f anchor before rest n r) same fault;
}
below f anchor before (bytes ∷ above) all =
    let (c, spells) = All-head (λ b. IsDecodable b) bytes above all in
    let rest = below f (subject_of c) (before ++ c ∷ []) above (All-tail (λ b. IsDecodable b) bytes above all) in record {
      over = rest.over;
      passed = rest.passed;
      moves = λ more place at r is fault.
          let next : suc (length above + place) ≡ at = omega (arith, is) in
          subst (λ n. HasFaultBehind f anchor before (bytes ∷ above ++ more) n r) next (c, spells, rest.moves more place (length above + place) r refl fault);
    }

module _ (accepts : Accepting) (inputs : Inputs) where
  -- the issuer of the topmost certificate matches the name that is trusted
  pub first_issuer : (c : Certificate) (bytes : List ℕ) (path : List (List ℕ)) → Spells rfc5280_certificate c bytes → PathIsValid accepts inputs (bytes ∷ path)
      → (NamesMatch c.tbs_certificate.issuer inputs.trust.anchor.name → ⊥) → ⊥
  first_issuer c bytes path spells valid other = valid.no_fault 0 Issuer (inr (c, spells, other))

  -- the issuer of one matches the subject of the one above it
  pub next_issuer : (above : List (List ℕ)) (top c : Certificate) (high low : List ℕ) (path : List (List ℕ)) → AreDecodable above
      → Spells rfc5280_certificate top high → Spells rfc5280_certificate c low → PathIsValid accepts inputs (above ++ high ∷ low ∷ path)
      → (NamesMatch c.tbs_certificate.issuer top.tbs_certificate.subject → ⊥) → ⊥
  next_issuer above top c high low path all over under valid other =
      let it = below (faults_at accepts inputs) inputs.trust.anchor [] above all in
      valid.no_fault (length above + 1) Issuer (it.moves (high ∷ low ∷ path) 1 (length above + 1) Issuer refl (top, over, inr (c, under, other)))
