-- Going down a path, of any kind of reason.
use Rattle.std.proofs.Common.{◌≡◌, ◌↔◌, ◌⊎◌, ◌∙◌, ℕ, zero, suc, ◌+◌, ◌<◌, ◌≤◌, inl, inr, List, [], ◌∷◌, ◌++◌, length, drop, slice_get, Some, sym, ap, subst, arith}
use Rattle.std.proofs.Math.Nat.{eq-or-lt_of_le}
use Rattle.std.proofs.Math.Seq.{drop-cons}
use Rattle.std.proofs.lemmas.Bool.{cases_lt}
use Rattle.std.proofs.lemmas.Option.{slice_get_within, get_or_from_slice_get}
use Rattle.std.specs.List.{AllZip}
use Rattle.x509_cert.specs.Certificate.{rfc5280_certificate}
use Rattle.x509_der.specs.Form.{Spells}
use Rattle.x509_path.specs.Certificates.{Accepting, Certificate, accept_all}
use Rattle.x509_path.specs.Path.{Faults, HasFaultBehind, subject_of}
use Rattle.x509_path.specs.declared.anchor.Anchor.{Anchor}
use Rattle.x509_path.proofs.Firsts.{one_certificate}

-- two lists are longer by one each
pub zip_push : {A B : Type 0} (P : A → B → Type 0) (xs : List A) (ys : List B) (x : A) (y : B) → AllZip P xs ys → P x y → AllZip P (xs ++ x ∷ []) (ys ++ y ∷ [])
zip_push P [] [] x y h is = (is, tt)
zip_push P [] (z ∷ ys) x y h is = absurd h
zip_push P (w ∷ xs) [] x y h is = absurd h
zip_push P (w ∷ xs) (z ∷ ys) x y (first, more) is = (first, zip_push P xs ys x y more is)

module _ {R : Type 0} (f : Faults R) (r : R) where
  -- behind the last input there is no fault
  beyond : (above : Anchor) (before : List Certificate) (path : List (List ℕ)) (place : ℕ) → length path ≤ place → HasFaultBehind f above before path place r → ⊥
  beyond above before [] place past fault = fault
  beyond above before (bytes ∷ path) zero past fault = omega (arith, past)
  beyond above before (bytes ∷ path) (suc place) past (c, spells, fault) = beyond (subject_of c) (before ++ c ∷ []) path place (omega (arith, past)) fault

  never : ((above : Anchor) (before : List Certificate) (bytes : List ℕ) (path : List (List ℕ)) → f above before bytes path r → ⊥)
      → (above : Anchor) (before : List Certificate) (path : List (List ℕ)) (place : ℕ) → HasFaultBehind f above before path place r → ⊥
  never none above before [] place fault = fault
  never none above before (bytes ∷ path) zero fault = none above before bytes path fault
  never none above before (bytes ∷ path) (suc place) (c, spells, fault) = never none (subject_of c) (before ++ c ∷ []) path place fault

  abbrev pub Follows : Faults R → Type 0
  Follows g = (above : Anchor) (before : List Certificate) (bytes : List ℕ) (path : List (List ℕ)) → f above before bytes path r → g above before bytes path r

  along : (g : Faults R) → Follows g → (above : Anchor) (before : List Certificate) (path : List (List ℕ)) (place : ℕ) → HasFaultBehind f above before path place r → HasFaultBehind g above before path place r
  along g follows above before [] place fault = fault
  along g follows above before (bytes ∷ path) zero fault = follows above before bytes path fault
  along g follows above before (bytes ∷ path) (suc place) (c, spells, fault) = (c, spells, along g follows (subject_of c) (before ++ c ∷ []) path place fault)

-- ---- signatures, apart from the other reasons

module _ {R : Type 0} (signature : R) (faults : Accepting → Faults R) (others : (a b : Accepting) (r : R) → (r ≡ signature) ⊎ Follows (faults a) r (faults b))
    (accepted : (above : Anchor) (before : List Certificate) (bytes : List ℕ) (path : List (List ℕ)) → faults accept_all above before bytes path signature → ⊥)
    (accepts : Accepting) (anchor : Anchor) (path : List (List ℕ)) where
  abbrev Has : Accepting → ℕ → R → Type 0
  Has a place r = HasFaultBehind (faults a) anchor [] path place r

  moved : (a b : Accepting) → ((place : ℕ) (r : R) → Has a place r → ⊥) → ((place : ℕ) → Has b place signature → ⊥) → (place : ℕ) (r : R) → Has b place r → ⊥
  moved a b none verified place r fault = elim (others b a r) [
    | inl is ↦ verified place (subst (Has b place) is fault)
    | inr follows ↦ none place r (along (faults b) r (faults a) follows anchor [] path place fault)
  ]

  -- there is no fault exactly where there is none with all bits taken for signatures, and none of a signature
  pub faults_apart : ((place : ℕ) (r : R) → Has accepts place r → ⊥) ↔ (((place : ℕ) (r : R) → Has accept_all place r → ⊥) × ((place : ℕ) → Has accepts place signature → ⊥))
  faults_apart = (
    (λ none. (moved accepts accept_all none (never (faults accept_all) signature accepted anchor [] path), λ place. none place signature)),
    (λ (none, verified). moved accept_all accepts none verified),
  )

-- ---- from one input to the next

module _ {R : Type 0} (f : Faults R) (anchor : Anchor) (path : List (List ℕ)) where
  -- no input before that place has a fault, and what is left of the path stands behind these certificates
  pub record Reached (i : ℕ) (above : Anchor) (before : List Certificate) : Type 0 where
    pub left : (place p : ℕ) → place ≡ i + p → (r : R) → HasFaultBehind f anchor [] path place r ↔ HasFaultBehind f above before (drop i path) p r
    pub clean : (p : ℕ) → p < i → (r : R) → HasFaultBehind f anchor [] path p r → ⊥

  pub reached_first : Reached 0 anchor []
  reached_first = record {
    left = λ place p is r. let same : place ≡ p = omega (arith, is) in rw same ((λ h. h), (λ h. h));
    clean = λ p less. absurd (omega (arith, less));
  }

  pub no_fault : (i : ℕ) (above : Anchor) (before : List Certificate) → Reached i above before → length path ≤ i → (place : ℕ) (r : R) → HasFaultBehind f anchor [] path place r → ⊥
  no_fault i above before reached all place r fault = elim (cases_lt place i) [
    | inl less ↦ reached.clean place less r fault
    | inr past ↦ beyond f r anchor [] path place (omega (arith, past, all)) fault
  ]

  module _ (i : ℕ) (above : Anchor) (before : List Certificate) (bytes : List ℕ) (reached : Reached i above before) (input : slice_get path i ≡ Some bytes) where
    front : drop i path ≡ bytes ∷ drop (suc i) path
    front = drop-cons path i bytes (slice_get_within path i bytes input) ∙ ap (λ b. b ∷ drop (suc i) path) (get_or_from_slice_get path i bytes bytes input)

    here : (place p : ℕ) → place ≡ i + p → (r : R) → HasFaultBehind f anchor [] path place r ↔ HasFaultBehind f above before (bytes ∷ drop (suc i) path) p r
    here place p is r = subst (λ rest. HasFaultBehind f anchor [] path place r ↔ HasFaultBehind f above before rest p r) front (reached.left place p is r)

    -- the faults there are those of the input
    pub local : (r : R) → HasFaultBehind f anchor [] path i r ↔ f above before bytes (drop (suc i) path) r
    local r = here i 0 (omega arith) r

    pub reached_next : (c : Certificate) → Spells rfc5280_certificate c bytes → ((r : R) → HasFaultBehind f anchor [] path i r → ⊥) → Reached (i + 1) (subject_of c) (before ++ c ∷ [])
    reached_next c spells none =
        let next : suc i ≡ i + 1 = omega arith in
        let behind = λ (n : ℕ) (r : R) (d : Certificate) (p : ℕ). HasFaultBehind f (subject_of d) (before ++ d ∷ []) (drop n path) p r in record {
          left = λ place p at r. (
            (λ h. let (d, other, fault) = (here place (suc p) (omega (arith, at)) r).0 h in
                subst (λ n. behind n r c p) next (subst (λ x. behind (suc i) r x p) (one_certificate d c bytes other spells) fault)),
            (λ h. (here place (suc p) (omega (arith, at)) r).1 (c, spells, subst (λ n. behind n r c p) (sym next) h)),
          );
          clean = λ p less r fault. elim (eq-or-lt_of_le less) [
            | inl same ↦ none r (subst (λ q. HasFaultBehind f anchor [] path q r) (omega (arith, same)) fault)
            | inr earlier ↦ reached.clean p (omega (arith, earlier)) r fault
          ];
        }
