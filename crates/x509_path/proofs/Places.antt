-- Going down a path.
use Rattle.std.proofs.Common.{◌≡◌, ◌≢◌, ◌↔◌, ◌∙◌, ℕ, suc, ◌+◌, ◌<◌, ◌≤◌, ◌==◌, Bool, false, List, [], ◌∷◌, ◌++◌, length, drop, slice_get, get_or, map, Option, Some, None, Err, Ok, refl, sym, ap, subst, arith}
use Rattle.std.proofs.lemmas.Bool.{true≢false}
use Rattle.std.proofs.lemmas.List.{length-map, length-drop}
use Rattle.std.proofs.lemmas.Option.{slice_get_within, slice_get-get_or, slice_get-map}
use Rattle.std.specs.Option.{option_map}
use Rattle.x509_base.specs.CivilTime.{CivilTime}
use Rattle.x509_path.specs.Certificates.{Accepting, AreEqual, Certificate, IsOver}
use Rattle.x509_path.specs.Path.{Answers, Breaks, HasFault, IsFault, IsFirst, IsFirstFault, PathHolds, Standing, faults_at, is_empty, reasons}
use Rattle.x509_path.specs.PathLength.{Judges, Leaves, anchor_behind}
use Rattle.x509_path.specs.declared.anchor.Anchor.{Anchor}
use Rattle.x509_path.specs.declared.fault.PathFault.{PathFault}
use Rattle.x509_path.specs.declared.fault.PathFault.TheVariants.{Memory, Empty, At}
use Rattle.x509_path.specs.declared.fault.PathReason.{PathReason}
use Rattle.x509_path.specs.declared.fault.PathReason.TheVariants.{Decode, PathLen}
use Rattle.x509_path.proofs.Along.{Reached, local, no_fault, reached_first, reached_next}
use Rattle.x509_path.proofs.Firsts.{first_along, wrong}
use Rattle.x509_path.proofs.PathLengths.{begins, too_many, unlimited_too_long}

-- ---- lists of inputs

pub given_at : {X Y : Type 0} (v : X → Y) (xs : List X) (i : ℕ) (d : X) → i < length xs → slice_get (map v xs) i ≡ Some (v (get_or xs i d))
given_at v xs i d within = slice_get-map v xs i ∙ ap (option_map v) (slice_get-get_or xs i d within)

pub some_left : {X Y : Type 0} (v : X → Y) (xs : List X) → false ≡ (length xs == 0) → map v xs ≢ []
some_left v [] h none = true≢false (sym h)
some_left v (x ∷ xs) h none = cc

pub counted : {X Y : Type 0} (v : X → Y) (xs : List X) (i : ℕ) → (i + 1 == length xs) ≡ (i + 1 == length (map v xs))
counted v xs i = ap (λ n. i + 1 == n) (sym (length-map xs v))

-- an input is the last where none follows
is_empty-last : (rest : List (List ℕ)) → (length rest == 0) ≡ is_empty rest
is_empty-last [] = refl
is_empty-last (x ∷ rest) = grind arith

pub last : (inputs : List (List ℕ)) (i : ℕ) → i < length inputs → (i + 1 == length inputs) ≡ is_empty (drop (suc i) inputs)
last inputs i within = let len = length-drop (suc i) inputs in grind (arith, is_empty-last (drop (suc i) inputs))

-- ---- places

module _ (accepts : Accepting) (moment : CivilTime) (anchor : Anchor) (inputs : List (List ℕ)) where
  -- what holds before the input at a place is judged: the certificates so far leave that max_path_length, and what is left of the path stands behind
  -- them
  pub record Passed (i : ℕ) (above : Option Certificate) (max_path_length : Option ℕ) : Type 0 where
    pub before : List Certificate
    pub leaves : i < length inputs → Leaves AreEqual None before max_path_length
    pub reached : Reached (faults_at accepts moment) anchor inputs i (anchor_behind anchor above) before

  pub start : Passed 0 None None
  start = record { before = []; leaves = λ some. begins AreEqual None; reached = reached_first (faults_at accepts moment) anchor inputs }

  module _ (i : ℕ) (above : Option Certificate) (max_path_length : Option ℕ) (bytes : List ℕ) (passed : Passed i above max_path_length) (input : slice_get inputs i ≡ Some bytes) where
    within : i < length inputs
    within = slice_get_within inputs i bytes input

    abbrev At_last : Bool → Standing
    At_last is_last = record { above = anchor_behind anchor above; before = passed.before; is_last = is_last }

    -- where the input stands
    abbrev pub here : Standing
    here = At_last (i + 1 == length inputs)

    there : (r : PathReason) → HasFault accepts moment anchor inputs i r ↔ IsFault accepts moment here bytes r
    there r =
        subst (λ l. HasFault accepts moment anchor inputs i r ↔ IsFault accepts moment (At_last l) bytes r) (sym (last inputs i within))
        (local (faults_at accepts moment) anchor inputs i (anchor_behind anchor above) passed.before bytes passed.reached input r)

    first_fault : (r : PathReason) → IsFirst (Decode ∷ reasons) (IsFault accepts moment here bytes) r → IsFirstFault accepts moment anchor inputs i r
    first_fault r h = record {
      first = first_along (IsFault accepts moment here bytes) (HasFault accepts moment anchor inputs i) (Decode ∷ reasons) r (there r).1 (λ s. (there s).0) h;
      lowest = passed.reached.clean;
    }

    -- what is answered where it is refused
    pub refused : (e : PathFault) → inputs ≢ [] → Judges accepts moment here bytes i (Err e) → Answers accepts moment anchor inputs (Err e)
    refused Memory some h = some
    refused Empty some h = absurd h
    refused (At p r) some h = rw h.0 (first_fault r h.1)

    pub further : (c : Certificate) (next_length : Option ℕ) → Judges accepts moment here bytes i (Ok c)
        → ((i + 1 == length inputs) ≡ false → (before : List Certificate) → Leaves AreEqual None before max_path_length → (IsOver AreEqual max_path_length (c ∷ []) → ⊥) → Leaves AreEqual None (before ++ c ∷ []) next_length)
        → Passed (i + 1) (Some c) next_length
    further c next_length (spells, right) step = record {
      before = passed.before ++ c ∷ [];
      leaves = λ more.
          let early : (i + 1 == length inputs) ≡ false = grind (arith, more) in
          let leaves = passed.leaves within in
          let deep = too_many AreEqual None passed.before max_path_length c leaves in
          step early passed.before leaves (λ over. right PathLen (early, (unlimited_too_long AreEqual (passed.before ++ c ∷ [])).0 (deep.1 over)));
      reached = reached_next (faults_at accepts moment) anchor inputs i (anchor_behind anchor above) passed.before bytes passed.reached input c spells
          (λ r fault. right r (wrong Decode (Breaks accepts moment here bytes) bytes c spells r ((there r).0 fault)));
    }

  pub done : (i : ℕ) (above : Option Certificate) (max_path_length : Option ℕ) → Passed i above max_path_length → length inputs ≤ i → inputs ≢ [] → PathHolds accepts moment anchor inputs
  done i above max_path_length passed all some = (some, no_fault (faults_at accepts moment) anchor inputs i (anchor_behind anchor above) passed.before passed.reached all)
