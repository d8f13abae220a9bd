-- Inputs that are shown one after the other.
use Rattle.std.proofs.Common.{◌≡◌, ◌<◌, ◌+◌, ℕ, max, false, codes, List, [], ◌∷◌, ◌++◌, length, map, take, get_or, Option, None, refl, sym, subst, arith}
use Rattle.std.proofs.lemmas.List.{map_push, take_more}
use Rattle.x509_object_run.specs.Object.{Item, Subject}
use Rattle.x509_object_run.specs.declared.heading.Headed.{Headed}
use Rattle.x509_object_run.specs.Program.{AreDone, AreNumberedDone, IsDone, IsNumberedDone, Misused, Outputs, Writes, Streams, World, call_from}
use Rattle.x509_object_run.specs.Words.{has_option}

max-zero : (a : ℕ) → max 0 a ≡ max a 0
max-zero a = omega arith

max-assoc : (a b c : ℕ) → max (max a b) c ≡ max a (max b c)
max-assoc a b c = omega arith

-- one input more
pub done_further : {R F W E : Type 0} (program : List ℕ) (subject : Subject) (world : World R F W E) (headed : Headed) (names : List (List ℕ)) (name : List ℕ) (old middle new : Streams R W E) (worst status : ℕ) → AreDone program subject world headed names old middle worst → IsDone program subject world headed name middle new status → AreDone program subject world headed (names ++ name ∷ []) old new (max worst status)
done_further program subject world headed [] name old middle new worst status h k =
    (new, status, 0, subst (λ s. IsDone program subject world headed name s new status) h.0 k, (refl, refl), rw h.1 (max-zero status))
done_further program subject world headed (other ∷ names) name old middle new worst status h k =
    let behind = done_further program subject world headed names name h.0 middle new h.2 status h.4 k in
    (h.0, h.1, max h.2 status, h.3, behind, rw h.5 (max-assoc h.1 h.2 status))

-- one item more, behind those before
pub numbered_further : {W E : Type 0} (program : List ℕ) (subject : Subject) (by : Writes W E) (label : List ℕ) (before : ℕ) (items : List Item) (item : Item) (old middle new : Outputs W E) (worst status : ℕ) → AreNumberedDone program subject by label before items old middle worst → IsNumberedDone program subject by label (before + length items + 1) item middle new status → AreNumberedDone program subject by label before (items ++ item ∷ []) old new (max worst status)
numbered_further program subject by label before [] item old middle new worst status h k =
    let place : before + length {A = Item} [] + 1 ≡ before + 1 = omega arith in
    let here : IsNumberedDone program subject by label (before + 1) item middle new status = subst (λ n. IsNumberedDone program subject by label n item middle new status) place k in
    (new, status, 0, subst (λ s. IsNumberedDone program subject by label (before + 1) item s new status) h.0 here, (refl, refl), rw h.1 (max-zero status))
numbered_further program subject by label before (other ∷ items) item old middle new worst status h k =
    let place : before + length (other ∷ items) + 1 ≡ before + 1 + length items + 1 = omega arith in
    let behind = numbered_further program subject by label (before + 1) items item h.0 middle new h.2 status h.4 (subst (λ n. IsNumberedDone program subject by label n item middle new status) place k) in
    (h.0, h.1, max h.2 status, h.3, behind, rw h.5 (max-assoc h.1 h.2 status))

-- words that ask for nothing
pub misused : {P : Type 0} (asked : List (List ℕ) → List (List ℕ) → Option (P × List (List ℕ))) (misuse : List (List ℕ) → List (List ℕ) → List ℕ) (options names : List (List ℕ)) → has_option (codes "--help") options ≡ false → has_option (codes "--version") options ≡ false → None ≡ asked options names → call_from asked misuse options names ≡ Misused (misuse options names)
misused asked misuse options names no_help no_version none = rw (no_help, no_version, sym none) refl

-- one input more, of the names so far
pub done_next : {X R F W E : Type 0} (view : X → List ℕ) (program : List ℕ) (subject : Subject) (world : World R F W E) (headed : Headed) (names : List X) (i : ℕ) (d : X) (old middle new : Streams R W E) (worst status : ℕ) → i < length names → AreDone program subject world headed (map view (take i names)) old middle worst → IsDone program subject world headed (view (get_or names i d)) middle new status → AreDone program subject world headed (map view (take (i + 1) names)) old new (max worst status)
done_next view program subject world headed names i d old middle new worst status lt h k =
    rw (take_more names i d lt, map_push view (take i names) (get_or names i d)) (done_further program subject world headed (map view (take i names)) (view (get_or names i d)) old middle new worst status h k)
