-- Inputs that are found one after the other.
use Rattle.std.proofs.Common.{◌≡◌, ◌<◌, ◌+◌, ℕ, Bool, true, false, not, ◌||◌, List, [], ◌∷◌, ◌++◌, length, map, take, get_or, refl, sym, ap, ◌∙◌, append_assoc, append-nil, arith, if◌then◌else◌}
use Rattle.std.proofs.lemmas.List.{get_or-map, length-map, map_more}
use Rattle.std.specs.Cmp.Lexicographic.{slice_cmp}
use Rattle.std.specs.List.Sorted.{IsPermutation, IsSorted}
use Rattle.std.specs.Ordering.{nat_cmp}
use Rattle.std.specs.declared.cmp.Ordering.{Ordering}
use Rattle.x509_object_run.specs.Below.{AreAdded, AreEntries, AreListed, AreOf, AreOfAll, Lists, Stands, entry_path, is_input}
use Rattle.x509_object_run.specs.declared.files.Place.{Place}

-- more behind what more behind old is
added_behind : (old added more middle new : List (List ℕ)) → middle ≡ old ++ added → new ≡ middle ++ more → new ≡ old ++ (added ++ more)
added_behind old added more middle new first second = second ∙ ap (λ xs. xs ++ more) first ∙ append_assoc old added more

if-append : (holds : Bool) (x : List ℕ) (xs more : List (List ℕ)) → (if holds then x ∷ xs else xs) ++ more ≡ (if holds then x ∷ (xs ++ more) else xs ++ more)
if-append true x xs more = refl
if-append false x xs more = refl

-- the input of an entry, where it is one
abbrev pub own : Place → List ℕ → List (List ℕ)
own place path = if is_input place then path ∷ [] else []

-- it is put behind what stands before, or nothing is
pub own_put : (middle new : List (List ℕ)) (place : Place) (path : List ℕ) → is_input place ≡ true → new ≡ middle ++ path ∷ [] → new ≡ middle ++ own place path
own_put middle new place path is so = rw is so

pub own_left : (middle new : List (List ℕ)) (place : Place) (path : List ℕ) → is_input place ≡ false → new ≡ middle → new ≡ middle ++ own place path
own_left middle new place path is so = rw is (so ∙ sym (append-nil middle))

-- one entry more
entries_further : (stands : Stands) (directory : List ℕ) (names : List (List ℕ)) (name : List ℕ) (added : List (List ℕ)) (place : Place) → AreEntries stands directory names added → stands (entry_path directory name) place → AreEntries stands directory (names ++ name ∷ []) (added ++ own place (entry_path directory name))
entries_further stands directory [] name added place h at = (place, [], at, refl, rw h refl)
entries_further stands directory (other ∷ names) name added place h at =
    let more = own place (entry_path directory name) in
    (h.0, h.1 ++ more, h.2, entries_further stands directory names name h.1 place h.3 at, ap (λ xs. xs ++ more) h.4 ∙ if-append (is_input h.0) (entry_path directory other) h.1 more)

-- one entry more, of those so far
pub entries_next : {X : Type 0} (view : X → List ℕ) (stands : Stands) (directory : List ℕ) (entries : List X) (i : ℕ) (d : X) (place : Place) (old middle new : List (List ℕ)) → i < length entries → AreAdded (AreEntries stands directory (map view (take i entries))) old middle → stands (entry_path directory (view (get_or entries i d))) place → new ≡ middle ++ own place (entry_path directory (view (get_or entries i d))) → AreAdded (AreEntries stands directory (map view (take (i + 1) entries))) old new
entries_next view stands directory entries i d place old middle new lt h at is =
    let name = view (get_or entries i d) in
    let more = own place (entry_path directory name) in
    rw (map_more view entries i d lt)
    (h.0 ++ more, entries_further stands directory (map view (take i entries)) name h.0 place h.1 at, added_behind old h.0 more middle new h.2 is)

-- what is sorted by what it is seen as, is sorted so
pub sorted-map : {X Y : Type 0} (view : X → Y) (cmp : Y → Y → Ordering) (xs : List X) → IsSorted (λ x y. cmp (view x) (view y)) xs → IsSorted cmp (map view xs)
sorted-map view cmp [] h = λ k d low fits. absurd (omega arith)
sorted-map view cmp (x ∷ xs) h = λ k d low fits.
    let fits : k + 1 < length (x ∷ xs) = rw (length-map (x ∷ xs) view) at fits in
    let below : k < length (x ∷ xs) = omega arith in
    rw (get_or-map view (x ∷ xs) (k + 1) x d fits, get_or-map view (x ∷ xs) k x d below) (h k x low fits)

-- itself, where not all are listed
pub itself_put : (middle new : List (List ℕ)) (whole : Bool) (directory : List ℕ) → not whole ≡ true → new ≡ middle ++ directory ∷ [] → new ≡ middle ++ (if whole then [] else directory ∷ [])
itself_put middle new true directory is so = absurd cc
itself_put middle new false directory is so = so

pub itself_left : (middle new : List (List ℕ)) (whole : Bool) (directory : List ℕ) → not whole ≡ false → new ≡ middle → new ≡ middle ++ (if whole then [] else directory ∷ [])
itself_left middle new true directory is so = so ∙ sym (append-nil middle)
itself_left middle new false directory is so = absurd cc

-- the entries of a directory, and itself where these aren't all
pub listed_so : (lists : Lists) (stands : Stands) (directory : List ℕ) (listed names : List (List ℕ)) (whole : Bool) (old middle new : List (List ℕ)) → lists directory listed whole → IsPermutation listed names → IsSorted (slice_cmp nat_cmp) names → AreAdded (AreEntries stands directory names) old middle → new ≡ middle ++ (if whole then [] else directory ∷ []) → AreAdded (AreListed lists stands directory) old new
listed_so lists stands directory listed names whole old middle new lists_so same sorted h is =
    let more : List (List ℕ) = if whole then [] else directory ∷ [] in
    (h.0 ++ more, (listed, names, h.0, whole, lists_so, same, sorted, h.1, refl), added_behind old h.0 more middle new h.2 is)

or-false : (b : Bool) → b ≡ (b || false)
or-false true = refl
or-false false = refl

or-assoc : (a b c : Bool) → ((a || b) || c) ≡ (a || (b || c))
or-assoc true b c = refl
or-assoc false b c = refl

-- one name more
all_further : (lists : Lists) (stands : Stands) (names : List (List ℕ)) (name : List ℕ) (inputs added : List (List ℕ)) (directory here : Bool) → AreOfAll lists stands names inputs directory → AreOf lists stands name added here → AreOfAll lists stands (names ++ name ∷ []) (inputs ++ added) (directory || here)
all_further lists stands [] name inputs added directory here h k =
    (added, [], here, false, k, (refl, refl), rw h.0 (sym (append-nil added)), rw h.1 (or-false here))
all_further lists stands (other ∷ names) name inputs added directory here h k =
    (h.0, h.1 ++ added, h.2, h.3 || here, h.4, all_further lists stands names name h.1 added h.3 here h.5 k, rw h.6 (append_assoc h.0 h.1 added), rw h.7 (or-assoc h.2 h.3 here))

-- one name more, of those so far
pub all_next : {X : Type 0} (view : X → List ℕ) (lists : Lists) (stands : Stands) (names : List X) (i : ℕ) (d : X) (inputs new : List (List ℕ)) (directory here : Bool) → i < length names → AreOfAll lists stands (map view (take i names)) inputs directory → AreAdded (λ added. AreOf lists stands (view (get_or names i d)) added here) inputs new → AreOfAll lists stands (map view (take (i + 1) names)) new (directory || here)
all_next view lists stands names i d inputs new directory here lt h k =
    rw (map_more view names i d lt, k.2)
    (all_further lists stands (map view (take i names)) (view (get_or names i d)) inputs k.0 directory here h k.1)
