-- Objects that are taken one after the other.
use Rattle.std.proofs.Common.{◌≡◌, ◌≢◌, ◌<◌, ◌-◌, ◌&&◌, arith, ℕ, Bool, true, false, List, [], ◌∷◌, ◌++◌, length, map, take, drop, Option, Some, None, Result, Ok, Err, refl, sym, ap, ◌∙◌, length-append, length-drop}
use Rattle.std.proofs.lemmas.List.{take_at, drop_at}
use Rattle.std.specs.Option.{MatchOption, option_map}
use Rattle.std.specs.Result.{is_ok}
use Rattle.x509_der.specs.Any.{any}
use Rattle.x509_der.specs.Element.{element}
use Rattle.x509_der.specs.ElementLaws.{piece_at-element, piece_at-sound}
use Rattle.x509_der.specs.ElementReading.{Piece, piece_at}
use Rattle.x509_der.specs.Form.{spelling, whole_reading}
use Rattle.x509_der.specs.List.{joined}
use Rattle.x509_der.specs.OutcomeLaws.{ok_is}
use Rattle.x509_der.specs.Tag.{octet_of}
use Rattle.x509_der.specs.TagLaws.{tag_is_identifier}
use Rattle.x509_der.specs.declared.any.Any.{Any}
use Rattle.x509_der.specs.declared.error.ErrorKind.{ErrorKind}
use Rattle.x509_der.specs.declared.error.ErrorKind.TheVariants.{Malformed}
use Rattle.x509_object_run.specs.Labels.{is_empty}
use Rattle.x509_object_run.specs.Objects.{AreLeft, IsNext, IsTaken}
use Rattle.x509_object_run.specs.SignedData.{HasElements, SignedData, content_info, elements_of, else_whole, found_in, objects_in, objects_of}
use Rattle.x509_object_run.specs.declared.objects.Objects.{Objects}
use Rattle.x509_object_run.proofs.Elements.{piece_of}

-- ---- one element

first_piece : (bytes : List ℕ) (first : Any) (others : List Any) → bytes ≡ joined (spelling any) (first ∷ others) → piece_at bytes ≡ Ok (piece_of (octet_of first.tag) first.value (joined (spelling any) others))
unfolding joined
first_piece bytes first others h = rw h (piece_at-element (octet_of first.tag) first.value (joined (spelling any) others) (tag_is_identifier first.tag))

refused_no_piece : (bytes : List ℕ) (piece : Piece) → piece_at bytes ≡ Err Malformed → piece_at bytes ≡ Ok piece → ⊥
refused_no_piece bytes piece h k = let both : Err Malformed ≡ Ok piece = sym h ∙ k in absurd cc

pub take_none : (bytes : List ℕ) → piece_at bytes ≡ Err Malformed → (elements : List Any) → bytes ≡ joined (spelling any) elements → IsTaken elements None bytes
unfolding joined
take_none bytes none [] h = (refl, h)
take_none bytes none (first ∷ others) h = absurd (refused_no_piece bytes _ none (first_piece bytes first others h))

no_piece : (bytes : List ℕ) (piece : Piece) → bytes ≡ [] → piece_at bytes ≡ Ok piece → ⊥
unfolding piece_at
no_piece [] piece h k = absurd cc
no_piece (b ∷ bytes) piece h k = absurd cc

split_front : (bytes front back element rest : List ℕ) (n : ℕ) → bytes ≡ element ++ rest → n ≡ length bytes - length rest → front ≡ take n bytes → back ≡ drop n bytes → (front ≡ element) × (back ≡ rest)
split_front bytes front back element rest n h at f b =
    let many : n ≡ length element = omega (arith, at, ap length h, length-append element rest) in
    (f ∙ rw (h, many) (take_at element rest (length element) refl), b ∙ rw (h, many) (drop_at element rest (length element) refl))

pub take_some : (bytes : List ℕ) (piece : Piece) (front back : List ℕ) (n : ℕ) → piece_at bytes ≡ Ok piece → n ≡ length bytes - length piece.rest → front ≡ take n bytes → back ≡ drop n bytes
    → (elements : List Any) → bytes ≡ joined (spelling any) elements → IsTaken elements (Some front) back
unfolding joined
take_some bytes piece front back n found at f b [] h = absurd (no_piece bytes piece h found)
take_some bytes piece front back n found at f b (first ∷ others) h =
    let same : piece ≡ piece_of (octet_of first.tag) first.value (joined (spelling any) others) = ok_is piece _ (sym found ∙ first_piece bytes first others h) in
    let split = split_front bytes front back (spelling any first) (joined (spelling any) others) n h (at ∙ ap (λ p. length bytes - length p.rest) same) f b in
    (ap (λ octets. Some octets) split.0, split.1)

pub take_less : (bytes : List ℕ) (piece : Piece) (back : List ℕ) (n : ℕ) → piece_at bytes ≡ Ok piece → n ≡ length bytes - length piece.rest → back ≡ drop n bytes → length back < length bytes
unfolding element
take_less bytes piece back n found at b =
    let whole = (piece_at-sound bytes piece found).0 in
    let all = ap length whole ∙ length-append (element piece.tag piece.content) piece.rest in
    rw b (omega (arith, all, at, length-drop n bytes))

-- ---- what bytes stand for

none_in : (read : Result SignedData ErrorKind) → is_ok read ≡ false → found_in read ≡ []
none_in (Ok signed) h = absurd cc
none_in (Err e) h = refl

-- themselves, where they are no SignedData
pub no_signed_data : (bytes : List ℕ) → is_ok (whole_reading content_info.reading bytes) ≡ false → objects_of bytes ≡ bytes ∷ []
no_signed_data bytes h = ap (else_whole bytes) (none_in (whole_reading content_info.reading bytes) h)

joined_nil : (elements : List Any) → joined (spelling any) elements ≡ [] → elements ≡ []
unfolding joined element
joined_nil [] h = refl
joined_nil (first ∷ others) h = absurd cc

empty_nil : (octets : List ℕ) → is_empty octets ≡ true → octets ≡ []
empty_nil [] h = refl
empty_nil (b ∷ octets) h = absurd cc

both_true : (a b : Bool) → (a && b) ≡ true → (a ≡ true) × (b ≡ true)
both_true true b h = (refl, h)
both_true false b h = absurd cc

-- or one without certificates and CRLs
pub empty_signed_data : (bytes certificates crls : List ℕ) (signed : SignedData) → whole_reading content_info.reading bytes ≡ Ok signed → HasElements signed certificates crls → (is_empty certificates && is_empty crls) ≡ true → objects_of bytes ≡ bytes ∷ []
empty_signed_data bytes certificates crls signed read has none =
    let both = both_true (is_empty certificates) (is_empty crls) none in
    let no_certificates : elements_of signed.certificates ≡ [] = joined_nil _ (sym has.0 ∙ empty_nil certificates both.0) in
    let no_crls : elements_of signed.crls ≡ [] = joined_nil _ (sym has.1 ∙ empty_nil crls both.1) in
    let found : objects_in signed ≡ [] = rw (no_certificates, no_crls) refl in
    ap (λ r. else_whole bytes (found_in r)) read ∙ ap (else_whole bytes) found

some_elements : (bytes certificates crls : List ℕ) (first second : List Any) → certificates ≡ joined (spelling any) first → crls ≡ joined (spelling any) second → (is_empty certificates && is_empty crls) ≡ false
    → else_whole bytes (map (spelling any) (first ++ second)) ≡ map (spelling any) (first ++ second)
unfolding joined
some_elements bytes certificates crls [] [] h k none = absurd (let both : (is_empty [] && is_empty []) ≡ false = rw (h, k) at none in cc)
some_elements bytes certificates crls [] (x ∷ second) h k none = refl
some_elements bytes certificates crls (x ∷ first) second h k none = refl

-- or its certificates and CRLs
pub signed_objects : (bytes certificates crls : List ℕ) (signed : SignedData) → whole_reading content_info.reading bytes ≡ Ok signed → HasElements signed certificates crls → (is_empty certificates && is_empty crls) ≡ false → objects_of bytes ≡ objects_in signed
signed_objects bytes certificates crls signed read has some =
    ap (λ r. else_whole bytes (found_in r)) read ∙ some_elements bytes certificates crls (elements_of signed.certificates) (elements_of signed.crls) has.0 has.1 some

-- ---- whether there is one

pub more_than_one : (objects : List (List ℕ)) (first second : Option (List ℕ)) (other : List ℕ) (middle new : Objects) → IsNext objects first middle → ((left : List (List ℕ)) → AreLeft middle left → IsNext left second new) → second ≡ Some other → length objects ≢ 1
more_than_one [] first second other middle new next further is = λ one. absurd (omega (arith, one))
more_than_one (object ∷ []) first second other middle new next further is = λ one. absurd (let none : None ≡ Some other = sym (further [] next.1) ∙ is in cc)
more_than_one (object ∷ next_one ∷ objects) first second other middle new next further is = λ one. absurd (omega (arith, one))

pub one_alone : {T : Type 0} (octets_of : T → List ℕ) (result : Option T) (objects : List (List ℕ)) (second : Option (List ℕ)) (middle new : Objects) → IsNext objects (option_map octets_of result) middle → ((left : List (List ℕ)) → AreLeft middle left → IsNext left second new) → second ≡ None → MatchOption result (length objects ≢ 1) (λ object. objects ≡ octets_of object ∷ [])
one_alone octets_of None [] second middle new next further is = λ one. absurd (omega (arith, one))
one_alone octets_of None (object ∷ objects) second middle new next further is = absurd (let none : None ≡ Some object = next.0 in cc)
one_alone octets_of (Some x) [] second middle new next further is = absurd (let none : Some (octets_of x) ≡ None = next in cc)
one_alone octets_of (Some x) (object ∷ []) second middle new next further is = let same : octets_of x ≡ object = cc in rw same refl
one_alone octets_of (Some x) (object ∷ other ∷ objects) second middle new next further is = absurd (let none : None ≡ Some other = sym is ∙ (further (other ∷ objects) next.1).0 in cc)
