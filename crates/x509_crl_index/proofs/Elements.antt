-- The places of elements, and the values that these elements are.
use Rattle.std.proofs.Common.{◌≡◌, ◌∙◌, ◌⊎◌, inl, inr, ℕ, zero, suc, ◌-◌, ◌<◌, ◌≤◌, Bool, true, false, ◌&&◌, ◌||◌, List, [], ◌∷◌, ◌++◌, length, drop, bytes_eq, nat_lt, nat_eq, Result, Ok, refl, sym, ap, append_assoc, arith, length-append}
use Rattle.std.proofs.lemmas.Bool.{true≢false}
use Rattle.std.proofs.lemmas.Bool.Decides.{nat_tests}
use Rattle.std.proofs.lemmas.List.{drop_at}
use Rattle.std.specs.List.{filter, list_any}
use Rattle.x509_crl_index.specs.Places.{IsFirstPlace, content_of, front_content, has_number, is_before, number_at, places_at}
use Rattle.x509_der.specs.Element.{element}
use Rattle.x509_der.specs.ElementLaws.{piece_at-element, piece_at-whole}
use Rattle.x509_der.specs.ElementReading.{Piece, piece_at}
use Rattle.x509_der.specs.Form.{Form, IsForm, spelling}
use Rattle.x509_der.specs.FrameLaws.{field_complete}
use Rattle.x509_der.specs.Frames.{field_at}
use Rattle.x509_der.specs.List.{all_good, joined}
use Rattle.x509_der.specs.TagLaws.{tag_is_identifier}
use Rattle.x509_der.specs.declared.error.ErrorKind.{ErrorKind}
use Rattle.x509_der.specs.declared.tag.Tag.TheVariants.{Sequence}

-- the content of the element that the bytes are
pub element_content : (bytes content : List ℕ) → bytes ≡ element 48 content → front_content bytes ≡ content
element_content bytes content is = ap front_content is ∙ ap (λ (found : Result Piece ErrorKind). content_of found) (piece_at-whole 48 content (tag_is_identifier Sequence))

left_false : (a b : Bool) → a || b ≡ false → a ≡ false
left_false true b h = h
left_false false b h = refl

right_false : (a b : Bool) → a || b ≡ false → b ≡ false
right_false true b h = absurd (true≢false h)
right_false false b h = h

one_true : (a b : Bool) → a || b ≡ true → (a ≡ true) ⊎ (b ≡ true)
one_true true b h = inl refl
one_true false b h = inr h

not_both : (a b : Bool) → a && b ≡ false → b ≡ true → a ≡ false
not_both true b h is = absurd (true≢false (sym is ∙ h))
not_both false b h is = refl

same_place : (a b : ℕ) → nat_eq a b ≡ true → a ≡ b
same_place a b is = grind (arith, nat_tests)

is_less : (a b : ℕ) → a < b → nat_lt a b ≡ true
is_less a b less = grind (arith, nat_tests)

-- a value whose element stands behind so many octets, first of those with the number
module _ {X : Type 0} {R : ErrorKind → Type 0} (f : Form X) (h : IsForm R f) (number_of : X → List ℕ) (stands : (v : X) → f.good v → front_content (f.content v) ≡ number_of v) (octets number : List ℕ) where
  abbrev asked : X → Bool
  asked v = bytes_eq (number_of v) number

  -- these values stand behind the first octets
  pub record StandBehind (before : List ℕ) (n : ℕ) (values : List X) : Type 0 where
    pub octets_are : octets ≡ before ++ joined (spelling f) values
    pub good : all_good f.good values
    pub enough : length (joined (spelling f) values) ≤ n

  here : (v : X) (rest : List ℕ) → f.good v → piece_at (spelling f v ++ rest) ≡ Ok (record { tag = f.tag v; content = f.content v; rest = rest })
  here v rest good = piece_at-element (f.tag v) (f.content v) rest (h.tagged v good).1

  module _ (before : List ℕ) (n : ℕ) (v : X) (values : List X) (s : StandBehind before (suc n) (v ∷ values)) where
    abbrev rest : List ℕ
    rest = joined (spelling f) values

    good_first : f.good v
    unfolding all_good
    good_first = s.good.0

    -- the first of them stands there
    from_here : drop (length before) octets ≡ spelling f v ++ rest
    unfolding joined
    from_here = ap (drop (length before)) s.octets_are ∙ drop_at before (spelling f v ++ rest) (length before) refl

    number_here : number_at octets (length before) ≡ number_of v
    number_here =
        ap (λ bytes. front_content (front_content bytes)) from_here
        ∙ ap (λ (found : Result Piece ErrorKind). front_content (content_of found)) (here v rest good_first) ∙ stands v good_first

    read_here : field_at f.reading (drop (length before) octets) ≡ Ok (v, rest)
    read_here = ap (field_at f.reading) from_here ∙ field_complete f h v rest good_first

    some_octets : 1 ≤ length (spelling f v)
    unfolding element
    some_octets = omega arith

    behind : StandBehind (before ++ spelling f v) n values
    unfolding joined all_good
    behind = record {
      octets_are = s.octets_are ∙ sym (append_assoc before (spelling f v) rest);
      good = s.good.1;
      enough = omega (arith, s.enough, length-append (spelling f v) rest, some_octets);
    }

    places_here : places_at (suc n) (length octets) (joined (spelling f) (v ∷ values)) ≡ length before ∷ places_at n (length octets) rest
    unfolding joined places_at
    places_here =
        let place : length octets - length (spelling f v ++ rest) ≡ length before = omega (arith, ap length s.octets_are, length-append before (spelling f v ++ rest)) in
        rw (here v rest good_first, place) refl

    other_here : has_number octets number (length before) ≡ false → filter asked (v ∷ values) ≡ filter asked values
    other_here other = let not_asked : asked v ≡ false = sym (ap (λ found. bytes_eq found number) number_here) ∙ other in rw not_asked refl

    first_here : has_number octets number (length before) ≡ true → filter asked (v ∷ values) ≡ v ∷ filter asked values
    first_here has = let is_asked : asked v ≡ true = sym (ap (λ found. bytes_eq found number) number_here) ∙ has in rw is_asked refl

  none_enough : (before : List ℕ) (v : X) (values : List X) → StandBehind before zero (v ∷ values) → ⊥
  unfolding joined element
  none_enough before v values s = omega (arith, s.enough, length-append (spelling f v) (joined (spelling f) values))

  -- as many places as values
  pub as_many : (before : List ℕ) (n : ℕ) (values : List X) → StandBehind before n values → length (places_at n (length octets) (joined (spelling f) values)) ≡ length values
  unfolding joined places_at piece_at
  as_many before zero [] s = refl
  as_many before (suc n) [] s = refl
  as_many before zero (v ∷ values) s = absurd (none_enough before v values s)
  as_many before (suc n) (v ∷ values) s = ap length (places_here before n v values s) ∙ ap suc (as_many (before ++ spelling f v) n values (behind before n v values s))

  -- none of them is before the first
  none_sooner : (before : List ℕ) (n : ℕ) (values : List X) (place : ℕ) → StandBehind before n values → list_any (nat_eq place) (places_at n (length octets) (joined (spelling f) values)) ≡ true → length before ≤ place
  unfolding joined places_at piece_at
  none_sooner before zero [] place s there = absurd (true≢false (sym there))
  none_sooner before (suc n) [] place s there = absurd (true≢false (sym there))
  none_sooner before zero (v ∷ values) place s there = absurd (none_enough before v values s)
  none_sooner before (suc n) (v ∷ values) place s there =
      let among : nat_eq place (length before) || list_any (nat_eq place) (places_at n (length octets) (joined (spelling f) values)) ≡ true = sym (ap (list_any (nat_eq place)) (places_here before n v values s)) ∙ there in
      elim (one_true _ _ among) [
        | inl is ↦ let same : place ≡ length before = same_place place (length before) is in omega (arith, same)
        | inr later ↦ omega (arith, none_sooner (before ++ spelling f v) n values place (behind before n v values s) later, length-append before (spelling f v))
      ]

  -- where none of the places has the number, none of the values has
  pub none_asked : (before : List ℕ) (n : ℕ) (values : List X) → StandBehind before n values → list_any (has_number octets number) (places_at n (length octets) (joined (spelling f) values)) ≡ false → filter asked values ≡ []
  unfolding joined places_at piece_at
  none_asked before n [] s none = refl
  none_asked before zero (v ∷ values) s none = absurd (none_enough before v values s)
  none_asked before (suc n) (v ∷ values) s none =
      let among : has_number octets number (length before) || list_any (has_number octets number) (places_at n (length octets) (joined (spelling f) values)) ≡ false = sym (ap (list_any (has_number octets number)) (places_here before n v values s)) ∙ none in
      other_here before n v values s (left_false _ _ among) ∙ none_asked (before ++ spelling f v) n values (behind before n v values s) (right_false _ _ among)

  -- the first of the values with the number stands at the place
  pub record IsFirstAt (place : ℕ) (values : List X) : Type 0 where
    pub value : X
    pub others : List X
    pub rest : List ℕ
    pub first : filter asked values ≡ value ∷ others
    pub read : field_at f.reading (drop place octets) ≡ Ok (value, rest)

  pub first_asked : (before : List ℕ) (n : ℕ) (values : List X) (place : ℕ) → StandBehind before n values → IsFirstPlace octets number (places_at n (length octets) (joined (spelling f) values)) place → IsFirstAt place values
  unfolding joined places_at piece_at
  first_asked before zero [] place s p = absurd (true≢false (sym p.there))
  first_asked before (suc n) [] place s p = absurd (true≢false (sym p.there))
  first_asked before zero (v ∷ values) place s p = absurd (none_enough before v values s)
  first_asked before (suc n) (v ∷ values) place s p =
      let behind_places = places_at n (length octets) (joined (spelling f) values) in
      let among : nat_eq place (length before) || list_any (nat_eq place) behind_places ≡ true = sym (ap (list_any (nat_eq place)) (places_here before n v values s)) ∙ p.there in
      let sooner : is_before octets number place (length before) || list_any (is_before octets number place) behind_places ≡ false = sym (ap (list_any (is_before octets number place)) (places_here before n v values s)) ∙ p.first in
      elim (one_true _ _ among) [
        | inl is ↦
            let same = same_place place (length before) is in record {
              value = v;
              others = filter asked values;
              rest = joined (spelling f) values;
              first = first_here before n v values s (ap (has_number octets number) (sym same) ∙ p.has);
              read = ap (λ at. field_at f.reading (drop at octets)) same ∙ read_here before n v values s;
            }
        | inr later ↦
            let past = none_sooner (before ++ spelling f v) n values place (behind before n v values s) later in
            let less : length before < place = omega (arith, past, length-append before (spelling f v), some_octets before n v values s) in
            let other = not_both _ _ (left_false _ _ sooner) (is_less (length before) place less) in
            let found = first_asked (before ++ spelling f v) n values place (behind before n v values s) (record { there = later; has = p.has; first = right_false _ _ sooner }) in
            record { value = found.value; others = found.others; rest = found.rest; first = other_here before n v values s other ∙ found.first; read = found.read }
      ]
