-- What is lent of encoded names.
use Rattle.std.proofs.Common.{◌≡◌, ◌<◌, ◌≤◌, ℕ, List, [], ◌∷◌, ◌++◌, length, Ok, Err, refl, sym, ap, ◌∙◌, subst, arith, length-append, true, false, IsTrue, ◌↔◌, Option, Some, None, MatchOption}
use Rattle.std.proofs.lemmas.List.{append-nil}
use Rattle.std.proofs.lemmas.List.Elements.{All-head, All-tail}
use Rattle.std.proofs.lemmas.List.Sorted.{IsPermutation-refl}
use Rattle.x509_der.specs.Element.{element, is_identifier, length_octets}
use Rattle.x509_der.specs.ElementLaws.{piece_at-element, piece_at-sound}
use Rattle.x509_der.specs.ElementReading.{Piece, piece_at}
use Rattle.x509_der.specs.Form.{spelling, Spells}
use Rattle.x509_der.specs.Frames.{fields_good, fields_octets}
use Rattle.x509_der.specs.List.{all_good, joined}
use Rattle.x509_der.specs.Form.{IsContents}
use Rattle.x509_der.specs.Set.{set_good}
use Rattle.x509_der.specs.ObjectIdentifierForm.{object_identifier}
use Rattle.x509_der.specs.Outcome.{IsRefusal}
use Rattle.x509_der.specs.OutcomeLaws.{ok_is}
use Rattle.x509_der.specs.declared.error.ErrorKind.{ErrorKind}
use Rattle.x509_der.specs.declared.error.ErrorKind.TheVariants.{Malformed}
use Rattle.x509_der.specs.declared.error.ErrorKind.TheVariants as errors
use Rattle.x509_match.specs.Encoded.{AreAttributes, AreRdns, IsAttribute, LendsAttribute}
use Rattle.x509_match.specs.Plain.{ArePlain, IsPlainValue, IsPlainRdn, IsPlainName}
use Rattle.x509_match.specs.Matching.{NamesMatch, RdnsMatch}
use Rattle.x509_match.specs.declared.lent.AttributeRef.{AttributeRef}
use Rattle.x509_name.specs.Names.{name, rdn_list, relative_distinguished_name, attribute_set, attribute_set_lawful}
use Rattle.x509_name.specs.TypeAndValue.{attribute_type_and_value, type_and_value_fields}
use Rattle.x509_name.specs.declared.attr.type_and_value.AttributeTypeAndValue.{AttributeTypeAndValue}

-- ---- the element at the front

pub front_is : (bytes : List ℕ) (piece : Piece) (tag : ℕ) (content rest : List ℕ) → piece_at bytes ≡ Ok piece → is_identifier tag ≡ true → bytes ≡ element tag content ++ rest → (piece.tag ≡ tag) × (piece.content ≡ content) × (piece.rest ≡ rest)
front_is bytes piece tag content rest p id e =
    let same = ok_is piece (record { tag = tag; content = content; rest = rest }) (sym p ∙ ap piece_at e ∙ piece_at-element tag content rest id) in
    (ap (λ (q : Piece). q.tag) same, ap (λ (q : Piece). q.content) same, ap (λ (q : Piece). q.rest) same)

not_refused : (bytes : List ℕ) (tag : ℕ) (content rest : List ℕ) (e : ErrorKind) → is_identifier tag ≡ true → bytes ≡ element tag content ++ rest → piece_at bytes ≡ Err e → ⊥
not_refused bytes tag content rest e id is p = let q = sym p ∙ ap piece_at is ∙ piece_at-element tag content rest id in cc

pub no_front : (bytes : List ℕ) (tag : ℕ) (content rest : List ℕ) (e : ErrorKind) → IsRefusal e (piece_at bytes) → e ≡ Malformed → is_identifier tag ≡ true → bytes ≡ element tag content ++ rest → ⊥
no_front bytes tag content rest errors.Malformed p same id is = not_refused bytes tag content rest Malformed id is p
no_front bytes tag content rest errors.Memory p same id is = absurd cc
no_front bytes tag content rest errors.Overlength p same id is = absurd cc
no_front bytes tag content rest errors.Failed p same id is = absurd cc
no_front bytes tag content rest errors.SetDuplicate p same id is = absurd cc
no_front bytes tag content rest errors.Value p same id is = absurd cc

pub front_shorter : (bytes : List ℕ) (piece : Piece) → piece_at bytes ≡ Ok piece → length piece.rest < length bytes
unfolding element
front_shorter bytes piece e = omega (arith, ap length (piece_at-sound bytes piece e).0, length-append (element piece.tag piece.content) piece.rest, length-append (length_octets (length piece.content)) piece.content)

element_some : (tag : ℕ) (content rest : List ℕ) → 0 < length (element tag content ++ rest)
unfolding element
element_some tag content rest = omega arith

-- the same where nothing follows
pub whole_is : (bytes : List ℕ) (piece : Piece) (tag : ℕ) (content : List ℕ) → piece_at bytes ≡ Ok piece → is_identifier tag ≡ true → bytes ≡ element tag content → (piece.tag ≡ tag) × (piece.content ≡ content) × (piece.rest ≡ [])
whole_is bytes piece tag content p id e = front_is bytes piece tag content [] p id (e ∙ sym (append-nil (element tag content)))

pub no_whole : (bytes : List ℕ) (tag : ℕ) (content : List ℕ) (e : ErrorKind) → IsRefusal e (piece_at bytes) → e ≡ Malformed → is_identifier tag ≡ true → bytes ≡ element tag content → ⊥
no_whole bytes tag content e p same id is = no_front bytes tag content [] e p same id (is ∙ sym (append-nil (element tag content)))

-- ---- attributes

pub fields_of : (a : AttributeTypeAndValue) → attribute_type_and_value.good a → IsAttribute (attribute_type_and_value.content a) a
unfolding type_and_value_fields fields_good fields_octets element
fields_of a good = (good.0, good.1, refl)

pub attributes_front : (octets : List ℕ) (a : AttributeTypeAndValue) (behind : List AttributeTypeAndValue) → AreAttributes octets (a ∷ behind)
    → attribute_type_and_value.good a × (octets ≡ spelling attribute_type_and_value a ++ joined (spelling attribute_type_and_value) behind) × AreAttributes (joined (spelling attribute_type_and_value) behind) behind
unfolding all_good joined
attributes_front octets a behind h = (h.0.0, h.1, (h.0.1, refl))

pub attributes_some : (octets : List ℕ) (a : AttributeTypeAndValue) (behind : List AttributeTypeAndValue) → AreAttributes octets (a ∷ behind) → 0 < length octets
attributes_some octets a behind h = subst (λ z. 0 < length z) (sym (attributes_front octets a behind h).1) (element_some _ _ _)

pub attributes_none : (octets : List ℕ) → AreAttributes octets [] → octets ≡ []
unfolding joined
attributes_none octets h = h.1

-- ---- RDNs

pub rdns_front : (octets : List ℕ) (rdn : List AttributeTypeAndValue) (behind : List (List AttributeTypeAndValue)) → AreRdns octets (rdn ∷ behind)
    → relative_distinguished_name.good rdn × (octets ≡ spelling relative_distinguished_name rdn ++ joined (spelling relative_distinguished_name) behind) × AreRdns (joined (spelling relative_distinguished_name) behind) behind
unfolding all_good joined
rdns_front octets rdn behind h = (h.0.0, h.1, (h.0.1, refl))

pub rdns_some : (octets : List ℕ) (rdn : List AttributeTypeAndValue) (behind : List (List AttributeTypeAndValue)) → AreRdns octets (rdn ∷ behind) → 0 < length octets
rdns_some octets rdn behind h = subst (λ z. 0 < length z) (sym (rdns_front octets rdn behind h).1) (element_some _ _ _)

pub rdns_none : (octets : List ℕ) → AreRdns octets [] → octets ≡ []
unfolding joined
rdns_none octets h = h.1

-- ---- attributes of which there are some

pub attributes_cases : (octets : List ℕ) (attributes : List AttributeTypeAndValue) → AreAttributes octets attributes → 0 < length octets
    → (a : AttributeTypeAndValue) × (behind : List AttributeTypeAndValue) × (attributes ≡ a ∷ behind) × attribute_type_and_value.good a
    × (octets ≡ spelling attribute_type_and_value a ++ joined (spelling attribute_type_and_value) behind) × AreAttributes (joined (spelling attribute_type_and_value) behind) behind
attributes_cases octets [] h some = absurd (let none = attributes_none octets h in omega (arith, ap length none))
attributes_cases octets (a ∷ behind) h some = let f = attributes_front octets a behind h in (a, behind, refl, f.0, f.1, f.2)

pub attributes_end : (octets : List ℕ) (attributes : List AttributeTypeAndValue) → AreAttributes octets attributes → length octets ≡ 0 → attributes ≡ []
attributes_end octets [] h none = refl
attributes_end octets (a ∷ behind) h none = absurd (let some = attributes_some octets a behind h in omega arith)

pub rdns_cases : (octets : List ℕ) (rdns : List (List AttributeTypeAndValue)) → AreRdns octets rdns → 0 < length octets
    → (rdn : List AttributeTypeAndValue) × (behind : List (List AttributeTypeAndValue)) × (rdns ≡ rdn ∷ behind) × relative_distinguished_name.good rdn
    × (octets ≡ spelling relative_distinguished_name rdn ++ joined (spelling relative_distinguished_name) behind) × AreRdns (joined (spelling relative_distinguished_name) behind) behind
rdns_cases octets [] h some = absurd (let none = rdns_none octets h in omega (arith, ap length none))
rdns_cases octets (rdn ∷ behind) h some = let f = rdns_front octets rdn behind h in (rdn, behind, refl, f.0, f.1, f.2)

pub rdns_end : (octets : List ℕ) (rdns : List (List AttributeTypeAndValue)) → AreRdns octets rdns → length octets ≡ 0 → rdns ≡ []
rdns_end octets [] h none = refl
rdns_end octets (rdn ∷ behind) h none = absurd (let some = rdns_some octets rdn behind h in omega arith)

-- ---- OIDs that differ

pub oid_short : (oid : List ℕ) → object_identifier.good oid → length oid ≤ 39
oid_short oid good = subst (λ z. length z ≤ 39) (sym good.2) good.1.short

-- ---- what is lent

pub lends_some : (found : Option AttributeRef) (lent : AttributeRef) (a : AttributeTypeAndValue) → found ≡ Some lent → MatchOption found ⊥ (λ lent. LendsAttribute lent a) → LendsAttribute lent a
lends_some found lent a is h = subst (λ o. MatchOption o ⊥ (λ l. LendsAttribute l a)) is h

pub lends_none : (found : Option AttributeRef) (a : AttributeTypeAndValue) → found ≡ None → MatchOption found ⊥ (λ lent. LendsAttribute lent a) → ⊥
lends_none found a is h = subst (λ o. MatchOption o ⊥ (λ l. LendsAttribute l a)) is h

-- the attribute at the front, where there are some
pub record HasFront (octets : List ℕ) (attributes : List AttributeTypeAndValue) : Type 0 where
  pub first : AttributeTypeAndValue
  pub behind : List AttributeTypeAndValue
  pub are : attributes ≡ first ∷ behind
  pub good : attribute_type_and_value.good first
  pub octets_are : octets ≡ spelling attribute_type_and_value first ++ joined (spelling attribute_type_and_value) behind

pub has_front : (octets : List ℕ) (attributes : List AttributeTypeAndValue) → AreAttributes octets attributes → 0 < length octets → HasFront octets attributes
has_front octets attributes h some = let s = attributes_cases octets attributes h some in record { first = s.0; behind = s.1; are = s.2; good = s.3; octets_are = s.4 }

pub behind_front : (octets rest : List ℕ) (attributes : List AttributeTypeAndValue) (h : AreAttributes octets attributes) (some : 0 < length octets) → rest ≡ joined (spelling attribute_type_and_value) (has_front octets attributes h some).behind → AreAttributes rest (has_front octets attributes h some).behind
unfolding has_front attributes_cases
behind_front octets rest attributes h some e = let s = attributes_cases octets attributes h some in subst (λ z. AreAttributes z s.1) (sym e) s.5

pub plain_first : (octets : List ℕ) (attributes : List AttributeTypeAndValue) (h : AreAttributes octets attributes) (some : 0 < length octets) → ArePlain attributes → IsPlainValue (has_front octets attributes h some).first × ArePlain (has_front octets attributes h some).behind
unfolding has_front attributes_cases
plain_first octets attributes h some plain =
    let s = attributes_cases octets attributes h some in
    let p = subst ArePlain s.2 plain in
    (All-head IsPlainValue s.0 s.1 p, All-tail IsPlainValue s.0 s.1 p)

-- ---- sets

pub set_attributes : (octets : List ℕ) (attributes : List AttributeTypeAndValue) → attribute_set.good attributes → octets ≡ attribute_set.octets attributes → AreAttributes octets attributes
unfolding set_good
set_attributes octets attributes good is = (good.0, is)

set_lawful : IsContents (λ e. ⊥) attribute_set
set_lawful = attribute_set_lawful

pub set_read : (octets : List ℕ) (attributes found : List AttributeTypeAndValue) → attribute_set.good attributes → octets ≡ attribute_set.octets attributes → attribute_set.reading octets ≡ Ok found → found ≡ attributes
set_read octets attributes found good is read = ok_is found attributes (sym read ∙ ap attribute_set.reading is ∙ set_lawful.complete attributes good)

-- RDNs whose attributes are the same octets match
pub same_octets_match : (octets : List ℕ) (xs ys : List AttributeTypeAndValue) → attribute_set.good xs → attribute_set.good ys → octets ≡ attribute_set.octets xs → octets ≡ attribute_set.octets ys → RdnsMatch xs ys
same_octets_match octets xs ys gx gy p q =
    let same : xs ≡ ys = set_read octets ys xs gy q (ap attribute_set.reading p ∙ set_lawful.complete xs gx) in
    subst (RdnsMatch xs) same (IsPermutation-refl _)

-- ---- RDNs, one after the other

pub record HasRdn (octets : List ℕ) (rdns : List (List AttributeTypeAndValue)) : Type 0 where
  pub first : List AttributeTypeAndValue
  pub behind : List (List AttributeTypeAndValue)
  pub are : rdns ≡ first ∷ behind
  pub good : attribute_set.good first
  pub octets_are : octets ≡ element 49 (attribute_set.octets first) ++ joined (spelling relative_distinguished_name) behind

pub has_rdn : (octets : List ℕ) (rdns : List (List AttributeTypeAndValue)) → AreRdns octets rdns → 0 < length octets → HasRdn octets rdns
has_rdn octets rdns h some = let s = rdns_cases octets rdns h some in record { first = s.0; behind = s.1; are = s.2; good = s.3; octets_are = s.4 }

pub behind_rdn : (octets rest : List ℕ) (rdns : List (List AttributeTypeAndValue)) (h : AreRdns octets rdns) (some : 0 < length octets) → rest ≡ joined (spelling relative_distinguished_name) (has_rdn octets rdns h some).behind → AreRdns rest (has_rdn octets rdns h some).behind
unfolding has_rdn rdns_cases
behind_rdn octets rest rdns h some e = let s = rdns_cases octets rdns h some in subst (λ z. AreRdns z s.1) (sym e) s.5

pub plain_rdn : (octets : List ℕ) (rdns : List (List AttributeTypeAndValue)) (h : AreRdns octets rdns) (some : 0 < length octets) → IsPlainName rdns → IsPlainRdn (has_rdn octets rdns h some).first × IsPlainName (has_rdn octets rdns h some).behind
unfolding has_rdn rdns_cases
plain_rdn octets rdns h some plain = let s = rdns_cases octets rdns h some in let p = subst IsPlainName s.2 plain in (p.0, p.1)

nothing_matches : (ys : List (List AttributeTypeAndValue)) → NamesMatch [] ys → ys ≡ []
nothing_matches [] h = refl
nothing_matches (y ∷ ys) h = absurd h

module _ {W : Type 0} (xs ys : List (List AttributeTypeAndValue)) (same : NamesMatch xs ys ↔ W) where
  pub one_rdn_less : (x y : List AttributeTypeAndValue) (x_behind y_behind : List (List AttributeTypeAndValue)) → xs ≡ x ∷ x_behind → ys ≡ y ∷ y_behind → RdnsMatch x y → NamesMatch x_behind y_behind ↔ W
  one_rdn_less x y x_behind y_behind p q match =
      let now : NamesMatch (x ∷ x_behind) (y ∷ y_behind) ↔ W = subst (λ z. NamesMatch (x ∷ x_behind) z ↔ W) q (subst (λ z. NamesMatch z ys ↔ W) p same) in
      (λ h. now.0 (match, h), λ w. (now.1 w).1)

  pub one_rdn_apart : (x y : List AttributeTypeAndValue) (x_behind y_behind : List (List AttributeTypeAndValue)) → xs ≡ x ∷ x_behind → ys ≡ y ∷ y_behind → (RdnsMatch x y → ⊥) → IsTrue false ↔ W
  one_rdn_apart x y x_behind y_behind p q apart =
      let now : NamesMatch (x ∷ x_behind) (y ∷ y_behind) ↔ W = subst (λ z. NamesMatch (x ∷ x_behind) z ↔ W) q (subst (λ z. NamesMatch z ys ↔ W) p same) in
      (λ t. absurd cc, λ w. absurd (apart (now.1 w).0))

  pub one_is_longer : (x : List AttributeTypeAndValue) (x_behind : List (List AttributeTypeAndValue)) → xs ≡ x ∷ x_behind → ys ≡ [] → IsTrue false ↔ W
  one_is_longer x x_behind p q =
      let now : NamesMatch (x ∷ x_behind) [] ↔ W = subst (λ z. NamesMatch (x ∷ x_behind) z ↔ W) q (subst (λ z. NamesMatch z ys ↔ W) p same) in
      (λ t. absurd cc, λ w. absurd (now.1 w))

  pub both_end : xs ≡ [] → ys ≡ [] → W
  both_end p q =
      let now : NamesMatch [] [] ↔ W = subst (λ z. NamesMatch [] z ↔ W) q (subst (λ z. NamesMatch z ys ↔ W) p same) in
      now.0 tt

  pub other_ends : W → xs ≡ [] → ys ≡ []
  other_ends w p = let now : NamesMatch [] ys ↔ W = subst (λ z. NamesMatch z ys ↔ W) p same in nothing_matches ys (now.1 w)

pub rdns_empty : (octets : List ℕ) (rdns : List (List AttributeTypeAndValue)) → AreRdns octets rdns → rdns ≡ [] → length octets ≡ 0
rdns_empty octets rdns h none = ap length (rdns_none octets (subst (AreRdns octets) none h))

-- ---- names

pub name_content : (octets : List ℕ) (x : List (List AttributeTypeAndValue)) → Spells name x octets → octets ≡ element 48 (rdn_list.octets x) ++ []
name_content octets x h = h.1 ∙ sym (append-nil (element 48 (rdn_list.octets x)))
