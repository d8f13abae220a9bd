-- RDNs match where as many attributes of the one as of the other match each of the one.
use Rattle.std.proofs.Common.{◌≡◌, ℕ, zero, suc, ◌+◌, ◌<◌, ◌≤◌, Bool, true, false, cond, bytes_eq, ◌↔◌, ◌≢◌, not, if◌then◌else◌, IsTrue, take, append_assoc, List, [], ◌∷◌, ◌++◌, length, get_or, map, All, refl, sym, ap, ◌∙◌, subst, arith, inl, inr, suc-le-suc, zero-le, le_of_suc-le-suc}
use Rattle.std.proofs.lemmas.Bool.{cases_Bool}
use Rattle.std.proofs.lemmas.List.{append-nil, nil_from_length, take_more, take_all, map_push, length-map}
use Rattle.std.proofs.lemmas.List.Elements.{All-push}
use Rattle.std.proofs.lemmas.List.Sorted.{IsPermutation-refl, IsPermutation-sym, IsPermutation-trans, IsPermutation-cons, IsPermutation-middle, length_permutation, sum_by-IsPermutation}
use Rattle.std.proofs.lemmas.List.Sums.{sum_by-cons, sum_by-append}
use Rattle.std.specs.Cmp.Lexicographic.{bytes_decides}
use Rattle.std.specs.List.Sorted.{IsPermutation}
use Rattle.x509_name.specs.declared.attr.type_and_value.AttributeTypeAndValue.{AttributeTypeAndValue}
use Rattle.x509_match.proofs.AttributesAgree.{attributes_agree}
use Rattle.x509_match.specs.Keys.{attribute_key}
use Rattle.x509_match.specs.Matching.{RdnsMatch}
use Rattle.x509_match.specs.Plain.{tally}

abbrev own : List ℕ → List ℕ → ℕ
own one key = cond (bytes_eq one key) 1 0

tally-cons : (one key : List ℕ) (keys : List (List ℕ)) → tally one (key ∷ keys) ≡ own one key + tally one keys
tally-cons one key keys = sum_by-cons (own one) key keys

own-one : (one : List ℕ) → own one one ≡ 1
own-one one = rw ((bytes_decides one one).1 refl) refl

pub tally-permutation : (one : List ℕ) (xs ys : List (List ℕ)) → IsPermutation xs ys → tally one xs ≡ tally one ys
tally-permutation one xs ys p = sym (sum_by-IsPermutation (own one) xs ys p)

-- one that is there stands in front of the others
taken : (one : List ℕ) (keys : List (List ℕ)) → 1 ≤ tally one keys → (others : List (List ℕ)) × IsPermutation keys (one ∷ others)
taken one [] h = absurd (omega arith)
taken one (key ∷ keys) h = elim (cases_Bool (bytes_eq one key)) [
  | inl same ↦ (keys, subst (λ z. IsPermutation (key ∷ keys) (z ∷ keys)) (sym ((bytes_decides one key).0 same)) (IsPermutation-refl (key ∷ keys)))
  | inr other ↦
      let none : own one key ≡ 0 = rw other refl in
      let all = tally-cons one key keys in
      let found = taken one keys (omega arith) in
      (key ∷ found.0, IsPermutation-trans _ _ _ (IsPermutation-cons key keys (one ∷ found.0) found.1) (IsPermutation-middle (key ∷ []) one found.0))
]

abbrev pub SameTally : List (List ℕ) → List (List ℕ) → List ℕ → Type 0
SameTally xs ys one = tally one xs ≡ tally one ys

pub partners : (xs ys : List (List ℕ)) → length xs ≡ length ys → All (SameTally xs ys) xs → IsPermutation xs ys
partners [] ys len h = let none : ys ≡ [] = nil_from_length ys (sym len) in rw none (IsPermutation-refl [])
partners (x ∷ xs) ys len h =
    let first : tally x (x ∷ xs) ≡ tally x ys = h zero x (suc-le-suc zero-le) in
    let all = tally-cons x x xs in
    let one = own-one x in
    let found = taken x ys (omega arith) in
    let short : length xs ≡ length found.0 = let l = length_permutation ys (x ∷ found.0) found.1 in omega arith in
    let rest = partners xs found.0 short (λ k d lt.
    let here = h (suc k) d (suc-le-suc lt) in
    let key : List ℕ = get_or xs k d in
    let a = tally-cons key x xs in
    let b = tally-cons key x found.0 in
    let m = tally-permutation key ys (x ∷ found.0) found.1 in
    let now : tally key (x ∷ xs) ≡ tally key ys = here in
    omega arith) in
    IsPermutation-trans _ _ _ (IsPermutation-cons x xs found.0 rest) (IsPermutation-sym _ _ found.1)

-- ---- over attributes

pub types_apart : (a b : AttributeTypeAndValue) (r : Bool) → r ≡ not (bytes_eq a.oid b.oid) → r ≡ true → IsTrue false ↔ (attribute_key a ≡ attribute_key b)
types_apart a b r h e = (
  λ t. absurd cc,
  λ k.
      let same = (bytes_decides a.oid b.oid).1 ((attributes_agree a b).0 k).0 in
      absurd (let x = sym h ∙ e in let y = rw same at x in cc),
)

own-is : (one key : List ℕ) (r : Bool) → (IsTrue r ↔ (one ≡ key)) → own one key ≡ (if r then 1 else 0)
own-is one key true h = rw ((bytes_decides one key).1 (h.0 refl)) refl
own-is one key false h = elim (cases_Bool (bytes_eq one key)) [
  | inl same ↦ absurd (let k = h.1 ((bytes_decides one key).0 same) in cc)
  | inr other ↦ rw other refl
]

pub count_more : (one : List ℕ) (xs : List AttributeTypeAndValue) (i count more : ℕ) (x : AttributeTypeAndValue) (r : Bool) → i < length xs → x ≡ get_or xs i x → (IsTrue r ↔ (one ≡ attribute_key x))
    → count ≡ tally one (map attribute_key (take i xs)) → more ≡ (if r then 1 else 0) + count → more ≡ tally one (map attribute_key (take (i + 1) xs))
count_more one xs i count more x r lt at is before e =
    let longer : take (i + 1) xs ≡ take i xs ++ x ∷ [] = take_more xs i x lt ∙ ap (λ z. take i xs ++ z ∷ []) (sym at) in
    let keys : map attribute_key (take (i + 1) xs) ≡ map attribute_key (take i xs) ++ attribute_key x ∷ [] = ap (map attribute_key) longer ∙ map_push attribute_key (take i xs) x in
    let sum = sum_by-append (own one) (map attribute_key (take i xs)) (attribute_key x ∷ []) in
    let last = tally-cons one (attribute_key x) [] in
    let same = own-is one (attribute_key x) r is in
    rw keys (omega arith)

abbrev pub HasPartners : List AttributeTypeAndValue → List AttributeTypeAndValue → AttributeTypeAndValue → Type 0
HasPartners a b x = tally (attribute_key x) (map attribute_key a) ≡ tally (attribute_key x) (map attribute_key b)

keyed : (a b xs : List AttributeTypeAndValue) → All (HasPartners a b) xs → All (SameTally (map attribute_key a) (map attribute_key b)) (map attribute_key xs)
keyed a b [] h k d lt = absurd (omega arith)
keyed a b (x ∷ xs) h zero d lt = h zero x (suc-le-suc zero-le)
keyed a b (x ∷ xs) h (suc k) d lt = keyed a b xs (λ j e below. h (suc j) e (suc-le-suc below)) k d (le_of_suc-le-suc lt)

pub all_partners : (a b : List AttributeTypeAndValue) (i : ℕ) → length a ≤ i → length a ≡ length b → All (HasPartners a b) (take i a) → IsPermutation (map attribute_key a) (map attribute_key b)
all_partners a b i whole len h =
    let all : take i a ≡ a = take_all i a whole in
    partners _ _ (length-map a attribute_key ∙ len ∙ sym (length-map b attribute_key)) (keyed a b a (subst (All (HasPartners a b)) all h))

pub one_partner_more : (a b xs : List AttributeTypeAndValue) (i : ℕ) (x : AttributeTypeAndValue) → i < length xs → x ≡ get_or xs i x → All (HasPartners a b) (take i xs) → HasPartners a b x → All (HasPartners a b) (take (i + 1) xs)
one_partner_more a b xs i x lt at h e =
    let longer : take (i + 1) xs ≡ take i xs ++ x ∷ [] = take_more xs i x lt ∙ ap (λ z. take i xs ++ z ∷ []) (sym at) in
    rw longer (All-push (HasPartners a b) (take i xs) x h e)

pub lengths_apart : (a b : List AttributeTypeAndValue) → length a ≢ length b → IsTrue false ↔ RdnsMatch a b
lengths_apart a b apart = (λ t. absurd cc, λ p. absurd (apart (sym (length-map a attribute_key) ∙ sym (length_permutation _ _ p) ∙ length-map b attribute_key)))

pub lent_apart : (a b : AttributeTypeAndValue) (x y : List ℕ) (r : Bool) → x ≡ a.oid → y ≡ b.oid → r ≡ not (bytes_eq x y) → r ≡ true → IsTrue false ↔ (attribute_key a ≡ attribute_key b)
lent_apart a b x y r p q h e = types_apart a b r (h ∙ ap (λ z. not (bytes_eq z y)) p ∙ ap (λ z. not (bytes_eq a.oid z)) q) e

-- ---- over what is lent

-- one attribute less is left, and the count has it where it matches
pub tally_less : (one : List ℕ) (a : AttributeTypeAndValue) (behind : List AttributeTypeAndValue) (attributes : List AttributeTypeAndValue) (count more total : ℕ) (r : Bool)
    → (IsTrue r ↔ (one ≡ attribute_key a)) → attributes ≡ a ∷ behind → more ≡ (if r then 1 else 0) + count
    → count + tally one (map attribute_key attributes) ≡ total → more + tally one (map attribute_key behind) ≡ total
tally_less one a behind attributes count more total r is are e h =
    let same = own-is one (attribute_key a) r is in
    let here : tally one (map attribute_key attributes) ≡ own one (attribute_key a) + tally one (map attribute_key behind) = ap (λ z. tally one (map attribute_key z)) are ∙ tally-cons one (attribute_key a) (map attribute_key behind) in
    omega (arith, same, here, h, e)

pub partners_of_all : (a b front behind : List AttributeTypeAndValue) → a ≡ front ++ behind → behind ≡ [] → length a ≡ length b → All (HasPartners a b) front → RdnsMatch a b
partners_of_all a b front behind split none len h =
    let whole : a ≡ front = split ∙ ap (λ z. front ++ z) none ∙ append-nil front in
    let all : take (length a) a ≡ a = take_all (length a) a (omega arith) in
    all_partners a b (length a) (omega arith) len (subst (All (HasPartners a b)) (sym (all ∙ whole)) h)

-- a partner more behind those before
pub one_more_front : (a b front behind left : List AttributeTypeAndValue) (x : AttributeTypeAndValue) → a ≡ front ++ left → left ≡ x ∷ behind → a ≡ (front ++ x ∷ []) ++ behind
one_more_front a b front behind left x split are = split ∙ ap (λ z. front ++ z) are ∙ sym (append_assoc front (x ∷ []) behind)

pub without_partners : (a b : List AttributeTypeAndValue) (x : AttributeTypeAndValue) → (HasPartners a b x → ⊥) → IsTrue false ↔ RdnsMatch a b
without_partners a b x apart = (λ t. absurd cc, λ p. absurd (apart (tally-permutation (attribute_key x) (map attribute_key a) (map attribute_key b) p)))
