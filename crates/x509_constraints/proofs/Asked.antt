-- The names of a certificate, asked one after the other.
use Rattle.std.proofs.Common.{◌≡◌, ◌↔◌, ℕ, ◌+◌, ◌<◌, ◌≤◌, Bool, true, false, cond, List, [], ◌∷◌, ◌++◌, map, take, length, get_or, bytes_eq, refl, sym, ap, ◌∙◌, subst, IsTrue, Option, None, Some, Bor}
use Rattle.std.proofs.lemmas.List.{take_all}
use Rattle.std.proofs.lemmas.List.Elements.{All-append, All-cons, All-get_or, All-head, All-more, All-nil, All-tail}
use Rattle.std.specs.List.{All, filter}
use Rattle.std.specs.Option.{option_copied}
use Rattle.x509_ext.specs.declared.pkix.alternative_names.SubjectAltName.{SubjectAltName}
use Rattle.x509_ext.specs.declared.pkix.name.general_name.GeneralName.{GeneralName}
use Rattle.x509_ext.specs.declared.pkix.name.general_name.GeneralName.TheVariants.{DirectoryName, Rfc822Name}
use Rattle.x509_ext.specs.declared.pkix.name_constraints.NameConstraints.{NameConstraints}
use Rattle.x509_name.specs.AttributeTypes as types
use Rattle.x509_name.specs.Iterators.{members_of}
use Rattle.x509_name.specs.declared.attr.type_and_value.AttributeTypeAndValue.{AttributeTypeAndValue}
use Rattle.x509_constraints.specs.Constraints.{AreAllowed, IsAllowed, IsAttributeAllowed, address_of, email_of, emails_of, others_asked, subject_asked}

clash : (b : Bool) → b ≡ true → b ≡ false → ⊥
clash b t f = let e : true ≡ false = sym t ∙ f in cc

-- ---- one after the other

pub all_done : {X : Type 0} (P : X → Type 0) (xs : List X) (n : ℕ) → length xs ≤ n → All P (take n xs) → IsTrue true ↔ All P xs
all_done P xs n whole all =
    let Q : List _ → Type 0 = λ l. All P l in
    ((λ h. subst Q (take_all n xs whole) all), (λ h. refl))

pub not_all : {X : Type 0} (P : X → Type 0) (xs : List X) (i : ℕ) (x : X) (b : Bool) → i < length xs → x ≡ get_or xs i x → IsTrue b ↔ P x → b ≡ false →
    IsTrue false ↔ All P xs
not_all P xs i x b inside at answers is = (
  (λ h. absurd (let e : false ≡ true = h in cc)),
  (λ all. absurd (clash b (answers.1 (subst P (sym at) (All-get_or P xs i x inside all))) is)),
)

pub all_step : {X : Type 0} (P : X → Type 0) (xs : List X) (i : ℕ) (x : X) (b : Bool) → i < length xs → x ≡ get_or xs i x → IsTrue b ↔ P x → b ≡ true →
    All P (take i xs) → All P (take (i + 1) xs)
all_step P xs i x b inside at answers is all = All-more P xs i x inside all (subst P at (answers.0 is))

all_parts : {X : Type 0} (P : X → Type 0) (xs ys : List X) → All P (xs ++ ys) → All P xs × All P ys
all_parts P [] ys all = (All-nil P, all)
all_parts P (x ∷ xs) ys all =
    let more = all_parts P xs ys (All-tail P x (xs ++ ys) all) in
    (All-cons P x xs (All-head P x (xs ++ ys) all) more.0, more.1)

pub names_refused : {X : Type 0} (P : X → Type 0) (xs ys : List X) (b : Bool) → IsTrue b ↔ All P xs → b ≡ false → IsTrue false ↔ All P (xs ++ ys)
names_refused P xs ys b answers is = (
  (λ h. absurd (let e : false ≡ true = h in cc)),
  (λ all. absurd (clash b (answers.1 ((all_parts P xs ys all).0)) is)),
)

pub names_rest : {X : Type 0} (P : X → Type 0) (xs ys : List X) (b r : Bool) → IsTrue b ↔ All P xs → b ≡ true → IsTrue r ↔ All P ys → IsTrue r ↔ All P (xs ++ ys)
names_rest P xs ys b r answers is others = (
  (λ h. All-append P xs ys (answers.0 is) (others.0 h)),
  (λ all. others.1 ((all_parts P xs ys all).1)),
)

-- ---- the subject

pub subject_answers : (sets : List NameConstraints) (subject : List (List AttributeTypeAndValue)) (e b : Bool) → IsTrue e ↔ (subject ≡ []) → e ≡ false →
    IsTrue b ↔ IsAllowed sets (DirectoryName subject) → IsTrue b ↔ AreAllowed sets (subject_asked subject)
subject_answers sets [] e b empty is answers = absurd (clash e (empty.1 refl) is)
subject_answers sets (rdn ∷ rdns) e b empty is answers = (
  (λ h. All-cons (λ name. IsAllowed sets name) (DirectoryName (rdn ∷ rdns)) [] (answers.0 h) (All-nil (λ name. IsAllowed sets name))),
  (λ all. answers.1 (All-head (λ name. IsAllowed sets name) (DirectoryName (rdn ∷ rdns)) [] all)),
)

-- ---- addresses of e-mail in it

pub attribute_answers : (sets : List NameConstraints) (a : AttributeTypeAndValue) (text : List ℕ) (b : Bool) → bytes_eq a.oid types.email_address ≡ true →
    text ≡ address_of a.value.tag a.value.value → IsTrue b ↔ IsAllowed sets (Rfc822Name text) → IsTrue b ↔ IsAttributeAllowed sets a
attribute_answers sets a text b is_email is answers =
    let P : List ℕ → Type 0 = λ t. IsAllowed sets (Rfc822Name t) in
    ((λ h _. subst P is (answers.0 h)), (λ h. answers.1 (subst P (sym is) (h is_email))))

emails-append : (xs ys : List AttributeTypeAndValue) → emails_of (xs ++ ys) ≡ emails_of xs ++ emails_of ys
emails-append [] ys = refl
emails-append (x ∷ xs) ys = by_test (bytes_eq x.oid types.email_address) (emails-append xs ys)
  where
    by_test : (b : Bool) → emails_of (xs ++ ys) ≡ emails_of xs ++ emails_of ys →
        map email_of (cond b (x ∷ filter (λ a. bytes_eq a.oid types.email_address) (xs ++ ys)) (filter (λ a. bytes_eq a.oid types.email_address) (xs ++ ys)))
        ≡ map email_of (cond b (x ∷ filter (λ a. bytes_eq a.oid types.email_address) xs) (filter (λ a. bytes_eq a.oid types.email_address) xs)) ++ emails_of ys
    by_test true later = ap (λ l. email_of x ∷ l) later
    by_test false later = later

emails_all : (sets : List NameConstraints) (xs : List AttributeTypeAndValue) → All (λ a. IsAttributeAllowed sets a) xs ↔ AreAllowed sets (emails_of xs)
emails_all sets [] = ((λ h. All-nil (λ name. IsAllowed sets name)), (λ h. All-nil (λ a. IsAttributeAllowed sets a)))
emails_all sets (x ∷ xs) = by_test (bytes_eq x.oid types.email_address) refl (emails_all sets xs)
  where
    by_test : (b : Bool) → bytes_eq x.oid types.email_address ≡ b → All (λ a. IsAttributeAllowed sets a) xs ↔ AreAllowed sets (emails_of xs) →
        All (λ a. IsAttributeAllowed sets a) (x ∷ xs)
        ↔ AreAllowed sets (map email_of (cond b (x ∷ filter (λ a. bytes_eq a.oid types.email_address) xs) (filter (λ a. bytes_eq a.oid types.email_address) xs)))
    by_test true is others = (
      (λ h. All-cons (λ name. IsAllowed sets name) (email_of x) (emails_of xs) (All-head (λ a. IsAttributeAllowed sets a) x xs h is) (others.0 (All-tail (λ a. IsAttributeAllowed sets a) x xs h))),
      (λ h. All-cons (λ a. IsAttributeAllowed sets a) x xs (λ _. All-head (λ name. IsAllowed sets name) (email_of x) (emails_of xs) h)
          (others.1 (All-tail (λ name. IsAllowed sets name) (email_of x) (emails_of xs) h))),
    )
    by_test false is others = (
      (λ h. others.0 (All-tail (λ a. IsAttributeAllowed sets a) x xs h)),
      (λ h. All-cons (λ a. IsAttributeAllowed sets a) x xs (λ e. absurd (clash _ e is)) (others.1 h)),
    )

rdns_all : (sets : List NameConstraints) (rdns : List (List AttributeTypeAndValue)) →
    All (λ rdn. All (λ a. IsAttributeAllowed sets a) rdn) rdns ↔ AreAllowed sets (emails_of (members_of rdns))
rdns_all sets [] = ((λ h. All-nil (λ name. IsAllowed sets name)), (λ h. All-nil (λ rdn. All (λ a. IsAttributeAllowed sets a) rdn)))
rdns_all sets (rdn ∷ rdns) = both (emails_all sets rdn) (rdns_all sets rdns)
  where
    both : All (λ a. IsAttributeAllowed sets a) rdn ↔ AreAllowed sets (emails_of rdn) →
        All (λ r. All (λ a. IsAttributeAllowed sets a) r) rdns ↔ AreAllowed sets (emails_of (members_of rdns)) →
        All (λ r. All (λ a. IsAttributeAllowed sets a) r) (rdn ∷ rdns) ↔ AreAllowed sets (emails_of (rdn ++ members_of rdns))
    both own others =
        let P : List GeneralName → Type 0 = λ l. AreAllowed sets l in
        let joined = emails-append rdn (members_of rdns) in (
          (λ h. subst P (sym joined) (All-append (λ name. IsAllowed sets name) (emails_of rdn) (emails_of (members_of rdns))
              (own.0 (All-head (λ r. All (λ a. IsAttributeAllowed sets a) r) rdn rdns h)) (others.0 (All-tail (λ r. All (λ a. IsAttributeAllowed sets a) r) rdn rdns h)))),
          (λ h. let parts = all_parts (λ name. IsAllowed sets name) (emails_of rdn) (emails_of (members_of rdns)) (subst P joined h) in
              All-cons (λ r. All (λ a. IsAttributeAllowed sets a) r) rdn rdns (own.1 parts.0) (others.1 parts.1)),
        )

-- ---- the others

pub others_some : (sets : List NameConstraints) (subject : List (List AttributeTypeAndValue)) (o : Option (Bor SubjectAltName)) (names : Bor SubjectAltName)
    (list : List GeneralName) (b : Bool) → o ≡ Some names → list ≡ names.now.0 → IsTrue b ↔ AreAllowed sets list →
    IsTrue b ↔ AreAllowed sets (others_asked subject (option_copied o))
others_some sets subject o names list b is list_is answers =
    let e : list ≡ others_asked subject (option_copied o) = list_is ∙ ap (λ x. others_asked subject (option_copied x)) (sym is) in
    let P : List GeneralName → Type 0 = λ l. IsTrue b ↔ AreAllowed sets l in
    subst P e answers

pub others_none : (sets : List NameConstraints) (subject list : List (List AttributeTypeAndValue)) (o : Option (Bor SubjectAltName)) (b : Bool) → o ≡ None →
    list ≡ subject → IsTrue b ↔ All (λ rdn. All (λ a. IsAttributeAllowed sets a) rdn) list → IsTrue b ↔ AreAllowed sets (others_asked subject (option_copied o))
others_none sets subject list o b is list_is answers =
    let all = rdns_all sets list in
    let e : emails_of (members_of list) ≡ others_asked subject (option_copied o) =
    ap (λ l. emails_of (members_of l)) list_is ∙ ap (λ x. others_asked subject (option_copied x)) (sym is) in
    let P : List GeneralName → Type 0 = λ l. IsTrue b ↔ AreAllowed sets l in
    subst P e ((λ h. all.0 (answers.0 h)), (λ h. answers.1 (all.1 h)))
