-- Keys of DNS names say which subtrees exclude them, wildcards among them.
use Rattle.std.proofs.Common.{◌≡◌, ◌==◌, ◌⊎◌, inl, inr, ◌↔◌, ℕ, Bool, true, false, ◌&&◌, ◌||◌, List, [], ◌∷◌, ◌++◌, Option, None, Some, reverse, refl, sym, ◌∙◌, ap, subst, arith, if◌then◌else◌}
use Rattle.std.proofs.lemmas.Bool.{and_parts, cases_Bool, or_cases}
use Rattle.std.proofs.lemmas.Bool.Decides.{eqb_tells, nat_tests}
use Rattle.std.proofs.lemmas.List.Folds.{list_any-append}
use Rattle.std.proofs.lemmas.List.{map-append, reverse-reverse}
use Rattle.std.specs.Char.{to_ascii_lowercase}
use Rattle.std.specs.List.{list_all, onto_first}
use Rattle.x509_constraints.specs.Host.{EndsWith, IsDotted, IsHostOf, IsOneWithinDns, IsWithinDns}
use Rattle.x509_constraints.specs.Keys.{behind_label, dns_key, dns_prefixes, excluded_dns_prefixes, key_if, stop, stopped, symbols, turned, wildcard_keys}
use Rattle.x509_constraints.specs.Prefixes.{begins, has_prefix}
use Rattle.x509_constraints.proofs.KeyLaws.{begins_none, dns_answers, stops_meet}
use Rattle.x509_host.specs.Host.{dot, is_host, is_host_or_wildcard, is_label, is_label_octet, labels_of, lower, star}

clash : (b : Bool) → b ≡ true → b ≡ false → ⊥
clash b t f = let e : true ≡ false = sym t ∙ f in cc

or_left : (a b : Bool) → a ≡ true → (a || b) ≡ true
or_left true b h = refl
or_left false b h = absurd (cc)

or_right : (a b : Bool) → b ≡ true → (a || b) ≡ true
or_right true b h = refl
or_right false b h = h

or_none : (b : Bool) → (b || false) ≡ b
or_none true = refl
or_none false = refl

-- ---- octets

lower_dot : (c : ℕ) → to_ascii_lowercase c ≡ dot → c ≡ dot
lower_dot c h = grind (arith, nat_tests)

lower_star : (c : ℕ) → to_ascii_lowercase c ≡ star → c ≡ star
lower_star c h = grind (arith, nat_tests)

label_same : (c l : ℕ) → is_label_octet l ≡ true → to_ascii_lowercase c ≡ to_ascii_lowercase l → is_label_octet c ≡ true
label_same c l h same = grind (arith, nat_tests)

label_no_dot : (c : ℕ) → is_label_octet c ≡ true → (c == dot) ≡ false
label_no_dot c h = grind (arith, nat_tests)

label_no_star : (c : ℕ) → is_label_octet c ≡ true → (c == star) ≡ false
label_no_star c h = grind (arith, nat_tests)

label_lower_dot : (c : ℕ) → is_label_octet c ≡ true → to_ascii_lowercase c ≡ dot → ⊥
label_lower_dot c h same = clash (c == dot) (let e : c ≡ dot = lower_dot c same in ap (λ x. x == dot) e) (label_no_dot c h)

-- ---- the first label

-- there is such a label, which has octets where none came before
pub record Labelled (begun : Bool) (host rest : List ℕ) : Type 0 where
  pub label : List ℕ
  pub octets : list_all is_label_octet label ≡ true
  pub some : begun ≡ false → is_label label ≡ true
  pub is : host ≡ label ++ dot ∷ rest

longer : (begun : Bool) (c : ℕ) (host rest : List ℕ) → is_label_octet c ≡ true → Labelled true host rest → Labelled begun (c ∷ host) rest
longer begun c host rest octet more = record {
  label = c ∷ more.label;
  octets = rw octet more.octets;
  some = λ none. rw octet more.octets;
  is = ap (λ l. c ∷ l) more.is;
}

pub first_label : (begun : Bool) (host rest : List ℕ) → behind_label begun host ≡ Some rest → Labelled begun host rest
first_label begun [] rest h = absurd (cc)
first_label begun (c ∷ host) rest h = elim (eqb_tells c dot) [
  | inl (test, is) ↦ ended begun (rw test at h) is
  | inr (test, other) ↦ elim (cases_Bool (is_label_octet c)) [
    | inl octet ↦
        longer begun c host rest octet (first_label true host rest (let k = rw (test, octet) at h in k))
    | inr nothing ↦ absurd (let e : None ≡ Some rest = rw (test, nothing) at h in cc)
  ]
]
  where
    ended : (b : Bool) → (if b then Some host else None) ≡ Some rest → c ≡ dot → Labelled b (c ∷ host) rest
    ended true k is =
        let same : host ≡ rest = cc in
        record { label = []; octets = refl; some = λ none. absurd (cc); is = ap (λ x. x ∷ host) is ∙ ap (λ l. dot ∷ l) same }
    ended false k is = absurd (cc)

-- the rest behind the first label of a host that is the same without regard to case
pub record Rest (begun : Bool) (host rest : List ℕ) : Type 0 where
  pub own : List ℕ
  pub found : behind_label begun host ≡ Some own
  pub same : lower own ≡ lower rest

pub label_of_same : (begun : Bool) (host label rest : List ℕ) → list_all is_label_octet label ≡ true → (begun ≡ false → is_label label ≡ true) →
    lower host ≡ lower label ++ dot ∷ lower rest → Rest begun host rest
label_of_same begun [] [] rest octets some same = absurd (cc)
label_of_same begun [] (l ∷ label) rest octets some same = absurd (cc)
label_of_same true (c ∷ host) [] rest octets some same =
    let first : to_ascii_lowercase c ≡ dot = cc in
    let behind : lower host ≡ lower rest = cc in
    let is : c ≡ dot = lower_dot c first in
    record { own = host; found = ap (λ x. behind_label true (x ∷ host)) is; same = behind }
label_of_same false (c ∷ host) [] rest octets some same = absurd (let e : false ≡ true = some refl in cc)
label_of_same begun (c ∷ host) (l ∷ label) rest octets some same =
    let both = and_parts (is_label_octet l) (list_all is_label_octet label) octets in
    let first : to_ascii_lowercase c ≡ to_ascii_lowercase l = cc in
    let behind : lower host ≡ lower label ++ dot ∷ lower rest = cc in
    let octet = label_same c l both.0 first in
    let more = label_of_same true host label rest both.1 (λ none. absurd (cc)) behind in
    record { own = more.own; found = rw (label_no_dot c octet, octet) more.found; same = more.same }

-- ---- hosts with a label in front

label_octets : (label : List ℕ) → is_label label ≡ true → list_all is_label_octet label ≡ true
label_octets [] h = absurd (cc)
label_octets (l ∷ label) h = h

labels_behind : (label rest : List ℕ) → list_all is_label_octet label ≡ true → labels_of (label ++ dot ∷ rest) ≡ label ∷ labels_of rest
labels_behind [] rest octets = refl
labels_behind (l ∷ label) rest octets =
    let both = and_parts (is_label_octet l) (list_all is_label_octet label) octets in
    rw (label_no_dot l both.0) (ap (onto_first l) (labels_behind label rest both.1))

label_before : (label rest : List ℕ) → is_label label ≡ true → is_host (label ++ dot ∷ rest) ≡ is_host rest
label_before label rest h = ap (list_all is_label) (labels_behind label rest (label_octets label h)) ∙ ap (λ b. b && is_host rest) h

label_name : (label rest : List ℕ) → is_label label ≡ true → is_host_or_wildcard (label ++ dot ∷ rest) ≡ is_host rest
label_name [] rest h = absurd (cc)
label_name (l ∷ []) rest h =
    let both = and_parts (is_label_octet l) (list_all is_label_octet []) h in
    rw (label_no_star l both.0) (label_before (l ∷ []) rest h)
label_name (l ∷ m ∷ label) rest h =
    let both = and_parts (is_label_octet l) (list_all is_label_octet (m ∷ label)) h in
    rw (label_no_star l both.0) (label_before (l ∷ m ∷ label) rest h)

-- what ends so behind a label ends so without it
ends_behind : (label rest end front : List ℕ) → list_all is_label_octet label ≡ true → lower (label ++ dot ∷ rest) ≡ front ++ dot ∷ end →
    (own : List ℕ) × (lower (dot ∷ rest) ≡ own ++ dot ∷ end)
ends_behind [] rest end front octets is = (front, is)
ends_behind (l ∷ label) rest end [] octets is =
    let both = and_parts (is_label_octet l) (list_all is_label_octet label) octets in
    absurd (label_lower_dot l both.0 (let e : to_ascii_lowercase l ≡ dot = cc in e))
ends_behind (l ∷ label) rest end (f ∷ front) octets is =
    let both = and_parts (is_label_octet l) (list_all is_label_octet label) octets in
    let behind : lower (label ++ dot ∷ rest) ≡ front ++ dot ∷ end = cc in
    ends_behind label rest end front both.1 behind

wildcard_ends : (label rest end : List ℕ) → is_label label ≡ true → EndsWith (label ++ dot ∷ rest) (dot ∷ end) → EndsWith (star ∷ dot ∷ rest) (dot ∷ end)
wildcard_ends label rest end h (front, is) =
    let own = ends_behind label rest (lower end) front (label_octets label h) is in
    (star ∷ own.0, ap (λ l. star ∷ l) own.1)

wildcard_within : (label rest subtree : List ℕ) → is_label label ≡ true → (is_host_or_wildcard (label ++ dot ∷ rest) ≡ true) →
    (IsDotted subtree × EndsWith (label ++ dot ∷ rest) subtree) ⊎ EndsWith (label ++ dot ∷ rest) (dot ∷ subtree) → IsWithinDns (star ∷ dot ∷ rest) subtree
wildcard_within label rest subtree h is_name (inl ((end, is), ends)) =
    let P : List ℕ → Type 0 = λ s. EndsWith (label ++ dot ∷ rest) s in
    let Q : List ℕ → Type 0 = λ s. EndsWith (star ∷ dot ∷ rest) s in
    inr (sym (label_name label rest h) ∙ is_name, inl (inr ((end, is), subst Q (sym is) (wildcard_ends label rest end h (subst P is ends)))))
wildcard_within label rest subtree h is_name (inr ends) = inr (sym (label_name label rest h) ∙ is_name, inr (wildcard_ends label rest subtree h ends))

-- ---- keys

same_turned : (a b : List ℕ) → lower a ≡ lower b → turned a ≡ turned b
unfolding turned
same_turned a b same = ap (λ l. symbols (reverse l)) same

begins-itself : (key : List ℕ) → begins key key ≡ true
begins-itself [] = refl
begins-itself (k ∷ key) = grind (arith, nat_tests, begins-itself key)

same_key : (name rest own : List ℕ) → is_host rest ≡ true → name ≡ star ∷ dot ∷ rest → lower own ≡ lower rest →
    has_prefix (stopped (star ∷ dot ∷ own) ∷ []) (dns_key name) ≡ true
same_key name rest own is_one is same =
    let e : turned (star ∷ dot ∷ own) ≡ turned (star ∷ dot ∷ rest) = same_turned (star ∷ dot ∷ own) (star ∷ dot ∷ rest) (ap (λ l. star ∷ dot ∷ l) same) in
    ap (λ n. has_prefix (stopped (star ∷ dot ∷ own) ∷ []) (dns_key n)) is
    ∙ (ap (λ b. has_prefix (stopped (star ∷ dot ∷ own) ∷ []) (key_if b (stopped (star ∷ dot ∷ rest)))) is_one
    ∙ (or_none (begins (stopped (star ∷ dot ∷ rest)) (stopped (star ∷ dot ∷ own)))
    ∙ (ap (λ t. begins (stopped (star ∷ dot ∷ rest)) (t ++ stop ∷ [])) e ∙ begins-itself (stopped (star ∷ dot ∷ rest)))))

-- a name with that key is a wildcard
pub record Wildcard (name rest : List ℕ) : Type 0 where
  pub own : List ℕ
  pub is : name ≡ star ∷ dot ∷ own
  pub same : lower own ≡ lower rest
  pub host : is_host own ≡ true

wildcard_of : (name rest : List ℕ) → lower name ≡ star ∷ dot ∷ lower rest → is_host_or_wildcard name ≡ true → Wildcard name rest
wildcard_of [] rest same is_name = absurd (cc)
wildcard_of (c ∷ []) rest same is_name = absurd (cc)
wildcard_of (c ∷ d ∷ name) rest same is_name =
    let first : to_ascii_lowercase c ≡ star = cc in
    let second : to_ascii_lowercase d ≡ dot = cc in
    let behind : lower name ≡ lower rest = cc in
    let is : c ∷ d ∷ name ≡ star ∷ dot ∷ name = ap (λ x. x ∷ d ∷ name) (lower_star c first) ∙ ap (λ x. star ∷ x ∷ name) (lower_dot d second) in
    record { own = name; is = is; same = behind; host = ap is_host_or_wildcard (sym is) ∙ is_name }

wildcard_with : (name rest : List ℕ) (b : Bool) → is_host_or_wildcard name ≡ b → begins (key_if b (stopped name)) (stopped (star ∷ dot ∷ rest)) ≡ true →
    Wildcard name rest
unfolding turned
wildcard_with name rest true is h =
    let met = stops_meet (reverse (lower name)) (reverse (lower (star ∷ dot ∷ rest))) [] [] h in
    wildcard_of name rest (sym (reverse-reverse (lower name)) ∙ (ap reverse met.0 ∙ reverse-reverse (lower (star ∷ dot ∷ rest)))) is
wildcard_with name rest false is h = absurd (clash _ h (begins_none (turned (star ∷ dot ∷ rest)) [] stop))

-- ---- the law

pub excluded_dns_answers : (name subtree : List ℕ) → (has_prefix (excluded_dns_prefixes subtree) (dns_key name) ≡ true) ↔ IsOneWithinDns name subtree
excluded_dns_answers name subtree = ((λ h. forth (or_cases _ _ (sym parts ∙ h))), back)
  where
    parts : has_prefix (excluded_dns_prefixes subtree) (dns_key name)
        ≡ (has_prefix (dns_prefixes subtree) (dns_key name) || has_prefix (wildcard_keys (behind_label false subtree)) (dns_key name))
    parts = list_any-append (λ p. begins (dns_key name) p) (dns_prefixes subtree) (wildcard_keys (behind_label false subtree))

    whole : (rest : List ℕ) → Labelled false subtree rest → Wildcard name rest → IsOneWithinDns name subtree
    whole rest labelled own = (
      labelled.label ++ dot ∷ own.own,
      inr (labelled.label, own.own, labelled.some refl, own.is, refl),
      inr (
        label_name labelled.label own.own (labelled.some refl) ∙ own.host,
        inl (inl (map-append to_ascii_lowercase labelled.label (dot ∷ own.own) ∙ (ap (λ l. lower labelled.label ++ dot ∷ l) own.same
            ∙ (sym (map-append to_ascii_lowercase labelled.label (dot ∷ rest)) ∙ sym (ap lower labelled.is))))),
      ),
    )

    by_label : (found : Option (List ℕ)) → behind_label false subtree ≡ found → has_prefix (wildcard_keys found) (dns_key name) ≡ true →
        IsOneWithinDns name subtree
    by_label None is h = absurd (cc)
    by_label (Some rest) is h = whole rest (first_label false subtree rest is)
        (wildcard_with name rest (is_host_or_wildcard name) refl (sym (or_none (begins (dns_key name) (stopped (star ∷ dot ∷ rest)))) ∙ h))

    forth : (has_prefix (dns_prefixes subtree) (dns_key name) ≡ true) ⊎ (has_prefix (wildcard_keys (behind_label false subtree)) (dns_key name) ≡ true) →
        IsOneWithinDns name subtree
    forth (inl own) = (name, inl refl, (dns_answers name subtree).0 own)
    forth (inr other) = by_label (behind_label false subtree) refl other

    within : IsWithinDns name subtree → has_prefix (excluded_dns_prefixes subtree) (dns_key name) ≡ true
    within h = parts ∙ or_left _ _ ((dns_answers name subtree).1 h)

    meant : (label rest host : List ℕ) → is_label label ≡ true → name ≡ star ∷ dot ∷ rest → host ≡ label ++ dot ∷ rest →
        (subtree ≡ []) ⊎ ((is_host_or_wildcard host ≡ true) × (IsHostOf host subtree ⊎ EndsWith host (dot ∷ subtree))) →
        has_prefix (excluded_dns_prefixes subtree) (dns_key name) ≡ true
    meant label rest host is_one is made (inl empty) = within (inl empty)
    meant label rest host is_one is made (inr (is_name, inl (inl same))) =
        let found = label_of_same false subtree label rest (label_octets label is_one) (λ none. is_one)
        (sym same ∙ (ap lower made ∙ map-append to_ascii_lowercase label (dot ∷ rest))) in
        let is_rest : is_host rest ≡ true = sym (label_name label rest is_one) ∙ (ap is_host_or_wildcard (sym made) ∙ is_name) in
        parts ∙ or_right _ _ (ap (λ o. has_prefix (wildcard_keys o) (dns_key name)) found.found ∙ same_key name rest found.own is_rest is found.same)
    meant label rest host is_one is made (inr (is_name, inl (inr (dotted, ends)))) =
        let P : List ℕ → Type 0 = λ h. EndsWith h subtree in
        let Q : List ℕ → Type 0 = λ n. IsWithinDns n subtree in
        within (subst Q (sym is) (wildcard_within label rest subtree is_one (ap is_host_or_wildcard (sym made) ∙ is_name) (inl (dotted, subst P made ends))))
    meant label rest host is_one is made (inr (is_name, inr ends)) =
        let P : List ℕ → Type 0 = λ h. EndsWith h (dot ∷ subtree) in
        let Q : List ℕ → Type 0 = λ n. IsWithinDns n subtree in
        within (subst Q (sym is) (wildcard_within label rest subtree is_one (ap is_host_or_wildcard (sym made) ∙ is_name) (inr (subst P made ends))))

    back : IsOneWithinDns name subtree → has_prefix (excluded_dns_prefixes subtree) (dns_key name) ≡ true
    back (host, inl same, holds) =
        let P : List ℕ → Type 0 = λ h. IsWithinDns h subtree in
        within (subst P same holds)
    back (host, inr (label, rest, is_one, is, made), holds) = meant label rest host is_one is made holds
