-- Hosts that are turned round: one that ends with another begins with it.
use Rattle.std.proofs.Common.{◌==◌, if◌then◌else◌, ◌≡◌, ◌⊎◌, inl, inr, ◌↔◌, ℕ, ◌+◌, ◌-◌, ◌<◌, Bool, true, false, ◌||◌, List, [], ◌∷◌, ◌++◌, length, map, reverse, drop, get_or, refl, sym, ◌∙◌, ap, subst, arith, append_assoc, add-one, drop-cons}
use Rattle.std.proofs.Math.Seq.{drop-length}
use Rattle.std.proofs.lemmas.Bool.{or_cases}
use Rattle.std.proofs.lemmas.Bool.Decides.{eqb_tells, nat_tests}
use Rattle.std.proofs.lemmas.Grind.{reverse_onto}
use Rattle.std.proofs.lemmas.List.{append-nil, map-append, reverse-append, reverse-reverse}
use Rattle.std.specs.Char.{to_ascii_lowercase}
use Rattle.x509_constraints.specs.Host.{EndsWith, IsDotted, IsHostOf, IsWithinDns, IsWithinHost}
use Rattle.x509_constraints.specs.Keys.{dns_key, dns_prefixes, host_key, host_prefix, key_if, stop, stopped, symbols, turned}
use Rattle.x509_constraints.specs.Prefixes.{begins, has_prefix}
use Rattle.x509_host.specs.Host.{dot, is_host, is_host_or_wildcard, lower}

-- ---- what begins with what

pub begins-append : (p rest : List ℕ) → begins (p ++ rest) p ≡ true
begins-append [] rest = refl
begins-append (x ∷ xs) rest = grind (arith, nat_tests, begins-append xs rest)

pub rest_of : (key p : List ℕ) → begins key p ≡ true → (rest : List ℕ) × (key ≡ p ++ rest)
rest_of key [] h = (key, refl)
rest_of [] (p ∷ ps) h = absurd (cc)
rest_of (x ∷ xs) (p ∷ ps) h =
    let both = first_and_rest x p xs ps h in
    let more = rest_of xs ps both.1 in
    (more.0, ap (λ c. c ∷ xs) both.0 ∙ ap (λ l. p ∷ l) more.1)
  where
    first_and_rest : (x p : ℕ) (xs ps : List ℕ) → begins (x ∷ xs) (p ∷ ps) ≡ true → (x ≡ p) × (begins xs ps ≡ true)
    first_and_rest x p xs ps h = grind (arith, nat_tests)

-- a stop behind symbols is none of them
pub begins-stopped : (xs ys tail : List ℕ) → begins (symbols xs ++ stop ∷ tail) (symbols ys) ≡ begins (symbols xs) (symbols ys)
begins-stopped xs [] tail = refl
begins-stopped [] (y ∷ ys) tail = grind (arith, nat_tests)
begins-stopped (x ∷ xs) (y ∷ ys) tail = grind (arith, nat_tests, begins-stopped xs ys tail)

pub stops_meet : (xs ys t u : List ℕ) → begins (symbols xs ++ stop ∷ t) (symbols ys ++ stop ∷ u) ≡ true → (xs ≡ ys) × (begins t u ≡ true)
stops_meet [] [] t u h = (refl, h)
stops_meet [] (y ∷ ys) t u h = grind (arith, nat_tests)
stops_meet (x ∷ xs) [] t u h = grind (arith, nat_tests)
stops_meet (x ∷ xs) (y ∷ ys) t u h =
    let both = first_and_rest x y (symbols xs ++ stop ∷ t) (symbols ys ++ stop ∷ u) h in
    let more = stops_meet xs ys t u both.1 in
    (ap (λ c. c ∷ xs) both.0 ∙ ap (λ l. y ∷ l) more.0, more.1)
  where
    first_and_rest : (x p : ℕ) (xs ps : List ℕ) → begins ((x + 1) ∷ xs) ((p + 1) ∷ ps) ≡ true → (x ≡ p) × (begins xs ps ≡ true)
    first_and_rest x p xs ps h = grind (arith, nat_tests)

pub stops_same : (xs t u : List ℕ) → begins t u ≡ true → begins (symbols xs ++ stop ∷ t) (symbols xs ++ stop ∷ u) ≡ true
stops_same [] t u h = h
stops_same (x ∷ xs) t u h = grind (arith, nat_tests, stops_same xs t u h)

-- ---- turned hosts

abbrev octets_of : List ℕ → List ℕ
octets_of key = map (λ c. c - 1) key

pub octets_of-symbols : (xs : List ℕ) → octets_of (symbols xs) ≡ xs
octets_of-symbols [] = refl
octets_of-symbols (x ∷ xs) = let e : x + 1 - 1 ≡ x = omega arith in ap (λ c. c ∷ octets_of (symbols xs)) e ∙ ap (λ l. x ∷ l) (octets_of-symbols xs)

pub turned-cons : (c : ℕ) (rest : List ℕ) → turned (c ∷ rest) ≡ turned rest ++ (to_ascii_lowercase c + 1) ∷ []
unfolding turned
turned-cons c rest = ap symbols (reverse_onto (lower rest) (to_ascii_lowercase c) [])
    ∙ map-append (λ x. x + 1) (reverse (lower rest)) (to_ascii_lowercase c ∷ [])

pub ends_begins : (host end : List ℕ) → EndsWith host end → begins (turned host) (turned end) ≡ true
unfolding turned
ends_begins host end (front, is) =
    let e : turned host ≡ turned end ++ symbols (reverse front) =
    ap (λ l. symbols (reverse l)) is ∙ (ap symbols (reverse-append front (lower end)) ∙ map-append (λ x. x + 1) (reverse (lower end)) (reverse front)) in
    ap (λ key. begins key (turned end)) e ∙ begins-append (turned end) (symbols (reverse front))

pub begins_ends : (host end : List ℕ) → begins (turned host) (turned end) ≡ true → EndsWith host end
unfolding turned
begins_ends host end h =
    let found = rest_of (turned host) (turned end) h in
    let octets : reverse (lower host) ≡ reverse (lower end) ++ octets_of found.0 =
    sym (octets_of-symbols (reverse (lower host))) ∙ (ap octets_of found.1 ∙ (map-append (λ x. x - 1) (turned end) found.0
    ∙ ap (λ l. l ++ octets_of found.0) (octets_of-symbols (reverse (lower end))))) in (
      reverse (octets_of found.0),
      sym (reverse-reverse (lower host)) ∙ (ap reverse octets ∙ (reverse-append (reverse (lower end)) (octets_of found.0)
          ∙ ap (λ l. reverse (octets_of found.0) ++ l) (reverse-reverse (lower end)))),
    )

-- ---- hosts within subtrees

-- the subtree is empty, or has the octets, whether or not they are a host
abbrev pub IsUnder : List ℕ → List ℕ → Type 0
IsUnder host subtree = (subtree ≡ []) ⊎ IsHostOf host subtree

or_none : (b : Bool) → (b || false) ≡ b
or_none true = refl
or_none false = refl

pub dotted_answers : (host subtree tail : List ℕ) → IsDotted subtree → (begins (turned host ++ stop ∷ tail) (turned subtree) ≡ true) ↔ IsUnder host subtree
unfolding turned
dotted_answers host subtree tail (rest, is) =
    let unstopped : begins (turned host ++ stop ∷ tail) (turned subtree) ≡ begins (turned host) (turned subtree) =
    begins-stopped (reverse (lower host)) (reverse (lower subtree)) tail in
    ((λ h. inr (inr ((rest, is), begins_ends host subtree (sym unstopped ∙ h)))), (λ h. unstopped ∙ back h))
  where
    back : IsUnder host subtree → begins (turned host) (turned subtree) ≡ true
    back (inl empty) = let e : [] ≡ dot ∷ rest = sym empty ∙ is in absurd (cc)
    back (inr (inl same)) = ends_begins host subtree ([], same)
    back (inr (inr (dotted, ends))) = ends_begins host subtree ends

pub undotted_answers : (host : List ℕ) (c : ℕ) (rest tail : List ℕ) → (c ≡ dot → ⊥) →
    (begins (turned host ++ stop ∷ tail) (turned (c ∷ rest) ++ stop ∷ []) ≡ true) ↔ IsUnder host (c ∷ rest)
unfolding turned
undotted_answers host c rest tail other = (
  (λ h. let met = stops_meet (reverse (lower host)) (reverse (lower (c ∷ rest))) tail [] h in
      inr (inl (sym (reverse-reverse (lower host)) ∙ (ap reverse met.0 ∙ reverse-reverse (lower (c ∷ rest)))))),
  back,
)
  where
    back : IsUnder host (c ∷ rest) → begins (turned host ++ stop ∷ tail) (turned (c ∷ rest) ++ stop ∷ []) ≡ true
    back (inl empty) = absurd (cc)
    back (inr (inl same)) = ap (λ l. begins (symbols (reverse l) ++ stop ∷ tail) (turned (c ∷ rest) ++ stop ∷ [])) same
        ∙ stops_same (reverse (lower (c ∷ rest))) tail [] refl
    back (inr (inr ((rest', dotted), ends))) = let e : c ≡ dot = cc in absurd (other e)

pub host_answers : (host subtree tail : List ℕ) → (begins (turned host ++ stop ∷ tail) (host_prefix subtree) ≡ true) ↔ IsUnder host subtree
unfolding turned
host_answers host [] tail = ((λ h. inl refl), (λ h. refl))
host_answers host (c ∷ rest) tail = elim (eqb_tells c dot) [
  | inl (test, is) ↦ one (turned (c ∷ rest)) (ap (λ b. if b then turned (c ∷ rest) else turned (c ∷ rest) ++ stop ∷ []) test) (dotted_answers host (c ∷
      rest) tail (rest, ap (λ x. x ∷ rest) is))
  | inr (test, other) ↦ one (turned (c ∷ rest) ++ stop ∷ []) (ap (λ b. if b then turned (c ∷ rest) else turned (c ∷ rest) ++ stop ∷ []) test)
      (undotted_answers host c rest tail other)
]
  where
    one : (p : List ℕ) → host_prefix (c ∷ rest) ≡ p → (begins (turned host ++ stop ∷ tail) p ≡ true) ↔ IsUnder host (c ∷ rest) →
        (begins (turned host ++ stop ∷ tail) (host_prefix (c ∷ rest)) ≡ true) ↔ IsUnder host (c ∷ rest)
    one p is answers =
        let F : List ℕ → Type 0 = λ q. (begins (turned host ++ stop ∷ tail) q ≡ true) ↔ IsUnder host (c ∷ rest) in
        subst F (sym is) answers

or_left : (a b : Bool) → a ≡ true → (a || b) ≡ true
or_left true b h = refl
or_left false b h = absurd (cc)

or_right : (a b : Bool) → b ≡ true → (a || b) ≡ true
or_right true b h = refl
or_right false b h = h

-- one prefix, and two
pub has_prefix-one : (key p : List ℕ) (P : Type 0) → (begins key p ≡ true) ↔ P → (has_prefix (p ∷ []) key ≡ true) ↔ P
has_prefix-one key p P answers =
    let G : Bool → Type 0 = λ b. (b ≡ true) ↔ P in
    subst G (sym (or_none (begins key p))) answers

pub has_prefix-two : (key p q : List ℕ) (P Q : Type 0) → (begins key p ≡ true) ↔ P → (begins key q ≡ true) ↔ Q → (has_prefix (p ∷ q ∷ []) key ≡ true) ↔ (P ⊎ Q)
has_prefix-two key p q P Q first second =
    let last = has_prefix-one key q Q second in
    ((λ h. forth last (or_cases _ _ h)), (λ either. back last either))
  where
    forth : (has_prefix (q ∷ []) key ≡ true) ↔ Q → (begins key p ≡ true) ⊎ (has_prefix (q ∷ []) key ≡ true) → P ⊎ Q
    forth last (inl h) = inl (first.0 h)
    forth last (inr h) = inr (last.0 h)

    back : (has_prefix (q ∷ []) key ≡ true) ↔ Q → P ⊎ Q → (begins key p || has_prefix (q ∷ []) key) ≡ true
    back last (inl h) = or_left _ _ (first.1 h)
    back last (inr h) = or_right _ _ (last.1 h)

-- nothing that has symbols is a prefix of nothing
pub begins_none : (xs ys : List ℕ) (y : ℕ) → begins [] (xs ++ y ∷ ys) ≡ false
begins_none [] ys y = refl
begins_none (x ∷ xs) ys y = refl

pub begins-turned : (c : ℕ) (rest : List ℕ) → begins [] (turned (c ∷ rest)) ≡ false
begins-turned c rest = ap (begins []) (turned-cons c rest) ∙ begins_none (turned rest) [] (to_ascii_lowercase c + 1)

pub host_prefix-some : (c : ℕ) (rest : List ℕ) → begins [] (host_prefix (c ∷ rest)) ≡ false
host_prefix-some c rest = by_first (c == dot)
  where
    by_first : (b : Bool) → begins [] (if b then turned (c ∷ rest) else turned (c ∷ rest) ++ stop ∷ []) ≡ false
    by_first true = begins-turned c rest
    by_first false = begins_none (turned (c ∷ rest)) [] stop

clash : (b : Bool) → b ≡ true → b ≡ false → ⊥
clash b t f = let e : true ≡ false = sym t ∙ f in cc

-- no key begins with the prefix of an empty subtree alone
pub empty_answers : (subtree : List ℕ) → (begins [] (host_prefix subtree) ≡ true) ↔ (subtree ≡ [])
unfolding turned
empty_answers [] = ((λ h. refl), (λ h. refl))
empty_answers (c ∷ rest) = ((λ h. absurd (clash _ h (host_prefix-some c rest))), (λ h. absurd (cc)))

-- a key that not all names have
pub key_if-answers : (has : Bool) (prefixes : List (List ℕ)) (key subtree : List ℕ) (Q : Type 0) →
    ((has ≡ true) → (has_prefix prefixes key ≡ true) ↔ ((subtree ≡ []) ⊎ Q)) → (has_prefix prefixes [] ≡ true) ↔ (subtree ≡ []) →
    (has_prefix prefixes (key_if has key) ≡ true) ↔ ((subtree ≡ []) ⊎ ((has ≡ true) × Q))
key_if-answers true prefixes key subtree Q answers none = ((λ h. forth ((answers refl).0 h)), (λ either. (answers refl).1 (back either)))
  where
    forth : (subtree ≡ []) ⊎ Q → (subtree ≡ []) ⊎ ((true ≡ true) × Q)
    forth (inl empty) = inl empty
    forth (inr holds) = inr (refl, holds)

    back : (subtree ≡ []) ⊎ ((true ≡ true) × Q) → (subtree ≡ []) ⊎ Q
    back (inl empty) = inl empty
    back (inr (is, holds)) = inr holds
key_if-answers false prefixes key subtree Q answers none = ((λ h. inl (none.0 h)), (λ either. none.1 (back either)))
  where
    back : (subtree ≡ []) ⊎ ((false ≡ true) × Q) → subtree ≡ []
    back (inl empty) = empty
    back (inr (is, holds)) = absurd (cc)

pub host_key_answers : (host subtree : List ℕ) → (has_prefix (host_prefix subtree ∷ []) (host_key host) ≡ true) ↔ IsWithinHost host subtree
host_key_answers host subtree = key_if-answers (is_host host) (host_prefix subtree ∷ []) (stopped host) subtree (IsHostOf host subtree)
    (λ has. has_prefix-one (stopped host) (host_prefix subtree) (IsUnder host subtree) (host_answers host subtree []))
    (has_prefix-one [] (host_prefix subtree) (subtree ≡ []) (empty_answers subtree))

pub below_answers : (name parent : List ℕ) → (begins (stopped name) (turned (dot ∷ parent)) ≡ true) ↔ EndsWith name (dot ∷ parent)
unfolding turned
below_answers name parent =
    let unstopped : begins (stopped name) (turned (dot ∷ parent)) ≡ begins (turned name) (turned (dot ∷ parent)) =
    begins-stopped (reverse (lower name)) (reverse (lower (dot ∷ parent))) [] in
    ((λ h. begins_ends name (dot ∷ parent) (sym unstopped ∙ h)), (λ ends. unstopped ∙ ends_begins name (dot ∷ parent) ends))

-- the two prefixes of a subtree of DNS names
dns_answers_both : (name subtree : List ℕ) → (has_prefix (dns_prefixes subtree) (stopped name) ≡ true)
    ↔ ((subtree ≡ []) ⊎ (IsHostOf name subtree ⊎ EndsWith name (dot ∷ subtree)))
dns_answers_both name subtree =
    let both = has_prefix-two (stopped name) (host_prefix subtree) (turned (dot ∷ subtree)) (IsUnder name subtree) (EndsWith name (dot ∷ subtree))
    (host_answers name subtree []) (below_answers name subtree) in
    ((λ h. forth (both.0 h)), (λ either. both.1 (back either)))
  where
    forth : IsUnder name subtree ⊎ EndsWith name (dot ∷ subtree) → (subtree ≡ []) ⊎ (IsHostOf name subtree ⊎ EndsWith name (dot ∷ subtree))
    forth (inl (inl empty)) = inl empty
    forth (inl (inr own)) = inr (inl own)
    forth (inr ends) = inr (inr ends)

    back : (subtree ≡ []) ⊎ (IsHostOf name subtree ⊎ EndsWith name (dot ∷ subtree)) → IsUnder name subtree ⊎ EndsWith name (dot ∷ subtree)
    back (inl empty) = inl (inl empty)
    back (inr (inl own)) = inl (inr own)
    back (inr (inr ends)) = inr ends

dns_answers_none : (subtree : List ℕ) → (has_prefix (dns_prefixes subtree) [] ≡ true) ↔ (subtree ≡ [])
dns_answers_none subtree =
    let both = has_prefix-two [] (host_prefix subtree) (turned (dot ∷ subtree)) (subtree ≡ []) ⊥ (empty_answers subtree)
    ((λ h. clash _ h (begins-turned dot subtree)), (λ never. absurd never)) in
    ((λ h. forth (both.0 h)), (λ empty. both.1 (inl empty)))
  where
    forth : (subtree ≡ []) ⊎ ⊥ → subtree ≡ []
    forth (inl empty) = empty
    forth (inr never) = absurd never

pub dns_answers : (name subtree : List ℕ) → (has_prefix (dns_prefixes subtree) (dns_key name) ≡ true) ↔ IsWithinDns name subtree
dns_answers name subtree = key_if-answers (is_host_or_wildcard name) (dns_prefixes subtree) (stopped name) subtree (IsHostOf name subtree ⊎ EndsWith name (dot ∷ subtree))
    (λ has. dns_answers_both name subtree) (dns_answers_none subtree)

-- one more octet in front of a host
pub turned_pushed : (host : List ℕ) (c s : ℕ) (start key pushed : List ℕ) → key ≡ start ++ turned host → s ≡ to_ascii_lowercase c + 1 →
    pushed ≡ key ++ s ∷ [] → pushed ≡ start ++ turned (c ∷ host)
turned_pushed host c s start key pushed is is_symbol by =
    by ∙ (ap (λ l. l ++ s ∷ []) is ∙ (append_assoc start (turned host) (s ∷ [])
    ∙ ap (λ l. start ++ l) (ap (λ t. turned host ++ t ∷ []) is_symbol ∙ sym (turned-cons c host))))

-- one more octet of a host, from its end
pub turned_more : (host : List ℕ) (left next : ℕ) (key start : List ℕ) (s : ℕ) → left < length host → next ≡ left + 1 →
    s ≡ to_ascii_lowercase (get_or host left 0) + 1 →
    key ≡ start ++ turned (drop next host) → key ++ s ∷ [] ≡ start ++ turned (drop left host)
turned_more host left next key start s inside after is_symbol is =
    let front : drop left host ≡ get_or host left 0 ∷ drop next host = drop-cons host left 0 inside
    ∙ ap (λ m. get_or host left 0 ∷ drop m host) (sym (after ∙ add-one left)) in
    turned_pushed (drop next host) (get_or host left 0) s start key (key ++ s ∷ []) is is_symbol refl ∙ ap (λ l. start ++ turned l) (sym front)

pub turned_none : (host start : List ℕ) → start ≡ start ++ turned (drop (length host) host)
unfolding turned
turned_none host start = sym (ap (λ l. start ++ symbols (reverse (lower l))) (drop-length host) ∙ append-nil start)
