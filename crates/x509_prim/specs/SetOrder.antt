-- The byte order of the contents of sets of named bits.
use Rattle.std.specs.Prelude.{◌≡◌, ℕ, ◌/◌, ◌%◌, ◌<◌, false, nat_eq, nat_lt, List, [], ◌∷◌, Some, if◌then◌else◌}
use Rattle.std.specs.Ordering.{nat_cmp, ordering_then}
use Rattle.std.proofs.Common.{refl, sym, ap, ◌∙◌, arith, inl, inr}
use Rattle.std.proofs.lemmas.Bool.{cases_lt, ne_eqb, lt-ltb, le-ltb}
use Rattle.std.proofs.lemmas.Cmp.{nat_cmp_total}
use Rattle.std.proofs.lemmas.Map.Lookups.{exact_unsigned}
use Rattle.x509_der.specs.Round.{Round}
use Rattle.x509_der.specs.Writing.{Written}
use Rattle.x509_der.specs.Order.{bytes_cmp, Order, IsOrder}
use Rattle.x509_der.specs.OrderLaws.{then_assoc, then_equal, less_from, greater_from}
use Rattle.x509_der.specs.Ordered.{by_key, by_key_lawful}
use Rattle.x509_prim.specs.NamedBits.{turned, unused_after, set_octets, set_at, flag_bits}
use Rattle.x509_prim.specs.NamedBitsLaws.{turned_octet, set_octets-one, set_octets-two, set_at-complete}

-- By the contents, and then by the sets: a set of more than sixteen bits has no content of its own.
abbrev pub flag_order : {T : Type 0} → Round T ℕ → List (List ℕ × ℕ) → Order T
flag_order round table = by_key (flag_bits round table) round.to nat_cmp

-- the same of two sets
abbrev pub set_order : Order ℕ
set_order a b = ordering_then (bytes_cmp (set_octets a) (set_octets b)) (nat_cmp a b)

-- ---- contents by their octets

-- how many bits a content says to be unused
unfoldable pub unused_of : ℕ → ℕ
unused_of set = if nat_eq set 0 then 0 else (if nat_lt set 256 then unused_after set else unused_after (set / 256))

-- the octets behind the first, and what stands for those that are not there
abbrev AreFurther : List ℕ → ℕ → ℕ → Type 0
AreFurther [] low high = (low ≡ 0) × (high ≡ 0)
AreFurther (a ∷ []) low high = (a ≡ low) × (0 < low) × (high ≡ 0)
AreFurther (a ∷ b ∷ []) low high = (a ≡ low) × (b ≡ high) × (0 < high)
AreFurther (a ∷ b ∷ c ∷ octets) low high = ⊥

further_cmp : (xs ys : List ℕ) (l h m k : ℕ) → AreFurther xs l h → AreFurther ys m k → bytes_cmp xs ys ≡ ordering_then (nat_cmp l m) (nat_cmp h k)
further_cmp [] [] l h m k p q = rw (p.0, p.1, q.0, q.1) refl
further_cmp [] (a ∷ []) l h m k p q = rw (less_from l m (omega (arith, p.0, q.1))) refl
further_cmp [] (a ∷ b ∷ []) l h m k p q = rw (less_from h k (omega (arith, p.1, q.2)), p.0) (no_less m)
  where
    no_less : (n : ℕ) → bytes_cmp [] (a ∷ b ∷ []) ≡ ordering_then (nat_cmp 0 n) (nat_cmp 0 1)
    no_less n = elim (cases_lt 0 n) [ inl lt ↦ rw (less_from 0 n lt) refl | inr le ↦ (let none : n ≡ 0 = omega arith in rw none refl) ]
further_cmp [] (a ∷ b ∷ c ∷ ys) l h m k p q = absurd q
further_cmp (a ∷ []) [] l h m k p q = rw (greater_from l m (omega (arith, p.1, q.0))) refl
further_cmp (a ∷ []) (b ∷ []) l h m k p q = rw (p.0, q.0, p.2, q.2) refl
further_cmp (a ∷ []) (b ∷ c ∷ []) l h m k p q = rw (p.0, q.0, less_from h k (omega (arith, p.2, q.2))) refl
further_cmp (a ∷ []) (b ∷ c ∷ d ∷ ys) l h m k p q = absurd q
further_cmp (a ∷ b ∷ []) [] l h m k p q = rw (greater_from h k (omega (arith, p.2, q.1)), q.0) (no_more l)
  where
    no_more : (n : ℕ) → bytes_cmp (a ∷ b ∷ []) [] ≡ ordering_then (nat_cmp n 0) (nat_cmp 1 0)
    no_more n = elim (cases_lt 0 n) [ inl lt ↦ rw (greater_from n 0 lt) refl | inr le ↦ (let none : n ≡ 0 = omega arith in rw none refl) ]
further_cmp (a ∷ b ∷ []) (c ∷ []) l h m k p q = rw (p.0, q.0, greater_from h k (omega (arith, p.2, q.2))) refl
further_cmp (a ∷ b ∷ []) (c ∷ d ∷ []) l h m k p q = rw (p.0, p.1, q.0, q.1, then_equal (nat_cmp h k)) refl
further_cmp (a ∷ b ∷ []) (c ∷ d ∷ e ∷ ys) l h m k p q = absurd q
further_cmp (a ∷ b ∷ c ∷ xs) ys l h m k p q = absurd p

turned_zero : turned 0 ≡ 0
unfolding turned
turned_zero = refl

turned_some : (octet : ℕ) → 0 < octet → octet < 256 → 0 < turned octet
turned_some octet some small = elim (cases_lt 0 (turned octet)) [
  | inl lt ↦ lt
  | inr le ↦ absurd (let none : turned octet ≡ 0 = omega arith in let back : octet ≡ 0 = sym (turned_octet octet small).0 ∙ ap turned none ∙ turned_zero in omega (arith, back, some))
]

abbrev Octets : ℕ → Type 0
Octets set = (further : List ℕ) × (set_octets set ≡ unused_of set ∷ further) × AreFurther further (turned (set % 256)) (turned (set / 256))

no_octets : Octets 0
unfolding set_octets unused_of turned
no_octets = ([], refl, (refl, refl))

octets_of : (set : ℕ) → set < 65536 → Octets set
unfolding unused_of
octets_of set small = elim (cases_lt set 1) [
  | inl none ↦ (let is : set ≡ 0 = omega arith in rw is no_octets)
  | inr some ↦ elim (cases_lt set 256) [
    | inl one ↦
        let low : set % 256 ≡ set = omega arith in
        let high : set / 256 ≡ 0 = omega arith in
        let ne : nat_eq set 0 ≡ false = ne_eqb set 0 (λ e. omega arith) in
        (turned set ∷ [], set_octets-one set some one ∙ rw (ne, lt-ltb set 256 one) refl, rw (low, high) (refl, turned_some set some one, turned_zero))
    | inr more ↦
        let ne : nat_eq set 0 ≡ false = ne_eqb set 0 (λ e. omega arith) in
        (turned (set % 256) ∷ turned (set / 256) ∷ [], set_octets-two set more ∙ rw (ne, le-ltb set 256 more) refl, (refl, refl, turned_some (set / 256) (omega arith) (omega arith)))
  ]
]

-- by the counts of unused bits, then by the octets
pub sets_cmp : (a b : ℕ) → a < 65536 → b < 65536 → bytes_cmp (set_octets a) (set_octets b) ≡ ordering_then (ordering_then (nat_cmp (unused_of a) (unused_of b)) (nat_cmp (turned (a % 256)) (turned (b % 256)))) (nat_cmp (turned (a / 256)) (turned (b / 256)))
sets_cmp a b p q =
    let x = octets_of a p in
    let y = octets_of b q in
    let u = nat_cmp (unused_of a) (unused_of b) in
    rw (x.1, y.1) (ap (ordering_then u) (further_cmp x.0 y.0 (turned (a % 256)) (turned (a / 256)) (turned (b % 256)) (turned (b / 256)) x.2 y.2)
    ∙ sym (then_assoc u (nat_cmp (turned (a % 256)) (turned (b % 256))) (nat_cmp (turned (a / 256)) (turned (b / 256)))))

-- ---- the law

same_set : (a b : ℕ) → a < 65536 → b < 65536 → set_octets a ≡ set_octets b → a ≡ b
same_set a b p q e = inner (sym (set_at-complete a p) ∙ ap set_at e ∙ set_at-complete b q)
  where
    inner : {x y : ℕ} → Some x ≡ Some y → x ≡ y
    inner f = cc

pub flag_ordered : {T : Type 0} (round : Round T ℕ) (table : List (List ℕ × ℕ)) (write : T → Written T) → IsOrder (flag_bits round table) write (flag_order round table)
flag_ordered round table write =
    by_key_lawful (flag_bits round table) write round.to nat_cmp nat_cmp_total
    (λ x y _ _ e. sym (round.back x) ∙ ap round.from (exact_unsigned (round.to x) (round.to y) e) ∙ round.back y)
    (λ x y p q e. same_set (round.to x) (round.to y) p.0.0 q.0.0 e)
