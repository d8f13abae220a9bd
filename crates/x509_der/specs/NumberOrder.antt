-- The byte order of the contents of BOOLEANs and of INTEGERs from 0 on.
use Rattle.std.specs.Prelude.{◌≡◌, ℕ, zero, suc, ◌+◌, ◌-◌, ◌/◌, ◌%◌, ◌<◌, Bool, true, false, nat_lt, List, [], ◌∷◌, ◌++◌, if◌then◌else◌}
use Rattle.std.specs.Ordering.{nat_cmp, ordering_then}
use Rattle.std.specs.declared.cmp.Ordering.TheVariants.{Less, Equal, Greater}
use Rattle.std.proofs.Common.{append-nil, refl, sym, ◌∙◌, arith, append_assoc, inl, inr}
use Rattle.std.proofs.lemmas.Bool.{cases_lt, lt-ltb, le-ltb}
use Rattle.std.proofs.lemmas.Cmp.{ranked, by_ranked, tied_itself, nat_list_cmp_total}
use Rattle.std.proofs.lemmas.Map.Lookups.{exact_unsigned}
use Rattle.x509_der.specs.Boolean.{boolean, boolean_octets}
use Rattle.x509_der.specs.Natural as contents
use Rattle.x509_der.specs.Natural.{natural, natural_octets}
use Rattle.x509_der.specs.Writing.{Written}
use Rattle.x509_der.specs.Order.{bytes_cmp, IsOrder}
use Rattle.x509_der.specs.OrderLaws.{digits, digits_cmp, then_both, equal_itself, less_from, greater_from}
use Rattle.x509_der.specs.Ordered.{by_bytes, by_bytes_lawful}

-- how many digits in base 256 a number has behind the first, of at most k
unfoldable pub further : ℕ → ℕ → ℕ
further zero n = 0
further (suc k) n = if nat_lt n 128 then 0 else suc (further k (n / 256))

-- a number without its last k digits
abbrev pub front : ℕ → ℕ → ℕ
front zero n = n
front (suc k) n = front k (n / 256)

contents_are : (k n : ℕ) → contents.digits k n ≡ digits (further k n) n
unfolding contents.digits further
contents_are zero n = refl
contents_are (suc k) n = elim (cases_lt n 128) [
  | inl lt ↦ rw (lt-ltb n 128 lt) refl
  | inr le ↦ rw (le-ltb n 128 le, contents_are k (n / 256)) refl
]

-- digits before those of which they may be a front
shorter_cmp : (d p n m b : ℕ) (x : List ℕ) → bytes_cmp (digits p n) (digits (d + p) m ++ b ∷ x) ≡ ordering_then (nat_cmp n (front d m)) Less
shorter_cmp zero p n m b x = let none : zero + p ≡ p = omega arith in rw (none, ← append-nil (digits p n)) (digits_cmp p n m [] (b ∷ x))
shorter_cmp (suc d) p n m b x = let one : suc d + p ≡ suc (d + p) = omega arith in rw (one, append_assoc (digits (d + p) (m / 256)) (m % 256 ∷ []) (b ∷ x)) (shorter_cmp d p n (m / 256) (m % 256) (b ∷ x))

longer_cmp : (d p n m b : ℕ) (x : List ℕ) → bytes_cmp (digits (d + p) m ++ b ∷ x) (digits p n) ≡ ordering_then (nat_cmp (front d m) n) Greater
longer_cmp zero p n m b x = let none : zero + p ≡ p = omega arith in rw (none, ← append-nil (digits p n)) (digits_cmp p m n (b ∷ x) [])
longer_cmp (suc d) p n m b x = let one : suc d + p ≡ suc (d + p) = omega arith in rw (one, append_assoc (digits (d + p) (m / 256)) (m % 256 ∷ []) (b ∷ x)) (longer_cmp d p n (m / 256) (m % 256) (b ∷ x))

-- runs of lengths that differ
less_run : (d p n m : ℕ) → bytes_cmp (digits p n) (digits (suc (d + p)) m) ≡ ordering_then (nat_cmp n (front (suc d) m)) Less
less_run d p n m = shorter_cmp d p n (m / 256) (m % 256) []

more_run : (d p n m : ℕ) → bytes_cmp (digits (suc (d + p)) m) (digits p n) ≡ ordering_then (nat_cmp (front (suc d) m) n) Greater
more_run d p n m = longer_cmp d p n (m / 256) (m % 256) []

same_run : (p n m : ℕ) → bytes_cmp (digits p n) (digits p m) ≡ ordering_then (nat_cmp n m) Equal
same_run p n m = rw (← append-nil (digits p n), ← append-nil (digits p m)) (digits_cmp p n m [] [])

-- by the fronts of one length, and then by the lengths
runs_cmp : (p q n m : ℕ) → bytes_cmp (digits p n) (digits q m) ≡ ordering_then (nat_cmp (front (p - q) n) (front (q - p) m)) (nat_cmp p q)
runs_cmp p q n m = by_ranked (p < q) (p ≡ q) (q < p) (nat_cmp p q) (ranked p q (nat_cmp p q) refl)
    (λ _ h. let d : ℕ = q - p - 1 in shorter d (p - q) (q - p) q (omega arith) (omega arith) (omega arith) (less_from p q h))
    (λ _ h. same (p - q) (q - p) q h (omega arith) (omega arith))
    (λ _ h. let d : ℕ = p - q - 1 in longer d (p - q) (q - p) p (omega arith) (omega arith) (omega arith) (greater_from p q h))
  where
    shorter : (d r s k : ℕ) → k ≡ suc (d + p) → r ≡ 0 → s ≡ suc d → nat_cmp p k ≡ Less → bytes_cmp (digits p n) (digits k m) ≡ ordering_then (nat_cmp (front r n) (front s m)) (nat_cmp p k)
    shorter d r s k whole none some less = rw (less, none, some, whole) (less_run d p n m)

    longer : (d r s k : ℕ) → k ≡ suc (d + q) → s ≡ 0 → r ≡ suc d → nat_cmp k q ≡ Greater → bytes_cmp (digits k n) (digits q m) ≡ ordering_then (nat_cmp (front r n) (front s m)) (nat_cmp k q)
    longer d r s k whole none some more = rw (more, none, some, whole) (more_run d q m n)

    same : (r s k : ℕ) → p ≡ k → r ≡ 0 → s ≡ 0 → bytes_cmp (digits p n) (digits k m) ≡ ordering_then (nat_cmp (front r n) (front s m)) (nat_cmp p k)
    same r s k is none none_too = rw (← is, none, none_too, equal_itself p) (same_run p n m)

pub naturals_cmp : (n m : ℕ) → bytes_cmp (natural_octets n) (natural_octets m) ≡ ordering_then (nat_cmp (front (further 16 n - further 16 m) n) (front (further 16 m - further 16 n) m)) (nat_cmp (further 16 n) (further 16 m))
unfolding natural_octets
naturals_cmp n m = rw (contents_are 16 n, contents_are 16 m) (runs_cmp (further 16 n) (further 16 m) n m)

-- ---- the laws

-- numbers of equal contents are equal
one_natural : (n m : ℕ) → natural_octets n ≡ natural_octets m → n ≡ m
one_natural n m e =
    let equal : bytes_cmp (natural_octets n) (natural_octets m) ≡ Equal = rw e (tied_itself nat_list_cmp_total (natural_octets m)) in
    let both = then_both _ _ (sym (naturals_cmp n m) ∙ equal) in
    let lengths : further 16 n ≡ further 16 m = exact_unsigned (further 16 n) (further 16 m) both.1 in
    let fronts : front (further 16 n - further 16 m) n ≡ front (further 16 m - further 16 n) m = exact_unsigned _ _ both.0 in
    without (further 16 n) (further 16 m) lengths fronts
  where
    without : (p q : ℕ) → p ≡ q → front (p - q) n ≡ front (q - p) m → n ≡ m
    without p q is fronts =
        let none : p - q ≡ 0 = omega arith in
        let none_too : q - p ≡ 0 = omega arith in
        rw (none, none_too) at fronts

pub natural_ordered : (bound : ℕ) (write : ℕ → Written ℕ) → IsOrder (natural bound) write (by_bytes (natural bound))
natural_ordered bound write = by_bytes_lawful (natural bound) write (λ n m _ e. one_natural n m e)

one_boolean : (a b : Bool) → boolean_octets a ≡ boolean_octets b → a ≡ b
unfolding boolean_octets
one_boolean true true e = refl
one_boolean true false e = absurd cc
one_boolean false true e = absurd cc
one_boolean false false e = refl

pub boolean_ordered : (write : Bool → Written Bool) → IsOrder boolean write (by_bytes boolean)
boolean_ordered write = by_bytes_lawful boolean write (λ a b _ e. one_boolean a b e)
