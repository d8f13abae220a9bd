-- Which of two CRLs is older.
use Rattle.std.proofs.Common.{◌≡◌, ◌<◌, ◌↔◌, ◌∙◌, ℕ, Bool, inl, inr, Option, Some, None, refl, sym, ap, subst, arith}
use Rattle.std.proofs.lemmas.Bool.{cases_order}
use Rattle.std.specs.Bool.{IsTrue}
use Rattle.std.specs.Prelude.{MatchOption}
use Rattle.x509_ext.specs.CrlNumber.{crl_number}
use Rattle.x509_ext.specs.Identifiers.{id_ce}
use Rattle.x509_ext.specs.declared.pkix.crl_number.CrlNumber.{CrlNumber}
use Rattle.x509_path.specs.Certificates.{HasPayload}
use Rattle.x509_revocation.specs.Ages.{numbers}
use Rattle.x509_revocation.specs.Crls.{Crl, HasNumber, IsBelow, IsNumbered, IsOlder, crl_extensions, this_second}
use Rattle.x509_revocation.proofs.Orders.{one_number}

pub one_numbered : (crl : Crl) (n m : Option ℕ) → IsNumbered crl n → IsNumbered crl m → n ≡ m
one_numbered crl None None h k = refl
one_numbered crl None (Some m) h k = absurd (h m k)
one_numbered crl (Some n) None h k = absurd (k n h)
one_numbered crl (Some n) (Some m) h k = ap (λ x. Some x) (one_number crl n m h k)

-- ---- numbers and dates

below_through : (n m o : Option ℕ) (s t u : ℕ) → IsBelow n m (s < t) → IsBelow m o (t < u) → IsBelow n o (s < u)
below_through None None None s t u h k = omega (arith, h, k)
below_through None None (Some o) s t u h k = tt
below_through None (Some m) None s t u h k = absurd k
below_through None (Some m) (Some o) s t u h k = tt
below_through (Some n) None o s t u h k = absurd h
below_through (Some n) (Some m) None s t u h k = absurd k
below_through (Some n) (Some m) (Some o) s t u (inl h) (inl k) = inl (omega (arith, h, k))
below_through (Some n) (Some m) (Some o) s t u (inl h) (inr k) = inl (omega (arith, h, k.0))
below_through (Some n) (Some m) (Some o) s t u (inr h) (inl k) = inl (omega (arith, h.0, k))
below_through (Some n) (Some m) (Some o) s t u (inr h) (inr k) = inr (h.0 ∙ k.0, omega (arith, h.1, k.1))

not_below : (n : Option ℕ) (s : ℕ) → IsBelow n n (s < s) → ⊥
not_below None s h = omega (arith, h)
not_below (Some n) s (inl h) = omega (arith, h)
not_below (Some n) s (inr h) = omega (arith, h.1)

-- what isn't above the second is below what is
below_other : (n m o : Option ℕ) (s t u : ℕ) → (IsBelow m n (t < s) → ⊥) → IsBelow m o (t < u) → IsBelow n o (s < u)
below_other None None None s t u h k = omega (arith, h, k)
below_other (Some n) None o s t u h k = absurd (h tt)
below_other None None (Some o) s t u h k = tt
below_other None (Some m) None s t u h k = absurd k
below_other None (Some m) (Some o) s t u h k = tt
below_other (Some n) (Some m) None s t u h k = absurd k
below_other (Some n) (Some m) (Some o) s t u h (inl k) =
    elim (cases_order n m) [
      | inl same ↦ inl (omega (arith, same, k))
      | inr other ↦ elim other [ inl less ↦ inl (omega (arith, less, k)) | inr more ↦ absurd (h (inl more)) ]
    ]
below_other (Some n) (Some m) (Some o) s t u h (inr k) =
    elim (cases_order n m) [
      | inl same ↦ inr (same ∙ k.0, (let not_later : (t < s) → ⊥ = λ less. h (inr (sym same, less)) in omega (arith, not_later, k.1)))
      | inr other ↦ elim other [ inl less ↦ inl (omega (arith, less, k.0)) | inr more ↦ absurd (h (inl more)) ]
    ]

-- ---- CRLs

pub older_through : (a b c : Crl) → IsOlder a b → IsOlder b c → IsOlder a c
older_through a b c (n, m, first, second, h) (p, o, third, fourth, k) =
    let so = subst (λ x. IsBelow x o (this_second b < this_second c)) (one_numbered b p m third second) k in
    (n, o, first, fourth, below_through n m o (this_second a) (this_second b) (this_second c) h so)

pub not_older : (a : Crl) → IsOlder a a → ⊥
not_older a (n, m, first, second, h) = not_below n (this_second a) (subst (λ x. IsBelow n x (this_second a < this_second a)) (one_numbered a m n second first) h)

-- one that has a number is older than those that are newer than one which it isn't newer than
pub older_other : (a b c : Crl) (number : ℕ) → HasNumber a number → (IsOlder b a → ⊥) → IsOlder b c → IsOlder a c
older_other a b c number has none (m, o, second, third, k) =
    (Some number, o, has, third, below_other (Some number) m o (this_second a) (this_second b) (this_second c) (λ below. none (m, Some number, second, has, below)) k)

-- ---- what is told of both

pub numbered : (crl : Crl) (found : Option CrlNumber) → MatchOption found ((v : CrlNumber) → HasPayload crl_number (id_ce 20) (crl_extensions crl) v → ⊥) (HasPayload crl_number (id_ce 20) (crl_extensions crl)) → IsNumbered crl (numbers found)
numbered crl None none = λ n has. none has.0 has.1
numbered crl (Some v) has = (v, has, refl)

below_so : (n m : Option ℕ) (D E : Type 0) → (D → E) → IsBelow n m D → IsBelow n m E
below_so None None D E f h = f h
below_so None (Some m) D E f h = tt
below_so (Some n) None D E f h = absurd h
below_so (Some n) (Some m) D E f (inl h) = inl h
below_so (Some n) (Some m) D E f (inr h) = inr (h.0, f h.1)

pub older_told : (x y : Crl) (n m : Option ℕ) (b e : Bool) → IsNumbered x n → IsNumbered y m → IsTrue b ↔ IsBelow n m (IsTrue e) → IsTrue e ↔ (this_second x < this_second y) → IsTrue b ↔ IsOlder x y
older_told x y n m b e first second below early = (
  (λ is. (n, m, first, second, below_so n m (IsTrue e) (this_second x < this_second y) early.0 (below.0 is))),
  (λ (p, q, third, fourth, h).
      let one = subst (λ v. IsBelow v q (this_second x < this_second y)) (one_numbered x p n third first) h in
      let both = subst (λ v. IsBelow n v (this_second x < this_second y)) (one_numbered y q m fourth second) one in
      below.1 (below_so n m (this_second x < this_second y) (IsTrue e) early.1 both)),
)
