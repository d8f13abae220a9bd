-- The contents of sets of named bits are read as they are written.
use Rattle.std.proofs.Common.{◌≡◌, ℕ, ◌+◌, ◌*◌, ◌/◌, ◌%◌, ◌<◌, ◌≤◌, Bool, true, false, cond, ◌&&◌, not, nat_eq, nat_lt, List, [], ◌∷◌, Some, None, Ok, Err, refl, sym, subst, inl, inr, arith}
use Rattle.std.proofs.lemmas.Bool.{and_parts, cases_lt, eqb-true, eq-eqb, ne_eqb, ltb-true, lt-ltb, le-ltb}
use Rattle.std.proofs.lemmas.Bool.Decides.{nat_tests}
use Rattle.std.specs.Prelude.{Option, Result}
use Rattle.x509_der.specs.declared.error.ErrorKind.{ErrorKind}
use Rattle.x509_der.specs.declared.error.ErrorKind.TheVariants.{Memory, Overlength, Malformed, Failed, SetDuplicate, Value}
use Rattle.x509_der.specs.declared.tag.Tag.TheVariants.{BitString}
use Rattle.x509_der.specs.Form.{IsForm, IsContents}
use Rattle.x509_der.specs.FormLaws.{universal_lawful}
use Rattle.x509_der.specs.Round.{Round, round_lawful, round_stable}
use Rattle.x509_der.specs.Writing.{respelling, IsStable}
use Rattle.x509_der.specs.declared.error.Error.{Error}
use Rattle.x509_der.specs.Outcome.{◌>>=◌, IsRefusal, GivesBy, Gives}
use Rattle.x509_der.specs.OutcomeLaws.{ok_is, test_ok, test_err}
use Rattle.x509_prim.specs.NamedBits.{turned, unused_after, set_octets, ends, set_at, has_names, named, named_reading, named_contents, named_written, flag_contents, flag_bits, flag_writing}
use Rattle.x509_prim.specs.Below.{all_below, all_below-at}

-- ---- octets

all_octets : all_below (λ octet. nat_eq (turned (turned octet)) octet && nat_lt (turned octet) 256) 256 ≡ true
unfolding turned
all_octets = refl

pub turned_octet : (octet : ℕ) → octet < 256 → (turned (turned octet) ≡ octet) × (turned octet < 256)
turned_octet octet small =
    let test : ℕ → Bool = λ o. nat_eq (turned (turned o)) o && nat_lt (turned o) 256 in
    let parts = and_parts (nat_eq (turned (turned octet)) octet) (nat_lt (turned octet) 256) (all_below-at test 256 all_octets octet small) in
    (eqb-true (turned (turned octet)) octet parts.0, ltb-true (turned octet) 256 parts.1)

-- ---- contents

some_when : {A : Type 0} (b : Bool) (x y : A) → cond b (Some x) None ≡ Some y → (b ≡ true) × (x ≡ y)
some_when true x y e = (refl, cc)
some_when false x y e = absurd cc

not_zero : (n : ℕ) → not (nat_eq n 0) ≡ true → 0 < n
not_zero n h = grind (arith, nat_tests)

pub set_octets-one : (set : ℕ) → 0 < set → set < 256 → set_octets set ≡ unused_after set ∷ turned set ∷ []
unfolding set_octets
set_octets-one set some small =
    let ne : nat_eq set 0 ≡ false = ne_eqb set 0 (λ e. omega arith) in
    rw (ne, lt-ltb set 256 small) refl

pub set_octets-two : (set : ℕ) → 256 ≤ set → set_octets set ≡ unused_after (set / 256) ∷ turned (set % 256) ∷ turned (set / 256) ∷ []
unfolding set_octets
set_octets-two set large =
    let ne : nat_eq set 0 ≡ false = ne_eqb set 0 (λ e. omega arith) in
    rw (ne, le-ltb set 256 large) refl

-- what the last octet says
pub ends-parts : (unused octet : ℕ) → ends unused octet ≡ true → (octet < 256) × (0 < turned octet) × (unused ≡ unused_after (turned octet))
ends-parts unused octet h =
    let a = and_parts (nat_lt octet 256) (not (nat_eq (turned octet) 0) && nat_eq unused (unused_after (turned octet))) h in
    let b = and_parts (not (nat_eq (turned octet) 0)) (nat_eq unused (unused_after (turned octet))) a.1 in
    (ltb-true octet 256 a.0, not_zero (turned octet) b.0, eqb-true unused (unused_after (turned octet)) b.1)

zero_sound : (unused set : ℕ) → set_at (unused ∷ []) ≡ Some set → (set < 65536) × (unused ∷ [] ≡ set_octets set)
unfolding set_at set_octets
zero_sound unused set e =
    let s = some_when (nat_eq unused 0) 0 set e in
    let none : unused ≡ 0 = eqb-true unused 0 s.0 in
    rw (none, ← s.1) (omega arith, refl)

one_sound : (unused octet set : ℕ) → set_at (unused ∷ octet ∷ []) ≡ Some set → (set < 65536) × (unused ∷ octet ∷ [] ≡ set_octets set)
unfolding set_at
one_sound unused octet set e =
    let s = some_when (ends unused octet) (turned octet) set e in
    let p = ends-parts unused octet s.0 in
    let o = turned_octet octet p.0 in
    let small : turned octet < 65536 = omega (arith, o.1) in
    let same : unused ∷ octet ∷ [] ≡ set_octets (turned octet) = rw (set_octets-one (turned octet) p.1 o.1, p.2, o.0) refl in
    subst (λ (n : ℕ). (n < 65536) × (unused ∷ octet ∷ [] ≡ set_octets n)) s.1 (small, same)

two_sound : (unused first last set : ℕ) → set_at (unused ∷ first ∷ last ∷ []) ≡ Some set → (set < 65536) × (unused ∷ first ∷ last ∷ [] ≡ set_octets set)
unfolding set_at
two_sound unused first last set e =
    let s = some_when (nat_lt first 256 && ends unused last) (turned first + 256 * turned last) set e in
    let q = and_parts (nat_lt first 256) (ends unused last) s.0 in
    let p = ends-parts unused last q.1 in
    let a = turned_octet first (ltb-true first 256 q.0) in
    let b = turned_octet last p.0 in
    let low : (turned first + 256 * turned last) % 256 ≡ turned first = omega (arith, a.1) in
    let high : (turned first + 256 * turned last) / 256 ≡ turned last = omega (arith, a.1) in
    let small : turned first + 256 * turned last < 65536 = omega (arith, a.1, b.1) in
    let large : 256 ≤ turned first + 256 * turned last = omega (arith, p.1) in
    let same : unused ∷ first ∷ last ∷ [] ≡ set_octets (turned first + 256 * turned last) = rw (set_octets-two (turned first + 256 * turned last) large, low, high, p.2, a.0, b.0) refl in
    subst (λ (n : ℕ). (n < 65536) × (unused ∷ first ∷ last ∷ [] ≡ set_octets n)) s.1 (small, same)

pub set_at-sound : (bytes : List ℕ) (set : ℕ) → set_at bytes ≡ Some set → (set < 65536) × (bytes ≡ set_octets set)
unfolding set_at
set_at-sound [] set e = absurd cc
set_at-sound (unused ∷ []) set e = zero_sound unused set e
set_at-sound (unused ∷ octet ∷ []) set e = one_sound unused octet set e
set_at-sound (unused ∷ first ∷ last ∷ []) set e = two_sound unused first last set e
set_at-sound (unused ∷ first ∷ second ∷ third ∷ octets) set e = absurd cc

ends-made : (set : ℕ) → 0 < set → set < 256 → ends (unused_after set) (turned set) ≡ true
ends-made set some small =
    let t = turned_octet set small in
    let ne : nat_eq set 0 ≡ false = ne_eqb set 0 (λ e. omega arith) in
    rw (lt-ltb (turned set) 256 t.1, t.0, ne, eq-eqb (unused_after set) (unused_after set) refl) refl

one_again : (set : ℕ) → 0 < set → set < 256 → set_at (unused_after set ∷ turned set ∷ []) ≡ Some set
unfolding set_at
one_again set some small = rw (ends-made set some small, (turned_octet set small).0) refl

two_again : (set low high : ℕ) → 0 < high → high < 256 → low < 256 → set ≡ low + 256 * high → set_at (unused_after high ∷ turned low ∷ turned high ∷ []) ≡ Some set
unfolding set_at
two_again set low high some small little is =
    let l = turned_octet low little in
    let h = turned_octet high small in
    rw (lt-ltb (turned low) 256 l.1, ends-made high some small, l.0, h.0, is) refl

none_again : set_at (set_octets 0) ≡ Some 0
unfolding set_at set_octets
none_again = refl

pub set_at-complete : (set : ℕ) → set < 65536 → set_at (set_octets set) ≡ Some set
set_at-complete set small = elim (cases_lt set 1) [
  | inl none ↦ (let is : set ≡ 0 = omega arith in rw is none_again)
  | inr some ↦ elim (cases_lt set 256) [
    | inl one ↦ rw (set_octets-one set some one) (one_again set some one)
    | inr more ↦ rw (set_octets-two set more) (two_again set (set % 256) (set / 256) (omega arith) (omega arith) (omega arith) (omega arith))
  ]
]

-- ---- sets whose bits have names

named_sound : (table : List (List ℕ × ℕ)) (bytes : List ℕ) (found : Option ℕ) (set : ℕ) → set_at bytes ≡ found → named table found ≡ Ok set → ((set < 65536) × (has_names table set ≡ true)) × (bytes ≡ set_octets set)
named_sound table bytes None set f e = absurd cc
named_sound table bytes (Some n) set f e =
    let t = test_ok (has_names table n) Malformed (Ok n) set e in
    let s = set_at-sound bytes n f in
    subst (λ (m : ℕ). ((m < 65536) × (has_names table m ≡ true)) × (bytes ≡ set_octets m)) (ok_is n set t.1) ((s.0, t.0), s.1)

named_refused : (table : List (List ℕ × ℕ)) (found : Option ℕ) (e : ErrorKind) → named table found ≡ Err e → e ≡ Malformed
named_refused table None e h = cc
named_refused table (Some set) e h = elim (test_err (has_names table set) Malformed (Ok set) e h) [ inl j ↦ absurd (let k = j in cc) | inr j ↦ sym j ]

pub named_contents_lawful : {R : ErrorKind → Type 0} (table : List (List ℕ × ℕ)) → IsContents R (named_contents table)
unfolding named_reading
named_contents_lawful table = record {
  sound = λ bytes set e. named_sound table bytes (set_at bytes) set refl e;
  complete = λ set good. rw (set_at-complete set good.0, good.1) refl;
  refused = λ bytes e r. inl (named_refused table (set_at bytes) e r);
}

-- ---- values of a flag type

pub flag_contents_lawful : {T : Type 0} {R : ErrorKind → Type 0} (round : Round T ℕ) (table : List (List ℕ × ℕ)) → IsContents R (flag_contents round table)
flag_contents_lawful round table = round_lawful round (named_contents table) (named_contents_lawful table)

pub flag_bits_lawful : {T : Type 0} {R : ErrorKind → Type 0} (round : Round T ℕ) (table : List (List ℕ × ℕ)) → IsForm R (flag_bits round table)
flag_bits_lawful round table = universal_lawful BitString (flag_contents round table) (flag_contents_lawful round table)

-- a value of which the set was read is the value that was read
pub flag_is_read : {T : Type 0} (round : Round T ℕ) (table : List (List ℕ × ℕ)) (result : Result T Error) (octets : List ℕ) → GivesBy round.to result (named_reading table octets) → Gives result ((flag_contents round table).reading octets)
flag_is_read round table (Ok value) octets e = rw (e, round.back value) refl
flag_is_read round table (Err e) octets r = refused e.kind (named_reading table octets) r
  where
    refused : (kind : ErrorKind) (reading : Result ℕ ErrorKind) → IsRefusal kind reading → IsRefusal kind (reading >>= λ set. Ok (round.from set))
    refused Memory reading r = tt
    refused Overlength reading r = rw r refl
    refused Malformed reading r = rw r refl
    refused Failed reading r = rw r refl
    refused SetDuplicate reading r = rw r refl
    refused Value reading r = rw r refl

-- ---- what is written once more

-- a set that isn't refused is written as it is
pub named_stable : (table : List (List ℕ × ℕ)) → IsStable (named_contents table).good (respelling (named_written table))
named_stable table = record { kept = λ set good free. good; again = λ set good free. rw free refl }

pub flag_stable : {T : Type 0} (round : Round T ℕ) (table : List (List ℕ × ℕ)) → IsStable (flag_contents round table).good (flag_writing round table)
flag_stable round table = round_stable round (respelling (named_written table)) (named_stable table)
