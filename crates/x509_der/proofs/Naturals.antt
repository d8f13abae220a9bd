-- Octets are below 256, and the loops over the digits of a number.
use Rattle.std.proofs.Common.{◌≡◌, ℕ, zero, suc, ◌<◌, ◌≤◌, ◌+◌, ◌*◌, ◌/◌, ◌%◌, Bool, true, false, List, [], ◌∷◌, ◌++◌, drop, length, get_or, None, Result, Ok, Err, refl, sym, ap, ◌∙◌, arith, append_assoc, add-one}
use Rattle.std.specs.Prelude.{◌&&◌}
use Rattle.std.proofs.lemmas.Bool.{lt-ltb, le-ltb}
use Rattle.std.proofs.lemmas.List.{append-nil}
use Rattle.std.proofs.Math.Seq.{drop-cons}
use Rattle.x509_der.specs.declared.error.Error.{Error}
use Rattle.x509_der.specs.declared.error.ErrorKind.TheVariants.{Malformed}
use Rattle.x509_der.specs.Natural.{are_octets, digits, is_natural, natural_octets, natural_reading, number_after}
use Rattle.x509_der.specs.NaturalLaws.{bound, digits_small}
use Rattle.x509_der.specs.Writing.{Kind, IsKind, Puts}
use Rattle.x509_der.specs.WritingLaws.{puts_after, puts_not, puts_nothing}

pub octets_are_octets : (bytes : List ℕ) → ((i : ℕ) → get_or bytes i 0 < 256) → are_octets bytes ≡ true
octets_are_octets [] h = refl
octets_are_octets (b ∷ bytes) h = let lt : b < 256 = h zero in rw (lt-ltb b 256 lt) (octets_are_octets bytes (λ i. h (suc i)))

-- ---- reading

pub number_after-drop : (n : ℕ) (bytes : List ℕ) (i : ℕ) → i < length bytes → number_after n (drop i bytes) ≡ number_after (256 * n + get_or bytes i 0) (drop (i + 1) bytes)
number_after-drop n bytes i lt = rw (add-one, drop-cons bytes i 0) refl

pub number_after-grows : (n : ℕ) (bytes : List ℕ) → n ≤ number_after n bytes
number_after-grows n [] = omega arith
number_after-grows n (b ∷ bytes) = let more = number_after-grows (256 * n + b) bytes in omega (arith, more)

-- ---- writing

-- The digits behind rest stand, and rest has as many digits as there is room for in front of them.
pub record Stands {R : Type 0} (kind : Kind R) (number rest : ℕ) (old now : R) : Type 0 where
  pub left : ℕ
  pub text : List ℕ
  pub enough : rest < bound left
  pub so_far : natural_octets number ≡ digits left rest ++ text
  pub stand : Puts kind text None (Ok tt) old now

pub stands_first : {R : Type 0} (kind : Kind R) → IsKind kind → (number : ℕ) (room : R) → number < bound 16 → Stands kind number number room room
unfolding natural_octets
stands_first kind h number room lt = record { left = 16; text = []; enough = lt; so_far = sym (append-nil (digits 16 number)); stand = puts_nothing kind h room }

-- the digits of rest, of which the last is split off
split_digit : (k rest : ℕ) → 128 ≤ rest → rest < bound k → (j : ℕ) × ((rest / 256) < bound j) × (digits k rest ≡ digits j (rest / 256) ++ (rest % 256) ∷ [])
unfolding digits
split_digit zero rest le lt = absurd (omega (arith, le, lt))
split_digit (suc j) rest le lt = (j, omega (arith, lt), rw (le-ltb rest 128 le) refl)

digit_put : {R : Type 0} (kind : Kind R) → IsKind kind → (b : ℕ) (text : List ℕ) (r : Result Unit Error) (old mid new : R) → Puts kind text None (Ok tt) old mid → Puts kind (b ∷ []) None r mid new → Puts kind (b ∷ text) None r old new
digit_put kind h b text r old mid new s t = puts_after kind h (b ∷ []) text None None tt r old mid new s t

pub stands_next : {R : Type 0} (kind : Kind R) → IsKind kind → (number rest : ℕ) (old mid new : R) → 128 ≤ rest → Stands kind number rest old mid → Puts kind ((rest % 256) ∷ []) None (Ok tt) mid new → Stands kind number (rest / 256) old new
stands_next kind h number rest old mid new le s t =
    let k = split_digit s.left rest le s.enough in
    record {
      left = k.0;
      text = (rest % 256) ∷ s.text;
      enough = k.1;
      so_far = s.so_far ∙ ap (λ (x : List ℕ). x ++ s.text) k.2 ∙ append_assoc (digits k.0 (rest / 256)) ((rest % 256) ∷ []) s.text;
      stand = digit_put kind h (rest % 256) s.text (Ok tt) old mid new s.stand t;
    }

pub stands_refused : {R : Type 0} (kind : Kind R) → IsKind kind → (number rest : ℕ) (e : Error) (old mid new : R) → 128 ≤ rest → Stands kind number rest old mid → Puts kind ((rest % 256) ∷ []) None (Err e) mid new → Puts kind (natural_octets number) None (Err e) old new
stands_refused kind h number rest e old mid new le s t =
    let k = split_digit s.left rest le s.enough in
    let all : natural_octets number ≡ digits k.0 (rest / 256) ++ (rest % 256) ∷ s.text = s.so_far ∙ ap (λ (x : List ℕ). x ++ s.text) k.2 ∙ append_assoc (digits k.0 (rest / 256)) ((rest % 256) ∷ []) s.text in
    rw all (puts_not kind (digits k.0 (rest / 256)) ((rest % 256) ∷ s.text) None None e old new (digit_put kind h (rest % 256) s.text (Err e) old mid new s.stand t))

pub stands_last : {R : Type 0} (kind : Kind R) → IsKind kind → (number rest : ℕ) (r : Result Unit Error) (old mid new : R) → rest < 128 → Stands kind number rest old mid → Puts kind (rest ∷ []) None r mid new → Puts kind (natural_octets number) None r old new
stands_last kind h number rest r old mid new lt s t =
    let all : natural_octets number ≡ rest ∷ s.text = s.so_far ∙ ap (λ (x : List ℕ). x ++ s.text) (digits_small s.left rest lt) in
    rw all (digit_put kind h rest s.text r old mid new s.stand t)

and-false : (b : Bool) → (b && false) ≡ false
and-false true = refl
and-false false = refl

-- a number that is too large once a further digit is taken
pub too_large : (n : ℕ) (bytes : List ℕ) (i : ℕ) → i < length bytes → 1329227995784915872903807060280344576 ≤ n → number_after n (drop i bytes) ≡ number_after 0 bytes → natural_reading 340282366920938463463374607431768211456 bytes ≡ Err Malformed
unfolding natural_reading
too_large n bytes i lt big so_far =
    let more = number_after-grows (256 * n + get_or bytes i 0) (drop (i + 1) bytes) in
    let is : number_after (256 * n + get_or bytes i 0) (drop (i + 1) bytes) ≡ number_after 0 bytes = sym (number_after-drop n bytes i lt) ∙ so_far in
    let over : 340282366920938463463374607431768211456 ≤ number_after 0 bytes = rw (← is) (omega (arith, more, big)) in
    rw (le-ltb (number_after 0 bytes) 340282366920938463463374607431768211456 over, and-false (is_natural bytes)) refl
