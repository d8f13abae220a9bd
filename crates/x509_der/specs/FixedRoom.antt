-- Room that is filled from its end, and leaves what is before.
use Rattle.std.specs.Prelude.{◌≡◌, ℕ, ◌+◌, ◌-◌, ◌≤◌, min, List, ◌++◌, length, take, drop, refl}
use Rattle.std.proofs.Common.{arith, sym, ap, ◌∙◌, append_assoc, length-append}
use Rattle.std.proofs.lemmas.List.{take-take}
use Rattle.x509_der.specs.Element.{limit}
use Rattle.x509_der.specs.Writing.{Kind, IsKind}
use Rattle.x509_der.specs.declared.room.fixed.Fixed.{Fixed}

-- The room is the one that stood; the bytes stand in front of those that stood, and those before them are as they were.
pub record PutsFixed (bytes : List ℕ) (x y : Fixed) : Type 0 where
  pub same_reference : y.room.ghost_name ≡ x.room.ghost_name
  pub len : length y.room.now ≡ length x.room.now
  pub start : y.start + length bytes ≡ x.start
  pub stand : drop y.start y.room.now ≡ bytes ++ drop x.start x.room.now
  pub before : take y.start y.room.now ≡ take y.start x.room.now

abbrev pub fixed : Kind Fixed
fixed = record { puts = PutsFixed; count = λ f. length f.room.now - f.start; most = λ f. min (length f.room.now) limit; lacks = ⊥ }

take_less : (i j : ℕ) (x y : List ℕ) → i ≤ j → take j x ≡ take j y → take i x ≡ take i y
take_less i j x y le e = sym (take-take i j x le) ∙ ap (take i) e ∙ take-take i j y le

put_further : (a b : List ℕ) (x y z : Fixed) → PutsFixed b x y → PutsFixed a y z → PutsFixed (a ++ b) x z
put_further a b x y z p q = record {
  same_reference = q.same_reference ∙ p.same_reference;
  len = q.len ∙ p.len;
  start = omega (arith, p.start, q.start, length-append a b);
  stand = q.stand ∙ ap (λ (s : List ℕ). a ++ s) p.stand ∙ sym (append_assoc a b (drop x.start x.room.now));
  before = q.before ∙ take_less z.start y.start y.room.now x.room.now (omega (arith, q.start)) p.before;
}

pub fixed_lawful : IsKind fixed
fixed_lawful = record {
  nothing = λ x. record { same_reference = refl; len = refl; start = omega arith; stand = refl; before = refl };
  further = put_further;
  counted = λ a x y p. let inside : x.start ≤ length x.room.now = x.within in omega (arith, p.len, p.start, inside);
  same_most = λ a x y p. ap (λ (n : ℕ). min n limit) (sym p.len);
  within = λ x. omega arith;
}
