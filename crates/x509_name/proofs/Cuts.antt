-- A text is cut into the one list of parts that it joins.
use Rattle.std.proofs.Common.{eq-eqb, ◌%◌, ◌<◌, ◌≡◌, ℕ, suc, Bool, true, false, eqb, List, [], ◌∷◌, ◌++◌, length, Option, Some, refl, sym, ap, ◌∙◌, arith, inl, inr}
use Rattle.std.specs.List.{AllByRecursion, join_with_byte, onto_first}
use Rattle.std.proofs.lemmas.Bool.Decides.{nat_tests, eqb_tells}
use Rattle.x509_name.specs.Parts.{run_from, run_at_end, KeepsSeparators, EndsEven, AllButLast, Joined}
use Rattle.x509_name.specs.Cutting.{passes, cut}

-- ---- the parity of a run of backslashes says whether the next byte is escaped

abbrev pub odd : ℕ → Bool
odd n = eqb (n % 2) 1

odd_true : (n : ℕ) → n % 2 ≡ 1 → odd n ≡ true
odd_true n h = grind (arith, nat_tests)

odd_suc : (n : ℕ) → odd n ≡ false → odd (suc n) ≡ true
odd_suc n h = grind (arith, nat_tests)

odd_suc_odd : (n : ℕ) → odd n ≡ true → odd (suc n) ≡ false
odd_suc_odd n h = grind (arith, nat_tests)

abbrev pub KeepsFrom : ℕ → ℕ → List ℕ → Type 0
KeepsFrom separator n part = (front rest : List ℕ) → part ≡ front ++ separator ∷ rest → run_from n front % 2 ≡ 1

-- a part that keeps its separators, behind byte
keeps_yes : (separator n byte : ℕ) (part : List ℕ) → byte ≡ 92 → KeepsFrom separator n (byte ∷ part) → KeepsFrom separator (suc n) part
keeps_yes separator n byte part is keeps = λ front rest e.
    let h = keeps (byte ∷ front) rest (ap (λ (t : List ℕ). byte ∷ t) e) in rw is at h

keeps_no : (separator n byte : ℕ) (part : List ℕ) → eqb byte 92 ≡ false → KeepsFrom separator n (byte ∷ part) → KeepsFrom separator 0 part
keeps_no separator n byte part is keeps = λ front rest e.
    let h = keeps (byte ∷ front) rest (ap (λ (t : List ℕ). byte ∷ t) e) in rw is at h

pub keeps_passes : (separator : ℕ) (part : List ℕ) (n : ℕ) (escaped : Bool) → odd n ≡ escaped → KeepsFrom separator n part → passes separator part escaped ≡ Some (odd (run_from n part))
keeps_passes separator [] n escaped e keeps = ap (λ (t : Bool). Some t) (sym e)
keeps_passes separator (byte ∷ part) n true e keeps =
    elim (eqb_tells byte 92) [
      | inl t ↦ rw t.0 (keeps_passes separator part (suc n) false (odd_suc_odd n e) (keeps_yes separator n byte part t.1 keeps))
      | inr f ↦ rw f.0 (keeps_passes separator part 0 false refl (keeps_no separator n byte part f.0 keeps))
    ]
keeps_passes separator (byte ∷ part) n false e keeps =
    elim (eqb_tells byte separator) [
      | inl t ↦ absurd (let h = odd_true n (keeps [] part (ap (λ (x : ℕ). x ∷ part) t.1)) in cc)
      | inr g ↦ elim (eqb_tells byte 92) [
        | inl t ↦ rw (g.0, t.0) (keeps_passes separator part (suc n) true (odd_suc n e) (keeps_yes separator n byte part t.1 keeps))
        | inr f ↦ rw (g.0, f.0) (keeps_passes separator part 0 false refl (keeps_no separator n byte part f.0 keeps))
      ]
    ]

odd_one : (n : ℕ) → odd n ≡ true → n % 2 ≡ 1
odd_one n h = grind (arith, nat_tests)

pub passes_keeps : (separator : ℕ) (part : List ℕ) (n : ℕ) (escaped after : Bool) → odd n ≡ escaped → passes separator part escaped ≡ Some after → KeepsFrom separator n part
passes_keeps separator [] n escaped after e p [] rest is = absurd cc
passes_keeps separator [] n escaped after e p (c ∷ front) rest is = absurd cc
passes_keeps separator (byte ∷ part) n true after e p [] rest is = odd_one n e
passes_keeps separator (byte ∷ part) n true after e p (c ∷ front) rest is =
    let tail : part ≡ front ++ separator ∷ rest = cc in
    elim (eqb_tells c 92) [
      | inl t ↦ rw t.0 (passes_keeps separator part (suc n) false after (odd_suc_odd n e) p front rest tail)
      | inr f ↦ rw f.0 (passes_keeps separator part 0 false after refl p front rest tail)
    ]
passes_keeps separator (byte ∷ part) n false after e p [] rest is =
    let same : byte ≡ separator = cc in absurd (let h = rw (eq-eqb byte separator same) at p in cc)
passes_keeps separator (byte ∷ part) n false after e p (c ∷ front) rest is =
    let head : byte ≡ c = cc in
    let tail : part ≡ front ++ separator ∷ rest = cc in
    elim (eqb_tells byte separator) [
      | inl t ↦ absurd (let h = rw t.0 at p in cc)
      | inr g ↦ rw (← head) (elim (eqb_tells byte 92) [
        | inl t ↦ rw t.0 (passes_keeps separator part (suc n) true after (odd_suc n e) (rw (g.0, t.0) at p) front rest tail)
        | inr f ↦ rw f.0 (passes_keeps separator part 0 false after refl (rw (g.0, f.0) at p) front rest tail)
      ])
    ]

-- ---- cutting

pub passes-append : (separator : ℕ) (front back : List ℕ) (escaped after : Bool) → passes separator front escaped ≡ Some after → passes separator (front ++ back) escaped ≡ passes separator back after
passes-append separator [] back escaped after p = let e : escaped ≡ after = cc in ap (passes separator back) e
passes-append separator (byte ∷ front) back true after p = passes-append separator front back false after p
passes-append separator (byte ∷ front) back false after p =
    elim (eqb_tells byte separator) [
      | inl t ↦ absurd (let h = rw t.0 at p in cc)
      | inr f ↦ rw f.0 (passes-append separator front back (eqb byte 92) after (rw f.0 at p))
    ]

pub cut_one : (separator : ℕ) (part : List ℕ) (escaped after : Bool) → passes separator part escaped ≡ Some after → cut separator part escaped ≡ part ∷ []
unfolding cut
cut_one separator [] escaped after p = refl
cut_one separator (byte ∷ part) true after p = ap (onto_first byte) (cut_one separator part false after p)
cut_one separator (byte ∷ part) false after p =
    elim (eqb_tells byte separator) [
      | inl t ↦ absurd (let h = rw t.0 at p in cc)
      | inr f ↦ rw f.0 (ap (onto_first byte) (cut_one separator part (eqb byte 92) after (rw f.0 at p)))
    ]

pub cut_first : (separator : ℕ) (part rest : List ℕ) (escaped : Bool) → passes separator part escaped ≡ Some false → cut separator (part ++ separator ∷ rest) escaped ≡ part ∷ cut separator rest false
unfolding cut
cut_first separator [] rest true p = absurd cc
cut_first separator [] rest false p = rw (eq-eqb separator separator refl) refl
cut_first separator (byte ∷ part) rest true p = ap (onto_first byte) (cut_first separator part rest false p)
cut_first separator (byte ∷ part) rest false p =
    elim (eqb_tells byte separator) [
      | inl t ↦ absurd (let h = rw t.0 at p in cc)
      | inr f ↦ rw f.0 (ap (onto_first byte) (cut_first separator part rest (eqb byte 92) (rw f.0 at p)))
    ]

-- parts of a text whose first byte is escaped or not
abbrev pub CutsFrom : ℕ → Bool → List (List ℕ) → Type 0
CutsFrom separator escaped [] = ⊥
CutsFrom separator escaped (part ∷ []) = (after : Bool) × (passes separator part escaped ≡ Some after)
CutsFrom separator escaped (part ∷ next ∷ parts) = (passes separator part escaped ≡ Some false) × CutsFrom separator false (next ∷ parts)

cut_joined : (separator : ℕ) (parts : List (List ℕ)) (escaped : Bool) → CutsFrom separator escaped parts → cut separator (join_with_byte separator parts) escaped ≡ parts
cut_joined separator [] escaped h = absurd h
cut_joined separator (part ∷ []) escaped h = cut_one separator part escaped h.0 h.1
cut_joined separator (part ∷ next ∷ parts) escaped h =
    cut_first separator part (join_with_byte separator (next ∷ parts)) escaped h.0 ∙ ap (λ (t : List (List ℕ)). part ∷ t) (cut_joined separator (next ∷ parts) false h.1)

CutsFrom-onto : (separator byte : ℕ) (escaped after : Bool) (parts : List (List ℕ)) → ((part : List ℕ) → passes separator (byte ∷ part) escaped ≡ passes separator part after) → CutsFrom separator after parts → CutsFrom separator escaped (onto_first byte parts)
CutsFrom-onto separator byte escaped after [] step h = absurd h
CutsFrom-onto separator byte escaped after (part ∷ []) step h = (h.0, step part ∙ h.1)
CutsFrom-onto separator byte escaped after (part ∷ next ∷ parts) step h = (step part ∙ h.0, h.1)

CutsFrom-empty : (separator : ℕ) (parts : List (List ℕ)) → CutsFrom separator false parts → CutsFrom separator false ([] ∷ parts)
CutsFrom-empty separator [] h = absurd h
CutsFrom-empty separator (part ∷ parts) h = (refl, h)

cut_cuts : (separator : ℕ) (text : List ℕ) (escaped : Bool) → CutsFrom separator escaped (cut separator text escaped)
unfolding cut
cut_cuts separator [] escaped = (escaped, refl)
cut_cuts separator (byte ∷ text) true = CutsFrom-onto separator byte true false (cut separator text false) (λ part. refl) (cut_cuts separator text false)
cut_cuts separator (byte ∷ text) false =
    elim (eqb_tells byte separator) [
      | inl t ↦ rw t.0 (CutsFrom-empty separator (cut separator text false) (cut_cuts separator text false))
      | inr f ↦ rw f.0 (CutsFrom-onto separator byte false (eqb byte 92) (cut separator text (eqb byte 92)) (λ part. rw f.0 refl) (cut_cuts separator text (eqb byte 92)))
    ]

CutsFrom-some : (separator : ℕ) (parts : List (List ℕ)) (escaped : Bool) → CutsFrom separator escaped parts → 0 < length parts
CutsFrom-some separator [] escaped h = absurd h
CutsFrom-some separator (part ∷ parts) escaped h = omega arith

join-onto : (separator byte : ℕ) (parts : List (List ℕ)) → join_with_byte separator (onto_first byte parts) ≡ byte ∷ join_with_byte separator parts
join-onto separator byte [] = refl
join-onto separator byte (part ∷ []) = refl
join-onto separator byte (part ∷ next ∷ parts) = refl

join-empty : (separator : ℕ) (parts : List (List ℕ)) → 0 < length parts → join_with_byte separator ([] ∷ parts) ≡ separator ∷ join_with_byte separator parts
join-empty separator [] h = absurd (omega arith)
join-empty separator (part ∷ parts) h = refl

join_cut : (separator : ℕ) (text : List ℕ) (escaped : Bool) → join_with_byte separator (cut separator text escaped) ≡ text
unfolding cut
join_cut separator [] escaped = refl
join_cut separator (byte ∷ text) true = join-onto separator byte (cut separator text false) ∙ ap (λ (t : List ℕ). byte ∷ t) (join_cut separator text false)
join_cut separator (byte ∷ text) false =
    elim (eqb_tells byte separator) [
      | inl t ↦ rw (t.0, t.1) (join-empty separator (cut separator text false) (CutsFrom-some separator (cut separator text false) false (cut_cuts separator text false)) ∙ ap (λ (t : List ℕ). separator ∷ t) (join_cut separator text false))
      | inr f ↦ rw f.0 (join-onto separator byte (cut separator text (eqb byte 92)) ∙ ap (λ (t : List ℕ). byte ∷ t) (join_cut separator text (eqb byte 92)))
    ]

-- ---- joined is cut

even_odd : (n : ℕ) → n % 2 ≡ 0 → odd n ≡ false
even_odd n h = grind (arith, nat_tests)

odd_even : (n : ℕ) → odd n ≡ false → n % 2 ≡ 0
odd_even n h = grind (arith, nat_tests)

cuts_of : (separator : ℕ) (parts : List (List ℕ)) → 0 < length parts → AllByRecursion (KeepsSeparators separator) parts → AllButLast EndsEven parts → CutsFrom separator false parts
cuts_of separator [] some keep even = absurd (omega arith)
cuts_of separator (part ∷ []) some keep even = (odd (run_at_end part), keeps_passes separator part 0 false refl keep.0)
cuts_of separator (part ∷ next ∷ parts) some keep even =
    (keeps_passes separator part 0 false refl keep.0 ∙ ap (λ (t : Bool). Some t) (even_odd (run_at_end part) even.0), cuts_of separator (next ∷ parts) (omega arith) keep.1 even.1)

pub keeps_of : (separator : ℕ) (parts : List (List ℕ)) → CutsFrom separator false parts → AllByRecursion (KeepsSeparators separator) parts
keeps_of separator [] h = absurd h
keeps_of separator (part ∷ []) h = (passes_keeps separator part 0 false h.0 refl h.1, tt)
keeps_of separator (part ∷ next ∷ parts) h = (passes_keeps separator part 0 false false refl h.0, keeps_of separator (next ∷ parts) h.1)

some_is : (a b : Bool) (r : Option Bool) → r ≡ Some a → r ≡ Some b → a ≡ b
some_is a b r p q = cc

pub even_of : (separator : ℕ) (parts : List (List ℕ)) → CutsFrom separator false parts → AllButLast EndsEven parts
even_of separator [] h = absurd h
even_of separator (part ∷ []) h = tt
even_of separator (part ∷ next ∷ parts) h =
    let keeps = passes_keeps separator part 0 false false refl h.0 in
    (odd_even (run_at_end part) (some_is _ _ _ (keeps_passes separator part 0 false refl keeps) h.0), even_of separator (next ∷ parts) h.1)

-- what a text is cut into joins to it
pub cut_is_joined : (separator : ℕ) (text : List ℕ) → Joined separator (cut separator text false) text
cut_is_joined separator text =
    let h = cut_cuts separator text false in
    record { some = CutsFrom-some separator _ false h; joined = sym (join_cut separator text false); keep = keeps_of separator _ h; even = even_of separator _ h }

-- and a text is joined of no other parts
pub joined_is_cut : (separator : ℕ) (parts : List (List ℕ)) (text : List ℕ) → Joined separator parts text → parts ≡ cut separator text false
joined_is_cut separator parts text h =
    sym (cut_joined separator parts false (cuts_of separator parts h.some h.keep h.even)) ∙ ap (λ (t : List ℕ). cut separator t false) (sym h.joined)

pub one_cut : (separator : ℕ) (text : List ℕ) (xs ys : List (List ℕ)) → Joined separator xs text → Joined separator ys text → xs ≡ ys
one_cut separator text xs ys p q = joined_is_cut separator xs text p ∙ sym (joined_is_cut separator ys text q)

-- there is a part
pub cut_some : (separator : ℕ) (text : List ℕ) (escaped : Bool) → 0 < length (cut separator text escaped)
cut_some separator text escaped = CutsFrom-some separator (cut separator text escaped) escaped (cut_cuts separator text escaped)
