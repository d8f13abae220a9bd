-- The purposes that are left along a path.
use Rattle.std.proofs.Common.{◌≡◌, ◌↔◌, inl, ℕ, Bool, true, false, List, [], ◌∷◌, ◌++◌, Option, Some, None, refl, sym, subst}
use Rattle.std.proofs.lemmas.Bool.{true≢false}
use Rattle.std.proofs.lemmas.List.Elements.{All-cons, All-head, All-nil, All-push, All-same, All-tail}
use Rattle.std.specs.Option.{option_map}
use Rattle.std.specs.Prelude.{is_some}
use Rattle.std.specs.List.{All}
use Rattle.x509_path.specs.Certificates.{Certificate}
use Rattle.x509_path_steps.specs.Inputs.{Inputs}
use Rattle.x509_path_steps.specs.Steps.{AreLeft, asked_before}
use Rattle.x509_path_steps.specs.Validation.{AllowsPurpose, LackPurpose, asked_at, asks_purpose}
use Rattle.x509_path_steps.specs.declared.asked.Uses.{Uses}
use Rattle.x509_policy.specs.Levels.{In}

pub parted : {X : Type 0} (P : X → Type 0) (xs : List X) (x : X) → All P (xs ++ x ∷ []) → All P xs × P x
parted P [] x all = (All-nil P, All-head P x [] all)
parted P (y ∷ xs) x all =
    let (front, last) = parted P xs x (All-tail P y (xs ++ x ∷ []) all) in
    (All-cons P y xs (All-head P y (xs ++ x ∷ []) all) front, last)

-- behind one more certificate
pub narrowed : (purposes : Option (List (List ℕ))) (asked : List Certificate) (c : Certificate) (left found : List (List ℕ)) → AreLeft purposes asked (Some left)
    → ((p : List ℕ) → In p found ↔ (In p left × AllowsPurpose p c)) → AreLeft purposes (asked ++ c ∷ []) (Some found)
narrowed purposes asked c left found (list, is, said) more = (
  list,
  is,
  (λ p. (
    (λ within. let (old, allows) = (more p).0 within in let (named, all) = (said p).0 old in (named, All-push (λ d. AllowsPurpose p d) asked c all allows)),
    (λ (named, all). let (front, last) = parted (λ d. AllowsPurpose p d) asked c all in (more p).1 ((said p).1 (named, front), last)),
  )),
)

-- which are asked, where the certificate is
pub asked_here : (is_chained is_last : Bool) (before : List Certificate) (c : Certificate) → (is_chained ≡ false → is_last ≡ false → ⊥)
    → asked_before is_chained before ++ c ∷ [] ≡ asked_at is_chained is_last before c
asked_here true is_last before c some = refl
asked_here false true before c some = refl
asked_here false false before c some = absurd (some refl refl)

pub asked_nowhere : (is_chained is_last : Bool) (before : List Certificate) (c : Certificate) → is_chained ≡ false → is_last ≡ false
    → asked_before is_chained before ≡ asked_at is_chained is_last before c
asked_nowhere true is_last before c is late = absurd (true≢false is)
asked_nowhere false true before c is late = absurd (true≢false late)
asked_nowhere false false before c is late = refl

-- those before the next one
pub asked_behind : (is_chained is_last : Bool) (before : List Certificate) (c : Certificate) → is_last ≡ false → asked_at is_chained is_last before c ≡ asked_before is_chained (before ++ c ∷ [])
asked_behind true is_last before c early = refl
asked_behind false true before c early = absurd (true≢false early)
asked_behind false false before c early = refl

pub left_behind_is : (purposes : Option (List (List ℕ))) (is_chained is_last : Bool) (before : List Certificate) (c : Certificate) (left : Option (List (List ℕ))) → is_last ≡ false
    → AreLeft purposes (asked_at is_chained is_last before c) left → AreLeft purposes (asked_before is_chained (before ++ c ∷ [])) left
left_behind_is purposes is_chained is_last before c left early is = subst (λ asked. AreLeft purposes asked left) (asked_behind is_chained is_last before c early) is

-- the same, by the uses that are carried
pub left_here : (inputs : Inputs) (uses : Uses) (is_last : Bool) (before : List Certificate) (c : Certificate) (left found : Option (List (List ℕ))) → inputs.uses ≡ uses
    → AreLeft inputs.purposes (asked_before inputs.uses.is_chained before) left
    → (AreLeft inputs.purposes (asked_before uses.is_chained before) left → AreLeft inputs.purposes (asked_at uses.is_chained is_last before c) found)
    → AreLeft inputs.purposes (asked_at inputs.uses.is_chained is_last before c) found
left_here inputs uses is_last before c left found same there step =
    subst (λ (u : Uses). AreLeft inputs.purposes (asked_at u.is_chained is_last before c) found) (sym same)
    (step (subst (λ (u : Uses). AreLeft inputs.purposes (asked_before u.is_chained before) left) same there))

-- none is asked for
pub none_asked : (purposes : Option (List (List ℕ))) (asked : List Certificate) → AreLeft purposes asked None → LackPurpose purposes asked → ⊥
none_asked None asked is lack = lack
none_asked (Some list) asked is lack = cc

lacks : (purposes : Option (List (List ℕ))) (list : List (List ℕ)) (asked : List Certificate) → purposes ≡ Some list
    → LackPurpose purposes asked ↔ ((p : List ℕ) → In p list → All (λ c. AllowsPurpose p c) asked → ⊥)
lacks purposes list asked is = rw is ((λ h. h), (λ h. h))

-- no purpose is left exactly where one is lacking
pub none_left : (purposes : Option (List (List ℕ))) (asked : List Certificate) (left : List (List ℕ)) → AreLeft purposes asked (Some left) → (left ≡ []) ↔ LackPurpose purposes asked
none_left purposes asked [] (list, is, said) = ((λ none. (lacks purposes list asked is).1 (λ p named all. (said p).1 (named, all))), (λ lack. refl))
none_left purposes asked (p ∷ left) (list, is, said) = (
  (λ none. cc),
  (λ lack. let (named, all) = (said p).0 (inl refl) in absurd ((lacks purposes list asked is).0 lack p named all)),
)

-- one is asked for
pub any_asked : (purposes : Option (List (List ℕ))) (asked : List Certificate) (left : List (List ℕ)) → AreLeft purposes asked (Some left) → asks_purpose purposes ≡ true
any_asked None asked left (list, is, said) = cc
any_asked (Some purposes) asked left h = refl

pub none_asked_for : (purposes : Option (List (List ℕ))) (asked : List Certificate) → AreLeft purposes asked None → asks_purpose purposes ≡ false
none_asked_for purposes asked is = let none : purposes ≡ None = is in rw none refl

-- all are left at the start
all_left : (purposes : Option (List (List ℕ))) (asked : List Certificate) → asked ≡ [] → AreLeft purposes asked purposes
all_left None asked none = refl
all_left (Some list) asked none = (list, refl, (λ p. ((λ within. (within, All-same (λ c. AllowsPurpose p c) asked [] none (All-nil (λ c. AllowsPurpose p c)))), (λ h. h.0))))

none_before : (is_chained : Bool) → asked_before is_chained [] ≡ []
none_before true = refl
none_before false = refl

pub at_first : (purposes : Option (List (List ℕ))) (is_chained : Bool) (left : Option (List (List ℕ))) → purposes ≡ left → AreLeft purposes (asked_before is_chained []) left
at_first purposes is_chained left is = subst (λ l. AreLeft purposes (asked_before is_chained []) l) is (all_left purposes (asked_before is_chained []) (none_before is_chained))

-- the same of what is held, which is seen so
module _ {X : Type 0} (see : X → List (List ℕ)) (purposes : Option (List (List ℕ))) (asked : List Certificate) where
  pub is_asked : (left : Option X) → AreLeft purposes asked (option_map see left) → is_some left ≡ asks_purpose purposes
  is_asked None are = sym (none_asked_for purposes asked are)
  is_asked (Some left) are = sym (any_asked purposes asked (see left) are)
