-- The number that says whether names match.
use Rattle.std.proofs.Common.{◌≡◌, ◌∙◌, ℕ, Bool, true, false, List, bytes_eq, inl, inr, refl, sym}
use Rattle.std.proofs.lemmas.Bool.{false≢true}
use Rattle.std.specs.Cmp.Lexicographic.{bytes_decides}
use Rattle.std.specs.Prelude.{◌↔◌, IsTrue}
use Rattle.x509_c_calls.specs.NamesMatch.{IsAnswer, IsSame}
use Rattle.x509_c_calls.specs.PayloadExtensions.{flag}
use Rattle.x509_match.specs.Matching.{NamesMatch}
use Rattle.x509_name.specs.declared.attr.type_and_value.AttributeTypeAndValue.{AttributeTypeAndValue}

pub flag-answers : (left right : List (List AttributeTypeAndValue)) → (found : Bool) → (IsTrue found ↔ NamesMatch left right) → (answer : ℕ) → answer ≡ flag found
    → IsAnswer left right answer
flag-answers left right true same answer is = inl (is, same.0 refl)
flag-answers left right false same answer is = inr (is, λ matches. false≢true (same.1 matches))

-- the same where it is asked whether their bytes are equal
pub same-answers : (a b : List ℕ) (found : Bool) → found ≡ bytes_eq a b → (answer : ℕ) → answer ≡ flag found → IsSame a b answer
same-answers a b true is answer told = inl (told, (bytes_decides a b).0 (sym is))
same-answers a b false is answer told = inr (told, λ same. false≢true (is ∙ (bytes_decides a b).1 same))
