-- The byte order of members one after the other.
use Rattle.std.specs.Prelude.{◌≡◌, ℕ, ◌≤◌, List, [], ◌∷◌, length, Option, Some, None, refl}
use Rattle.std.specs.List.{AllByRecursion}
use Rattle.std.proofs.Common.{ap, arith, length-append}
use Rattle.x509_der.specs.declared.error.ErrorKind.{ErrorKind}
use Rattle.x509_der.specs.declared.tag.Tag.TheVariants.{Sequence}
use Rattle.x509_der.specs.Element.{element, limit}
use Rattle.x509_der.specs.Form.{Form, universal, spelling}
use Rattle.x509_der.specs.Writing.{Written, Writing, plain, respelling, writes, first}
use Rattle.x509_der.specs.Order.{HasEncoding, Order, IsOrder, der_order}
use Rattle.x509_der.specs.OrderLaws.{content_length}
use Rattle.x509_der.specs.Ordered.{der_lawful, by_members, by_members_lawful}
use Rattle.x509_der.specs.List.{joined, all_good, list_of, members_value, members_refusal, members_writing}

-- ---- members of a list that is written as it is

same_front : {X : Type 0} (x y : X) (xs ys : List X) → x ∷ xs ≡ y ∷ ys → (x ≡ y) × (xs ≡ ys)
same_front {X} x y xs ys e = (ap head e, ap tail e)
  where
    head : List X → X
    head [] = x
    head (z ∷ zs) = z

    tail : List X → List X
    tail [] = []
    tail (z ∷ zs) = zs

no_refusal : (later sooner : Option ErrorKind) → first later sooner ≡ None → (later ≡ None) × (sooner ≡ None)
no_refusal None sooner e = (refl, e)
no_refusal (Some d) sooner e = absurd cc

written_is : {X : Type 0} (written : Written X) (x : X) → written.value ≡ x → written.refusal ≡ None → written ≡ writes plain x
written_is written x p q = λ i. record { value = p i; refusal = q i }

as_they_are : {X : Type 0} (write : X → Written X) (xs : List X) → members_value write xs ≡ xs → members_refusal write xs ≡ None → AllByRecursion (λ x. write x ≡ writes plain x) xs
unfolding members_value members_refusal
as_they_are write [] e f = tt
as_they_are write (x ∷ xs) e f =
    let values = same_front (write x).value x (members_value write xs) xs e in
    let refusals = no_refusal (members_refusal write xs) (write x).refusal f in
    (written_is (write x) x values.0 refusals.1, as_they_are write xs values.1 refusals.0)

plainly : {X : Type 0} (xs : List X) → AllByRecursion (λ (x : X). writes plain x ≡ writes plain x) xs
plainly [] = tt
plainly (x ∷ xs) = (refl, plainly xs)

members_as_they_are : {X : Type 0} (w : Writing X) (xs : List X) → writes (members_writing w) xs ≡ writes plain xs → AllByRecursion (λ x. writes w x ≡ writes plain x) xs
members_as_they_are plain xs e = plainly xs
members_as_they_are (respelling write) xs e = as_they_are write xs (ap (λ (r : Written (List _)). r.value) e) (ap (λ (r : Written (List _)). r.refusal) e)

-- ---- their encodings

members_there : {X : Type 0} (f : Form X) (w : X → Written X) (xs : List X) → all_good f.good xs → AllByRecursion (λ x. w x ≡ writes plain x) xs → length (joined (spelling f) xs) ≤ limit → AllByRecursion (HasEncoding f w) xs
unfolding all_good joined
members_there f w [] good same le = tt
members_there f w (x ∷ xs) good same le = (
  (good.0, same.0, omega (arith, le, length-append (spelling f x) (joined (spelling f) xs))),
  members_there f w xs good.1 same.1 (omega (arith, le, length-append (spelling f x) (joined (spelling f) xs))),
)

-- each member of a list with an encoding has one
pub members_have_encodings : {X : Type 0} (f : Form X) (w : Writing X) (tag : ℕ) (xs : List X) → all_good f.good xs → writes (members_writing w) xs ≡ writes plain xs → length (element tag (joined (spelling f) xs)) ≤ limit → AllByRecursion (HasEncoding f (writes w)) xs
members_have_encodings f w tag xs good same le = members_there f (writes w) xs good (members_as_they_are w xs same) (content_length tag (joined (spelling f) xs) limit le)

pub list_ordered : {X : Type 0} (f : Form X) (w : Writing X) (order : Order X) → IsOrder f (writes w) order → IsOrder (universal Sequence (list_of f)) (writes (members_writing w)) (by_members (der_order f (writes w) order))
unfolding joined
list_ordered f w order h =
    by_members_lawful (der_lawful f (writes w) order h) (joined (spelling f)) refl (λ x xs. refl) (universal Sequence (list_of f)) (writes (members_writing w)) (λ xs. refl)
    (λ xs e. members_have_encodings f w 48 xs e.0 e.1 e.2)
