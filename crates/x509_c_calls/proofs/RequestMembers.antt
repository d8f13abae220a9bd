-- Where the attributes of a CSR stand.
use Rattle.std.proofs.Common.{◌≡◌, ℕ, false, List, [], ◌∷◌, ◌++◌, bytes_eq, sym, ap, ◌∙◌, append_assoc}
use Rattle.x509_cert.specs.AttributeLookUp.{with_type}
use Rattle.x509_der.specs.List.{joined}
use Rattle.x509_der.specs.Form.{spelling}
use Rattle.x509_name.specs.Attribute.{attribute}
use Rattle.x509_name.specs.declared.attr.attribute.Attribute.{Attribute}

pub first_stands : (rest others : List Attribute) (first : Attribute) (here more : List ℕ) → rest ≡ first ∷ others → here ≡ joined (spelling attribute) rest ++ more → here ≡ spelling attribute first ++ (joined (spelling attribute) others ++ more)
unfolding joined
first_stands rest others first here more is e = e ∙ rw is (append_assoc (spelling attribute first) (joined (spelling attribute) others) more)

pub passed : (oid : List ℕ) (rest others all : List Attribute) (first : Attribute) → rest ≡ first ∷ others → bytes_eq first.oid oid ≡ false → with_type oid rest ≡ with_type oid all → with_type oid others ≡ with_type oid all
passed oid rest others all first is other same = rw other at (rw is at same)

-- the list in front of the first of the rest and behind it
pub split_first : (all before rest others : List Attribute) (first : Attribute) → rest ≡ first ∷ others → all ≡ before ++ rest → all ≡ before ++ first ∷ others
split_first all before rest others first is e = e ∙ ap (λ x. before ++ x) is

pub one_further : (all before rest others : List Attribute) (first : Attribute) → rest ≡ first ∷ others → all ≡ before ++ rest → all ≡ (before ++ first ∷ []) ++ others
one_further all before rest others first is e = split_first all before rest others first is e ∙ sym (append_assoc before (first ∷ []) others)
