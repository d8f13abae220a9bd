-- Where the members of a list stand in its bytes.
use Rattle.std.proofs.Common.{◌≡◌, ℕ, ◌-◌, ◌≤◌, inl, inr, false, List, [], ◌∷◌, ◌++◌, length, take, bytes_eq, refl, sym, ap, ◌∙◌, arith, length-append}
use Rattle.std.proofs.Math.Seq.{take-append_seam}
use Rattle.std.proofs.lemmas.Bool.{cases_Bool}
use Rattle.x509_der.specs.Form.{spelling}
use Rattle.x509_der.specs.List.{joined}
use Rattle.x509_ext.specs.Extension.{extension}
use Rattle.x509_ext.specs.LookUp.{with_oid}
use Rattle.x509_ext.specs.declared.extension.Extension.{Extension}
use Rattle.x509_log.proofs.Cuts.{joined_append}

abbrev text : List Extension → List ℕ
text xs = joined (spelling extension) xs

pub none_yet : 0 ≡ length (joined (spelling extension) [])
unfolding joined
none_yet = refl

pub none_further : (oid : List ℕ) (before : List Extension) (e : Extension) → with_oid oid before ≡ [] → bytes_eq e.extn_id oid ≡ false → with_oid oid (before ++ e ∷ []) ≡ []
none_further oid [] e none other = rw other refl
none_further oid (x ∷ before) e none other =
    elim (cases_Bool (bytes_eq x.extn_id oid)) [
      | inl same ↦ absurd (let k = rw same at none in cc)
      | inr different ↦ rw different (none_further oid before e (rw different at none) other)
    ]

module _ (all rest : List ℕ) (list before others : List Extension) (whole : all ≡ joined (spelling extension) list) (left : rest ≡ joined (spelling extension) others) (split : list ≡ before ++ others) where
  pub stands : all ≡ joined (spelling extension) before ++ rest
  stands = whole ∙ ap text split ∙ joined_append (spelling extension) before others ∙ ap (λ (y : List ℕ). text before ++ y) (sym left)

  pub is_within : length rest ≤ length all
  is_within = omega (arith, ap length stands, length-append (text before) rest)

  pub place_is : length all - length rest ≡ length (joined (spelling extension) before)
  place_is = omega (arith, ap length stands, length-append (text before) rest)

  pub prefix_is : (place : ℕ) → place ≡ length (joined (spelling extension) before) → take place all ≡ joined (spelling extension) before
  prefix_is place is = ap (λ (n : ℕ). take n all) is ∙ ap (λ (a : List ℕ). take (length (text before)) a) stands ∙ take-append_seam (text before) rest
