-- Where memory is taken: certificates of more than 16 extensions.
use Rattle.std.proofs.Common.{◌≡◌, ◌⊎◌, ℕ, ◌<◌, ◌≤◌, min, List, length, get_or, map, Result, Err, refl, subst, ap, inl, inr, arith}
use Rattle.std.proofs.lemmas.List.{get_or-map, length-map}
use Rattle.std.proofs.lemmas.List.Elements.{Contains-get_or}
use Rattle.std.specs.List.{Contains}
use Rattle.x509_check.specs.ExtensionRefs.{lent_extension}
use Rattle.x509_check.specs.declared.lent.extension.ExtensionRef.{ExtensionRef}
use Rattle.x509_ext.specs.declared.extension.Extension.{Extension}
use Rattle.x509_path.specs.Certificates.{Certificate, extensions_of}
use Rattle.x509_path.specs.declared.fault.PathFault.{PathFault}
use Rattle.x509_path.specs.Lent.{HasMany, Lends, lent_extensions}

abbrev refused : {X : Type 0} → PathFault → Result X PathFault
refused e = Err e

-- one refusal of results of two types
pub refused_too : {X Y : Type 0} (e f : PathFault) → refused {X = X} e ≡ refused f → refused {X = Y} e ≡ refused f
refused_too e f is = let same : e ≡ f = cc in rw same refl

module _ {A : Type 0} where
  -- more that are lent than 16 are more of the certificate than the places, or than 16
  pub many_among : (few : ℕ) (lent : List ExtensionRef) (extensions : List Extension) → lent_extensions lent ≡ extensions → A ⊎ (16 < length lent) → A ⊎ (min few 16 < length extensions)
  many_among few lent extensions same (inl taken) = inl taken
  many_among few lent extensions same (inr many) = inr (let len : length (lent_extensions lent) ≡ length lent = length-map lent lent_extension in omega (arith, many, len, ap length same))

  -- and so are more than the places
  pub many_beside : (few : ℕ) (left extensions : List Extension) → left ≡ extensions → few < length left → A ⊎ (min few 16 < length extensions)
  many_beside few left extensions same many = inr (omega (arith, many, ap length same))

  pub of_these : (few : ℕ) (c : Certificate) (bytes : List ℕ) → Lends bytes c → 16 ≤ few → A ⊎ (min few 16 < length (extensions_of c)) → A ⊎ HasMany bytes
  of_these few c bytes lends enough (inl taken) = inl taken
  of_these few c bytes lends enough (inr many) = inr (c, lends, omega (arith, enough, many))

  -- the input at that place
  pub one_of : {X : Type 0} (v : X → List ℕ) (xs : List X) (i : ℕ) (d : X) → i < length xs → A ⊎ HasMany (v (get_or xs i d)) → A ⊎ ((input : List ℕ) × Contains (map v xs) input × HasMany input)
  one_of v xs i d within (inl taken) = inl taken
  one_of v xs i d within (inr many) =
      let inside : i < length (map v xs) = omega (arith, within, length-map xs v) in
      let there : Contains (map v xs) (v (get_or xs i d)) = subst (λ x. Contains (map v xs) x) (get_or-map v xs i d (v d) within) (Contains-get_or (map v xs) i (v d) inside) in
      inr (v (get_or xs i d), there, many)
