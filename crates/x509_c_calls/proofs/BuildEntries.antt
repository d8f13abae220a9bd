-- The entries that a list is given.
use Rattle.std.proofs.Common.{◌≡◌, ◌==◌, ℕ, Bool, false, List, [], ◌∷◌, ◌++◌, length, Option, Some, None, refl, sym, ap, ◌∙◌, eq-eqb}
use Rattle.std.proofs.lemmas.Iterator.{items_from_drains}
use Rattle.std.proofs.lemmas.Iterator.Adapters.{YieldsList-from_vec}
use Rattle.std.proofs.lemmas.List.{map-id}
use Rattle.std.specs.Iterator.{Drains}
use Rattle.std.specs.declared.vec.IntoIter.{IntoIter}
use Rattle.std.specs.Vec.Iter.{into_iter_items, into_iter_len, into_iter_steps}
use Rattle.x509_base.specs.declared.profile.Rfc5280.{Rfc5280}
use Rattle.x509_build.specs.CrlParts.{members}
use Rattle.x509_build.specs.declared.crl_builder.CrlBuilder.{CrlBuilder}
use Rattle.x509_c_calls.specs.Input.{unless_empty}
use Rattle.x509_cert.specs.declared.crl.revoked_cert.RevokedCert.{RevokedCert}

-- the items that come out of a vector are those that stand in it
drained : {A Z : Type 0} (xs all : List A) (s : IntoIter A Z) → into_iter_items s ≡ all → into_iter_len s ≡ length all → Drains (into_iter_steps {X = A} {Z = Z}) s xs → xs ≡ all
drained xs all s items len h = sym (map-id xs) ∙ items_from_drains xs (h.1.0, h.1.1, λ _. (h.0, h.1.2)) (YieldsList-from_vec all items len)

-- some are there
where_some : {X : Type 0} (xs : List X) → (xs ≡ [] → ⊥) → Some xs ≡ unless_empty xs
where_some [] some = absurd (some refl)
where_some (x ∷ xs) some = refl

-- a builder without entries that is given those of a vector
pub given_entries : {Z : Type 0} (builder given : CrlBuilder Rfc5280) (xs all : List (RevokedCert Rfc5280)) (it : IntoIter (RevokedCert Rfc5280) Z) → builder.tbs.revoked_certificates ≡ None → (all ≡ [] → ⊥)
    → into_iter_items it ≡ all → into_iter_len it ≡ length all → Drains (into_iter_steps {X = RevokedCert Rfc5280} {Z = Z}) it xs
    → given ≡ record builder { tbs = record builder.tbs { revoked_certificates = Some (members builder.tbs.revoked_certificates ++ xs) } } → given ≡ record builder { tbs = record builder.tbs { revoked_certificates = unless_empty all } }
given_entries builder given xs all it none some items len drains is =
    is ∙ ap (λ (r : Option (List (RevokedCert Rfc5280))). record builder { tbs = record builder.tbs { revoked_certificates = r } })
    (ap (λ (o : Option (List (RevokedCert Rfc5280))). Some (members o ++ xs)) none ∙ ap (λ (l : List (RevokedCert Rfc5280)). Some l) (drained xs all it items len drains) ∙ where_some all some)

-- a list that isn't empty by its length has members
pub some_stand : {X : Type 0} (all : List X) (n : ℕ) (empty : Bool) → n ≡ length all → empty ≡ (n == 0) → empty ≡ false → (all ≡ [] → ⊥)
some_stand all n empty len is off none = absurd (let e : n ≡ 0 = len ∙ ap length none in let t = eq-eqb n 0 e in cc)
