-- Content octets with zeros behind them.
use Rattle.std.proofs.Common.{◌≡◌, ℕ, ◌-◌, ◌≤◌, true, List, [], ◌∷◌, ◌++◌, drop, length, arith, length-append, refl, ap, ◌∙◌}
use Rattle.std.specs.Prelude.{replicate, nat_le}
use Rattle.std.proofs.lemmas.Bool.{and_parts, leb-true}
use Rattle.std.proofs.lemmas.List.{drop-replicate, length-replicate, take_at, drop_at}
use Rattle.x509_der.specs.ObjectIdentifier.{is_object_identifier, are_subidentifiers, IsStored}

-- a content has at most 39 octets, and whole subidentifiers
pub test_parts : (c : List ℕ) → is_object_identifier c ≡ true → (length c ≤ 39) × (are_subidentifiers 0 true c ≡ true)
test_parts [] h = absurd (cc)
test_parts (x ∷ xs) h =
    let p = and_parts (nat_le (length (x ∷ xs)) 39) (are_subidentifiers 0 true (x ∷ xs)) h in
    (leb-true (length (x ∷ xs)) 39 p.0, p.1)

pub stored : (c rest : List ℕ) → is_object_identifier c ≡ true → rest ≡ drop (length c) (replicate 39 0) → IsStored (length c) (c ++ rest)
stored c rest h e =
    let short = (test_parts c h).0 in
    let zeros : rest ≡ replicate (39 - length c) 0 = e ∙ drop-replicate (length c) 39 0 in
    let room : length rest ≡ 39 - length c = ap length zeros ∙ length-replicate (39 - length c) 0 in
    record {
      bound = short;
      room = omega (arith, length-append c rest);
      zeros = drop_at c rest (length c) refl ∙ zeros;
      content = rw (take_at c rest (length c) refl) h;
    }
