use Rattle.std.proofs.Common.{◌≡◌, ◌++◌, ◌∷◌, ◌∙◌, OnOk, List, ℕ, map, subst, sym, ap}
use Rattle.x509_constraints.specs.AddressKeys.{address_prefixes}
use Rattle.x509_constraints.proofs.subtree_keys.push_prefixes.Goals as goal
use Rattle.x509_constraints.specs.SubtreeKeys.{base_prefixes}

-- src/subtree_keys.rt:69:1
pub returns-in-IpAddress : goal.returns-in-IpAddress
returns-in-IpAddress c =
    let of : map (λ prefix. 7 ∷ prefix) (address_prefixes c.as_bytes-in-IpAddress.result.now) ≡ base_prefixes c.args.base.now =
    ap (λ (octets : List ℕ). map (λ (prefix : List ℕ). 7 ∷ prefix) (address_prefixes octets)) c.as_bytes-in-IpAddress.ensures ∙ sym (ap base_prefixes c.in-IpAddress.is) in
    subst (λ (l : List (List ℕ)). OnOk c.push_ip_prefixes.result (c.push_ip_prefixes.new.prefixes.items ≡ c.args.prefixes.now.items ++ l)) of c.push_ip_prefixes.ensures
