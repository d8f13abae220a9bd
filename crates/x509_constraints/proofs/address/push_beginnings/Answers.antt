use Rattle.std.proofs.Common.{List, ℕ, ◌<◌, OnOk, ◌++◌, take, ◌≡◌, subst, sym, arith}
use Rattle.x509_constraints.proofs.AddressLaws.{octet_symbols-small}
use Rattle.x509_constraints.proofs.address.push_beginnings.Goals as goal

pub returns : goal.returns
returns c =
    let small : c.args.octet < 256 = omega arith in
    let P : List ℕ → Type 0 = λ l. OnOk c.push_octets.result (c.push_octets.new.key ≡ c.args.key.now ++ take c.args.count l) in
    subst P (sym (octet_symbols-small c.args.octet small)) c.push_octets.ensures
