use Rattle.std.proofs.Common.{◌≡◌, ◌-◌, ℕ, List, [], ◌∷◌, length, take, drop, get_or, Ok, sym, subst}
use Rattle.x509_name.proofs.ShortRdns.{short_octets, short_read}
use Rattle.x509_name.specs.Names.{attribute_set}
use Rattle.x509_name.proofs.name.short.read_short.Goals as goal

pub returns : goal.returns
returns c =
    let octets : List ℕ = c.args.octets.now in
    let arcs = c.in-Ok.ensures.ok in
    let same = short_octets octets c.in-len9-up.len_at_least c.if-sequence-ne48.false c.if-oid_tag-ne6.false c.if-oid_len-ne3.false in
    let read = short_read (get_or octets 4 0) (get_or octets 5 0) (get_or octets 6 0) (get_or octets 7 0) (get_or octets 8 0) (get_or octets 1 0) c.in-Ok.oid (take (length octets - 9) (drop 9 octets)) c.in-Ok-read.value c.if-value_len-content.false c.if-len-content.false c.if-len-ge128.false arcs.3 (arcs.0, arcs.1, arcs.2) c.in-Ok-read.ensures.exact in
    rw c.from_one.ensures (subst (λ (bytes : List ℕ). attribute_set.reading bytes ≡ Ok (record { oid = c.in-Ok.oid; value = c.in-Ok-read.value } ∷ [])) (sym same) read)
