use Rattle.x509_match.proofs.KeysAgree.{too_short, first_keys}
use Rattle.x509_match.proofs.key.MatchedName.begins_with.Goals as goal

pub returns-then-keys-first : goal.returns-then-keys-first
returns-then-keys-first c x y h i =
    let shorter = rw (c.as_slice-keys.ensures.value, c.as_slice-first.ensures.value) at c.if-keys-first.true in
    too_short c.args.self.now.rdns.items c.args.front.now.rdns.items x y h i shorter

pub returns : goal.returns
returns c x y h i =
    let taken = rw (c.as_slice-keys.ensures.value, c.as_slice-first.ensures.value) at c.split_at.ensures.front in
    let same = rw c.as_slice-first.ensures.value at c.eq.ensures in
    first_keys c.args.self.now.rdns.items c.args.front.now.rdns.items c.split_at.result.0.now c.eq.result x y h i taken same
