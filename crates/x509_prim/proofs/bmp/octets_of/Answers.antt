use Rattle.std.proofs.Common.{sym, ◌∙◌, arith}
use Rattle.std.specs.Str.{chars}
use Rattle.std.proofs.lemmas.Iterator.{YieldsList-from_chars}
use Rattle.std.proofs.lemmas.Iterator.Consumers.{YieldsList-turn, YieldsList-end}
use Rattle.std.proofs.lemmas.List.{map-id}
use Rattle.x509_prim.proofs.Plane.{fits_two_octets}
use Rattle.x509_prim.proofs.bmp.octets_of.Goals as goal

pub overflow_cast-code : goal.overflow_cast-code
overflow_cast-code c =
    let t = YieldsList-turn (YieldsList-from_chars c.args.text.now c.utf8.text cc) c.loop-c.yielded _ c.loop-c.yielded_by _ _ c.in-Some.c c.in-Some.is c.next.ensures.steps in
    let small = fits_two_octets (chars c.args.text.now) _ _ c.in-Some.c c.requires t.0 t.1 in
    omega arith

pub returns-clause-ok : goal.returns-clause-ok
returns-clause-ok c =
    let t = YieldsList-end (YieldsList-from_chars c.args.text.now c.utf8.text cc) c.loop-c.yielded _ c.loop-c.yielded_by _ _ c.in-None.is c.next.ensures.steps in
    let all = sym (map-id c.loop-c.yielded) ∙ t.0 in
    rw (← all) c.loop-c.invariant.octets
