use Rattle.std.proofs.Common.{ℕ, List, [], ◌∷◌, refl, ◌∙◌, subst, arith}
use Rattle.rand_core.specs.Stream.{Stream}
use Rattle.x509_base.specs.Fills.{Draws}
use Rattle.x509_base.proofs.Draws.{filled_buffer, room, made_of, never_refused}
use Rattle.x509_base.proofs.serial_number.SerialNumber.generate_with_prefix.Goals as goal

abbrev zeros : List ℕ
zeros = 0 ∷ 0 ∷ 0 ∷ 0 ∷ 0 ∷ 0 ∷ 0 ∷ 0 ∷ 0 ∷ 0 ∷ 0 ∷ 0 ∷ 0 ∷ 0 ∷ 0 ∷ 0 ∷ 0 ∷ 0 ∷ 0 ∷ []

pub returns-clause-ok : goal.returns-clause-ok
returns-clause-ok g c =
    let size = room c.args.prefix.now c.copy_from_slice.new.self zeros c.args.rand_len refl c.copy_from_slice.ensures.after (omega arith) in
    let source : Stream = g.R.Rng.stream c.args.rng.now in
    let left : Stream = g.R.Rng.stream c.draw.new.rng in
    let draws = subst (λ (n : ℕ). Draws n source c.draw.new.octets left) size c.in_ok-draw.ensures.ok in
    let is = filled_buffer c.args.prefix.now c.copy_from_slice.new.self zeros c.draw.new.octets _ c.args.rand_len refl c.copy_from_slice.ensures.after (omega arith) (c.draw.auto.octets ∙ size) in
    made_of c.new.result _ c.args.prefix.now c.draw.new.octets c.args.rand_len source left c.new.ensures.value is draws

pub returns-clause-err : goal.returns-clause-err
returns-clause-err g c = λ lengths.
    let size = room c.args.prefix.now c.copy_from_slice.new.self zeros c.args.rand_len refl c.copy_from_slice.ensures.after (omega arith) in
    let long = c.draw.auto.octets ∙ size in
    let is = filled_buffer c.args.prefix.now c.copy_from_slice.new.self zeros c.draw.new.octets _ c.args.rand_len refl c.copy_from_slice.ensures.after (omega arith) long in
    never_refused c.new.result _ c.args.prefix.now c.draw.new.octets _ c.new.ensures.taken is (omega (arith, long)) (omega (arith, long))
