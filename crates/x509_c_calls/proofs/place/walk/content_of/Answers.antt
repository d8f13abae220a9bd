use Rattle.std.proofs.Common.{◌≡◌, ◌++◌, drop, sym, ◌∙◌}
use Rattle.x509_der.specs.Element.{element}
use Rattle.x509_der.specs.ElementLaws.{piece_at-sound}
use Rattle.x509_c_calls.proofs.Standing.{rest_fits, content_fits, ordered, stands, none_stands}
use Rattle.x509_c_calls.proofs.place.walk.content_of.Goals as goal

found : (c : goal.In-Ok) → drop c.args.place c.args.input.now ≡ element c.in-Ok.piece.tag c.in-Ok.piece.content.now ++ c.in-Ok.piece.rest.now
found c = rw (sym c.split_at.ensures.back) (piece_at-sound _ _ c.in-Ok.ensures.exact).0

pub overflow_sub-end : goal.overflow_sub-end
overflow_sub-end c = rest_fits _ _ c.requires _ _ _ (found c)

pub overflow_sub-result : goal.overflow_sub-result
overflow_sub-result c = content_fits _ _ c.requires _ _ _ (found c)

pub returns-in-Ok-clause-ordered : goal.returns-in-Ok-clause-ordered
returns-in-Ok-clause-ordered c = ordered _ _ c.requires _ _ _ (found c)

pub returns-in-Ok-clause-stands : goal.returns-in-Ok-clause-stands
returns-in-Ok-clause-stands c = λ tag content more is e. stands _ _ c.requires _ _ _ (found c) tag content more e

pub returns-in-Ok-clause-nothing : goal.returns-in-Ok-clause-nothing
returns-in-Ok-clause-nothing c = λ nothing. absurd (nothing _ _ _ (piece_at-sound _ _ c.in-Ok.ensures.exact).1 (found c))

pub returns-in-Err-clause-stands : goal.returns-in-Err-clause-stands
returns-in-Err-clause-stands c = λ tag content more is e. none_stands _ (rw c.in-Err.ensures.err at c.in-Err.ensures.exact) tag content more is (c.split_at.ensures.back ∙ e)
