use Rattle.x509_c_calls.proofs.SctWalks.{more_fits, octets_fit, is_next}
use Rattle.x509_c_calls.proofs.sct.walk.timestamp_next.Goals as goal
use Rattle.x509_c_calls.specs.SctWalk.{Steps}

pub overflow_sub-end : goal.overflow_sub-end
overflow_sub-end c = more_fits _ _ _ c.in-Some.ensures _ _ c.in-Some-take_vector.ensures.0 c.in-Some-take_vector.ensures.1

pub overflow_sub-found : goal.overflow_sub-found
overflow_sub-found c = octets_fit _ _ _ c.in-Some.ensures _ _ c.in-Some-take_vector.ensures.0 c.in-Some-take_vector.ensures.1

pub returns : goal.returns
unfolding Steps
returns c = (c.in-Some-take_vector.octets.now, c.in-Some-take_vector.more.now, is_next _ _ _ c.in-Some.ensures _ _ c.in-Some-take_vector.ensures.0 c.in-Some-take_vector.ensures.1)
