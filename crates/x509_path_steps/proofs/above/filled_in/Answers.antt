use Rattle.x509_path_steps.proofs.above.filled_in.Goals as goal

pub returns : goal.returns
returns c = λ k p is_key are. rw (← c.in_ok-filled.ensures k is_key, ← c.in_ok-known_value.ensures p are) c.encoded.ensures
