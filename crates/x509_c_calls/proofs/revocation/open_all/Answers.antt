use Rattle.std.proofs.Common.{◌+◌, ◌++◌, [], ◌∷◌, take, inr, sym, subst}
use Rattle.std.proofs.lemmas.List.{take_more}
use Rattle.std.proofs.lemmas.Option.{slice_get-get_or}
use Rattle.x509_c_calls.proofs.RevocationCrls.{pairs-append}
use Rattle.x509_c_calls.proofs.revocation.open_all.Goals as goal
use Rattle.x509_c_calls.specs.OpenedCrls.{IsOpened}
use Rattle.x509_c_calls.specs.RevocationStatus.{AllPairs, AreParts}

pub returns-in-Err : goal.returns-in-Err
returns-in-Err c = inr (c.loop-it.it-index, _, slice_get-get_or c.args.found.now c.loop-it.it-index _ c.loop-it-test.true, c.in-Err.ensures)

pub loop-it-preserved : goal.loop-it-preserved
loop-it-preserved c =
    let so_far = c.loop-it.invariant in
    let one = c.in-Ok.ensures in
    let next : AllPairs (λ it. AreParts c.args.bytes.now it.1) (take (c.loop-it.it-index + 1) c.args.found.now) (so_far.0 ++ one.0 ∷ []) =
    subst (λ xs. AllPairs (λ it. AreParts c.args.bytes.now it.1) xs (so_far.0 ++ one.0 ∷ [])) (sym (take_more c.args.found.now c.loop-it.it-index _ c.loop-it-test.true))
    (pairs-append (λ it. AreParts c.args.bytes.now it.1) (take c.loop-it.it-index c.args.found.now) so_far.0 _ one.0 so_far.1 one.1) in
    let opened : AllPairs IsOpened c.push.new.self.items (so_far.0 ++ one.0 ∷ []) =
    subst (λ xs. AllPairs IsOpened xs (so_far.0 ++ one.0 ∷ [])) (sym c.in-Ok-push.ensures.items) (pairs-append IsOpened c.loop-it.opened.items so_far.0 c.in-Ok.one one.0 so_far.2 one.2) in
    (so_far.0 ++ one.0 ∷ [], next, opened)
