use Rattle.std.proofs.lemmas.List.{map_push}
use Rattle.x509_tool_run.proofs.GivenWords.{one_more, all_words}
use Rattle.x509_tool_run.proofs.arguments.words.Goals as goal

pub returns-in-None : goal.returns-in-None
returns-in-None g c =
    let none = c.in_ok-argument.ensures in
    all_words c.loop-place.place _ c.loop-place.invariant (rw c.in-None.is at none)

pub loop-place-preserved : goal.loop-place-preserved
loop-place-preserved g c =
    let some = c.in_ok-argument.ensures in
    rw (c.in_ok-push-in-Some.ensures.items, map_push)
    (one_more c.loop-place.place _ c.in-Some.argument.items _ c.loop-place.invariant (rw c.in-Some.is at some) c.word_of.ensures)
