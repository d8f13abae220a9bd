use Rattle.std.proofs.Common.{◌∙◌}
use Rattle.x509_build.proofs.OrderFacts.{all_kept, behind_more, kept_more}
use Rattle.x509_build.proofs.profile.encoding.check_names_encoding.Goals as goal

-- one relative name more that breaks nothing
pub loop-i-preserved : goal.loop-i-preserved
loop-i-preserved c =
    let same = c.as_slice-rdns.ensures ∙ c.as_ref.ensures in
    let here = rw same at c.loop-i-test.true in
    let is = rw same at c.index-rdns-i.is in
    record {
      kept = kept_more c.args.name.now c.loop-i.i c.index-rdns-i.result here is c.args.multiple_allowed c.loop-i.invariant.kept (rw same at c.in_ok-next.ensures.ok);
      behind = behind_more c.args.name.now c.loop-i.i c.index-rdns-i.result here is c.in_ok-next.next (rw same at c.in_ok-next.ensures.behind);
    }

-- all relative names
pub returns : goal.returns
returns c = all_kept c.args.name.now c.loop-i.i c.args.multiple_allowed (rw (c.as_slice-rdns.ensures ∙ c.as_ref.ensures) at c.loop-i-test.false) c.loop-i.invariant.kept
