use Rattle.std.proofs.Common.{◌≡◌, ◌∙◌, ◌-◌, [], ◌∷◌, ◌++◌, length, take, map, sym, ap, subst, append-nil, arith}
use Rattle.std.proofs.lemmas.List.{take_all}
use Rattle.x509_policy.specs.Edges as edges
use Rattle.x509_policy.specs.Edges.{leads_of, expectation_of, each_itself, firsts}
use Rattle.x509_policy.specs.Follows.{last_of, levels_of}
use Rattle.x509_policy.specs.Levels.{GoesBack, at_root}
use Rattle.x509_policy.specs.Values.{has}
use Rattle.x509_policy.specs.Views.{octets_of}
use Rattle.x509_policy.specs.declared.level.Level as code
use Rattle.x509_policy.proofs.PairsBack.{back_step, levels_taken}
use Rattle.x509_policy.proofs.way_back.firsts.Goals as goal

pub loop-left-init : goal.loop-left-init
loop-left-init c =
    let levels = levels_of c.args.levels.now in
    let next = c.args.next.now in
    let above : has c.in_ok-reached.reached ≡ has (edges.parents (has next.policies) (leads_of next.leads.items)) =
    c.in_ok-reached.ensures.above ∙ ap (λ l. has (edges.parents (has next.policies) (leads_of l))) c.deref.ensures.value in
    let start = back_step (last_of next ∷ levels) next.policies (leads_of next.leads.items) (each_itself next.policies) levels next.policies c.in_ok-reached.reached [] above (λ more h. h) in
    let found : octets_of c.step.new.found.items ≡ firsts (has next.policies) (leads_of next.leads.items) =
    c.in_ok-reached.ensures.found ∙ (ap (λ f. octets_of f ++ firsts (has next.policies) (leads_of c.deref.result.now)) c.new-found.ensures.items ∙ ap (λ l. firsts (has next.policies) (leads_of l)) c.deref.ensures.value) in
    (omega arith, λ more h. subst (λ f. GoesBack (last_of next ∷ levels) next.policies (f ++ more)) (sym found) (start more (subst (λ l. GoesBack (levels_of l) c.in_ok-reached.reached more) (take_all (length c.args.levels.now) c.args.levels.now (omega arith)) h)))

pub loop-left-preserved : goal.loop-left-preserved
loop-left-preserved c =
    let all = c.args.levels.now in
    let next = c.args.next.now in
    let level = c.index-levels-left.result in
    let (within, so_far) = c.loop-left.invariant in
    let taken = levels_taken all c.loop-left.left level (omega arith) within c.index-levels-left.is in
    let same : c.deref-in-loop-left.result.now ≡ level.leads.items = c.deref-in-loop-left.ensures.value ∙ ap (λ (l : code.Level). l.leads.items) (sym c.index-levels-left.is) in
    let above : has c.in_ok-reached-2.reached ≡ has (edges.parents (has c.loop-left.reached) (leads_of level.leads.items)) =
    c.in_ok-reached-2.ensures.above ∙ ap (λ l. has (edges.parents (has c.loop-left.reached) (leads_of l))) same in
    let found : octets_of c.step-in-loop-left.new.found.items ≡ octets_of c.loop-left.found.items ++ firsts (has c.loop-left.reached) (leads_of level.leads.items) =
    c.in_ok-reached-2.ensures.found ∙ ap (λ l. octets_of c.loop-left.found.items ++ firsts (has c.loop-left.reached) (leads_of l)) same in
    let step = back_step (last_of next ∷ levels_of all) next.policies (leads_of level.leads.items) (map expectation_of level.expectations.items) (levels_of (take (c.loop-left.left - 1) all)) c.loop-left.reached c.in_ok-reached-2.reached (octets_of c.loop-left.found.items) above
    (λ more h. so_far more (subst (λ ls. GoesBack ls c.loop-left.reached more) (sym taken) h)) in
    (omega arith, λ more h. subst (λ f. GoesBack (last_of next ∷ levels_of all) next.policies (f ++ more)) (sym found) (step more h))

pub returns : goal.returns
returns c =
    let all = c.args.levels.now in
    let none_left : c.loop-left.left ≡ 0 = omega arith in
    subst (GoesBack (last_of c.args.next.now ∷ levels_of all) c.args.next.now.policies) (append-nil (octets_of c.loop-left.found.items))
    (c.loop-left.invariant.1 [] (subst (λ n. GoesBack (levels_of (take n all)) c.loop-left.reached []) (sym none_left) at_root))
