use Rattle.std.proofs.Common.{◌≡◌, ◌++◌, ◌∷◌, ◌∙◌, [], ap, append-nil, append_assoc, refl, subst, sym}
use Rattle.std.proofs.lemmas.Bool.{true≢false}
use Rattle.std.proofs.lemmas.List.Elements.{All-nil, All-push}
use Rattle.std.specs.List.{All}
use Rattle.x509_check.specs.ExtensionRefs.{extensions_left, lent_extension}
use Rattle.x509_ext.specs.declared.extension.Extension.{Extension}
use Rattle.x509_validation.specs.Details.{IsFaulty}
use Rattle.x509_validation.proofs.details.first_faulty.Goals as goal

pub loop-extension-init : goal.loop-extension-init
loop-extension-init c = ([], refl, All-nil (λ (e : Extension). IsFaulty c.args.asks_purpose c.args.reason e → ⊥))

pub returns-then-is_faulty : goal.returns-then-is_faulty
returns-then-is_faulty c =
    let so_far = c.loop-extension.invariant in record {
      before = so_far.0;
      behind = extensions_left c.next.new.self;
      order = so_far.1 ∙ ap (λ rest. so_far.0 ++ rest) c.in-Some.ensures.steps;
      none_before = so_far.2;
      is = c.is_faulty.ensures.0 c.if-is_faulty.true;
    }

pub loop-extension-preserved : goal.loop-extension-preserved
loop-extension-preserved c =
    let so_far = c.loop-extension.invariant in
    let here = lent_extension c.in-Some.extension in (
      so_far.0 ++ here ∷ [],
      so_far.1 ∙ ap (λ rest. so_far.0 ++ rest) c.in-Some.ensures.steps ∙ sym (append_assoc so_far.0 (here ∷ []) (extensions_left c.next.new.self)),
      All-push (λ (e : Extension). IsFaulty c.args.asks_purpose c.args.reason e → ⊥) so_far.0 here so_far.2 (λ is. true≢false (sym (c.is_faulty.ensures.1 is) ∙ c.if-is_faulty.false)),
    )

pub returns : goal.returns
returns c =
    let so_far = c.loop-extension.invariant in
    let none : extensions_left c.loop-extension.rest ≡ [] = c.in_default.ensures.steps.0 in
    let whole : extensions_left c.args.extensions ≡ so_far.0 = so_far.1 ∙ ap (λ rest. so_far.0 ++ rest) none ∙ append-nil so_far.0 in
    subst (All (λ (e : Extension). IsFaulty c.args.asks_purpose c.args.reason e → ⊥)) (sym whole) so_far.2
