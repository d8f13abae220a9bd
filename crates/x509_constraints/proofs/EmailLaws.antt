-- Keys of e-mail addresses say which subtrees have them.
use Rattle.std.proofs.Common.{◌≡◌, ◌⊎◌, inl, inr, ◌↔◌, ℕ, Bool, true, false, List, [], ◌∷◌, ◌++◌, Option, None, Some, reverse, refl, sym, ◌∙◌, ap}
use Rattle.std.proofs.lemmas.Bool.{and_parts}
use Rattle.std.proofs.lemmas.List.{reverse-reverse}
use Rattle.x509_constraints.specs.Email.{IsMailboxWithin, IsWithinEmail, IsWithinParts, email_key, email_key_at, email_prefix, email_prefix_at, is_local, is_mailbox, is_mailbox_at, mailbox_key, mailbox_of, said}
use Rattle.x509_constraints.specs.Host.{IsWithinHost}
use Rattle.x509_constraints.proofs.KeyLaws.{IsUnder, begins_none, empty_answers, has_prefix-one, host_answers, key_if-answers, stops_meet, stops_same}
use Rattle.x509_constraints.specs.Keys.{stop, symbols, turned}
use Rattle.x509_constraints.specs.Prefixes.{begins, has_prefix}
use Rattle.x509_host.specs.Host.{IsSame, is_host, lower}

clash : (b : Bool) → b ≡ true → b ≡ false → ⊥
clash b t f = let e : true ≡ false = sym t ∙ f in cc

is_no_mailbox : (parts : List ℕ × List ℕ) → mailbox_of [] ≡ Some parts → ⊥
is_no_mailbox parts h = cc

-- no key begins with the prefix of an empty subtree alone
none_answers : (subtree : List ℕ) (own : Option (List ℕ × List ℕ)) → mailbox_of subtree ≡ own →
    (begins [] (email_prefix_at subtree own) ≡ true) ↔ (subtree ≡ [])
none_answers subtree (Some (local, host)) is = (
  (λ h. absurd (clash _ h (begins_none (turned host) (symbols (said local) ++ stop ∷ []) stop))),
  (λ empty. absurd (is_no_mailbox (local, host) (sym (ap mailbox_of empty) ∙ is))),
)
none_answers subtree None is = empty_answers subtree

-- a host, where it is one
hosts_within : (host subtree : List ℕ) → is_host host ≡ true → IsUnder host subtree ↔ IsWithinHost host subtree
hosts_within host subtree is = (forth, back)
  where
    forth : IsUnder host subtree → IsWithinHost host subtree
    forth (inl empty) = inl empty
    forth (inr own) = inr (is, own)

    back : IsWithinHost host subtree → IsUnder host subtree
    back (inl empty) = inl empty
    back (inr (_, own)) = inr own

-- one with a mailbox
some_answers : (local host subtree : List ℕ) (own : Option (List ℕ × List ℕ)) → is_host host ≡ true → mailbox_of subtree ≡ own →
    (begins (mailbox_key local host) (email_prefix_at subtree own) ≡ true) ↔ ((subtree ≡ []) ⊎ IsWithinParts local host subtree own)
unfolding turned
some_answers local host subtree (Some (l, h)) is_one is = (forth, back)
  where
    forth : begins (mailbox_key local host) (mailbox_key l h) ≡ true → (subtree ≡ []) ⊎ ((said local ≡ said l) × IsSame host h)
    forth begun =
        let hosts = stops_meet (reverse (lower host)) (reverse (lower h)) (symbols (said local) ++ stop ∷ []) (symbols (said l) ++ stop ∷ []) begun in
        let locals = stops_meet (said local) (said l) [] [] hosts.1 in
        inr (locals.0, sym (reverse-reverse (lower host)) ∙ (ap reverse hosts.0 ∙ reverse-reverse (lower h)))

    back : (subtree ≡ []) ⊎ ((said local ≡ said l) × IsSame host h) → begins (mailbox_key local host) (mailbox_key l h) ≡ true
    back (inl empty) = absurd (is_no_mailbox (l, h) (sym (ap mailbox_of empty) ∙ is))
    back (inr (same_local, same_host)) =
        ap (λ x. begins (symbols (reverse x) ++ stop ∷ (symbols (said local) ++ stop ∷ [])) (mailbox_key l h)) same_host
        ∙ (ap (λ x. begins (turned h ++ stop ∷ (symbols x ++ stop ∷ [])) (mailbox_key l h)) same_local
        ∙ stops_same (reverse (lower h)) (symbols (said l) ++ stop ∷ []) (symbols (said l) ++ stop ∷ []) (stops_same (said l) [] [] refl))
some_answers local host subtree None is_one is =
    let answers = host_answers host subtree (symbols (said local) ++ stop ∷ []) in
    let within = hosts_within host subtree is_one in
    ((λ h. inr (within.0 (answers.0 h))), (λ either. answers.1 (within.1 (without either))))
  where
    without : (subtree ≡ []) ⊎ IsWithinHost host subtree → IsWithinHost host subtree
    without (inl empty) = inl empty
    without (inr holds) = holds

email_answers_at : (subtree : List ℕ) (parts : Option (List ℕ × List ℕ)) → is_mailbox_at parts ≡ true →
    (has_prefix (email_prefix subtree ∷ []) (email_key_at parts) ≡ true) ↔ ((subtree ≡ []) ⊎ IsMailboxWithin parts subtree)
email_answers_at subtree None can = absurd (cc)
email_answers_at subtree (Some (local, host)) can =
    let both = and_parts (is_local local) (is_host host) can in
    has_prefix-one (mailbox_key local host) (email_prefix subtree) ((subtree ≡ []) ⊎ IsWithinParts local host subtree (mailbox_of subtree))
    (some_answers local host subtree (mailbox_of subtree) both.1 refl)

pub email_answers : (name subtree : List ℕ) → (has_prefix (email_prefix subtree ∷ []) (email_key name) ≡ true) ↔ IsWithinEmail name subtree
email_answers name subtree = key_if-answers (is_mailbox name) (email_prefix subtree ∷ []) (email_key_at (mailbox_of name)) subtree
    (IsMailboxWithin (mailbox_of name) subtree) (λ can. email_answers_at subtree (mailbox_of name) can)
    (has_prefix-one [] (email_prefix subtree) (subtree ≡ []) (none_answers subtree (mailbox_of subtree) refl))
