-- A tool of the proofs: the valid policy tree by its leaves. All that is answered follows from the set of its leaves of the last depth, where each is
-- told by the first policy behind any-policy on the way to it, by its valid policy and by what it expects.
use Rattle.std.specs.Prelude.{ℕ, zero, suc, Bool, true, false, List, [], ◌∷◌, ◌++◌, if◌then◌else◌}
use Rattle.std.specs.List.{list_any}
use Rattle.x509_policy.specs.Values.{Policy, is_any, has}
use Rattle.x509_policy.specs.Tree.{Nodes, none, node}

pub record Leaf : Type 0 where
  pub first : Policy
  pub valid : Policy
  pub expected : List Policy

-- the first policy that isn't any-policy on a way that goes on with this one
abbrev pub first_of_way : Policy → Policy → Policy
first_of_way above p = if is_any above then p else above

-- the leaves of that depth, where `above` is the first on the way to these nodes
abbrev pub leaves : ℕ → Policy → Nodes → List Leaf
leaves depth above none = []
leaves zero above (node valid expected children siblings) = record { first = first_of_way above valid; valid = valid; expected = expected } ∷ leaves zero above siblings
leaves (suc depth) above (node valid expected children siblings) = leaves depth (first_of_way above valid) children ++ leaves (suc depth) above siblings

abbrev pub is_empty : List Leaf → Bool
is_empty [] = true
is_empty (l ∷ ls) = false

abbrev pub some_has_policy : Policy → List Leaf → Bool
some_has_policy p ls = list_any (λ l. has (l.valid ∷ []) p) ls

abbrev pub some_expects : Policy → List Leaf → Bool
some_expects p ls = list_any (λ l. has l.expected p) ls

abbrev pub some_begins_with : Policy → List Leaf → Bool
some_begins_with p ls = list_any (λ l. has (l.first ∷ []) p) ls
