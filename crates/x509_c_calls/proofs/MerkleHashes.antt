-- Octets that are read as hashes, 32 at a time.
use Rattle.std.proofs.Common.{◌≡◌, ℕ, suc, ◌+◌, ◌*◌, ◌<◌, List, [], ◌∷◌, ◌++◌, length, take, drop, refl, subst, sym, ap, ◌∙◌, arith, append_assoc, append-nil, length-append}
use Rattle.std.specs.Prelude.{◌==◌, ◌↔◌, All, Bool, IsTrue, MatchOption, Option, Some, false}
use Rattle.sha2.specs.Sha256.{sha256}
use Rattle.std.specs.List.{flat_map}
use Rattle.std.proofs.Math.Seq.{drop-append_seam, take-append_seam}
use Rattle.std.proofs.lemmas.Grind.{flat_map-append}
use Rattle.std.proofs.lemmas.List.{length-take-le, take-append-drop, take_all}
use Rattle.std.proofs.lemmas.List.Elements.{All-append, All-cons, All-nil}
use Rattle.x509_merkle.specs.Merkle.{Octets, recomputed_root, recomputed_roots}
use Rattle.x509_c_calls.specs.Trees.{AreHashes, IsConsistent, IsHash, IsIncluded}

abbrev pub joined : List Octets → List ℕ
joined hashes = flat_map (λ hash. hash) hashes

-- these hashes were read, and that is left
pub record IsRead (octets : List ℕ) (hashes : List Octets) (rest : List ℕ) : Type 0 where
  pub each : All (λ hash. IsHash hash) hashes
  pub whole : octets ≡ joined hashes ++ rest

pub joined_length : (hashes : List Octets) → All (λ hash. IsHash hash) hashes → length (joined hashes) ≡ 32 * length hashes
joined_length [] each = refl
joined_length (hash ∷ hashes) each =
    let head : IsHash hash = each 0 hash (omega arith) in
    let tail : All (λ h. IsHash h) hashes = λ k d below. each (suc k) d (omega (arith, below)) in
    omega (arith, head, joined_length hashes tail, length-append hash (joined hashes))

pub whole_hash : (octets hash behind : List ℕ) → hash ≡ take 32 octets → length behind < 1 → length behind + 32 ≡ length octets → (hash ≡ octets) × IsHash octets
whole_hash octets hash behind is none size = (is ∙ take_all 32 octets (omega (arith, none, size)), omega (arith, none, size))

pub none_read : (octets : List ℕ) → IsRead octets [] octets
none_read octets = record { each = All-nil (λ h. IsHash h); whole = refl }

pub one_read :
    (octets rest hash behind : List ℕ) (hashes : List Octets) → IsRead octets hashes rest → hash ≡ take 32 rest → behind ≡ drop 32 rest
    → length behind + 32 ≡ length rest → IsRead octets (hashes ++ hash ∷ []) behind
one_read octets rest hash behind hashes read is behind_is size =
    let full : length hash ≡ 32 = ap length is ∙ length-take-le 32 rest (omega (arith, size)) in
    let both : hash ++ behind ≡ rest = rw (is, behind_is) (take-append-drop 32 rest) in
    record {
      each = All-append (λ h. IsHash h) hashes (hash ∷ []) read.each (All-cons (λ h. IsHash h) hash [] full (All-nil (λ h. IsHash h)));
      whole =
          rw (flat_map-append (λ (h : Octets). h) hashes (hash ∷ []), append-nil hash, append_assoc (joined hashes) hash behind, both) read.whole;
    }

pub all_read : (octets rest : List ℕ) (hashes : List Octets) → IsRead octets hashes rest → length rest ≡ 0 → AreHashes octets hashes
all_read octets [] hashes read none = record { each = read.each; joined = read.whole ∙ append-nil (joined hashes) }
all_read octets (c ∷ rest) hashes read none = absurd (omega (arith, none))

pub none_are :
    (octets rest : List ℕ) (hashes others : List Octets) → IsRead octets hashes rest → length rest < 32 → (length rest == 0) ≡ false → AreHashes octets others → ⊥
none_are octets [] hashes others read below some are = absurd cc
none_are octets (c ∷ rest) hashes others read below some are =
    omega (
      arith,
      below,
      ap length read.whole,
      ap length are.joined,
      length-append (joined hashes) (c ∷ rest),
      joined_length hashes read.each,
      joined_length others are.each,
    )

-- ---- the hashes are the only ones

front_of : (a r : List ℕ) → length a ≡ 32 → take 32 (a ++ r) ≡ a
front_of a r is = subst (λ n. take n (a ++ r) ≡ a) is (take-append_seam a r)

behind_of : (a r : List ℕ) → length a ≡ 32 → drop 32 (a ++ r) ≡ r
behind_of a r is = subst (λ n. drop n (a ++ r) ≡ r) is (drop-append_seam a r)

head_of : (hash : Octets) (hashes : List Octets) → All (λ h. IsHash h) (hash ∷ hashes) → IsHash hash
head_of hash hashes each = each 0 hash (omega arith)

tail_of : (hash : Octets) (hashes : List Octets) → All (λ h. IsHash h) (hash ∷ hashes) → All (λ h. IsHash h) hashes
tail_of hash hashes each = λ k d below. each (suc k) d (omega (arith, below))

same_joined : (a b : List Octets) → All (λ h. IsHash h) a → All (λ h. IsHash h) b → joined a ≡ joined b → a ≡ b
same_joined [] [] all others e = refl
same_joined [] (y ∷ ys) all others e = absurd (omega (arith, ap length e, head_of y ys others, length-append y (joined ys)))
same_joined (x ∷ xs) [] all others e = absurd (omega (arith, ap length e, head_of x xs all, length-append x (joined xs)))
same_joined (x ∷ xs) (y ∷ ys) all others e =
    let hx = head_of x xs all in
    let hy = head_of y ys others in
    let heads : x ≡ y = sym (front_of x (joined xs) hx) ∙ ap (take 32) e ∙ front_of y (joined ys) hy in
    let tails : joined xs ≡ joined ys = sym (behind_of x (joined xs) hx) ∙ ap (drop 32) e ∙ behind_of y (joined ys) hy in
    rw (heads, same_joined xs ys (tail_of x xs all) (tail_of y ys others) tails) refl

pub same_hashes : (octets : List ℕ) (a b : List Octets) → AreHashes octets a → AreHashes octets b → a ≡ b
same_hashes octets a b are others = same_joined a b are.each others.each (sym are.joined ∙ others.joined)

-- ---- what a verifier of lent hashes says of octets

pub some_of : {X : Type 0} (N : Type 0) (S : X → Type 0) (o : Option X) (x : X) → o ≡ Some x → MatchOption o N S → S x
some_of N S o x is h = subst (λ o. MatchOption o N S) is h

pub includes :
    (leaf root : Octets) (index size : ℕ) (path : List ℕ) (given_leaf given_root : Octets) (items given : List Octets) (answer : Bool) → given_leaf ≡ leaf
    → IsHash leaf → given_root ≡ root → IsHash root → given ≡ items → AreHashes path items
    → (IsTrue answer ↔ (recomputed_root sha256 given_leaf index size given ≡ Some given_root)) → IsTrue answer ↔ IsIncluded leaf index size path root
includes leaf root index size path given_leaf given_root items given answer of_leaf leaf_is of_root root_is of_items are says = (
  (λ yes. record { hashes = items; are = are; sizes = (leaf_is, root_is); leads = rw (← of_leaf, ← of_root, ← of_items) (says.0 yes) }),
  (λ included. says.1 (rw (of_leaf, of_root, of_items, same_hashes path items included.hashes are included.are) included.leads)),
)

pub agrees :
    (old new : ℕ) (old_root new_root : Octets) (proof : List ℕ) (given_old given_new : Octets) (items given : List Octets) (answer : Bool)
    → given_old ≡ old_root → IsHash old_root → given_new ≡ new_root → IsHash new_root → given ≡ items → AreHashes proof items
    → (IsTrue answer ↔ (recomputed_roots sha256 given_old old new given ≡ Some (record { old = given_old; new = given_new })))
    → IsTrue answer ↔ IsConsistent old new old_root new_root proof
agrees old new old_root new_root proof given_old given_new items given answer of_old old_is of_new new_is of_items are says = (
  (λ yes. record { hashes = items; are = are; sizes = (old_is, new_is); leads = rw (← of_old, ← of_new, ← of_items) (says.0 yes) }),
  (λ consistent. says.1 (rw (of_old, of_new, of_items, same_hashes proof items consistent.hashes are consistent.are) consistent.leads)),
)
