-- CRLs that are gone over one after the other.
use Rattle.std.proofs.Common.{List, [], ◌∷◌, refl}
use Rattle.std.specs.List.{All}
use Rattle.x509_revocation.specs.Lent.{LendsAll, LendsGiven}
use Rattle.x509_revocation.specs.Says.{GivenCrl}
use Rattle.x509_revocation.specs.declared.signed_crl.SignedCrl.{SignedCrl}
use Rattle.x509_revocation.proofs.Looks.{StandsFor, breaks, passed, passes, whole_for}

module _ (P : GivenCrl → Type 0) (all : List GivenCrl) where
  -- what holds of the CRLs that are left holds of all
  abbrev pub Left : List SignedCrl → Type 0
  Left lent = (others : List GivenCrl) × LendsAll lent others × StandsFor P others all

  pub left : (lent : List SignedCrl) → LendsAll lent all → Left lent
  left lent lends = (all, lends, whole_for P all all refl)

  pub next_left : (first : SignedCrl) (lent : List SignedCrl) → Left (first ∷ lent) → ((g : GivenCrl) → LendsGiven first g → P g) → Left lent
  next_left first lent ([], lends, stands) holds = absurd lends
  next_left first lent (g ∷ others, lends, stands) holds = (others, lends.1, passes P g (g ∷ others) others all refl (holds g lends.0) stands)

  pub fails_left : (first : SignedCrl) (lent : List SignedCrl) → Left (first ∷ lent) → ((g : GivenCrl) → LendsGiven first g → P g → ⊥) → All P all → ⊥
  fails_left first lent ([], lends, stands) fails every = absurd lends
  fails_left first lent (g ∷ others, lends, stands) fails every = breaks P g (g ∷ others) others all refl (fails g lends.0) stands every

  pub none_left : Left [] → All P all
  none_left ([], lends, stands) = passed P [] all refl stands
  none_left (g ∷ others, lends, stands) = absurd lends
