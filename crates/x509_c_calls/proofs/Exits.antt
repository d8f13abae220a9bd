-- Refusals of one input among others.
use Rattle.std.proofs.Common.{◌⊎◌, inl, inr}

-- a refusal that is one of several
pub mapped : {A B C : Type 0} → (B → C) → A ⊎ B → A ⊎ C
mapped to (inl memory) = inl memory
mapped to (inr refused) = inr (to refused)
