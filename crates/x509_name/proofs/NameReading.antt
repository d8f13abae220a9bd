-- What a reader of a name's text answers, from what was read of its parts.
use Rattle.std.proofs.Common.{◌≡◌, ◌≢◌, ◌⊎◌, false, eqb, ℕ, List, [], ◌∷◌, length, sym, subst, arith, inl, inr}
use Rattle.std.specs.List.Sorted.{IsStrictlySortedBy}
use Rattle.std.proofs.lemmas.List.Sorted.{IsPermutation-refl}
use Rattle.x509_der.specs.declared.error.ErrorKind.{ErrorKind}
use Rattle.x509_der.specs.declared.error.ErrorKind.TheVariants.{Memory}
use Rattle.x509_name.specs.Attributes.{AttributeRefused}
use Rattle.x509_name.specs.Cutting.{cut}
use Rattle.x509_name.specs.Parts.{Joined}
use Rattle.x509_name.specs.declared.attr.type_and_value.AttributeTypeAndValue.{AttributeTypeAndValue}
use Rattle.x509_name.proofs.Cuts.{cut_is_joined}
use Rattle.x509_name.specs.Refusals.{FirstRefused}
use Rattle.x509_name.specs.Text.{Reads}
use Rattle.x509_name.specs.NameText.{RdnReads, RdnRefused, NameRefused}

pub some_text : (text : List ℕ) → false ≡ eqb (length text) 0 → text ≢ []
some_text [] e is = absurd cc
some_text (byte ∷ text) e is = absurd cc

pub rdn_refused : (text : List ℕ) (kind : ErrorKind) → (kind ≡ Memory) ⊎ ((parts : List (List ℕ)) × Joined 43 parts text × FirstRefused Reads AttributeRefused parts kind) → (kind ≡ Memory) ⊎ RdnRefused text kind
rdn_refused text kind (inl memory) = inl memory
rdn_refused text kind (inr (parts, cut, first)) = inr (record { parts = parts; cut = cut; refused = inl first })

pub name_refused : (text : List ℕ) (kind : ErrorKind) → text ≢ [] → (kind ≡ Memory) ⊎ ((parts : List (List ℕ)) × Joined 44 parts text × FirstRefused RdnReads RdnRefused parts kind) → (kind ≡ Memory) ⊎ NameRefused text kind
name_refused text kind some (inl memory) = inl memory
name_refused text kind some (inr (parts, cut, first)) = inr (record { some = some; parts = parts; cut = cut; refused = first })

-- ---- a text of one part

one_part : (separator : ℕ) (text : List ℕ) (parts : List (List ℕ)) → Joined separator parts text → length parts ≡ 1 → Joined separator (text ∷ []) text
one_part separator text [] cut one = absurd (omega arith)
one_part separator text (part ∷ []) cut one = subst (λ (t : List ℕ). Joined separator (t ∷ []) text) (sym cut.joined) cut
one_part separator text (part ∷ next ∷ parts) cut one = absurd (omega arith)

pub single_cut : (text : List ℕ) → length (cut 43 text false) ≡ 1 → Joined 43 (text ∷ []) text
single_cut text one = one_part 43 text (cut 43 text false) (cut_is_joined 43 text) one

pub single_read : (text : List ℕ) (attribute : AttributeTypeAndValue) → length (cut 43 text false) ≡ 1 → Reads text attribute → RdnReads text (attribute ∷ [])
unfolding IsStrictlySortedBy
single_read text attribute one reads = record {
  parts = text ∷ [];
  attributes = attribute ∷ [];
  cut = single_cut text one;
  read = (reads, tt);
  members = IsPermutation-refl (attribute ∷ []);
  sorted = (tt, tt);
}

pub single_refused : (text : List ℕ) (kind : ErrorKind) → length (cut 43 text false) ≡ 1 → (kind ≡ Memory) ⊎ AttributeRefused text kind → (kind ≡ Memory) ⊎ RdnRefused text kind
single_refused text kind one (inl memory) = inl memory
single_refused text kind one (inr refused) = inr (record { parts = text ∷ []; cut = single_cut text one; refused = inl (inl refused) })
