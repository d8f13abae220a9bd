-- Texts as they are compared (RFC 5280 7.1): prepared by RFC 4518 for caseIgnoreMatch. A text is the list of its characters. Normalization,
-- folding and categories are those of Unicode 18.
use Rattle.std.specs.Prelude.{ℕ, Bool, true, false, ◌&&◌, ◌||◌, not, nat_eq, nat_le, List, [], ◌∷◌, ◌++◌, map, filter, Option, Some, None, if◌then◌else◌}
use Rattle.std.specs.List.{list_any}
use Rattle.caseless.specs.Caseless.{default_case_fold}
use Rattle.ucd_category.specs.GeneralCategory.{general_category}
use Rattle.ucd_category.specs.GeneralCategoryGroup.{in_group}
use Rattle.ucd_category.specs.declared.GeneralCategory.{GeneralCategory}
use Rattle.ucd_category.specs.declared.GeneralCategory.TheVariants.{Unassigned, PrivateUse, Surrogate}
use Rattle.ucd_category.specs.declared.GeneralCategoryGroup.TheVariants.{Mark}
use Rattle.unicode_normalization.specs.Forms.{nfkc}

abbrev pub is_within : List (ℕ × ℕ) → ℕ → Bool
is_within ranges c = list_any (λ range. nat_le range.0 c && nat_le c range.1) ranges

-- ---- RFC 4518 2.2: map

-- the characters that are mapped to nothing, from each first one to its last
abbrev pub left_out : List (ℕ × ℕ)
left_out =
    (0x0000, 0x0008) ∷ (0x000E, 0x001F) ∷ (0x007F, 0x0084) ∷ (0x0086, 0x009F) ∷ (0x00AD, 0x00AD) ∷ (0x034F, 0x034F) ∷
    (0x06DD, 0x06DD) ∷ (0x070F, 0x070F) ∷ (0x1806, 0x1806) ∷ (0x180B, 0x180E) ∷ (0x200B, 0x200F) ∷ (0x202A, 0x202E) ∷
    (0x2060, 0x2063) ∷ (0x206A, 0x206F) ∷ (0xFE00, 0xFE0F) ∷ (0xFEFF, 0xFEFF) ∷ (0xFFF9, 0xFFFC) ∷ (0x1D173, 0x1D17A) ∷
    (0xE0001, 0xE0001) ∷ (0xE0020, 0xE007F) ∷ []

-- those that are mapped to a space
abbrev pub white_space : List (ℕ × ℕ)
white_space =
    (0x0009, 0x000D) ∷ (0x0020, 0x0020) ∷ (0x0085, 0x0085) ∷ (0x00A0, 0x00A0) ∷ (0x1680, 0x1680) ∷ (0x2000, 0x200A) ∷
    (0x2028, 0x2029) ∷ (0x202F, 0x202F) ∷ (0x205F, 0x205F) ∷ (0x3000, 0x3000) ∷ []

-- white space as a space
unfoldable pub spaced : ℕ → ℕ
spaced c = if is_within white_space c then 0x20 else c

-- it is not among those that are left out
unfoldable pub is_kept : ℕ → Bool
is_kept c = not (is_within left_out c)

unfoldable pub mapped : List ℕ → List ℕ
mapped text = map spaced (filter is_kept text)

-- ---- RFC 4518 2.2, 2.3: case folded, as RFC 3454 B.2 folds what NFKC is made of, and in NFKC

unfoldable pub folded : List ℕ → List ℕ
folded text = nfkc (default_case_fold (nfkc (default_case_fold text)))

-- ---- RFC 4518 2.4: prohibit. What RFC 3454 C.8 lists is left out by 2.2 or decomposed by 2.3. No ASCII character is prohibited.

abbrev pub has_no_meaning : GeneralCategory → Bool
has_no_meaning Unassigned = true
has_no_meaning PrivateUse = true
has_no_meaning Surrogate = true
has_no_meaning _ = false

unfoldable pub is_prohibited : ℕ → Bool
is_prohibited c = nat_le 0x80 c && (nat_eq c 0xFFFD || has_no_meaning (general_category c))

-- ---- RFC 4518 2.6.1: insignificant spaces

-- a combining mark, which no ASCII character is
unfoldable pub is_mark : ℕ → Bool
is_mark c = nat_le 0x80 c && in_group Mark (general_category c)

abbrev pub begins_with_mark : List ℕ → Bool
begins_with_mark [] = false
begins_with_mark (c ∷ behind) = is_mark c

-- a space that no combining mark follows
abbrev pub is_space : ℕ → List ℕ → Bool
is_space c behind = nat_eq c 0x20 && not (begins_with_mark behind)

-- what is left of a text, where begun says that a character stands before it that is no space, and gap that a space does behind that one
abbrev pub squeezed_behind : Bool → Bool → List ℕ → List ℕ
squeezed_behind begun gap [] = []
squeezed_behind begun gap (c ∷ behind) =
    if is_space c behind then squeezed_behind begun true behind
    else ((if begun && gap then 0x20 ∷ [] else []) ++ (c ∷ squeezed_behind true false behind))

-- spaces at the ends are left out, and runs of them are one
unfoldable pub squeezed : List ℕ → List ℕ
squeezed = squeezed_behind false false

-- ---- all of them

-- nothing where a character is prohibited
unfoldable pub prepared : List ℕ → Option (List ℕ)
prepared text = if list_any is_prohibited (folded (mapped text)) then None else Some (squeezed (folded (mapped text)))
