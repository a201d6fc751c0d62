-- The names of a message, piece by piece.
use Rattle.std.proofs.Common.{◌≡◌, ◌≢◌, ◌<◌, ℕ, zero, suc, ◌+◌, true, false, List, [], ◌∷◌, length}
use Rattle.std.proofs.Common.{◌++◌, Some, None, drop, slice_get, slice_index_or, refl, sym, ap, ◌∙◌, arith}
use Rattle.soy_tree.specs.Types.{Name}
use Rattle.soy_rules.specs.Placeholders.{Content}
use Rattle.msg_extract.specs.NameGroups.{bases_after, bases_step, content_names, group_names, groups_after}
use Rattle.msg_extract.specs.NameGroups.{groups_step, is_use, names_from}
use Rattle.msg_extract.specs.Canonical.Pieces.{Piece, TextPiece, UsePiece, uses_in}
use Rattle.msg_extract.proofs.ItemLists.{drop_got, drop_none}
use Rattle.msg_extract.proofs.Texts.PieceLists.{append_assoc}

pub bases_steps : (bases : List Name) (p : Piece) (ps : List Piece)
    → bases_after bases (uses_in (p ∷ ps)) ≡ bases_after (bases_step bases p) (uses_in ps)
bases_steps bases (TextPiece text) ps = refl
bases_steps bases (UsePiece u) ps = refl

pub groups_steps : (bases : List Name) (groups : List (List Content)) (p : Piece) (ps : List Piece)
    → groups_after bases groups (uses_in (p ∷ ps))
    ≡ groups_after (bases_step bases p) (groups_step bases groups p) (uses_in ps)
groups_steps bases groups (TextPiece text) ps = refl
groups_steps bases groups (UsePiece u) ps = refl

-- a use is counted, and a text isn't
pub use_counted : (p : Piece) (ps : List Piece) → is_use p ≡ true
    → length (uses_in (p ∷ ps)) ≡ 1 + length (uses_in ps)
use_counted (TextPiece text) ps e = absurd (cc e)
use_counted (UsePiece u) ps e = let next : suc (length (uses_in ps)) ≡ 1 + length (uses_in ps) = omega arith in next

pub text_passed : (p : Piece) (ps : List Piece) → is_use p ≡ false → length (uses_in (p ∷ ps)) ≡ length (uses_in ps)
text_passed (TextPiece text) ps e = refl
text_passed (UsePiece u) ps e = absurd (cc e)

-- one content has the base name
pub one_name : (tries : ℕ) (bases : List Name) (base : Name) (contents : List Content) → length contents ≡ 1
    → content_names tries bases base contents ≡ base ∷ []
one_name tries bases base [] e = absurd (omega (arith, e))
one_name tries bases base (c ∷ []) e = refl
one_name tries bases base (c ∷ (d ∷ contents)) e = absurd (omega (arith, e))

-- others are numbered
pub many_names : (tries : ℕ) (bases : List Name) (base : Name) (contents : List Content) → length contents ≢ 1
    → content_names tries bases base contents ≡ names_from tries bases base 1 contents
many_names tries bases base [] e = refl
many_names tries bases base (c ∷ []) e = absurd (e refl)
many_names tries bases base (c ∷ (d ∷ contents)) e = refl

item_drop : {A : Type 0} (xs : List A) (i : ℕ) (x : A) → i < length xs → x ≡ slice_index_or xs i x
    → drop i xs ≡ x ∷ drop (i + 1) xs
item_drop [] i x below_ is = absurd (omega arith)
item_drop (y ∷ ys) zero x below_ is = rw is refl
item_drop (y ∷ ys) (suc i) x below_ is =
    let e : suc i + 1 ≡ suc (i + 1) = omega arith in rw e (item_drop ys i x (omega arith) is)

-- the names of one group more
pub names_grown : (tries : ℕ) (all bases : List Name) (groups : List (List Content)) (i n : ℕ) (b : Name)
    (g : List Content) (texts grown whole : List (List Name)) → i < length bases → b ≡ slice_index_or bases i b
    → Some g ≡ slice_get groups n → grown ≡ texts ++ content_names tries all b g ∷ []
    → texts ++ group_names tries all (drop i bases) (drop n groups) ≡ whole
    → grown ++ group_names tries all (drop (i + 1) bases) (drop (n + 1) groups) ≡ whole
names_grown tries all bases groups i n b g texts grown whole below_ is at grows same =
    ap (λ ts. ts ++ group_names tries all (drop (i + 1) bases) (drop (n + 1) groups)) grows
    ∙ (append_assoc texts (content_names tries all b g ∷ [])
    (group_names tries all (drop (i + 1) bases) (drop (n + 1) groups))
    ∙ (ap (λ rest. texts ++ rest) (sym step) ∙ same))
  where
    step : group_names tries all (drop i bases) (drop n groups)
        ≡ content_names tries all b g ∷ group_names tries all (drop (i + 1) bases) (drop (n + 1) groups)
    step = rw (item_drop bases i b below_ is, drop_got groups n g (sym at)) refl

append_none : {A : Type 0} (xs : List A) → xs ++ [] ≡ xs
append_none [] = refl
append_none (x ∷ xs) = ap (λ ys. x ∷ ys) (append_none xs)

-- no group is left
pub names_ended : (tries : ℕ) (all bs : List Name) (groups : List (List Content)) (n : ℕ)
    (texts whole : List (List Name)) → None ≡ slice_get groups n
    → texts ++ group_names tries all bs (drop n groups) ≡ whole → texts ≡ whole
names_ended tries all bs groups n texts whole at same =
    sym (append_none texts)
    ∙ (ap (λ rest. texts ++ rest) (sym (ap (group_names tries all bs) (drop_none groups n (sym at)) ∙ none bs)) ∙ same)
  where
    none : (bs : List Name) → group_names tries all bs [] ≡ []
    none [] = refl
    none (b ∷ bs) = refl
