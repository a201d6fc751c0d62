-- What a line shows, and the law of its order: what stands before another character is left of it.
use Rattle.std.proofs.Common.{◌≡◌, ◌==◌, ◌||◌, not, ℕ, Bool, true, false, if◌then◌else◌, List, [], ◌∷◌, ◌++◌}
use Rattle.std.proofs.Common.{map, refl, sym, ap, ◌∙◌, append_assoc, get_or, Option}
use Rattle.std.proofs.lemmas.Bool.{eq-eqb}
use Rattle.std.specs.Prelude.{filter}
use Rattle.bidi_text.specs.Clean.{is_isolate_control}
use Rattle.bidi_order.specs.VisualOrder.{LeveledCharacter, comes_first, has_index, is_left_of, visual_order}
use Rattle.bidi_preview.specs.OrderSteps.{characters_in_order, visible_characters, with_character}
use Rattle.bidi_preview.specs.Seen.{shown_characters}

-- ---- the characters that are shown

pub visible : (text : List ℕ) (levels : List (Option ℕ))
    → visible_characters (characters_in_order text levels) ≡ shown_characters text (visual_order levels)
visible text levels = ap (filter (λ (c : ℕ). not (is_isolate_control c))) (indexes text (visual_order levels))
  where
    indexes : (text : List ℕ) (order : List LeveledCharacter)
        → map (λ (x : LeveledCharacter). x.index) (map (with_character text) order)
        ≡ map (λ (x : LeveledCharacter). get_or text x.index 0) order
    indexes text [] = refl
    indexes text (x ∷ order) = ap (λ l. get_or text x.index 0 ∷ l) (indexes text order)

self-eqb : (k : ℕ) → (k == k) ≡ true
self-eqb k = eq-eqb k k refl

or-true : (t : Bool) → (t || true) ≡ true
or-true true = refl
or-true false = refl

-- the law: what stands before another in the visual order is left of it
first-index : (j : ℕ) (y : LeveledCharacter) (a b : List LeveledCharacter) → y.index ≡ j
    → has_index j (a ++ y ∷ b) ≡ true
first-index j y [] b is = ap (λ i. (i == j) || has_index j b) is ∙ ap (λ t. t || has_index j b) (self-eqb j)
first-index j y (x ∷ a) b is = ap (λ t. (x.index == j) || t) (first-index j y a b is) ∙ or-true (x.index == j)

pub in-order-left : (a mid b : List LeveledCharacter) (x y : LeveledCharacter)
    → comes_first x.index y.index (a ++ x ∷ (mid ++ y ∷ b)) ≡ true
in-order-left [] mid b x y =
    ap (λ t. if t then has_index y.index (mid ++ y ∷ b) else comes_first x.index y.index (mid ++ y ∷ b))
    (self-eqb x.index) ∙ first-index y.index y mid b refl
in-order-left (z ∷ a) mid b x y = by_index (z.index == x.index)
    (behind a) (in-order-left a mid b x y)
  where
    behind : (a : List LeveledCharacter) → has_index y.index (a ++ x ∷ (mid ++ y ∷ b)) ≡ true
    behind a = ap (has_index y.index) (sym (append_assoc a (x ∷ mid) (y ∷ b)))
        ∙ first-index y.index y (a ++ x ∷ mid) b refl

    by_index : (t : Bool) → has_index y.index (a ++ x ∷ (mid ++ y ∷ b)) ≡ true
        → comes_first x.index y.index (a ++ x ∷ (mid ++ y ∷ b)) ≡ true
        → (if t then has_index y.index (a ++ x ∷ (mid ++ y ∷ b))
        else comes_first x.index y.index (a ++ x ∷ (mid ++ y ∷ b))) ≡ true
    by_index true has later = has
    by_index false has later = later

pub left_in_order : (levels : List (Option ℕ)) (a mid b : List LeveledCharacter) (x y : LeveledCharacter)
    → visual_order levels ≡ a ++ x ∷ (mid ++ y ∷ b) → is_left_of levels x.index y.index ≡ true
unfolding is_left_of
left_in_order levels a mid b x y is = ap (comes_first x.index y.index) is ∙ in-order-left a mid b x y
