-- What stands in a list from a number on, and tags that are the same item by item.
use Rattle.std.proofs.Common.{◌≡◌, ℕ, zero, suc, ◌+◌, ◌<◌, Bool, true, false, ◌&&◌, List, [], ◌∷◌, Some, None}
use Rattle.std.proofs.Common.{drop, length, map, option_map, slice_get, slice_index_or, refl, ap, ◌∙◌, arith}
use Rattle.soy_tree.specs.MessageText.{MessageItem}
use Rattle.soy_rules.specs.Placeholders.{are_same_message_items, is_same_message_item}
use Rattle.msg_extract.specs.Views.ViewKeys.{view_key_item}
use Rattle.msg_extract.specs.declared.content_key.KeyItem.{KeyItem}

pub map_get : {A B : Type 0} (f : A → B) (xs : List A) (n : ℕ) → slice_get (map f xs) n ≡ option_map f (slice_get xs n)
map_get f [] zero = refl
map_get f [] (suc n) = refl
map_get f (x ∷ xs) zero = refl
map_get f (x ∷ xs) (suc n) = map_get f xs n

pub drop_got : {A : Type 0} (xs : List A) (n : ℕ) (x : A) → slice_get xs n ≡ Some x → drop n xs ≡ x ∷ drop (n + 1) xs
drop_got [] zero x e = absurd (cc e)
drop_got [] (suc n) x e = absurd (cc e)
drop_got (y ∷ ys) zero x e = let h : y ≡ x = cc e in rw h refl
drop_got (y ∷ ys) (suc n) x e = let h : suc n + 1 ≡ suc (n + 1) = omega arith in rw h (drop_got ys n x e)

pub drop_none : {A : Type 0} (xs : List A) (n : ℕ) → slice_get xs n ≡ None → drop n xs ≡ []
drop_none [] zero e = refl
drop_none [] (suc n) e = refl
drop_none (y ∷ ys) zero e = absurd (cc e)
drop_none (y ∷ ys) (suc n) e = drop_none ys n e

-- the items from a number on, the first of them apart
items_drop : (items : List KeyItem) (i : ℕ) (x : KeyItem) → i < length items → x ≡ slice_index_or items i x
    → map view_key_item (drop i items) ≡ view_key_item x ∷ map view_key_item (drop (i + 1) items)
items_drop [] i x below_ is = absurd (omega arith)
items_drop (y ∷ ys) zero x below_ is = rw is refl
items_drop (y ∷ ys) (suc i) x below_ is =
    let e : suc i + 1 ≡ suc (i + 1) = omega arith in rw e (items_drop ys i x (omega arith) is)

module _ (left : List KeyItem) (right : List MessageItem) (i n : ℕ) where
  abbrev from : ℕ → ℕ → Bool
  from j m = are_same_message_items (map view_key_item (drop j left)) (drop m right)

  turn : (x : KeyItem) (q : MessageItem) → i < length left → x ≡ slice_index_or left i x → slice_get right n ≡ Some q
      → from i n ≡ (is_same_message_item (view_key_item x) q && from (i + 1) (n + 1))
  turn x q below_ is e = rw (items_drop left i x below_ is, drop_got right n q e) refl

  -- items that are the same
  pub same_on : (x : KeyItem) (q : MessageItem) → i < length left → x ≡ slice_index_or left i x
      → slice_get right n ≡ Some q → is_same_message_item (view_key_item x) q ≡ true → from i n ≡ from (i + 1) (n + 1)
  same_on x q below_ is e h = turn x q below_ is e ∙ ap (λ t. t && from (i + 1) (n + 1)) h

  -- items that differ
  pub same_off : (x : KeyItem) (q : MessageItem) → i < length left → x ≡ slice_index_or left i x
      → slice_get right n ≡ Some q → is_same_message_item (view_key_item x) q ≡ false → from i n ≡ false
  same_off x q below_ is e h = turn x q below_ is e ∙ ap (λ t. t && from (i + 1) (n + 1)) h

  -- the right one has ended
  pub right_ended : (x : KeyItem) → i < length left → x ≡ slice_index_or left i x → slice_get right n ≡ None
      → from i n ≡ false
  right_ended x below_ is e = rw (items_drop left i x below_ is, drop_none right n e) refl

  -- the left one has ended, and the right one goes on
  pub left_ended : (q : MessageItem) → drop i left ≡ [] → slice_get right n ≡ Some q → from i n ≡ false
  left_ended q e f = rw (e, drop_got right n q f) refl

  -- both have ended
  pub both_ended : drop i left ≡ [] → slice_get right n ≡ None → from i n ≡ true
  both_ended e f = rw (e, drop_none right n f) refl
