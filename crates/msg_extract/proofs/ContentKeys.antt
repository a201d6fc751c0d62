-- Keys of contents in a set, as the contents that they stand for.
use Rattle.std.proofs.Common.{◌≡◌, ◌<◌, ◌≤◌, ℕ, zero, suc, Bool, true, false, ◌||◌, ◌+◌, not, List, [], ◌∷◌, ◌++◌}
use Rattle.std.proofs.Common.{length, map, slice_index_or, slice_set, refl, ap, ◌∙◌, arith}
use Rattle.std.specs.HashSet.{HashSet}
use Rattle.std.specs.Prelude.{if◌then◌else◌, nat_lt, Some, None}
use Rattle.std.specs.List.{list_any, position, position_or_len}
use Rattle.soy_rules.specs.Placeholders.{Content, is_same_content, with_content}
use Rattle.msg_extract.specs.NameGroups.{with_content_at}
use Rattle.msg_extract.specs.Views.ViewKeys.{view_groups, view_key}
use Rattle.msg_extract.specs.declared.content_key.ContentKey.{ContentKey}

any_view : (p : Content → Bool) (ks : List ContentKey)
    → list_any (λ k. p (view_key k)) ks ≡ list_any p (map view_key ks)
any_view p [] = refl
any_view p (k ∷ ks) = ap (λ t. p (view_key k) || t) (any_view p ks)

map_last : (ks : List ContentKey) (k : ContentKey) → map view_key (ks ++ k ∷ []) ≡ map view_key ks ++ view_key k ∷ []
map_last [] k = refl
map_last (l ∷ ks) k = ap (λ cs. view_key l ∷ cs) (map_last ks k)

-- a key more is a content more
pub with_key : (ks : List ContentKey) (k : ContentKey)
    → map view_key (if list_any (λ l. is_same_content (view_key k) (view_key l)) ks then ks else ks ++ k ∷ [])
    ≡ with_content (map view_key ks) (view_key k)
with_key ks k =
    at (list_any (λ l. is_same_content (view_key k) (view_key l)) ks)
    ∙ ap (λ t. if t then map view_key ks else map view_key ks ++ view_key k ∷ [])
    (any_view (is_same_content (view_key k)) ks)
  where
    at : (t : Bool) → map view_key (if t then ks else ks ++ k ∷ [])
        ≡ (if t then map view_key ks else map view_key ks ++ view_key k ∷ [])
    at true = refl
    at false = map_last ks k

place_view : (p : Content → Bool) (ks : List ContentKey)
    → position_or_len (λ k. p (view_key k)) ks ≡ position_or_len p (map view_key ks)
place_view p [] = refl
place_view p (k ∷ ks) = ap (λ n. if not (p (view_key k)) then 1 + n else 0) (place_view p ks)

length_view : (ks : List ContentKey) → length ks ≡ length (map view_key ks)
length_view [] = refl
length_view (k ∷ ks) = ap (λ n. suc n) (length_view ks)

-- a key stands where its content does
pub content_position : (c : Content) (ks : List ContentKey)
    → position (λ k. is_same_content c (view_key k)) ks ≡ position (is_same_content c) (map view_key ks)
content_position c ks =
    ap (λ n. if nat_lt n (length ks) then Some n else None) (place_view (is_same_content c) ks)
    ∙ ap (λ len. if nat_lt (position_or_len (is_same_content c) (map view_key ks)) len
    then Some (position_or_len (is_same_content c) (map view_key ks)) else None)
    (length_view ks)

module _ {S : Type 0} where
  -- a content more in a group
  pub put_at : (sets : List (HashSet ContentKey S)) (n : ℕ) (x y : HashSet ContentKey S) (content : Content)
      → n < length sets → x ≡ slice_index_or sets n x
      → map view_key y.keys ≡ with_content (map view_key x.keys) content
      → view_groups (slice_set sets n y) ≡ with_content_at n content (view_groups sets)
  put_at [] n x y content below_ is e = absurd (omega (arith, below_))
  put_at (z ∷ sets) zero x y content below_ is e =
      ap (λ group. group ∷ view_groups sets) (e ∙ ap (λ set. with_content (map view_key set.keys) content) is)
  put_at (z ∷ sets) (suc n) x y content below_ is e =
      ap (λ groups. map view_key z.keys ∷ groups) (put_at sets n x y content (omega (arith, below_)) is e)

  -- past all groups
  pub put_nowhere : (sets : List (HashSet ContentKey S)) (n : ℕ) (content : Content) → length sets ≤ n
      → view_groups sets ≡ with_content_at n content (view_groups sets)
  put_nowhere [] n content past = refl
  put_nowhere (z ∷ sets) zero content past = absurd (omega (arith, past))
  put_nowhere (z ∷ sets) (suc n) content past =
      ap (λ groups. map view_key z.keys ∷ groups) (put_nowhere sets n content (omega (arith, past)))
