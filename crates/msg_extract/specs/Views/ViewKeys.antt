-- The contents that keys and groups of keys of the code stand for.
-- Example: the key of a selector stands for its expression.
use Rattle.std.specs.Prelude.{List, map}
use Rattle.std.specs.HashSet.{HashSet}
use Rattle.soy_tree.specs.MessageText.{MessageItem, Character, Printed}
use Rattle.soy_rules.specs.Placeholders.{Content, ExprContent, TagContent}
use Rattle.soy_tree.specs.ViewExpressions.{view_expr}
use Rattle.msg_extract.specs.declared.content_key.ContentKey.{ContentKey}
use Rattle.msg_extract.specs.declared.content_key.ContentKey.TheVariants as key
use Rattle.msg_extract.specs.declared.content_key.KeyItem.{KeyItem}
use Rattle.msg_extract.specs.declared.content_key.KeyItem.TheVariants as key_item

abbrev pub view_key_item : KeyItem → MessageItem
view_key_item (key_item.Character c span) = Character c span
view_key_item (key_item.Printed e phname span) = Printed (view_expr e) phname span

abbrev pub view_key : ContentKey → Content
view_key (key.OfExpr e) = ExprContent (view_expr e)
view_key (key.OfTag tag) = TagContent (map view_key_item tag)

abbrev pub view_groups : {S : Type 0} → List (HashSet ContentKey S) → List (List Content)
view_groups sets = map (λ set. map view_key set.keys) sets
