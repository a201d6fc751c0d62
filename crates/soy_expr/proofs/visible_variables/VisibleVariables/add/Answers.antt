use Rattle.std.proofs.Common.{◌≡◌, ◌∙◌, List, None, ap, length, sym, ◌==◌, true, false, is_some, ℕ}
use Rattle.std.specs.Map.{lookup}
use Rattle.std.specs.Str.{chars}
use Rattle.std.specs.String.{string_bytes}
use Rattle.indexmap.proofs.CallerLemmas.{insert_entry-new}
use Rattle.soy_tree.specs.declared.soy_type.Field as code_field
use Rattle.soy_expr.proofs.Keyed.{added_alone, fields_of, is_key, no_key, same_key}
use Rattle.soy_expr.proofs.visible_variables.VisibleVariables.add.Goals as goal

pub returns-in_ok-insert : goal.returns-in_ok-insert
returns-in_ok-insert c =
    let old = c.self.inside.types in
    let vars = c.self.inside.others.items in
    let key = c.from_str.result in
    let k = c.in_ok-from_str.field-0 in
    let empty : (length vars == 0) ≡ true =
    ap (λ (l : List code_field.Field). length l == 0) (sym c.as_slice.ensures.value) ∙ sym c.is_empty.ensures
    ∙ c.if-is_empty.true in
    let new : is_some (lookup (is_key (string_bytes k)) old.entries) ≡ false =
    ap (λ (b : List ℕ). is_some (lookup (is_key b) old.entries)) c.in_ok-from_str.ensures.ok
    ∙ sym c.contains_key.ensures ∙ c.if-not-contains_key.true in
    added_alone old.entries c.insert.new.self.entries vars c.args.self.now k c.args.of c.args.name.now empty
    (c.in_ok-insert.ensures.entries
    ∙ insert_entry-new same_key old k c.args.of (no_key (lookup (is_key (string_bytes k)) old.entries) new))
    (ap chars c.in_ok-from_str.ensures.ok ∙ c.text-key.ensures.characters) c.self.view_is
