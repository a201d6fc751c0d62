-- Entries that are put at the end.
use Rattle.std.proofs.Common.{rules, ◌≡◌, ℕ, List, [], ◌∷◌, ◌++◌, sym, ap, ◌∙◌, subst, Global}
use Rattle.std.specs.Prelude.{Result, Ok}
use Rattle.std.specs.Borrow.{Bor}
use Rattle.std.specs.Str.{chars}
use Rattle.json.specs.Json as json_of
use Rattle.json.specs.Value.{value_view}
use Rattle.json.specs.declared.value.Value as lent
use Rattle.json.specs.declared.value.Value.{the_lemmas}
use Rattle.serde_json.specs.Data.{null}
use Rattle.serde_json.specs.Find.{as_i64}
use Rattle.soy_base.specs.Path.{Path}
use Rattle.soy_rules.specs.ShortLists.{HasShortLists}
use Rattle.soy_tree.specs.declared.soy_type.SoyType as code_type
use Rattle.soy_tree.specs.declared.soy_type.SoyType.TheVariants as type_form
use Rattle.soy_tree.specs.declared.soy_type.SoyType.TheOpen.{SoyType-F}
use Rattle.soy_tree.specs.declared.value.Entry as code_entry
use Rattle.soy_tree.specs.Types.{Name, SoyType, BoolType, IntType, StringType}
use Rattle.soy_tree.specs.Values.{Value, StringValue}
use Rattle.soy_tree.specs.ViewTypes.{view_type, type_layer, field_layer}
use Rattle.soy_tree.specs.ViewValues.{view_entry, view_value, value_layer, entry_layer}
use Rattle.soy_types.specs.LentData.{data_of, number_or_zero}
use Rattle.soy_types.specs.Read.{int_read, under_key, value_at}

pub view_entry_is : (e : code_entry.Entry) → view_entry e ≡ (e.name, view_value e.value)
view_entry_is e = code_entry.fold_out-Entry Value (Name × Value) value_layer entry_layer e

-- an entry of what is read under a name
pub pushed : (is : Result Value Path) (old new : List code_entry.Entry) (name : Name) (e : code_entry.Entry)
    → new ≡ old ++ e ∷ [] → e.name ≡ name → is ≡ Ok (view_value e.value) → HasShortLists (view_value e.value)
    → (x : code_entry.Entry) × (new ≡ old ++ x ∷ []) × (under_key name is ≡ Ok (view_entry x))
    × HasShortLists (view_entry x).1
pushed is old new name e at named fits short =
    let seen : view_entry e ≡ (name, view_value e.value) =
    view_entry_is e ∙ ap (λ (n : Name). (n, view_value e.value)) named in (
      e,
      at,
      ap (under_key name) fits ∙ ap Ok (sym seen),
      subst (λ (x : Name × Value). HasShortLists x.1) (sym seen) short,
    )

-- the data of a missing member
pub null_data : data_of (value_view {A = Global} lent.Null) ≡ null
null_data = search (rules, the_lemmas)

view_string : (text : Bor (List ℕ)) → value_view {A = Global} (lent.String text) ≡ json_of.string text.now
view_string text = search (rules, the_lemmas)

view_number : (text : Bor (List ℕ)) → value_view {A = Global} (lent.Number text) ≡ json_of.number text.now
view_number text = search (rules, the_lemmas)

pub string_type : view_type code_type.Str ≡ StringType
string_type =
    ap view_type (sym type_form.rolls-Str)
    ∙ code_type.fold-roll-SoyType SoyType (Name × SoyType) type_layer field_layer SoyType-F.Str

pub int_type : view_type code_type.Int ≡ IntType
int_type =
    ap view_type (sym type_form.rolls-Int)
    ∙ code_type.fold-roll-SoyType SoyType (Name × SoyType) type_layer field_layer SoyType-F.Int

pub bool_type : view_type code_type.Bool ≡ BoolType
bool_type =
    ap view_type (sym type_form.rolls-Bool)
    ∙ code_type.fold-roll-SoyType SoyType (Name × SoyType) type_layer field_layer SoyType-F.Bool

-- a text at string, and a number at int
pub string_at : (of : code_type.SoyType) (j : lent.Value Global) (text : Bor (List ℕ)) → of ≡ code_type.Str
    → j ≡ lent.String text → value_at (view_type of) (data_of (value_view j)) ≡ Ok (StringValue (chars text.now))
string_at of j text of_is j_is =
    ap (λ t. value_at t (data_of (value_view j))) (ap view_type of_is ∙ string_type)
    ∙ ap (λ x. value_at StringType (data_of x)) (ap value_view j_is ∙ view_string text)

pub int_at : (of : code_type.SoyType) (j : lent.Value Global) (text : Bor (List ℕ)) → of ≡ code_type.Int
    → j ≡ lent.Number text
    → value_at (view_type of) (data_of (value_view j)) ≡ int_read (as_i64 (number_or_zero text.now))
int_at of j text of_is j_is =
    ap (λ t. value_at t (data_of (value_view j))) (ap view_type of_is ∙ int_type)
    ∙ ap (λ x. value_at IntType (data_of x)) (ap value_view j_is ∙ view_number text)
