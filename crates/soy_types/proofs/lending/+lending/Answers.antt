use Rattle.std.proofs.Common.{rules, ◌≡◌, ◌≤◌, [], ◌∷◌, ◌++◌, map, length, ap, ◌∙◌, subst, sym, arith, length-append}
use Rattle.std.proofs.lemmas.List.{drop_all}
use Rattle.std.specs.Prelude.{Ok, unwrap_or}
use Rattle.serde_json.specs.Data.{null}
use Rattle.json.specs.declared.value.Value as lent
use Rattle.json.specs.Value.{items_view, value_view}
use Rattle.soy_rules.specs.ShortLists.{HasShortLists}
use Rattle.soy_tree.specs.Values.{ListValue, MapValue, RecordValue}
use Rattle.soy_tree.specs.ViewTypes.{view_fields, view_type}
use Rattle.soy_tree.specs.ViewValues.{entries_of, items_of, view_entry, view_value}
use Rattle.soy_tree.specs.declared.value.Value as code_value
use Rattle.soy_types.specs.Fits.{Pushes}
use Rattle.soy_types.specs.LentData.{data_items, data_of}
use Rattle.soy_types.specs.Paths.{all_read, onward}
use Rattle.soy_types.specs.Read.{field_results, item_results, member_or_null, under_key, value_at}
use Rattle.soy_types.proofs.FitsFacts.{fits_below, fits_stops, lent_entries_left, lent_items_left, lent_list, lent_map}
use Rattle.soy_types.proofs.FitsFacts.{unfit_below}
use Rattle.soy_types.proofs.Pushed.{int_at, null_data, string_at}
use Rattle.soy_types.proofs.Results.{ends, fields_left, goes_on}
use Rattle.soy_types.proofs.Shortness.{entries_short-more, items_short-more, short_list}
use Rattle.soy_types.proofs.Views.{view_items, view_record}
use Rattle.soy_types.proofs.lending.+lending.Goals as goal

pub lent_items-returns-in-Err-clause-value : goal.lent_items-returns-in-Err-clause-value
lent_items-returns-in-Err-clause-value t c =
    let read = value_at (view_type c.args.of.now) in
    let i = c.loop-item.item-index in
    let v = c.item-item.result in
    let q = lent_items_left read c.args.items.now i v c.loop-item-test.true c.item-item.is in
    let whole =
    c.loop-item.invariant.read
    ∙ ap (λ x. onward (λ rest. map view_value c.loop-item.values.items ++ rest) x) q in
    fits_stops view_value view_value (λ vs. ListValue (items_of vs)) _ c.loop-item.values.items _ _ c.in-Err.unread
    whole (unfit_below i (read (data_of (value_view v))) c.in-Err.unread c.in-Err.ensures.value)

pub lent_items-loop-item-preserved : goal.lent_items-loop-item-preserved
lent_items-loop-item-preserved t c =
    let read = value_at (view_type c.args.of.now) in
    let i = c.loop-item.item-index in
    let v = c.item-item.result in
    let q = lent_items_left read c.args.items.now i v c.loop-item-test.true c.item-item.is in
    let whole =
    c.loop-item.invariant.read
    ∙ ap (λ x. onward (λ rest. map view_value c.loop-item.values.items ++ rest) x) q in
    record {
      read = rw c.in_ok-put-in-Ok.ensures.ok
          (goes_on view_value _ c.loop-item.values.items _ _ c.in-Ok.value whole
          (fits_below i (read (data_of (value_view v))) c.in-Ok.value c.in-Ok.ensures.value));
      within = omega arith;
      many = rw c.in_ok-put-in-Ok.ensures.ok
          (omega (arith, length-append c.loop-item.values.items (c.in-Ok.value ∷ []), c.loop-item.invariant.many));
      short = rw c.in_ok-put-in-Ok.ensures.ok
          (items_short-more view_value c.loop-item.values.items c.in-Ok.value c.loop-item.invariant.short
          c.in-Ok.ensures.short);
    }

pub lent_items-returns-clause-value : goal.lent_items-returns-clause-value
lent_items-returns-clause-value t c =
    let read = value_at (view_type c.args.of.now) in
    let nil = drop_all c.loop-item.item-index c.args.items.now c.loop-item-test.false in
    let whole =
    c.loop-item.invariant.read
    ∙ ap (λ x. onward (λ rest. map view_value c.loop-item.values.items ++ rest)
    (all_read (item_results read c.loop-item.item-index (data_items (items_view x))))) nil in
    ends view_value (λ vs. ListValue (items_of vs)) _ c.loop-item.values.items whole
    ∙ ap Ok (sym (ap (λ vs. view_value (code_value.List vs)) c.new.ensures ∙ view_items c.loop-item.values.items))

pub lent_items-returns-clause-short : goal.lent_items-returns-clause-short
lent_items-returns-clause-short t c =
    let few : length c.loop-item.values.items ≤ 9007199254740992 =
    omega (arith, c.loop-item.invariant.many, c.loop-item.invariant.within) in
    subst (λ vs. HasShortLists (view_value (code_value.List vs))) (sym c.new.ensures)
    (short_list c.loop-item.values.items few c.loop-item.invariant.short)

pub lent_fields-returns-in-Err-clause-value : goal.lent_fields-returns-in-Err-clause-value
lent_fields-returns-in-Err-clause-value t c =
    let f = c.field-item.result in
    let d = data_of (value_view c.args.json.now) in
    let q = fields_left c.args.fields.now d c.loop-field.field-index f c.loop-field-test.true c.field-item.is in
    let whole =
    c.loop-field.invariant.read
    ∙ ap (λ x. onward (λ rest. map view_entry c.loop-field.entries.items ++ rest) x) q in
    fits_stops view_entry view_value (λ es. RecordValue (entries_of es)) _ c.loop-field.entries.items _ _
    c.in-Err.unread whole c.in-Err.ensures

pub lent_fields-loop-field-preserved : goal.lent_fields-loop-field-preserved
lent_fields-loop-field-preserved t c =
    let f = c.field-item.result in
    let d = data_of (value_view c.args.json.now) in
    let q = fields_left c.args.fields.now d c.loop-field.field-index f c.loop-field-test.true c.field-item.is in
    let whole =
    c.loop-field.invariant.read
    ∙ ap (λ x. onward (λ rest. map view_entry c.loop-field.entries.items ++ rest) x) q in
    let pushed = c.in-Ok.ensures in
    record {
      read = rw pushed.1 (goes_on view_entry _ c.loop-field.entries.items _ _ pushed.0 whole pushed.2);
      short = rw pushed.1
          (entries_short-more view_entry c.loop-field.entries.items pushed.0 c.loop-field.invariant.short pushed.3);
    }

pub lent_fields-returns-clause-value : goal.lent_fields-returns-clause-value
lent_fields-returns-clause-value t c =
    let nil = drop_all c.loop-field.field-index c.args.fields.now c.loop-field-test.false in
    let whole =
    c.loop-field.invariant.read
    ∙ ap (λ x. onward (λ rest. map view_entry c.loop-field.entries.items ++ rest)
    (all_read (field_results (view_fields x) (data_of (value_view c.args.json.now))))) nil in
    ends view_entry (λ es. RecordValue (entries_of es)) _ c.loop-field.entries.items whole
    ∙ ap Ok (sym (ap (λ es. view_value (code_value.Fields es)) c.new.ensures ∙ view_record c.loop-field.entries.items))

pub lent_value-returns-in-List-Array-clause-value : goal.lent_value-returns-in-List-Array-clause-value
lent_value-returns-in-List-Array-clause-value t c =
    let is : c.args.json.now ≡ lent.Array c.in-List-Array.items = search rules in
    lent_list c.args.of.now c.in-List-Array.of c.get.result.now c.args.json.now c.in-List-Array.items
    c.as_slice.result.now c.lent_items.result c.in-List-Array.is-0 c.get.ensures is c.as_slice.ensures.value
    c.lent_items.ensures.value

pub lent_entries-loop-key-preserved : goal.lent_entries-loop-key-preserved
lent_entries-loop-key-preserved t c =
    let read = value_at (view_type c.args.of.now) in
    let q = lent_entries_left read _ c.in-Some.key.now c.in-Some.item.now c.next.new.self c.in-Some.ensures.steps in
    let whole =
    c.loop-key.invariant.read
    ∙ ap (λ x. onward (λ rest. map view_entry c.loop-key.entries.items ++ rest) x) q in
    record {
      read = rw c.in_ok-put-in-Ok.ensures.ok
          (goes_on view_entry _ c.loop-key.entries.items _ _ c.in-Ok.entry whole
          (c.in-Ok.ensures.value _ c.lent_value.ensures.value));
      short = rw c.in_ok-put-in-Ok.ensures.ok
          (entries_short-more view_entry c.loop-key.entries.items c.in-Ok.entry c.loop-key.invariant.short
          (c.in-Ok.ensures.short c.lent_value.ensures.short));
    }

pub lent_entries-returns-in-Err-clause-value : goal.lent_entries-returns-in-Err-clause-value
lent_entries-returns-in-Err-clause-value t c =
    let read = value_at (view_type c.args.of.now) in
    let q = lent_entries_left read _ c.in-Some.key.now c.in-Some.item.now c.next.new.self c.in-Some.ensures.steps in
    let whole =
    c.loop-key.invariant.read
    ∙ ap (λ x. onward (λ rest. map view_entry c.loop-key.entries.items ++ rest) x) q in
    fits_stops view_entry view_value (λ es. MapValue (entries_of es)) _ c.loop-key.entries.items _ _ c.in-Err.unread
    whole (c.in-Err.ensures.value _ c.lent_value.ensures.value)

pub lent_value-returns-in-Map-Object-clause-value : goal.lent_value-returns-in-Map-Object-clause-value
lent_value-returns-in-Map-Object-clause-value t c =
    let is : c.args.json.now ≡ lent.Object c.in-Map-Object.members = search rules in
    lent_map c.args.of.now c.in-Map-Object.of c.get-in-Map-Object.result.now c.args.json.now c.in-Map-Object.members
    c.lent_entries.result c.in-Map-Object.is-0 c.get-in-Map-Object.ensures is c.lent_entries.ensures.value

pub push_entry-returns-in-Str-String : goal.push_entry-returns-in-Str-String
push_entry-returns-in-Str-String t c =
    let is : c.args.json.now ≡ lent.String c.in-Str-String.text = search rules in
    let read = string_at c.args.of.now c.args.json.now c.in-Str-String.text c.in-Str-String.is-0 is in
    subst (λ r. Pushes (under_key c.args.name.now r) c.args.entries.now.items c.push_text.new.entries.items
    c.push_text.result) (sym read) c.push_text.ensures

pub push_entry-returns-in-Int-Number : goal.push_entry-returns-in-Int-Number
push_entry-returns-in-Int-Number t c =
    let is : c.args.json.now ≡ lent.Number c.in-Int-Number.text = search rules in
    let read = int_at c.args.of.now c.args.json.now c.in-Int-Number.text c.in-Int-Number.is-0 is in
    subst (λ r. Pushes (under_key c.args.name.now r) c.args.entries.now.items c.push_number.new.entries.items
    c.push_number.result) (sym read) c.push_number.ensures

pub push_entry-returns-in_default : goal.push_entry-returns-in_default
push_entry-returns-in_default t c = c.push_other.ensures

pub push_other-returns : goal.push_other-returns
push_other-returns t c = c.push_read.ensures _ c.lent_value.ensures.value c.lent_value.ensures.short

pub push_field-returns-in-Some : goal.push_field-returns-in-Some
push_field-returns-in-Some t c =
    let f = c.args.field.now in
    let is : data_of (value_view c.in-Some.member.now) ≡ member_or_null f.name (data_of (value_view c.args.json.now)) =
    ap (λ o. unwrap_or o null) c.in-Some.ensures in
    subst (λ d. Pushes (under_key f.name (value_at (view_type f.of) d)) c.args.entries.now.items
    c.push_entry.new.entries.items c.push_entry.result) is c.push_entry.ensures

pub push_field-returns-in-None : goal.push_field-returns-in-None
push_field-returns-in-None t c =
    let f = c.args.field.now in
    let is : null ≡ member_or_null f.name (data_of (value_view c.args.json.now)) =
    ap (λ o. unwrap_or o null) c.in-None.ensures in
    subst (λ d. Pushes (under_key f.name (value_at (view_type f.of) d)) c.args.entries.now.items
    c.push_entry-in-None.new.entries.items c.push_entry-in-None.result) (null_data ∙ is)
    c.push_entry-in-None.ensures
