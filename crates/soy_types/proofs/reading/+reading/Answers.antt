use Rattle.std.proofs.Common.{rules, ◌≡◌, ◌≤◌, [], ◌∷◌, ◌++◌, map, length, ap, ◌∙◌, subst, arith, length-append}
use Rattle.soy_rules.specs.ShortLists.{HasShortLists}
use Rattle.soy_types.proofs.Shortness.{entries_short-more, items_short-more, short_list}
use Rattle.serde_json.specs.declared.value.Value as json
use Rattle.serde_json.specs.View.{items_view, view}
use Rattle.soy_tree.specs.Values.{ListValue, MapValue, RecordValue}
use Rattle.soy_tree.specs.ViewTypes.{view_type}
use Rattle.soy_tree.specs.ViewValues.{entries_of, items_of, view_entry, view_value}
use Rattle.soy_types.specs.Paths.{onward}
use Rattle.soy_types.specs.Read.{value_at}
use Rattle.soy_types.proofs.Results.{ends, entries_left, fields_left, goes_on, items_left, list_read, map_read}
use Rattle.soy_types.proofs.Results.{named_read, stops}
use Rattle.soy_types.proofs.Results.{keyed_read}
use Rattle.soy_types.proofs.Views.{view_items, view_record}
use Rattle.soy_tree.specs.declared.value.Value as code_value
use Rattle.std.proofs.Common.{sym}
use Rattle.std.proofs.lemmas.List.{drop_all}
use Rattle.std.proofs.Common.{string_bytes}
use Rattle.std.specs.Prelude.{Ok, Err}
use Rattle.soy_tree.specs.ViewTypes.{view_fields}
use Rattle.soy_types.specs.Paths.{all_read}
use Rattle.soy_types.specs.Read.{field_results, item_results}
use Rattle.soy_types.proofs.reading.+reading.Goals as goal

pub read_items-returns-in-Err-clause-value : goal.read_items-returns-in-Err-clause-value
read_items-returns-in-Err-clause-value t c =
    let read = value_at (view_type c.args.of.now) in
    let q = items_left read c.args.items.now c.loop-index.index c.index-items-index.result c.loop-index-test.true
    c.index-items-index.is in
    let whole =
    c.loop-index.invariant.read
    ∙ ap (λ x. onward (λ rest. map view_value c.loop-index.values.items ++ rest) x) q in
    stops view_value view_value (λ vs. ListValue (items_of vs)) _ c.loop-index.values.items _ _ c.in-Err.refusal whole
    (c.in-Err.ensures.value _ c.read_value.ensures.value)

pub read_items-returns-clause-value : goal.read_items-returns-clause-value
read_items-returns-clause-value t c =
    let read = value_at (view_type c.args.of.now) in
    let nil = drop_all c.loop-index.index c.args.items.now c.loop-index-test.false in
    let whole =
    c.loop-index.invariant.read
    ∙ ap (λ x. onward (λ rest. map view_value c.loop-index.values.items ++ rest)
    (all_read (item_results read c.loop-index.index (items_view x)))) nil in
    ends view_value (λ vs. ListValue (items_of vs)) _ c.loop-index.values.items whole
    ∙ ap Ok (sym (ap (λ vs. view_value (code_value.List vs)) c.new.ensures ∙ view_items c.loop-index.values.items))

pub read_entries-loop-key-preserved : goal.read_entries-loop-key-preserved
read_entries-loop-key-preserved t c =
    let read = value_at (view_type c.args.of.now) in
    let q = entries_left read _ c.in-Some.key.now c.in-Some.item.now c.next.new.self c.in-Some.ensures.steps in
    let whole =
    c.loop-key.invariant.read
    ∙ ap (λ x. onward (λ rest. map view_entry c.loop-key.entries ++ rest) x) q in
    let keyed =
    keyed_read (string_bytes c.in-Some.key.now) c.as_str.result.now (read (view c.in-Some.item.now)) view_entry
    (Ok c.in-Ok.entry) c.as_str.ensures.value (c.in-Ok.ensures.value _ c.read_value.ensures.value) in
    record {
      read = rw c.in_ok-push-in-Ok.ensures.ok (goes_on view_entry _ c.loop-key.entries _ _ c.in-Ok.entry whole keyed);
      short = rw c.in_ok-push-in-Ok.ensures.ok
          (entries_short-more view_entry c.loop-key.entries c.in-Ok.entry c.loop-key.invariant.short
          (c.in-Ok.ensures.short c.read_value.ensures.short));
    }

pub read_entries-returns-in-Err-clause-value : goal.read_entries-returns-in-Err-clause-value
read_entries-returns-in-Err-clause-value t c =
    let read = value_at (view_type c.args.of.now) in
    let q = entries_left read _ c.in-Some.key.now c.in-Some.item.now c.next.new.self c.in-Some.ensures.steps in
    let whole =
    c.loop-key.invariant.read
    ∙ ap (λ x. onward (λ rest. map view_entry c.loop-key.entries ++ rest) x) q in
    let keyed =
    keyed_read (string_bytes c.in-Some.key.now) c.as_str.result.now (read (view c.in-Some.item.now)) view_entry
    (Err c.in-Err.refusal) c.as_str.ensures.value (c.in-Err.ensures.value _ c.read_value.ensures.value) in
    stops view_entry view_value (λ es. MapValue (entries_of es)) _ c.loop-key.entries _ _ c.in-Err.refusal whole keyed

pub read_fields-returns-in-Err-clause-value : goal.read_fields-returns-in-Err-clause-value
read_fields-returns-in-Err-clause-value t c =
    let f = c.field-item.result in
    let d = view c.args.json.now in
    let q = fields_left c.args.fields.now d c.loop-field.field-index f c.loop-field-test.true c.field-item.is in
    let whole =
    c.loop-field.invariant.read
    ∙ ap (λ x. onward (λ rest. map view_entry c.loop-field.entries.items ++ rest) x) q in
    let named =
    named_read f.name c.text-name.result.now (value_at (view_type f.of)) d view_entry (Err c.in-Err.refusal)
    c.text-name.ensures.characters c.text-name.ensures.bytes (c.in-Err.ensures.value _ c.read_member.ensures.value) in
    stops view_entry view_value (λ es. RecordValue (entries_of es)) _ c.loop-field.entries.items _ _ c.in-Err.refusal
    whole named

pub read_fields-loop-field-preserved : goal.read_fields-loop-field-preserved
read_fields-loop-field-preserved t c =
    let f = c.field-item.result in
    let d = view c.args.json.now in
    let q = fields_left c.args.fields.now d c.loop-field.field-index f c.loop-field-test.true c.field-item.is in
    let whole =
    c.loop-field.invariant.read
    ∙ ap (λ x. onward (λ rest. map view_entry c.loop-field.entries.items ++ rest) x) q in
    let named =
    named_read f.name c.text-name.result.now (value_at (view_type f.of)) d view_entry (Ok c.in-Ok.entry)
    c.text-name.ensures.characters c.text-name.ensures.bytes (c.in-Ok.ensures.value _ c.read_member.ensures.value) in
    record {
      read = rw c.in_ok-put-in-Ok.ensures.ok
          (goes_on view_entry _ c.loop-field.entries.items _ _ c.in-Ok.entry whole named);
      short = rw c.in_ok-put-in-Ok.ensures.ok
          (entries_short-more view_entry c.loop-field.entries.items c.in-Ok.entry c.loop-field.invariant.short
          (c.in-Ok.ensures.short c.read_member.ensures.short));
    }

pub read_fields-returns-clause-value : goal.read_fields-returns-clause-value
read_fields-returns-clause-value t c =
    let nil = drop_all c.loop-field.field-index c.args.fields.now c.loop-field-test.false in
    let whole =
    c.loop-field.invariant.read
    ∙ ap (λ x. onward (λ rest. map view_entry c.loop-field.entries.items ++ rest)
    (all_read (field_results (view_fields x) (view c.args.json.now)))) nil in
    ends view_entry (λ es. RecordValue (entries_of es)) _ c.loop-field.entries.items whole
    ∙ ap Ok (sym (ap (λ es. view_value (code_value.Fields es)) c.new.ensures ∙ view_record c.loop-field.entries.items))

pub read_value-returns-in-List-Array-clause-value : goal.read_value-returns-in-List-Array-clause-value
read_value-returns-in-List-Array-clause-value t c =
    let is : c.args.json.now ≡ json.Array c.in-List-Array.items = search rules in
    list_read c.args.of.now c.in-List-Array.of c.get.result.now c.args.json.now c.in-List-Array.items
    c.as_slice.result.now c.read_items.result c.in-List-Array.is-0 c.get.ensures is c.as_slice.ensures.value
    c.read_items.ensures.value

pub read_value-returns-in-Map-Object-clause-value : goal.read_value-returns-in-Map-Object-clause-value
read_value-returns-in-Map-Object-clause-value t c =
    let is : c.args.json.now ≡ json.Object c.in-Map-Object.members = search rules in
    map_read c.args.of.now c.in-Map-Object.of c.get-in-Map-Object.result.now c.args.json.now c.in-Map-Object.members
    c.read_entries.result c.in-Map-Object.is-0 c.get-in-Map-Object.ensures is c.read_entries.ensures.value

pub read_items-loop-index-preserved : goal.read_items-loop-index-preserved
read_items-loop-index-preserved t c =
    let read = value_at (view_type c.args.of.now) in
    let q = items_left read c.args.items.now c.loop-index.index c.index-items-index.result c.loop-index-test.true
    c.index-items-index.is in
    let whole =
    c.loop-index.invariant.read
    ∙ ap (λ x. onward (λ rest. map view_value c.loop-index.values.items ++ rest) x) q in
    record {
      read = rw c.in_ok-put-in-Ok.ensures.ok
          (goes_on view_value _ c.loop-index.values.items _ _ c.in-Ok.value whole
          (c.in-Ok.ensures.value _ c.read_value.ensures.value));
      within = omega arith;
      many = rw c.in_ok-put-in-Ok.ensures.ok
          (omega (arith, length-append c.loop-index.values.items (c.in-Ok.value ∷ []), c.loop-index.invariant.many));
      short = rw c.in_ok-put-in-Ok.ensures.ok
          (items_short-more view_value c.loop-index.values.items c.in-Ok.value c.loop-index.invariant.short
          (c.in-Ok.ensures.short c.read_value.ensures.short));
    }

pub read_items-returns-clause-short : goal.read_items-returns-clause-short
read_items-returns-clause-short t c =
    let few : length c.loop-index.values.items ≤ 9007199254740992 =
    omega (arith, c.loop-index.invariant.many, c.loop-index.invariant.within) in
    subst (λ vs. HasShortLists (view_value (code_value.List vs))) (sym c.new.ensures)
    (short_list c.loop-index.values.items few c.loop-index.invariant.short)
