use Rattle.std.proofs.Common.{◌≡◌, true, false, ◌≤◌, ◌<◌, [], ◌∷◌, map, length, Some, None, sym, ap, ◌∙◌, subst}
use Rattle.std.proofs.Common.{arith}
use Rattle.std.proofs.Common.{length-append}
use Rattle.json.specs.Json.{after_end_array, read_key}
use Rattle.json.specs.Token.{Token}
use Rattle.json.proofs.Grammar.{read_key-shorter}
use Rattle.soy_rules.specs.ShortLists.{HasShortLists, ItemsShort}
use Rattle.soy_tree.specs.Types.{BoolType, IntType, ListType, StringType}
use Rattle.soy_tree.specs.ViewTypes.{view_type}
use Rattle.soy_tree.specs.ViewValues.{items_of, view_value}
use Rattle.soy_tree.specs.declared.value.Value as code_value
use Rattle.soy_types.specs.Filling.{IsEntryAt, NullsFit, fields_at, has_entry, type_taken}
use Rattle.soy_types.specs.LentData.{data_of}
use Rattle.soy_types.proofs.Filled.{distinct_kept, entry_within, filled, short_kept, skipped}
use Rattle.soy_types.proofs.Pushed.{bool_type, int_type, string_type}
use Rattle.soy_types.proofs.Shapes.{on_true}
use Rattle.soy_types.proofs.Shortness.{items_short-more, short_list, short_record}
use Rattle.soy_types.proofs.TokenFacts.{at_type, field_read, items_finish, items_start, items_turn, list_read}
use Rattle.soy_types.proofs.TokenFacts.{members_finish, members_start, members_turn, object_read}
use Rattle.soy_types.proofs.Views.{view_items, view_list}
use Rattle.soy_types.proofs.token_reading.+token_reading.Goals as goal

pub next_value-returns-in-Str-clause-value : goal.next_value-returns-in-Str-clause-value
next_value-returns-in-Str-clause-value t c =
    at_type c.args.depth (view_type c.args.of.now) StringType c.args.reader.now c.next_string.new.reader
    c.next_string.result (ap view_type c.in-Str.is ∙ string_type) (c.next_string.ensures.value c.args.depth)

pub next_value-returns-in-Int-clause-value : goal.next_value-returns-in-Int-clause-value
next_value-returns-in-Int-clause-value t c =
    at_type c.args.depth (view_type c.args.of.now) IntType c.args.reader.now c.next_int.new.reader
    c.next_int.result (ap view_type c.in-Int.is ∙ int_type) (c.next_int.ensures.value c.args.depth)

pub next_value-returns-in-Bool-clause-value : goal.next_value-returns-in-Bool-clause-value
next_value-returns-in-Bool-clause-value t c =
    at_type c.args.depth (view_type c.args.of.now) BoolType c.args.reader.now c.next_bool.new.reader
    c.next_bool.result (ap view_type c.in-Bool.is ∙ bool_type) (c.next_bool.ensures.value c.args.depth)

pub next_value-returns-in-List-clause-value : goal.next_value-returns-in-List-clause-value
next_value-returns-in-List-clause-value t c =
    at_type c.args.depth (view_type c.args.of.now) (ListType (view_type c.get.result.now)) c.args.reader.now
    c.next_list.new.reader c.next_list.result
    (ap view_type c.in-List.is ∙ view_list c.in-List.of ∙ ap (λ x. ListType (view_type x)) (sym c.get.ensures))
    c.next_list.ensures.value

pub next_items-loop-alloc-init : goal.next_items-loop-alloc-init
next_items-loop-alloc-init t c =
    let none = c.new-values.ensures.items in
    record {
      so_far = items_start c.args.depth (view_type c.args.of.now) c.args.reader.now c.new-values.result.items none;
      short = subst (λ vs. ItemsShort (items_of (map view_value vs))) (sym none) tt;
      many = subst (λ vs. length vs ≤ 9007199254740992) (sym none) (omega arith);
      within = omega arith;
    }

pub next_items-loop-alloc-preserved : goal.next_items-loop-alloc-preserved
next_items-loop-alloc-preserved t c =
    let l = c.loop-alloc in
    let going : (after_end_array l.reader ≡ None) × (c.take_end_array.new.self ≡ l.reader) = grind arith in
    let v = c.in-Ok.value in
    let pushed = c.in_ok-put-in-Ok.ensures.ok in
    let less : length c.next_value.new.reader < length l.reader =
    subst (λ ts. length c.next_value.new.reader < length ts) going.1 c.in-Ok.ensures.shorter in
    record {
      so_far = items_turn c.args.depth (view_type c.args.of.now) c.args.reader.now l.reader c.take_end_array.new.self
          c.next_value.new.reader l.values.items _ v l.invariant.so_far going.0 going.1 c.in-Ok.ensures.value
          c.in-Ok.ensures.shorter pushed;
      short = rw pushed
          (items_short-more view_value l.values.items v l.invariant.short c.in-Ok.ensures.short);
      many = rw pushed (omega (arith, length-append l.values.items (v ∷ []), l.invariant.many));
      within = omega (arith, less, l.invariant.within);
    }

pub next_items-returns-clause-value : goal.next_items-returns-clause-value
next_items-returns-clause-value t c =
    let l = c.loop-alloc in
    let ends : after_end_array l.reader ≡ Some c.take_end_array.new.self = grind arith in
    items_finish c.args.depth (view_type c.args.of.now) c.args.reader.now l.reader c.take_end_array.new.self
    l.values.items _ l.invariant.so_far ends
    (ap (λ vs. view_value (code_value.List vs)) c.new.ensures ∙ view_items l.values.items)

pub next_items-returns-clause-short : goal.next_items-returns-clause-short
next_items-returns-clause-short t c =
    let l = c.loop-alloc in
    subst (λ vs. HasShortLists (view_value (code_value.List vs))) (sym c.new.ensures)
    (short_list l.values.items l.invariant.many l.invariant.short)

pub next_members-loop-entries-init : goal.next_members-loop-entries-init
next_members-loop-entries-init t c =
    let made = c.in_ok-entries.ensures in
    record {
      so_far = members_start c.args.depth (fields_at c.args.shape) c.args.reader.now c.in_ok-entries.entries.items
          made.blank made.distinct;
      short = made.short;
      within = omega arith;
    }

pub next_members-loop-entries-preserved : goal.next_members-loop-entries-preserved
next_members-loop-entries-preserved t c =
    let l = c.loop-entries in
    let k = c.in-Some.key.now in
    let mid = c.next_key.new.self in
    let key : read_key l.reader ≡ Some (Some k, mid) = grind arith in
    let done = c.in_ok-expected.ensures in
    let less = read_key-shorter l.reader (Some k) mid key in
    record {
      so_far = members_turn c.args.depth (fields_at c.args.shape) c.args.reader.now l.reader mid
          c.next_member.new.reader k l.entries.items c.next_member.new.entries.items l.invariant.so_far key done.value
          done.shorter;
      short = done.short l.invariant.short;
      within = omega (arith, less, done.shorter, l.invariant.within);
    }

pub next_members-returns-clause-value : goal.next_members-returns-clause-value
next_members-returns-clause-value t c =
    let l = c.loop-entries in
    let ends : read_key l.reader ≡ Some (None, c.next_key.new.self) = grind arith in
    let known : c.nulls_fit.result ≡ true = grind arith in
    let fit =
    subst (NullsFit (fields_at c.args.shape)) c.as_slice.ensures.value
    (on_true c.nulls_fit.result c.nulls_fit.ensures known) in
    members_finish c.args.depth (fields_at c.args.shape) c.args.reader.now l.reader c.next_key.new.self
    l.entries.items _ l.invariant.so_far ends fit (ap (λ es. view_value (code_value.Fields es)) c.new.ensures)

pub next_members-returns-clause-short : goal.next_members-returns-clause-short
next_members-returns-clause-short t c =
    subst (λ es. HasShortLists (view_value (code_value.Fields es))) (sym c.new.ensures)
    (short_record c.loop-entries.entries.items c.loop-entries.invariant.short)

pub next_member-returns-in_default-clause-value : goal.next_member-returns-in_default-clause-value
next_member-returns-in_default-clause-value t c =
    let passed = c.in_ok-skip_value.ensures.value in
    let none = subst (λ es. has_entry c.args.key.now es ≡ false) c.as_slice.ensures.value c.in_default.ensures in (
      passed.0,
      passed.1,
      passed.2,
      λ ms are alone. (
        skipped (fields_at c.args.shape) ms c.args.entries.now.items c.args.key.now (data_of passed.0) are none,
        alone,
      ),
    )

pub next_member-fill-requires : goal.next_member-fill-requires
next_member-fill-requires t c =
    let at = subst (IsEntryAt c.args.key.now c.in-Some.index) c.as_slice.ensures.value c.in-Some.ensures in
    entry_within c.args.key.now c.in-Some.index c.args.entries.now.items at

pub next_member-returns-clause-value : goal.next_member-returns-clause-value
next_member-returns-clause-value t c =
    let at = subst (IsEntryAt c.args.key.now c.in-Some.index) c.as_slice.ensures.value c.in-Some.ensures in
    let v = c.in_ok-value.value in
    let field = c.in_ok-value.ensures.value in
    let read = field.3 in (
      read.0,
      read.1,
      read.2,
      λ ms are alone. (
        filled (fields_at c.args.shape) ms c.args.entries.now.items _ c.in-Some.index c.args.key.now v (data_of read.0)
            field.0 field.1 are alone at c.fill.ensures field.2 read.3,
        distinct_kept c.in-Some.index v _ _ c.fill.ensures ∙ alone,
      ),
    )

pub next_member-returns-clause-short : goal.next_member-returns-clause-short
next_member-returns-clause-short t c =
    short_kept c.in-Some.index c.in_ok-value.value _ _ c.fill.ensures c.in_ok-value.ensures.short

pub next_field-returns-in-Some-clause-value : goal.next_field-returns-in-Some-clause-value
next_field-returns-in-Some-clause-value t c =
    let f = c.in-Some.field in
    field_read c.args.depth c.args.index f.name.now (type_taken f.required (view_type f.of.now))
    (fields_at c.args.shape) c.args.reader.now c.next_taken.new.reader c.next_taken.result c.in-Some.ensures
    c.next_taken.ensures.value

pub next_list-returns-in-Some-BeginArray-clause-value : goal.next_list-returns-in-Some-BeginArray-clause-value
next_list-returns-in-Some-BeginArray-clause-value t c =
    let first : c.args.reader.now ≡ Token.begin_array ∷ c.next.new.self = grind arith in
    list_read c.args.depth (view_type c.args.of.now) c.args.reader.now c.next.new.self c.next_items.new.reader
    c.next_items.result first (omega arith) c.next_items.ensures.value

pub next_object-returns-in-Some-BeginObject-clause-value : goal.next_object-returns-in-Some-BeginObject-clause-value
next_object-returns-in-Some-BeginObject-clause-value t c =
    let first : c.args.reader.now ≡ Token.begin_object ∷ c.next.new.self = grind arith in
    object_read c.args.depth (fields_at c.args.shape) c.args.reader.now c.next.new.self c.next_members.new.reader
    c.next_members.result first (omega arith) c.next_members.ensures.value
