use Rattle.std.proofs.Common.{◌≡◌, ◌+◌, ◌∷◌, [], length, length-append, ap, ◌∙◌, subst, arith}
use Rattle.std.proofs.lemmas.Option.{slice_get_within}
use Rattle.soy_tree.specs.ViewTypes.{view_type}
use Rattle.soy_types.specs.Filling.{FieldAt, fields_at, type_taken}
use Rattle.soy_types.proofs.Shapes.{blank_short, blank_turn}
use Rattle.soy_types.proofs.Views.{view_null}
use Rattle.soy_types.proofs.shape.named_entries.Goals as goal

pub loop-field-smaller : goal.loop-field-smaller
loop-field-smaller c =
    let es = c.loop-field.entries.items in
    let count : c.len-in-loop-field.result ≡ length es = omega arith in
    let within = slice_get_within (fields_at c.args.shape) c.len-in-loop-field.result _ c.in-Some.ensures in
    let more : length c.put.new.list.items ≡ length es + 1 =
    ap length c.in_ok-put.ensures.ok ∙ length-append es (_ ∷ []) in
    omega (arith, count, within, more)

pub loop-field-preserved : goal.loop-field-preserved
loop-field-preserved c =
    let es = c.loop-field.entries.items in
    let f = c.in-Some.field in
    let t = type_taken f.required (view_type f.of.now) in
    let count : c.len-in-loop-field.result ≡ length es = omega arith in
    let at = subst (λ n. FieldAt n f.name.now t (fields_at c.args.shape)) count c.in-Some.ensures in
    let made = c.in_ok-put.ensures.ok in
    record {
      blank = blank_turn (fields_at c.args.shape) es c.put.new.list.items f.name.now t _ at c.in_ok-name.ensures
          view_null made c.loop-field.invariant.blank;
      short = blank_short es c.put.new.list.items _ view_null made c.loop-field.invariant.short;
    }
