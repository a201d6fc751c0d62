use Rattle.std.proofs.Common.{[], ◌++◌, ◌∙◌, ap, length, sym}
use Rattle.std.specs.List.{flat_map}
use Rattle.std.proofs.lemmas.Bool.{eqb-true}
use Rattle.std.proofs.lemmas.List.{nil_from_length}
use Rattle.value_cursor.specs.ByteForms.{byte_form}
use Rattle.value_cursor.proofs.Givings.{gives_same}
use Rattle.value_cursor.proofs.Wholes.{both_given}
use Rattle.value_cursor.proofs.whole.put_body.Goals as goal

pub returns-then-is_empty-clause-gives : goal.returns-then-is_empty-clause-gives
returns-then-is_empty-clause-gives c =
    let form = byte_form c.args._how in
    let others = c.args.others.now in
    let none = nil_from_length others (eqb-true (length others) 0 (sym c.is_empty.ensures ∙ c.if-is_empty.true)) in
    gives_same (c.args.plain.now ++ flat_map form others) (c.put_text-begun.ensures.gives [])
    (ap (λ l. c.args.plain.now ++ flat_map form l) none)

pub returns-clause-gives : goal.returns-clause-gives
returns-clause-gives c =
    both_given c.args.plain.now (c.put_text-begun.ensures.gives (flat_map (byte_form c.args._how) c.args.others.now))
    c.put_forms.ensures.gives
