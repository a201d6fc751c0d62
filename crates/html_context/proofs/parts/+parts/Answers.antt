use Rattle.std.proofs.Common.{ℕ, ◌+◌, ◌++◌, [], List, Ok, ap, drop, map, subst, sym, ◌∙◌}
use Rattle.soy_tree.specs.MessageParts.{MsgParts, PluralPart, SelectPart}
use Rattle.soy_tree.specs.ViewMessageParts.{exact_arms_of, named_arms_of, select_arms_of, view_exact, view_named}
use Rattle.soy_tree.specs.ViewMessageParts.{view_part, view_parts, view_select_arm}
use Rattle.soy_tree.specs.declared.bundle.MsgPart as code_part
use Rattle.soy_tree.specs.declared.bundle.ExactArm as code_exact
use Rattle.soy_tree.specs.declared.bundle.NamedArm as code_named
use Rattle.soy_tree.specs.declared.bundle.SelectArm as code_select
use Rattle.soy_tree.specs.declared.bundle.PluralPart as code_plural
use Rattle.soy_tree.specs.declared.bundle.SelectPart as code_select_part
use Rattle.html_context.specs.StandsFor.{Writes, walk_of, walks_of}
use Rattle.html_context.specs.ViewParts.{plan_of_part, plan_of_parts, plans_of_exact, plans_of_named, plans_of_select}
use Rattle.html_context.proofs.ViewArms.{exact_is, named_is, plural_is, select_arm_is, select_is}
use Rattle.html_context.proofs.WrittenLists.{InTurnSoFar, ListSoFar, first_behind, list_written, next_in_turn}
use Rattle.html_context.proofs.WrittenLists.{next_listed}
use Rattle.html_context.proofs.WrittenLists.{written_in_turn, written_list, written_lists, written_meet}
use Rattle.html_context.proofs.WrittenRows.{first_of, none_of}
use Rattle.html_context.proofs.parts.+parts.Goals as goal

pub all_parts-loop-part-preserved : goal.all_parts-loop-part-preserved
all_parts-loop-part-preserved t c =
    let s = c.args.source.now in
    let parts = c.args.parts.now in
    let x = c.part-item.result in
    rw c.in_ok-push.ensures.items
    (next_in_turn c.args.rows.now.items c.loop-part.rows.items c.one_part.new.rows.items c.loop-part.numbers.items
    c.in_ok-number.number (plan_of_part s (view_part x)) (plan_of_parts s
    (view_parts (drop (c.loop-part.part-index + 1) parts)))
    (plan_of_parts s (view_parts parts))
    (subst (λ (l : List code_part.MsgPart). InTurnSoFar c.args.rows.now.items c.loop-part.rows.items
    c.loop-part.numbers.items (plan_of_parts s (view_parts l)) (plan_of_parts s (view_parts parts)))
    (first_of parts c.loop-part.part-index x c.loop-part-test.true c.part-item.is) c.loop-part.invariant)
    c.in_ok-number.ensures)

pub all_parts-returns : goal.all_parts-returns
all_parts-returns t c =
    let s = c.args.source.now in
    let parts = c.args.parts.now in
    written_in_turn c.args.rows.now.items c.loop-part.rows.items c.write.new.rows.items c.new.result
    (plan_of_parts s (view_parts parts)) c.write.result
    (subst (λ (ks : List ℕ). InTurnSoFar c.args.rows.now.items c.loop-part.rows.items ks
    (plan_of_parts s (view_parts []))
    (plan_of_parts s (view_parts parts))) (sym c.new.ensures)
    (subst (λ (l : List code_part.MsgPart). InTurnSoFar c.args.rows.now.items c.loop-part.rows.items
    c.loop-part.numbers.items (plan_of_parts s (view_parts l)) (plan_of_parts s (view_parts parts)))
    (none_of parts c.loop-part.part-index c.loop-part-test.false) c.loop-part.invariant))
    c.write.ensures.rows c.write.ensures.number

pub exact_arms-loop-arm-preserved : goal.exact_arms-loop-arm-preserved
exact_arms-loop-arm-preserved t c =
    let s = c.args.source.now in
    let arms = c.args.arms.now in
    let x = c.arm-item.result in
    let plans = λ (l : List code_exact.ExactArm). plans_of_exact s (exact_arms_of (map view_exact l)) in
    rw c.in_ok-push.ensures.items
    (next_listed c.args.rows.now.items c.loop-arm.rows.items c.all_parts.new.rows.items c.loop-arm.numbers.items
    c.in_ok-number.number (plan_of_parts s (view_exact x).1) (plans (drop (c.loop-arm.arm-index + 1) arms))
    (map walk_of (plans arms))
    (subst (λ (l : List code_exact.ExactArm). ListSoFar c.args.rows.now.items c.loop-arm.rows.items
    c.loop-arm.numbers.items (plans l) (map walk_of (plans arms)))
    (first_of arms c.loop-arm.arm-index x c.loop-arm-test.true c.arm-item.is) c.loop-arm.invariant)
    (subst (λ (ps : MsgParts). Writes (plan_of_parts s ps) c.loop-arm.rows.items c.all_parts.new.rows.items
    (Ok c.in_ok-number.number)) (ap view_parts c.items.ensures ∙ sym (ap (λ a. a.1) (exact_is x)))
    c.in_ok-number.ensures))

pub exact_arms-returns : goal.exact_arms-returns
exact_arms-returns t c =
    let s = c.args.source.now in
    let arms = c.args.arms.now in
    let plans = λ (l : List code_exact.ExactArm). plans_of_exact s (exact_arms_of (map view_exact l)) in
    list_written c.args.rows.now.items c.loop-arm.rows.items c.loop-arm.numbers.items (map walk_of (plans arms))
    (subst (λ (l : List code_exact.ExactArm). ListSoFar c.args.rows.now.items c.loop-arm.rows.items
    c.loop-arm.numbers.items (plans l) (map walk_of (plans arms)))
    (none_of arms c.loop-arm.arm-index c.loop-arm-test.false) c.loop-arm.invariant)

pub named_arms-loop-arm-init : goal.named_arms-loop-arm-init
named_arms-loop-arm-init t c =
    first_behind c.args.rows.now.items c.args.before.items
    (plans_of_named c.args.source.now (named_arms_of (map view_named c.args.arms.now))) c.requires.below

pub named_arms-loop-arm-preserved : goal.named_arms-loop-arm-preserved
named_arms-loop-arm-preserved t c =
    let s = c.args.source.now in
    let arms = c.args.arms.now in
    let x = c.arm-item.result in
    let plans = λ (l : List code_named.NamedArm). plans_of_named s (named_arms_of (map view_named l)) in
    let whole = walks_of c.args.rows.now.items c.args.before.items ++ map walk_of (plans arms) in
    rw c.in_ok-push.ensures.items
    (next_listed c.args.rows.now.items c.loop-arm.rows.items c.all_parts.new.rows.items c.loop-arm.numbers.items
    c.in_ok-number.number (plan_of_parts s (view_named x).1) (plans (drop (c.loop-arm.arm-index + 1) arms)) whole
    (subst (λ (l : List code_named.NamedArm). ListSoFar c.args.rows.now.items c.loop-arm.rows.items
    c.loop-arm.numbers.items (plans l) whole)
    (first_of arms c.loop-arm.arm-index x c.loop-arm-test.true c.arm-item.is) c.loop-arm.invariant)
    (subst (λ (ps : MsgParts). Writes (plan_of_parts s ps) c.loop-arm.rows.items c.all_parts.new.rows.items
    (Ok c.in_ok-number.number)) (ap view_parts c.items.ensures ∙ sym (ap (λ a. a.1) (named_is x)))
    c.in_ok-number.ensures))

pub named_arms-returns : goal.named_arms-returns
named_arms-returns t c =
    let s = c.args.source.now in
    let arms = c.args.arms.now in
    let plans = λ (l : List code_named.NamedArm). plans_of_named s (named_arms_of (map view_named l)) in
    let whole = walks_of c.args.rows.now.items c.args.before.items ++ map walk_of (plans arms) in
    list_written c.args.rows.now.items c.loop-arm.rows.items c.loop-arm.numbers.items whole
    (subst (λ (l : List code_named.NamedArm). ListSoFar c.args.rows.now.items c.loop-arm.rows.items
    c.loop-arm.numbers.items (plans l) whole)
    (none_of arms c.loop-arm.arm-index c.loop-arm-test.false) c.loop-arm.invariant)

pub select_arms-loop-arm-preserved : goal.select_arms-loop-arm-preserved
select_arms-loop-arm-preserved t c =
    let s = c.args.source.now in
    let arms = c.args.arms.now in
    let x = c.arm-item.result in
    let plans = λ (l : List code_select.SelectArm). plans_of_select s (select_arms_of (map view_select_arm l)) in
    rw c.in_ok-push.ensures.items
    (next_listed c.args.rows.now.items c.loop-arm.rows.items c.all_parts.new.rows.items c.loop-arm.numbers.items
    c.in_ok-number.number (plan_of_parts s (view_select_arm x).1) (plans (drop (c.loop-arm.arm-index + 1) arms))
    (map walk_of (plans arms))
    (subst (λ (l : List code_select.SelectArm). ListSoFar c.args.rows.now.items c.loop-arm.rows.items
    c.loop-arm.numbers.items (plans l) (map walk_of (plans arms)))
    (first_of arms c.loop-arm.arm-index x c.loop-arm-test.true c.arm-item.is) c.loop-arm.invariant)
    (subst (λ (ps : MsgParts). Writes (plan_of_parts s ps) c.loop-arm.rows.items c.all_parts.new.rows.items
    (Ok c.in_ok-number.number)) (ap view_parts c.items.ensures ∙ sym (ap (λ a. a.1) (select_arm_is x)))
    c.in_ok-number.ensures))

pub select_arms-returns : goal.select_arms-returns
select_arms-returns t c =
    let s = c.args.source.now in
    let arms = c.args.arms.now in
    let plans = λ (l : List code_select.SelectArm). plans_of_select s (select_arms_of (map view_select_arm l)) in
    list_written c.args.rows.now.items c.loop-arm.rows.items c.loop-arm.numbers.items (map walk_of (plans arms))
    (subst (λ (l : List code_select.SelectArm). ListSoFar c.args.rows.now.items c.loop-arm.rows.items
    c.loop-arm.numbers.items (plans l) (map walk_of (plans arms)))
    (none_of arms c.loop-arm.arm-index c.loop-arm-test.false) c.loop-arm.invariant)

pub one_part-returns-in_ok-numbers-in-Plural-2 : goal.one_part-returns-in_ok-numbers-in-Plural-2
one_part-returns-in_ok-numbers-in-Plural-2 t c =
    let s = c.args.source.now in
    let p = code_plural.out-PluralPart c.in-Plural.plural in
    let old = c.args.rows.now.items in
    let exact = λ (l : List code_exact.ExactArm). exact_arms_of (map view_exact l) in
    let named = λ (l : List code_named.NamedArm). named_arms_of (map view_named l) in
    let plans =
    plans_of_exact s (exact c.items.result.now) ++ plans_of_named s (named c.items-in-Plural.result.now) in
    subst (λ v. Writes (plan_of_part s v) old c.write.new.rows.items c.write.result)
    (sym (ap view_part c.in-Plural.is ∙ plural_is c.in-Plural.plural
    ∙ ap (λ l. PluralPart p.ordinal p.name p.offset (exact l) (named p.named)) (sym c.items.ensures)
    ∙ ap (λ l. PluralPart p.ordinal p.name p.offset (exact c.items.result.now) (named l))
    (sym c.items-in-Plural.ensures)))
    (written_meet s.at old c.named_arms.new.rows.items c.write.new.rows.items c.new.result plans c.write.result
    (subst (λ (ks : List ℕ). ListSoFar old c.named_arms.new.rows.items ks [] (map walk_of plans)) (sym c.new.ensures)
    (written_lists old c.exact_arms.new.rows.items c.named_arms.new.rows.items c.in_ok-numbers-in-Plural.numbers.items
    c.in_ok-numbers-in-Plural-2.numbers.items (plans_of_exact s (exact c.items.result.now))
    (plans_of_named s (named c.items-in-Plural.result.now)) c.in_ok-numbers-in-Plural.ensures
    c.in_ok-numbers-in-Plural-2.ensures))
    c.write.ensures.rows c.write.ensures.number)

pub one_part-returns-in_ok-numbers-in-Select : goal.one_part-returns-in_ok-numbers-in-Select
one_part-returns-in_ok-numbers-in-Select t c =
    let s = c.args.source.now in
    let p = code_select_part.out-SelectPart c.in-Select.select in
    let old = c.args.rows.now.items in
    let rows = c.select_arms.new.rows.items in
    let plans = plans_of_select s (select_arms_of (map view_select_arm c.items-in-Select.result.now)) in
    subst (λ v. Writes (plan_of_part s v) old c.write-in-Select.new.rows.items c.write-in-Select.result)
    (sym (ap view_part c.in-Select.is ∙ select_is c.in-Select.select
    ∙ ap (λ l. SelectPart p.name (select_arms_of (map view_select_arm l))) (sym c.items-in-Select.ensures)))
    (written_meet s.at old rows c.write-in-Select.new.rows.items c.new-in-Select.result plans c.write-in-Select.result
    (subst (λ (ks : List ℕ). ListSoFar old rows ks [] (map walk_of plans)) (sym c.new-in-Select.ensures)
    (written_list old rows c.in_ok-numbers-in-Select.numbers.items (map walk_of plans)
    c.in_ok-numbers-in-Select.ensures))
    c.write-in-Select.ensures.rows c.write-in-Select.ensures.number)
