use Rattle.std.proofs.Common.{◌+◌, ◌∙◌, ◌||◌, ap, drop, sym}
use Rattle.soy_rules.specs.Bodies.{has_member}
use Rattle.soy_rules.specs.Members.{union_members}
use Rattle.soy_tree.specs.ViewTypes.{view_members}
use Rattle.soy_check.proofs.Types.{first_member}
use Rattle.soy_check.proofs.commands.+searching.Goals as goal

pub some_has_member-returns-then-has_member : goal.some_has_member-returns-then-has_member
some_has_member-returns-then-has_member t c =
    let types = c.args.types.now in
    let after = has_member (union_members (view_members (drop (c.loop-of.of-index + 1) types))) in
    sym (c.loop-of.invariant
    ∙ first_member types c.loop-of.of-index c.of-item.result c.loop-of-test.true c.of-item.is
    ∙ ap (λ b. b || after) (sym c.has_member.ensures ∙ c.if-has_member.true))

pub some_has_member-loop-of-preserved : goal.some_has_member-loop-of-preserved
some_has_member-loop-of-preserved t c =
    let types = c.args.types.now in
    let after = has_member (union_members (view_members (drop (c.loop-of.of-index + 1) types))) in
    c.loop-of.invariant
    ∙ first_member types c.loop-of.of-index c.of-item.result c.loop-of-test.true c.of-item.is
    ∙ ap (λ b. b || after) (sym c.has_member.ensures ∙ c.if-has_member.false)
