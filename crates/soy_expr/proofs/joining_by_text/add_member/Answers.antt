use Rattle.std.proofs.Common.{map}
use Rattle.soy_tree.specs.ViewTypes.{view_type}
use Rattle.soy_expr.proofs.TypeNumbers.{added_new, texts_with}
use Rattle.soy_expr.proofs.joining_by_text.add_member.Goals as goal

pub returns-in_ok-push-in-None-clause-kept : goal.returns-in_ok-push-in-None-clause-kept
returns-in_ok-push-in-None-clause-kept c =
    added_new c.args.numbers.now _ c.args.of.now _ c.in_ok-found.found c.args.kept.now.items c.push.new.self.items
    c.in_ok-text_of.ensures c.in_ok-found.ensures.found c.in-None.is c.requires c.in_ok-copy-in-None.ensures
    c.in_ok-push-in-None.ensures.items

pub returns-in_ok-push-in-None-clause-texts : goal.returns-in_ok-push-in-None-clause-texts
returns-in_ok-push-in-None-clause-texts c =
    texts_with c.args.numbers.now c.number_of.new.numbers _ (view_type c.args.of.now)
    (map view_type c.args.kept.now.items) (map view_type c.push.new.self.items) c.in_ok-text_of.ensures
    c.in_ok-found.ensures.added
    (added_new c.args.numbers.now _ c.args.of.now _ c.in_ok-found.found c.args.kept.now.items c.push.new.self.items
    c.in_ok-text_of.ensures c.in_ok-found.ensures.found c.in-None.is c.requires c.in_ok-copy-in-None.ensures
    c.in_ok-push-in-None.ensures.items)
    c.requires
