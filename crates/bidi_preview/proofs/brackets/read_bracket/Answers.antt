use Rattle.std.proofs.Common.{rules, ◌<◌, ◌+◌, length, reverse, sym, subst, ◌∙◌, arith, None}
use Rattle.std.proofs.lemmas.Grind.{common_steps}
use Rattle.bidi_class.specs.declared.class.Class.TheVariants.{ON}
use Rattle.bidi_preview.specs.NeutralSteps.{PairsSoFar, counting_brackets}
use Rattle.bidi_preview.proofs.PairsFound.{full_items, opens_items, read_first}
use Rattle.bidi_preview.proofs.brackets.read_bracket.Goals as goal

pub returns-then-len-eq-OPEN_BRACKETS : goal.returns-then-len-eq-OPEN_BRACKETS
returns-then-len-eq-OPEN_BRACKETS c = full_items c.args.classes.now c.args.brackets.now c.args.index
    c.args.opened.now.items c.args.partners.now _ _ c.requires.within c.requires.long c.requires.so_far
    c.in-Some-Opens.closing (sym c.neutral_bracket.ensures ∙ (cc)) (omega arith)

pub bounds-partners-first : goal.bounds-partners-first
bounds-partners-first c = omega (
  arith,
  read_first c.args.classes.now c.args.brackets.now c.args.index
      (reverse c.args.opened.now.items) c.args.partners.now ON None c.requires.within c.requires.long c.requires.so_far
      c.in-Some-Closes.closing c.in-Some.first _ c.in-Some.ensures,
)

pub offset_bounds-partners-first : goal.offset_bounds-partners-first
offset_bounds-partners-first c =
    let below : c.in-Some.first < c.args.index = read_first c.args.classes.now c.args.brackets.now c.args.index
    (reverse c.args.opened.now.items) c.args.partners.now ON None c.requires.within c.requires.long
    c.requires.so_far c.in-Some-Closes.closing c.in-Some.first _ c.in-Some.ensures in
    let within : c.in-Some.first < length c.args.partners.now = omega arith in
    first_of (search rules, omega arith, grind (arith, common_steps))

pub returns-in_ok-push-in-Some-Opens : goal.returns-in_ok-push-in-Some-Opens
returns-in_ok-push-in-Some-Opens c =
    subst (λ l. PairsSoFar (counting_brackets c.args.classes.now c.args.brackets.now) (c.args.index + 1) (reverse l)
    c.args.partners.now) (sym c.in_ok-push-in-Some-Opens.ensures.items)
    (opens_items c.args.classes.now c.args.brackets.now c.args.index c.args.opened.now.items c.args.partners.now _ _
    c.requires.within c.requires.long c.requires.so_far c.in-Some-Opens.closing
    (sym c.neutral_bracket.ensures ∙ (cc)) (λ e. omega arith))
