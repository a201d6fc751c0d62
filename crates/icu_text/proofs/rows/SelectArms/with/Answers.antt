use Rattle.std.proofs.Common.{◌≡◌, ◌∷◌, ◌++◌, [], map, sym, ap, subst, ◌∙◌}
use Rattle.std.specs.Str.{chars}
use Rattle.std.specs.String.{string_bytes}
use Rattle.soy_tree.specs.ViewMessageParts.{parts_of, view_select_arm}
use Rattle.icu_text.specs.FirstArms.{HasWords}
use Rattle.icu_text.proofs.ArmSets.{word_absent, words_more}
use Rattle.icu_text.proofs.rows.SelectArms.with.Goals as goal

pub invariant_of-result-2 : goal.invariant_of-result-2
invariant_of-result-2 c =
    let same : chars
    (string_bytes c.in_ok-key.key) ≡ c.args.word = ap chars c.in_ok-key.ensures.ok ∙ c.text.ensures.characters in
    subst (HasWords c.insert.new.self)
    (sym (c.in_ok-longer.ensures ∙ ap
    (λ w. map view_select_arm c.self.inside.items ++ (w, parts_of c.args.parts) ∷ []) (sym same)))
    (words_more c.self.inside.words c.insert.new.self (map view_select_arm c.self.inside.items) c.in_ok-key.key
    (parts_of c.args.parts) c.self.invariant
    c.in_ok-insert.ensures.updates.0)

pub returns : goal.returns
returns c =
    let same : chars
    (string_bytes c.in_ok-key.key) ≡ c.args.word = ap chars c.in_ok-key.ensures.ok ∙ c.text.ensures.characters in
    let absent = word_absent c.self.inside.words (map view_select_arm c.self.inside.items) c.in_ok-key.key c.args.word
    c.in_ok-insert.field-0 c.self.invariant
    c.in_ok-insert.ensures.added c.if-not-branch.false same in
    rw (sym c.self.view_is, absent) c.in_ok-longer.ensures
