use Rattle.std.proofs.Common.{◌∙◌, ap, sym, option_map}
use Rattle.std.specs.Str.{chars}
use Rattle.soy_top.specs.Scripts.Script.{close_line, open_line, publish_line, pull_line}
use Rattle.soy_top.proofs.Plays.ScriptTexts.{chosen, passed}
use Rattle.soy_top.proofs.script.read_line.Goals as goal

pub returns-in-Some : goal.returns-in-Some
unfolding chars
returns-in-Some c =
    c.open_line.ensures
    ∙ sym (chosen open_line _ _ _ (sym c.after_prefix.ensures ∙ ap (option_map (λ r. chars r.now)) c.in-Some.is))

pub returns-in-Some-after_prefix : goal.returns-in-Some-after_prefix
unfolding chars
returns-in-Some-after_prefix c =
    c.pull_line.ensures
    ∙ sym (passed open_line _ _ (sym c.after_prefix.ensures ∙ ap (option_map (λ r. chars r.now)) c.in_default.is)
    ∙ chosen pull_line _ _ _
    (sym c.after_prefix-2.ensures ∙ ap (option_map (λ r. chars r.now)) c.in-Some-after_prefix.is))

pub returns-in-Some-after_prefix-2 : goal.returns-in-Some-after_prefix-2
unfolding chars
returns-in-Some-after_prefix-2 c =
    c.close_line.ensures
    ∙ sym (passed open_line _ _ (sym c.after_prefix.ensures ∙ ap (option_map (λ r. chars r.now)) c.in_default.is)
    ∙ (passed pull_line _ _
    (sym c.after_prefix-2.ensures ∙ ap (option_map (λ r. chars r.now)) c.in_default-after_prefix.is)
    ∙ chosen close_line _ _ _
    (sym c.after_prefix-3.ensures ∙ ap (option_map (λ r. chars r.now)) c.in-Some-after_prefix-2.is)))

pub returns-in-Some-after_prefix-3 : goal.returns-in-Some-after_prefix-3
unfolding chars
returns-in-Some-after_prefix-3 c =
    c.publish_line.ensures
    ∙ sym (passed open_line _ _ (sym c.after_prefix.ensures ∙ ap (option_map (λ r. chars r.now)) c.in_default.is)
    ∙ (passed pull_line _ _
    (sym c.after_prefix-2.ensures ∙ ap (option_map (λ r. chars r.now)) c.in_default-after_prefix.is)
    ∙ (passed close_line _ _
    (sym c.after_prefix-3.ensures ∙ ap (option_map (λ r. chars r.now)) c.in_default-after_prefix-2.is)
    ∙ chosen publish_line _ _ _
    (sym c.after_prefix-4.ensures ∙ ap (option_map (λ r. chars r.now)) c.in-Some-after_prefix-3.is))))

pub returns-in-None : goal.returns-in-None
unfolding chars
returns-in-None c =
    sym (passed open_line _ _ (sym c.after_prefix.ensures ∙ ap (option_map (λ r. chars r.now)) c.in_default.is)
    ∙ (passed pull_line _ _
    (sym c.after_prefix-2.ensures ∙ ap (option_map (λ r. chars r.now)) c.in_default-after_prefix.is)
    ∙ (passed close_line _ _
    (sym c.after_prefix-3.ensures ∙ ap (option_map (λ r. chars r.now)) c.in_default-after_prefix-2.is)
    ∙ passed publish_line _ _
    (sym c.after_prefix-4.ensures ∙ ap (option_map (λ r. chars r.now)) c.in-None.is))))
