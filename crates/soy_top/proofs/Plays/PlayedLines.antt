-- What the output took of the lines of a script, as they are played one after the other.
use Rattle.std.proofs.Common.{◌≡◌, ◌≤◌, ◌+◌, arith, ℕ, List, [], ◌∷◌, ◌++◌, Option, Ok, Err}
use Rattle.std.proofs.Common.{length, take, refl, sym, ap, ◌∙◌, subst}
use Rattle.std.specs.Prelude.{Result}
use Rattle.std.specs.Str.{chars}
use Rattle.soy_base.specs.declared.code.Code.{Code}
use Rattle.soy_base.specs.declared.memory.Refusal.TheVariants as refusal
use Rattle.soy_desk.specs.DeskRun as desk_run
use Rattle.soy_desk.specs.DeskRun.{DeskAnswer, PullCall, PullStep, Step, StepsTo}
use Rattle.soy_desk.specs.DeskState.{DeskState, desk_with}
use Rattle.soy_desk.specs.declared.fault.DeskFault.TheVariants as fault
use Rattle.soy_io.specs.Added.{added}
use Rattle.soy_io.proofs.AddedParts.{added-nil}
use Rattle.soy_top.specs.declared.play.Play.{Play}
use Rattle.soy_top.specs.Scripts.DeskLines.{LineShows}
use Rattle.soy_top.specs.Line.{ended}
use Rattle.soy_top.specs.Scripts.Played.{PlayState, PlayStep, play_start, played_from, show_step}
use Rattle.soy_top.specs.Scripts.Script.{script_line, script_lines}
use Rattle.soy_top.specs.Scripts.ViewPlay.{PlaysLine, known_step, play_steps, read_step, view_play}
use Rattle.soy_top.proofs.Plays.PlayedDesk.{Stands, start_stands, step_alike}
use Rattle.soy_top.proofs.Took.{PrefixTaken, PutSoFar, prefix_of_prefix, put_more, put_none, put_part, put_whole}
use Rattle.template_ir.specs.declared.program.ProgramParts.{ProgramParts}

-- ---- a line

abbrev OpensOne : DeskState → DeskState → Type 0
OpensOne before after = after.opened ≤ before.opened + 1

pull_opens : (before after : DeskState) (name : ℕ) (c : PullCall DeskAnswer) (answer : DeskAnswer)
    → PullStep before name c answer after → OpensOne before after
pull_opens before after name c (Ok n) named = subst (OpensOne before) (sym named.after_is) (omega arith)
pull_opens before after name c (Err (refusal.Because (fault.TooDeep call))) named =
    subst (OpensOne before) (sym named.after_is) (omega arith)
pull_opens before after name c (Err (refusal.Because fault.Unknown)) none =
    subst (OpensOne before) (sym none.unchanged) (omega arith)
pull_opens before after name c (Err refusal.OutOfMemory) named =
    subst (OpensOne before) (sym named.after_is) (omega arith)

-- a text is the first of what is written for a step and those behind it, and the desk is in the state that follows
record Follows (first second : ProgramParts) (state : PlayState) (r : Result PlayStep Code) (steps : List PlayStep)
    (after : DeskState) (text : List ℕ) : Type 0 where
  pub next : PlayState
  pub stands : Stands first second after next
  pub split : played_from state (known_step r steps) ≡ text ++ played_from next steps

line_follows : (first second : ProgramParts) (state : PlayState) (r : Result PlayStep Code) (steps : List PlayStep)
    (before after : DeskState) (text : List ℕ) → Stands first second before state
    → LineShows first second r before after text → Follows first second state r steps after text
line_follows first second state (Ok p) steps before after text stands (s, line, step, shows, text_is) =
    let alike = step_alike first second before after state stands p s line shows step in
    record {
      next = (show_step state p).1;
      stands = alike.1;
      split = ap (λ (l : List ℕ). l ++ played_from (show_step state p).1 steps)
          (sym (text_is ∙ ap ended alike.0));
    }
line_follows first second state (Err fault) steps before after text stands (same, none) = record {
  next = state;
  stands = subst (λ (d : DeskState). Stands first second d state) (sym same) stands;
  split = ap (λ (l : List ℕ). l ++ played_from state steps) (sym none);
}

-- a line opens one rendering at most
step_opens : (before after : DeskState) (s : Step) → StepsTo before s after → after.opened ≤ before.opened + 1
step_opens before after (desk_run.Publish program) step = subst (OpensOne before) (sym step) (omega arith)
step_opens before after (desk_run.Open input template (Ok name)) step =
    subst (OpensOne before) (sym step.2) (omega arith)
step_opens before after (desk_run.Open input template (Err (refusal.Because full))) step =
    subst (OpensOne before) (sym step.1) (omega arith)
step_opens before after (desk_run.Open input template (Err refusal.OutOfMemory)) step =
    subst (OpensOne before) (sym step.1) (omega arith)
step_opens before after (desk_run.Pull name c) step = pull_opens before after name c c.answer step
step_opens before after (desk_run.Close name (Ok done)) step = subst (OpensOne before) (sym step.2) (omega arith)
step_opens before after (desk_run.Close name (Err unknown)) step = subst (OpensOne before) (sym step.1) (omega arith)

pub line_opens : (first second : ProgramParts) (r : Result PlayStep Code) (before after : DeskState) (text : List ℕ)
    → LineShows first second r before after text → after.opened ≤ before.opened + 1
line_opens first second (Ok p) before after text (s, line, step, shows, is) = step_opens before after s step
line_opens first second (Err fault) before after text (same, none) = subst (OpensOne before) (sym same) (omega arith)

-- ---- all lines

module _ (play : Play) where
  -- so much was put, and these lines are left
  pub record PlaysOn (before now : Option (List ℕ)) (desk : DeskState) (lines : List (List ℕ)) : Type 0 where
    pub state : PlayState
    pub stands : Stands play.first.value play.second.value desk state
    pub so_far : PutSoFar before now (view_play play).text (played_from state (play_steps play lines))

  pub plays_none : (before : Option (List ℕ)) (desk : DeskState) → desk ≡ desk_with play.first.value
      → PlaysOn before before desk (script_lines (chars play.script.now))
  plays_none before desk is = record {
    state = play_start;
    stands = subst (λ (d : DeskState). Stands play.first.value play.second.value d play_start) (sym is)
        (start_stands play.first.value play.second.value);
    so_far = put_none before (view_play play).text;
  }

  module _ (before now : Option (List ℕ)) (desk after : DeskState) (line : List ℕ) (lines : List (List ℕ))
      (text : List ℕ) (on : PlaysOn before now desk (line ∷ lines))
      (plays : PlaysLine play (script_line line) desk after text) where
    follows : Follows play.first.value play.second.value on.state (read_step play (script_line line))
        (play_steps play lines) after text
    follows =
        line_follows play.first.value play.second.value on.state (read_step play (script_line line))
        (play_steps play lines) desk after text on.stands plays

    -- the line was put
    pub plays_more : (then : Option (List ℕ)) → then ≡ added now text → PlaysOn before then after lines
    plays_more then took =
        let f = follows in
        record {
          state = f.next;
          stands = f.stands;
          so_far = put_more before now then (view_play play).text
              (played_from on.state (play_steps play (line ∷ lines))) text (played_from f.next (play_steps play lines))
              on.so_far f.split took;
        }

    -- a prefix of it was put
    pub plays_part : (then : Option (List ℕ)) (n : ℕ) → n ≤ length text → then ≡ added now (take n text)
        → PrefixTaken before then (view_play play).text
    plays_part then n within took =
        let f = follows in
        put_part before now then (view_play play).text (played_from on.state (play_steps play (line ∷ lines))) on.so_far
        (prefix_of_prefix now then (played_from on.state (play_steps play (line ∷ lines))) text
        (played_from f.next (play_steps play lines)) n f.split within took)

  -- what was put is a prefix
  pub plays_prefix : (before now : Option (List ℕ)) (desk : DeskState) (lines : List (List ℕ))
      → PlaysOn before now desk lines → PrefixTaken before now (view_play play).text
  plays_prefix before now desk lines on =
      put_part before now now (view_play play).text (played_from on.state (play_steps play lines)) on.so_far
      (0, added-nil now)

  -- where no lines are left it is all
  pub plays_whole : (before now : Option (List ℕ)) (desk : DeskState) → PlaysOn before now desk []
      → now ≡ added before (view_play play).text
  plays_whole before now desk on = put_whole before now (view_play play).text [] on.so_far refl
