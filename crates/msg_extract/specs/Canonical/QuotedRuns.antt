-- Text of a canonical text character by character; whether a run of special characters has begun.
-- Example: in a run, `a` is written `'a`, and the run has ended.
use Rattle.std.specs.Prelude.{ℕ, Bool, true, false, not, ◌==◌, List, [], ◌∷◌, if◌then◌else◌}
use Rattle.soy_base.specs.Characters.{single_quote}
use Rattle.soy_tree.specs.MessageText.{MessageItem, Character, Printed}
use Rattle.msg_extract.specs.Canonical.CanonicalText.{is_special, written_run, written_text}

abbrev pub run_end : Bool → List ℕ
run_end in_run = if in_run then single_quote ∷ [] else []

abbrev pub is_run_after : Bool → Bool → ℕ → Bool
is_run_after in_plural in_run c =
    if is_special in_plural c then true else (if c == single_quote then in_run else false)

-- a character, behind an apostrophe where that says so
abbrev pub behind_apostrophe : Bool → ℕ → List ℕ
behind_apostrophe apostrophe c = if apostrophe then single_quote ∷ (c ∷ []) else c ∷ []

abbrev pub written_step : Bool → Bool → ℕ → List ℕ
written_step in_plural in_run c =
    if is_special in_plural c then behind_apostrophe (not in_run) c
    else (if c == single_quote then behind_apostrophe true single_quote else behind_apostrophe in_run c)

abbrev pub item_written : Bool → Bool → MessageItem → List ℕ
item_written in_plural in_run (Character c span) = written_step in_plural in_run c
item_written in_plural in_run (Printed e phname span) = []

abbrev pub run_after_item : Bool → Bool → MessageItem → Bool
run_after_item in_plural in_run (Character c span) = is_run_after in_plural in_run c
run_after_item in_plural in_run (Printed e phname span) = in_run

-- what is written of a text, in a run or outside
abbrev pub written_from : Bool → Bool → List ℕ → List ℕ
written_from in_plural true cs = written_run in_plural cs
written_from in_plural false cs = written_text in_plural cs
