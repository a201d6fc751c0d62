-- What the course of a run says of each status, of what the two sinks took and of what is unchanged.
use Rattle.std.proofs.Common.{◌≡◌, ℕ, List, [], ◌∷◌, length, Option, Some, None, inl, inr, ◌⊎◌, refl, sym, ap, subst}
use Rattle.std.proofs.Common.{◌∙◌, arith}
use Rattle.std.specs.Prelude.{IfSome, Contains}
use Rattle.std.proofs.Math.Seq.{take-length}
use Rattle.soy_io.proofs.AddedParts.{added-nil}
use Rattle.soy_io.specs.Added.{added}
use Rattle.soy_io.specs.Rose.{Rose}
use Rattle.std.specs.String.{string_bytes}
use Rattle.soy_top.specs.declared.ending.Ending.{Ending}
use Rattle.soy_top.specs.declared.ending.Ending.TheVariants as ending
use Rattle.soy_top.specs.Runs.Concludes.{Concludes, MayEnd}
use Rattle.soy_top.specs.declared.status.Status.{Status}
use Rattle.soy_top.specs.declared.status.Status.TheVariants as status
use Rattle.soy_top.specs.Answer.{Answer, Usage, Read, Refused, Done, TooDeep, out_text, err_text}
use Rattle.soy_top.specs.Runs.Change.{Change, Took, TookPrefix, Failed}
use Rattle.soy_top.specs.Runs.Course.{Run, Course, Said, Says, Stops, WritesTo, TextIsDue}
use Rattle.soy_top.specs.Runs.Due.{IsDue, UsageDue, ReadDue, RefusedDue, DoneDue, TooDeepDue}
use Rattle.soy_top.specs.Runs.Ending.{UsageSaid, ReadSaid, RefusalSaid, TextWritten, TooDeepSaid, SinkFailed, OutPart}
use Rattle.soy_top.specs.Runs.Ending.{ErrPart, OnNoOutput, OnNothingWritten}
use Rattle.soy_top.specs.Line.{ended, read_line, usage_text}
use Rattle.soy_top.specs.Runs.Output.{End, Whole, AtCall, OnEmpty, OnNoText, ended_answer, output_answer}
use Rattle.soy_top.specs.Words.{Word}

-- an answer that is known is the one that is said of it
one_answer : (answer : Option Answer) (a b : Answer) → answer ≡ Some a → IfSome answer (λ x. x ≡ b) → a ≡ b
one_answer answer a b known is = subst (λ o. IfSome o (λ x. x ≡ b)) known is

some_answer : (answer : Option Answer) (a b : Answer) → answer ≡ Some a → answer ≡ Some b → a ≡ b
some_answer answer a b known is = one_answer answer a b known (subst (λ o. IfSome o (λ x. x ≡ b)) (sym is) refl)

-- a fact of every answer is one of the answer that there is
for_any : (answer : Option Answer) (P : Answer → Type 0) → ((a : Answer) → P a) → IfSome answer P
for_any None P h = tt
for_any (Some a) P h = h a

-- a fact of one answer is one of the answer that there is, if it is that one
for_one : (answer : Option Answer) (b : Answer) (P : Answer → Type 0) → IfSome answer (λ a. a ≡ b) → P b
    → IfSome answer P
for_one None b P is h = tt
for_one (Some a) b P is h = subst P (sym is) h

for_known : (answer : Option Answer) (b : Answer) (P : Answer → Type 0) → answer ≡ Some b → P b → IfSome answer P
for_known answer b P is h = subst (λ o. IfSome o P) (sym is) h

-- the statuses after a put that stopped, after a text was said, and after an output was written
abbrev IsStopped : Status → Type 0
IsStopped status.Write = Unit {0}
IsStopped status.Memory = Unit {0}
IsStopped status.Usage = ⊥
IsStopped status.Read = ⊥
IsStopped status.Refused = ⊥
IsStopped status.Done = ⊥
IsStopped status.TooDeep = ⊥

abbrev IsWritten : Status → Type 0
IsWritten status.Done = Unit {0}
IsWritten status.TooDeep = Unit {0}
IsWritten status.Write = Unit {0}
IsWritten status.Memory = Unit {0}
IsWritten status.Usage = ⊥
IsWritten status.Read = ⊥
IsWritten status.Refused = ⊥

stops_status : (text : List ℕ) (sink : Change) (result : Status) → Stops text sink result → IsStopped result
stops_status text sink result (inl h) = subst IsStopped (sym h.0) tt
stops_status text sink result (inr h) = subst IsStopped (sym h.0) tt

written_by_stop : (s : Status) → IsStopped s → IsWritten s
written_by_stop status.Write h = tt
written_by_stop status.Memory h = tt
written_by_stop status.Usage h = absurd h
written_by_stop status.Read h = absurd h
written_by_stop status.Refused h = absurd h
written_by_stop status.Done h = tt
written_by_stop status.TooDeep h = tt

says_written : (wanted : Status) (text : List ℕ) (sink : Change) (result : Status) → IsWritten wanted
    → Says wanted text sink result → IsWritten result
says_written wanted text sink result w (inl h) = subst IsWritten (sym h.0) w
says_written wanted text sink result w (inr h) = written_by_stop result (stops_status text sink result h)

writes_status : (text : List ℕ) (end : End) (out err : Change) (SameErr : Type 0) (result : Status)
    → WritesTo text end out err SameErr result → IsWritten result
writes_status text Whole out err SameErr result h = says_written status.Done text out result tt h.0
writes_status text (AtCall line) out err SameErr result (inl h) =
    written_by_stop result (stops_status text out result h.0)
writes_status text (AtCall line) out err SameErr result (inr h) = says_written status.TooDeep (ended line) err result
    tt h.1

-- whatever the status, a prefix of the text was taken
stops_prefix : (text : List ℕ) (sink : Change) (result : Status) → Stops text sink result → TookPrefix sink text
stops_prefix text sink result (inl h) = h.2
stops_prefix text sink result (inr h) = h.1

took_prefix : (text : List ℕ) (sink : Change) → Took sink text → TookPrefix sink text
took_prefix text sink took = (length text, took ∙ ap (added sink.taken_before) (sym (take-length text)))

says_prefix : (wanted : Status) (text : List ℕ) (sink : Change) (result : Status) → Says wanted text sink result
    → TookPrefix sink text
says_prefix wanted text sink result (inl h) = took_prefix text sink h.1
says_prefix wanted text sink result (inr h) = stops_prefix text sink result h

-- nothing was taken, which is a prefix of any text
none_prefix : (sink : Change) (text : List ℕ) → sink.taken_after ≡ sink.taken_before → TookPrefix sink text
none_prefix sink text same = (0, same ∙ added-nil sink.taken_before)

-- what was said is due, or its sink failed, or memory ran out
stops_due : (due : Status) (F : Type 0) (text : List ℕ) (sink : Change) (result : Status) → (Failed sink → F)
    → Stops text sink result → IsDue due F result
stops_due due F text sink result fails (inl h) = inr (inl (h.0, fails h.1))
stops_due due F text sink result fails (inr h) = inr (inr h.0)

says_due : (due wanted : Status) (F : Type 0) (text : List ℕ) (sink : Change) (result : Status) → (Failed sink → F)
    → wanted ≡ due → Says wanted text sink result → IsDue due F result
says_due due wanted F text sink result fails is (inl h) = inl (h.0 ∙ is)
says_due due wanted F text sink result fails is (inr h) = stops_due due F text sink result fails h

-- a text that was said whole, with a status that no put stops with
said_whole : (wanted shown : Status) (text : List ℕ) (sink : Change) (result : Status) → Says wanted text sink result
    → result ≡ shown → (IsStopped shown → ⊥) → (wanted ≡ shown) × Took sink text
said_whole wanted shown text sink result (inl h) is never = (sym h.0 ∙ is, h.1)
said_whole wanted shown text sink result (inr h) is never =
    absurd (never (subst IsStopped is (stops_status text sink result h)))

on_empty : (P : Type 0) (text : List ℕ) → P → OnEmpty text P
on_empty P [] h = h
on_empty P (c ∷ text) h = tt

on_no_output : (P : Type 0) (a : Answer) → P → OnNoOutput a P
on_no_output P Usage h = h
on_no_output P (Read file) h = h
on_no_output P (Refused line) h = h
on_no_output P (Done text) h = tt
on_no_output P (TooDeep text line) h = on_empty P text h

no_output_of_end : (P : Type 0) (text : List ℕ) (end : End) → OnNoText text end P → OnNoOutput (ended_answer text end) P
no_output_of_end P text Whole h = tt
no_output_of_end P text (AtCall line) h = h

text_of_end : (sink : Change) (text : List ℕ) (end : End) → TookPrefix sink text
    → TookPrefix sink (out_text (ended_answer text end))
text_of_end sink text Whole h = h
text_of_end sink text (AtCall line) h = h

nothing_written_of : (P : Type 0) (s : Status) → P → OnNothingWritten s P
nothing_written_of P status.Usage h = h
nothing_written_of P status.Read h = h
nothing_written_of P status.Refused h = h
nothing_written_of P status.Done h = tt
nothing_written_of P status.Memory h = tt
nothing_written_of P status.Write h = tt
nothing_written_of P status.TooDeep h = tt

something_written_of : (P : Type 0) (s : Status) → IsWritten s → OnNothingWritten s P
something_written_of P status.Usage h = absurd h
something_written_of P status.Read h = absurd h
something_written_of P status.Refused h = absurd h
something_written_of P status.Done h = tt
something_written_of P status.Memory h = tt
something_written_of P status.Write h = tt
something_written_of P status.TooDeep h = tt

writes_prefix : (text : List ℕ) (end : End) (out err : Change) (SameErr : Type 0) (result : Status)
    → WritesTo text end out err SameErr result → TookPrefix out text
writes_prefix text Whole out err SameErr result h = says_prefix status.Done text out result h.0
writes_prefix text (AtCall line) out err SameErr result (inl h) = stops_prefix text out result h.0
writes_prefix text (AtCall line) out err SameErr result (inr h) = took_prefix text out h.0

writes_err_prefix : (text : List ℕ) (end : End) (out err : Change) (SameErr : Type 0) (result : Status)
    → (SameErr → err.taken_after ≡ err.taken_before) → WritesTo text end out err SameErr result
    → TookPrefix err (err_text (ended_answer text end))
writes_err_prefix text Whole out err SameErr result keeps h = none_prefix err [] (keeps h.1)
writes_err_prefix text (AtCall line) out err SameErr result keeps (inl h) = none_prefix err (ended line) (keeps h.1)
writes_err_prefix text (AtCall line) out err SameErr result keeps (inr h) =
    says_prefix status.TooDeep (ended line) err result h.1

no_usage_end : (text : List ℕ) (end : End) → Usage ≡ ended_answer text end → ⊥
no_usage_end text Whole e = cc
no_usage_end text (AtCall line) e = cc

no_read_end : (file : Word) (text : List ℕ) (end : End) → Read file ≡ ended_answer text end → ⊥
no_read_end file text Whole e = cc
no_read_end file text (AtCall line) e = cc

no_refused_end : (line text : List ℕ) (end : End) → Refused line ≡ ended_answer text end → ⊥
no_refused_end line text Whole e = cc
no_refused_end line text (AtCall call) e = cc

done_of_end : (shown text : List ℕ) (end : End) (out err : Change) (SameErr : Type 0) (result : Status)
    → Done shown ≡ ended_answer text end → WritesTo text end out err SameErr result
    → IsDue status.Done (Failed out) result × SameErr
done_of_end shown text Whole out err SameErr result e h =
    (says_due status.Done status.Done (Failed out) text out result (λ f. f) refl h.0, h.1)
done_of_end shown text (AtCall line) out err SameErr result e h = cc

too_deep_of_call : (text line : List ℕ) (out err : Change) (SameErr : Type 0) (result : Status)
    → WritesTo text (AtCall line) out err SameErr result → IsDue status.TooDeep (Failed out ⊎ Failed err) result
too_deep_of_call text line out err SameErr result (inl h) = stops_due status.TooDeep (Failed out ⊎ Failed err) text
    out result (λ f. inl f) h.0
too_deep_of_call text line out err SameErr result (inr h) =
    says_due status.TooDeep status.TooDeep (Failed out ⊎ Failed err) (ended line) err result (λ f. inr f) refl h.1

too_deep_of_end : (shown line text : List ℕ) (end : End) (out err : Change) (SameErr : Type 0) (result : Status)
    → TooDeep shown line ≡ ended_answer text end → WritesTo text end out err SameErr result
    → IsDue status.TooDeep (Failed out ⊎ Failed err) result
too_deep_of_end shown line text Whole out err SameErr result e h = cc
too_deep_of_end shown line text (AtCall call) out err SameErr result e h = too_deep_of_call text call out err SameErr
    result h

not_done : status.TooDeep ≡ status.Done → ⊥
not_done e = cc

not_too_deep : status.Done ≡ status.TooDeep → ⊥
not_too_deep e = cc

written_of_end : (answer : Option Answer) (text : List ℕ) (end : End) (out err : Change) (SameErr : Type 0)
    (result : Status) → IfSome answer (λ a. a ≡ ended_answer text end) → WritesTo text end out err SameErr result
    → result ≡ status.Done → TextWritten answer out SameErr
written_of_end answer text Whole out err SameErr result is h e = (
  for_one answer (Done text) (λ a. (t : List ℕ) × (a ≡ Done t) × Took out t) is
      (text, refl, (said_whole status.Done status.Done text out result h.0 e (λ s. s)).1),
  h.1,
)
written_of_end answer text (AtCall line) out err SameErr result is (inl h) e =
    absurd (subst IsStopped e (stops_status text out result h.0))
written_of_end answer text (AtCall line) out err SameErr result is (inr h) e =
    let whole = said_whole status.TooDeep status.Done (ended line) err result h.1 e (λ s. s) in
    absurd (not_done whole.0)

too_deep_said_of_end : (answer : Option Answer) (text : List ℕ) (end : End) (out err : Change) (SameErr : Type 0)
    (result : Status) → IfSome answer (λ a. a ≡ ended_answer text end) → WritesTo text end out err SameErr result
    → result ≡ status.TooDeep → TooDeepSaid answer out err
too_deep_said_of_end answer text Whole out err SameErr result is h e =
    absurd (not_too_deep (said_whole status.Done status.TooDeep text out result h.0 e (λ s. s)).0)
too_deep_said_of_end answer text (AtCall line) out err SameErr result is (inl h) e =
    absurd (subst IsStopped e (stops_status text out result h.0))
too_deep_said_of_end answer text (AtCall line) out err SameErr result is (inr h) e =
    for_one answer (TooDeep text line) _ is
    (text, line, refl, h.0, (said_whole status.TooDeep status.TooDeep (ended line) err result h.1 e (λ s. s)).1)

-- at Write the sink to which the text was put failed
abbrev IsNotWrite : Status → Type 0
IsNotWrite status.Write = ⊥
IsNotWrite status.Memory = Unit {0}
IsNotWrite status.Usage = Unit {0}
IsNotWrite status.Read = Unit {0}
IsNotWrite status.Refused = Unit {0}
IsNotWrite status.Done = Unit {0}
IsNotWrite status.TooDeep = Unit {0}

stops_failed : (text : List ℕ) (sink : Change) (result : Status) → Stops text sink result → result ≡ status.Write
    → Failed sink
stops_failed text sink result (inl h) e = h.1
stops_failed text sink result (inr h) e = absurd (subst IsNotWrite (sym h.0 ∙ e) tt)

says_failed : (wanted : Status) (text : List ℕ) (sink : Change) (result : Status) → IsNotWrite wanted
    → Says wanted text sink result → result ≡ status.Write → Failed sink
says_failed wanted text sink result w (inl h) e = absurd (subst IsNotWrite (sym h.0 ∙ e) w)
says_failed wanted text sink result w (inr h) e = stops_failed text sink result h e

failed_of_end : (answer : Option Answer) (text : List ℕ) (end : End) (out err : Change) (SameOut SameErr : Type 0)
    (result : Status) → IfSome answer (λ a. a ≡ ended_answer text end) → WritesTo text end out err SameErr result
    → result ≡ status.Write → SinkFailed answer out err SameOut SameErr
failed_of_end answer text Whole out err SameOut SameErr result is h e =
    inl (says_failed status.Done text out result tt h.0 e, h.1)
failed_of_end answer text (AtCall line) out err SameOut SameErr result is (inl h) e =
    inl (stops_failed text out result h.0 e, h.1)
failed_of_end answer text (AtCall line) out err SameOut SameErr result is (inr h) e =
    inr (
      says_failed status.TooDeep (ended line) err result tt h.1 e,
      inr
          (text, h.0, for_one answer (TooDeep text line) _ is (line, refl)),
    )

-- what is due is said with the status Usage, Read or Refused
due_not_write : (run : Run) (wanted : Status) (text : List ℕ) → TextIsDue run wanted text → IsNotWrite wanted
due_not_write run wanted text (inl u) = subst IsNotWrite (sym u.0) tt
due_not_write run wanted text (inr (inl r)) = subst IsNotWrite (sym r.1) tt
due_not_write run wanted text (inr (inr f)) = subst IsNotWrite (sym f.1) tt

-- the text that is due with a status
abbrev UsageText : Option Answer → List ℕ → Status → Type 0
UsageText answer text status.Usage = (answer ≡ Some Usage) × (text ≡ usage_text)
UsageText answer text status.Read = Unit {0}
UsageText answer text status.Refused = Unit {0}
UsageText answer text status.Done = ⊥
UsageText answer text status.TooDeep = ⊥
UsageText answer text status.Write = ⊥
UsageText answer text status.Memory = ⊥

abbrev ReadText : Run → List ℕ → Status → Type 0
ReadText run text status.Read =
    (file : Word) × Contains run.names file
    × (Rose run.file_faults.0 run.file_faults.1 ⊎ (run.answer ≡ Some (Read file))) × (text ≡ ended (read_line file))
ReadText run text status.Usage = Unit {0}
ReadText run text status.Refused = Unit {0}
ReadText run text status.Done = ⊥
ReadText run text status.TooDeep = ⊥
ReadText run text status.Write = ⊥
ReadText run text status.Memory = ⊥

abbrev RefusedText : Option Answer → List ℕ → Status → Type 0
RefusedText answer text status.Refused = (line : List ℕ) × IfSome answer (λ a. a ≡ Refused line) × (text ≡ ended line)
RefusedText answer text status.Usage = Unit {0}
RefusedText answer text status.Read = Unit {0}
RefusedText answer text status.Done = ⊥
RefusedText answer text status.TooDeep = ⊥
RefusedText answer text status.Write = ⊥
RefusedText answer text status.Memory = ⊥

usage_text_due : (run : Run) (wanted : Status) (text : List ℕ) → TextIsDue run wanted text
    → UsageText run.answer text wanted
usage_text_due run wanted text (inl u) = subst (UsageText run.answer text) (sym u.0) (u.1, u.2)
usage_text_due run wanted text (inr (inl r)) = subst (UsageText run.answer text) (sym r.1) tt
usage_text_due run wanted text (inr (inr f)) = subst (UsageText run.answer text) (sym f.1) tt

read_text_due : (run : Run) (wanted : Status) (text : List ℕ) → TextIsDue run wanted text → ReadText run text wanted
read_text_due run wanted text (inl u) = subst (ReadText run text) (sym u.0) tt
read_text_due run wanted text (inr (inl r)) = subst (ReadText run text) (sym r.1) (r.0, r.2, r.3, r.4)
read_text_due run wanted text (inr (inr f)) = subst (ReadText run text) (sym f.1) tt

refused_text_due : (run : Run) (wanted : Status) (text : List ℕ) → TextIsDue run wanted text
    → RefusedText run.answer text wanted
refused_text_due run wanted text (inl u) = subst (RefusedText run.answer text) (sym u.0) tt
refused_text_due run wanted text (inr (inl r)) = subst (RefusedText run.answer text) (sym r.1) tt
refused_text_due run wanted text (inr (inr f)) = subst (RefusedText run.answer text) (sym f.1) (f.0, f.2, f.3)

took_named : (sink : Change) (text named : List ℕ) → Took sink text → text ≡ named → Took sink named
took_named sink text named took same = took ∙ ap (added sink.taken_before) same

done_not_usage : (text : List ℕ) → Done text ≡ Usage → ⊥
done_not_usage text e = cc

done_not_read : (text : List ℕ) (file : Word) → Done text ≡ Read file → ⊥
done_not_read text file e = cc

done_not_refused : (text line : List ℕ) → Done text ≡ Refused line → ⊥
done_not_refused text line e = cc

deep_not_usage : (text line : List ℕ) → TooDeep text line ≡ Usage → ⊥
deep_not_usage text line e = cc

deep_not_read : (text line : List ℕ) (file : Word) → TooDeep text line ≡ Read file → ⊥
deep_not_read text line file e = cc

deep_not_refused : (text line other : List ℕ) → TooDeep text line ≡ Refused other → ⊥
deep_not_refused text line other e = cc

none_contained : (file : Word) → Contains [] file → ⊥
none_contained file (i, within, is) = omega (arith, within)

module _ (run : Run) (SameOut SameErr : Type 0) where
  -- a status that only what is said has
  said_with : (shown : Status) → (IsWritten shown → ⊥) → Course run SameOut SameErr → run.result ≡ shown
      → (text : List ℕ) × TextIsDue run shown text × Took run.err text
  said_with shown never (inl said) e =
      let whole = said_whole said.wanted shown said.text run.err run.result said.says e
      (λ s. never (written_by_stop shown s)) in
      (said.text, subst (λ s. TextIsDue run s said.text) whole.0 said.due, whole.1)
  said_with shown never (inr (inl wrote)) e =
      absurd (never (subst IsWritten e (writes_status wrote.output.text wrote.output.end run.out run.err SameErr
      run.result wrote.writes)))
  said_with shown never (inr (inr stopped)) e = absurd (never (subst IsWritten (sym stopped.memory ∙ e) tt))

  pub usage_only : Course run SameOut SameErr → run.result ≡ status.Usage → UsageSaid run.answer run.err
  usage_only course e =
      let said = said_with status.Usage (λ w. w) course e in
      let due = usage_text_due run status.Usage said.0 said.1 in
      (due.0, took_named run.err said.0 usage_text said.2 due.1)

  pub read_only : Course run SameOut SameErr → run.result ≡ status.Read
      → ReadSaid run.answer run.names run.file_faults run.err
  read_only course e =
      let said = said_with status.Read (λ w. w) course e in
      let due = read_text_due run status.Read said.0 said.1 in
      (due.0, due.1, due.2, took_named run.err said.0 (ended (read_line due.0)) said.2 due.3)

  pub refused_only : Course run SameOut SameErr → run.result ≡ status.Refused → RefusalSaid run.answer run.err
  refused_only course e =
      let said = said_with status.Refused (λ w. w) course e in
      let due = refused_text_due run status.Refused said.0 said.1 in
      for_one run.answer (Refused due.0) _ due.1 (due.0, refl, took_named run.err said.0 (ended due.0) said.2 due.2)

  -- a status that only what is written has
  said_not : (P : Type 0) (shown : Status) → (IsStopped shown → ⊥) → ((text : List ℕ) → TextIsDue run shown text → ⊥)
      → Said run SameOut → run.result ≡ shown → P
  said_not P shown never none said e =
      let whole = said_whole said.wanted shown said.text run.err run.result said.says e never in
      absurd (none said.text (subst (λ s. TextIsDue run s said.text) whole.0 said.due))

  pub done_only : Course run SameOut SameErr → run.result ≡ status.Done → TextWritten run.answer run.out SameErr
  done_only (inl said) e = said_not _ status.Done (λ s. s) (λ text due. usage_text_due run status.Done text due) said e
  done_only (inr (inl wrote)) e =
      written_of_end run.answer wrote.output.text wrote.output.end run.out run.err SameErr run.result wrote.is_answer
      wrote.writes e
  done_only (inr (inr stopped)) e = absurd (subst IsStopped (sym stopped.memory ∙ e) tt)

  pub too_deep_only : Course run SameOut SameErr → run.result ≡ status.TooDeep → TooDeepSaid run.answer run.out run.err
  too_deep_only (inl said) e =
      said_not _ status.TooDeep (λ s. s) (λ text due. usage_text_due run status.TooDeep text due) said e
  too_deep_only (inr (inl wrote)) e =
      too_deep_said_of_end run.answer wrote.output.text wrote.output.end run.out run.err SameErr run.result
      wrote.is_answer wrote.writes e
  too_deep_only (inr (inr stopped)) e = absurd (subst IsStopped (sym stopped.memory ∙ e) tt)

  pub write_only : Course run SameOut SameErr → run.result ≡ status.Write
      → SinkFailed run.answer run.out run.err SameOut SameErr
  write_only (inl said) e =
      inr (
        says_failed said.wanted said.text run.err run.result (due_not_write run said.wanted said.text said.due)
            said.says e,
        inl said.same_out,
      )
  write_only (inr (inl wrote)) e =
      failed_of_end run.answer wrote.output.text wrote.output.end run.out run.err SameOut SameErr run.result
      wrote.is_answer wrote.writes e
  write_only (inr (inr stopped)) e = absurd (subst IsNotWrite (sym stopped.memory ∙ e) tt)

  -- where an answer is known, what is said is due by it, or the library failed
  abbrev IsDueBy : Answer → Status → List ℕ → Type 0
  IsDueBy a wanted text =
      (Rose run.file_faults.0 run.file_faults.1 × (wanted ≡ status.Read))
      ⊎ (((a ≡ Usage) × (wanted ≡ status.Usage))
      ⊎ (((file : Word) × (a ≡ Read file) × (wanted ≡ status.Read))
      ⊎ ((line : List ℕ) × (a ≡ Refused line) × (wanted ≡ status.Refused))))

  due_by : (a : Answer) → run.answer ≡ Some a → (wanted : Status) (text : List ℕ) → TextIsDue run wanted text
      → IsDueBy a wanted text
  due_by a known wanted text (inl u) = inr (inl (some_answer run.answer a Usage known u.1, u.0))
  due_by a known wanted text (inr (inl (file, is, named, inl rose, same))) = inl (rose, is)
  due_by a known wanted text (inr (inl (file, is, named, inr read, same))) =
      inr (inr (inl (file, some_answer run.answer a (Read file) known read, is)))
  due_by a known wanted text (inr (inr f)) = inr (inr (inr (f.0, one_answer run.answer a (Refused f.0) known f.2, f.1)))

  -- that memory ran out is always a way
  memory_due : (due : Status) (F : Type 0) → run.result ≡ status.Memory → IsDue due F run.result
  memory_due due F e = inr (inr e)

  err_due : (due : Status) (said : Said run SameOut) → said.wanted ≡ due → IsDue due (Failed run.err) run.result
  err_due due said is = says_due due said.wanted (Failed run.err) said.text run.err run.result (λ f. f) is said.says

  usage_of_said : (said : Said run SameOut) → (Rose run.file_faults.0 run.file_faults.1 → said.wanted ≡ status.Read
      → ⊥) → IsDueBy Usage said.wanted said.text → UsageDue run.err run.result
  usage_of_said said never (inl h) = absurd (never h.0 h.1)
  usage_of_said said never (inr (inl h)) = err_due status.Usage said h.1
  usage_of_said said never (inr (inr (inl h))) = let e : Usage ≡ Read h.0 = h.1 in cc
  usage_of_said said never (inr (inr (inr h))) = let e : Usage ≡ Refused h.0 = h.1 in cc

  -- a run whose words want no files says of none that it can't be read
  no_read : run.names ≡ [] → (wanted : Status) (text : List ℕ) → TextIsDue run wanted text → wanted ≡ status.Read → ⊥
  no_read none wanted text due is =
      let read = read_text_due run status.Read text (subst (λ s. TextIsDue run s text) is due) in
      none_contained read.0 (subst (λ names. Contains names read.0) none read.1)

  pub usage_due : run.names ≡ [] → Course run SameOut SameErr → run.answer ≡ Some Usage → UsageDue run.err run.result
  usage_due none (inl said) known =
      usage_of_said said (λ rose is. no_read none said.wanted said.text said.due is)
      (due_by Usage known said.wanted said.text said.due)
  usage_due none (inr (inl wrote)) known =
      absurd (no_usage_end wrote.output.text wrote.output.end (one_answer run.answer Usage _ known wrote.is_answer))
  usage_due none (inr (inr stopped)) known = memory_due status.Usage (Failed run.err) stopped.memory

  read_of_said : (file : Word) (said : Said run SameOut) → IsDueBy (Read file) said.wanted said.text
      → ReadDue run.err run.result
  read_of_said file said (inl h) = err_due status.Read said h.1
  read_of_said file said (inr (inl h)) = let e : Read file ≡ Usage = h.0 in cc
  read_of_said file said (inr (inr (inl h))) = err_due status.Read said h.2
  read_of_said file said (inr (inr (inr h))) = let e : Read file ≡ Refused h.0 = h.1 in cc

  pub read_due : (file : Word) → Course run SameOut SameErr → run.answer ≡ Some (Read file) → ReadDue run.err run.result
  read_due file (inl said) known = read_of_said file said (due_by (Read file) known said.wanted said.text said.due)
  read_due file (inr (inl wrote)) known =
      absurd (no_read_end file wrote.output.text wrote.output.end
      (one_answer run.answer (Read file) _ known wrote.is_answer))
  read_due file (inr (inr stopped)) known = memory_due status.Read (Failed run.err) stopped.memory

  refused_of_said : (line : List ℕ) (said : Said run SameOut) → IsDueBy (Refused line) said.wanted said.text
      → RefusedDue run.file_faults run.err run.result
  refused_of_said line said (inl h) = inr (h.0, err_due status.Read said h.1)
  refused_of_said line said (inr (inl h)) = let e : Refused line ≡ Usage = h.0 in cc
  refused_of_said line said (inr (inr (inl h))) = let e : Refused line ≡ Read h.0 = h.1 in cc
  refused_of_said line said (inr (inr (inr h))) = inl (err_due status.Refused said h.2)

  pub refused_due : (line : List ℕ) → Course run SameOut SameErr → run.answer ≡ Some (Refused line)
      → RefusedDue run.file_faults run.err run.result
  refused_due line (inl said) known =
      refused_of_said line said (due_by (Refused line) known said.wanted said.text said.due)
  refused_due line (inr (inl wrote)) known =
      absurd (no_refused_end line wrote.output.text wrote.output.end
      (one_answer run.answer (Refused line) _ known wrote.is_answer))
  refused_due line (inr (inr stopped)) known = inl (memory_due status.Refused (Failed run.err) stopped.memory)

  -- where there is a text for the output, a run says something only where the library failed
  said_instead : (a : Answer) → (a ≡ Usage → ⊥) → ((file : Word) → a ≡ Read file → ⊥)
      → ((line : List ℕ) → a ≡ Refused line → ⊥) → (said : Said run SameOut) → IsDueBy a said.wanted said.text
      → Rose run.file_faults.0 run.file_faults.1 × ReadDue run.err run.result
  said_instead a no_usage no_read no_refused said (inl h) = (h.0, err_due status.Read said h.1)
  said_instead a no_usage no_read no_refused said (inr (inl h)) = absurd (no_usage h.0)
  said_instead a no_usage no_read no_refused said (inr (inr (inl h))) = absurd (no_read h.0 h.1)
  said_instead a no_usage no_read no_refused said (inr (inr (inr h))) = absurd (no_refused h.0 h.1)

  done_said : (text : List ℕ) (said : Said run SameOut) → run.answer ≡ Some (Done text)
      → Rose run.file_faults.0 run.file_faults.1 × ReadDue run.err run.result
  done_said text said known =
      said_instead (Done text) (λ e. done_not_usage text e) (λ file e. done_not_read text file e)
      (λ line e. done_not_refused text line e) said (due_by (Done text) known said.wanted said.text said.due)

  pub done_due : (text : List ℕ) → Course run SameOut SameErr → run.answer ≡ Some (Done text)
      → DoneDue run.file_faults run.out run.err run.result
  done_due text (inl said) known = inr (done_said text said known)
  done_due text (inr (inl wrote)) known =
      inl (done_of_end text wrote.output.text wrote.output.end run.out run.err SameErr run.result
      (one_answer run.answer (Done text) _ known wrote.is_answer) wrote.writes).0
  done_due text (inr (inr stopped)) known = inl (memory_due status.Done (Failed run.out) stopped.memory)

  pub err_untouched : (text : List ℕ) → Course run SameOut SameErr → run.answer ≡ Some (Done text) → SameErr
      ⊎ Rose run.file_faults.0 run.file_faults.1
  err_untouched text (inl said) known = inr (done_said text said known).0
  err_untouched text (inr (inl wrote)) known =
      inl (done_of_end text wrote.output.text wrote.output.end run.out run.err SameErr run.result
      (one_answer run.answer (Done text) _ known wrote.is_answer) wrote.writes).1
  err_untouched text (inr (inr stopped)) known = inl stopped.same_err

  pub too_deep_due : (text line : List ℕ) → Course run SameOut SameErr → run.answer ≡ Some (TooDeep text line)
      → TooDeepDue run.file_faults run.out run.err run.result
  too_deep_due text line (inl said) known =
      inr (said_instead (TooDeep text line) (λ e. deep_not_usage text line e)
      (λ file e. deep_not_read text line file e) (λ other e. deep_not_refused text line other e) said
      (due_by (TooDeep text line) known said.wanted said.text said.due))
  too_deep_due text line (inr (inl wrote)) known =
      inl (too_deep_of_end text line wrote.output.text wrote.output.end run.out run.err SameErr run.result
      (one_answer run.answer (TooDeep text line) _ known wrote.is_answer) wrote.writes)
  too_deep_due text line (inr (inr stopped)) known =
      inl (memory_due status.TooDeep (Failed run.out ⊎ Failed run.err) stopped.memory)

  pub nothing_written : Course run SameOut SameErr → OnNothingWritten run.result SameOut
  nothing_written (inl said) = nothing_written_of SameOut run.result said.same_out
  nothing_written (inr (inl wrote)) =
      something_written_of SameOut run.result (writes_status wrote.output.text wrote.output.end run.out run.err
      SameErr run.result wrote.writes)
  nothing_written (inr (inr stopped)) = nothing_written_of SameOut run.result stopped.same_out

  -- where nothing is for the output, it is unchanged
  pub out_untouched : Course run SameOut SameErr → IfSome run.answer (λ a. OnNoOutput a SameOut)
  out_untouched (inl said) = for_any run.answer _ (λ a. on_no_output SameOut a said.same_out)
  out_untouched (inr (inl wrote)) =
      for_one run.answer (output_answer wrote.output) (λ a. OnNoOutput a SameOut) wrote.is_answer
      (no_output_of_end SameOut wrote.output.text wrote.output.end wrote.no_text)
  out_untouched (inr (inr stopped)) = for_any run.answer _ (λ a. on_no_output SameOut a stopped.same_out)

  module _ (out_keeps : SameOut → run.out.taken_after ≡ run.out.taken_before) (err_keeps : SameErr
      → run.err.taken_after ≡ run.err.taken_before) where
    -- the output took a prefix of the text for it
    pub out_part : Course run SameOut SameErr → OutPart run.answer run.out
    out_part (inl said) = for_any run.answer _ (λ a. none_prefix run.out (out_text a) (out_keeps said.same_out))
    out_part (inr (inl wrote)) =
        for_one run.answer (output_answer wrote.output) (λ a. TookPrefix run.out (out_text a)) wrote.is_answer
        (text_of_end run.out wrote.output.text wrote.output.end
        (writes_prefix wrote.output.text wrote.output.end run.out run.err SameErr run.result wrote.writes))
    out_part (inr (inr stopped)) =
        for_any run.answer _ (λ a. none_prefix run.out (out_text a) (out_keeps stopped.same_out))

    abbrev IsErrPart : Answer → Type 0
    IsErrPart a =
        TookPrefix run.err (err_text a)
        ⊎ ((file : Word) × Contains run.names file × Rose run.file_faults.0 run.file_faults.1
        × TookPrefix run.err (ended (read_line file)))

    prefix_named : (text named : List ℕ) → TookPrefix run.err text → text ≡ named → TookPrefix run.err named
    prefix_named text named part same = subst (TookPrefix run.err) same part

    due_part : (wanted : Status) (text : List ℕ) → TookPrefix run.err text → TextIsDue run wanted text
        → IfSome run.answer IsErrPart
    due_part wanted text part (inl usage) =
        for_known run.answer Usage IsErrPart usage.1 (inl (prefix_named text usage_text part usage.2))
    due_part wanted text part (inr (inl (file, is, named, inl rose, same))) =
        for_any run.answer IsErrPart
        (λ a. inr (file, named, rose, prefix_named text (ended (read_line file)) part same))
    due_part wanted text part (inr (inl (file, is, named, inr known, same))) =
        for_known run.answer (Read file) IsErrPart known (inl (prefix_named text (ended (read_line file)) part same))
    due_part wanted text part (inr (inr (line, is, known, same))) =
        for_one run.answer (Refused line) IsErrPart known (inl (prefix_named text (ended line) part same))

    -- standard error took a prefix of the text for it
    pub err_part : Course run SameOut SameErr → ErrPart run.answer run.names run.file_faults run.err
    err_part (inl said) =
        due_part said.wanted said.text (says_prefix said.wanted said.text run.err run.result said.says) said.due
    err_part (inr (inl wrote)) =
        for_one run.answer (output_answer wrote.output) IsErrPart wrote.is_answer
        (inl (writes_err_prefix wrote.output.text wrote.output.end run.out run.err SameErr run.result err_keeps
        wrote.writes))
    err_part (inr (inr stopped)) =
        for_any run.answer IsErrPart (λ a. inl (none_prefix run.err (err_text a) (err_keeps stopped.same_err)))

-- a run that comes to an ending says it
pub course-ending : (run : Run) (SameOut SameErr : Type 0) (e : Ending) → MayEnd run.answer run.names run.file_faults e
    → Concludes e run.err SameErr run.result → SameOut → Course run SameOut SameErr
course-ending run SameOut SameErr ending.Usage may said same =
    inl (record { wanted = status.Usage; text = usage_text; due = inl (refl, may, refl); says = said; same_out = same })
course-ending run SameOut SameErr (ending.Read text) may said same =
    inl (record {
      wanted = status.Read;
      text = string_bytes text;
      due = inr (inl (may.0, refl, may.1, may.2, may.3));
      says = said;
      same_out = same;
    })
course-ending run SameOut SameErr (ending.Refused text) may said same =
    inl (record {
      wanted = status.Refused;
      text = string_bytes text;
      due = inr (inr (may.0, refl, may.1, may.2));
      says = said;
      same_out = same;
    })
course-ending run SameOut SameErr ending.Memory may said same =
    inr (inr (record { memory = said.0; same_out = same; same_err = said.1 }))
