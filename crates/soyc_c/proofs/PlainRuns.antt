-- What `run` says of a run over a library and sinks that never fail: unless memory ran out, it is the answer's reply.
use Rattle.std.proofs.Common.{◌≡◌, ℕ, List, [], Some, inl, inr, ◌⊎◌, refl, sym, ap, subst, ◌∙◌, arith}
use Rattle.std.specs.Prelude.{unwrap_or, option_map}
use Rattle.soy_io.specs.FileOf.{Files}
use Rattle.soy_io.specs.Rose.{Rose}
use Rattle.soy_top.specs.declared.status.Status.{Status}
use Rattle.soy_top.specs.declared.status.Status.TheVariants as status
use Rattle.soy_top.specs.Answer.{Answer, Usage, Read, Refused, Done, TooDeep, answer, err_text, out_text}
use Rattle.soy_top.specs.Line.{ended, read_line, usage_text}
use Rattle.soy_top.specs.Runs.Change.{Change, Took, Failed}
use Rattle.soy_top.specs.Runs.Due.{IsDue, IsDueAfterFetch, UsageDue, ReadDue, RefusedDue, DoneDue, TooDeepDue}
use Rattle.soy_top.specs.Runs.Ending.{UsageSaid, ReadSaid, RefusalSaid, TextWritten, TooDeepSaid, OnNothingWritten}
use Rattle.soy_top.specs.Words.{Word}
use Rattle.soyc_c.specs.Reply.{Reply, answer_reply, status_number}

-- the change of a plain sink
abbrev pub plain_change : List ℕ → List ℕ → Change
plain_change before after =
    record { taken_before = Some before; taken_after = Some after; faults_before = 0; faults_after = 0 }

-- the counts of a plain library
abbrev pub no_faults : ℕ × ℕ
no_faults = (0, 0)

-- what `run` says of a run with this answer, as far as it is needed here, where the sinks had taken `out` and `err`
-- before and have taken `out'` and `err'` after it
pub record PlainRun (a : Answer) (names : List Word) (out out' err err' : List ℕ) (result : Status) : Type 0 where
  pub usage_only : result ≡ status.Usage → UsageSaid (Some a) (plain_change err err')
  pub usage_due : Some a ≡ Some Usage → UsageDue (plain_change err err') result
  pub read_only : result ≡ status.Read → ReadSaid (Some a) names no_faults (plain_change err err')
  pub read_due : (file : Word) → Some a ≡ Some (Read file) → ReadDue (plain_change err err') result
  pub refused_only : result ≡ status.Refused → RefusalSaid (Some a) (plain_change err err')
  pub refused_due : (line : List ℕ) → Some a ≡ Some (Refused line)
      → RefusedDue no_faults (plain_change err err') result
  pub done_only : result ≡ status.Done → TextWritten (Some a) (plain_change out out') (err' ≡ err)
  pub done_due : (text : List ℕ) → Some a ≡ Some (Done text)
      → DoneDue no_faults (plain_change out out') (plain_change err err') result
  pub too_deep_only : result ≡ status.TooDeep → TooDeepSaid (Some a) (plain_change out out') (plain_change err err')
  pub too_deep_due : (text line : List ℕ) → Some a ≡ Some (TooDeep text line)
      → TooDeepDue no_faults (plain_change out out') (plain_change err err') result
  pub nothing_written : OnNothingWritten result (out' ≡ out)

-- nothing fails
never_rose : Rose 0 0 → ⊥
never_rose h = omega (arith, h)

-- a plain sink that took a text has taken it
taken_text : (text wanted : List ℕ) → Took (plain_change [] text) wanted → text ≡ wanted
taken_text text wanted took = ap (λ o. unwrap_or o []) took

-- the status that is due comes, unless memory ran out
due_comes : (due result : Status) (F : Type 0) → (F → ⊥) → (result ≡ status.Memory → ⊥) → IsDue due F result
    → result ≡ due
due_comes due result F never enough (inl is) = is
due_comes due result F never enough (inr (inl failed)) = absurd (never failed.1)
due_comes due result F never enough (inr (inr memory)) = absurd (enough memory)

fetched_comes : (due result : Status) (F : Type 0) (err : Change) → (F → ⊥) → (result ≡ status.Memory → ⊥)
    → IsDueAfterFetch due F no_faults err result → result ≡ due
fetched_comes due result F err never enough (inl h) = due_comes due result F never enough h
fetched_comes due result F err never enough (inr h) = absurd (never_rose h.0)

neither_fails : (out err : List ℕ) → Failed (plain_change [] out) ⊎ Failed (plain_change [] err) → ⊥
neither_fails out err (inl h) = never_rose h
neither_fails out err (inr h) = never_rose h

-- the reply of three parts
abbrev pub reply_with : ℕ → List ℕ → List ℕ → Reply
reply_with status out err = record { status = status; out = out; err = err }

same_reply : (s : ℕ) (t : ℕ) (out text err line : List ℕ) → s ≡ t → out ≡ text → err ≡ line
    → reply_with s out err ≡ reply_with t text line
same_reply s t out text err line status_is out_is err_is =
    ap (λ n. reply_with n out err) status_is
    ∙ (ap (λ o. reply_with t o err) out_is ∙ ap (reply_with t text) err_is)

-- the texts of one answer
same_err : (a b : Answer) → Some a ≡ Some b → err_text a ≡ err_text b
same_err a b is = ap (λ o. unwrap_or (option_map err_text o) []) is

-- what was said of a file is said of the one that can't be read
read_err : (file other : Word) (err : List ℕ) → Rose 0 0 ⊎ (Some (Read file) ≡ Some (Read other))
    → Took (plain_change [] err) (ended (read_line other)) → err ≡ ended (read_line file)
read_err file other err (inl rose) took = absurd (never_rose rose)
read_err file other err (inr is) took = taken_text err _ took ∙ sym (same_err (Read file) (Read other) is)

-- where a status is due, nothing was written, if it says so
none_written : (s wanted : Status) (P : Type 0) → s ≡ wanted → OnNothingWritten s P → OnNothingWritten wanted P
none_written s wanted P is h = subst (λ x. OnNothingWritten x P) is h

-- the reply of each answer, where the sinks had taken nothing
plain_reply : (a : Answer) (names : List Word) (out err : List ℕ) (result : Status)
    → PlainRun a names [] out [] err result → (result ≡ status.Memory → ⊥)
    → reply_with (status_number result) out err ≡ answer_reply a
plain_reply Usage names out err result h enough =
    let is : result ≡ status.Usage = due_comes _ _ _ never_rose enough (h.usage_due refl) in
    same_reply _ _ out [] err usage_text (ap status_number is) (none_written _ _ _ is h.nothing_written)
    (taken_text err usage_text (h.usage_only is).1)
plain_reply (Read file) names out err result h enough =
    let is : result ≡ status.Read = due_comes _ _ _ never_rose enough (h.read_due file refl) in
    let said = h.read_only is in
    same_reply _ _ out [] err (ended (read_line file)) (ap status_number is) (none_written _ _ _ is h.nothing_written)
    (read_err file said.0 err said.2 said.3)
plain_reply (Refused line) names out err result h enough =
    let due = h.refused_due line refl in
    let is : result ≡ status.Refused = fetched_comes _ _ _ (plain_change [] err) never_rose enough due in
    let said = h.refused_only is in
    same_reply _ _ out [] err (ended line) (ap status_number is) (none_written _ _ _ is h.nothing_written)
    (taken_text err _ said.2 ∙ sym (ap err_text said.1))
plain_reply (Done text) names out err result h enough =
    let due = h.done_due text refl in
    let is : result ≡ status.Done = fetched_comes _ _ _ (plain_change [] err) never_rose enough due in
    let said = h.done_only is in
    same_reply _ _ out text err [] (ap status_number is) (taken_text out _ said.0.2 ∙ sym (ap out_text said.0.1)) said.1
plain_reply (TooDeep text line) names out err result h enough =
    let is : result ≡ status.TooDeep =
    fetched_comes _ _ _ (plain_change [] err) (neither_fails out err) enough (h.too_deep_due text line refl)
    in
    let said = h.too_deep_only is in
    same_reply _ _ out text err (ended line) (ap status_number is) (taken_text out _ said.3 ∙ sym (ap out_text said.2))
    (taken_text err _ said.4 ∙ sym (ap err_text said.2))

-- **the reply of a run over these files**
pub run_reply : (held files : Files) (words names : List Word) (out out' err err' : List ℕ) (result : Status)
    → held ≡ files → out ≡ [] → err ≡ []
    → PlainRun (answer held words) names out out' err err' result → (result ≡ status.Memory → ⊥)
    → reply_with (status_number result) out' err' ≡ answer_reply (answer files words)
run_reply held files words names out out' err err' result same no_out no_err h enough =
    plain_reply (answer files words) names out' err' result
    (subst (λ e. PlainRun (answer files words) names [] out' e err' result) no_err
    (subst (λ o. PlainRun (answer files words) names o out' err err' result) no_out
    (subst (λ f. PlainRun (answer f words) names out out' err err' result) same h))) enough
