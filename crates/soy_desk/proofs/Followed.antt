-- A rendering on a desk, followed through the steps: each step leaves it, pulls it or closes it.
use Rattle.std.proofs.Common.{◌≡◌, ℕ, ◌+◌, ◌<◌, ◌≤◌, ◌⊎◌, inl, inr, Bool, true, false, List, [], ◌∷◌, ◌++◌}
use Rattle.std.proofs.Common.{Some, None, Result, Ok, Err, refl, sym, ap, ◌∙◌, subst, arith, ◌==◌}
use Rattle.std.specs.Prelude.{if◌then◌else◌}
use Rattle.std.proofs.lemmas.Bool.{cases_lt}
use Rattle.std.proofs.lemmas.Option.{same_Some}
use Rattle.soy_base.specs.declared.memory.Refusal.{Refusal}
use Rattle.soy_base.specs.declared.memory.Refusal.TheVariants as refusal
use Rattle.soy_tree.specs.declared.value.Value.{Value}
use Rattle.template_ir.specs.declared.program.ProgramParts.{ProgramParts}
use Rattle.render_core.specs.Rest.{Rest}
use Rattle.soy_desk.specs.Ascends.{Ascends}
use Rattle.soy_desk.specs.DeskRun.{CloseStep, DeskAnswer, DeskRun, OpenStep, PullCall, PullStep, PullsNamed, PullsRest}
use Rattle.soy_desk.specs.DeskRun.{RenderingAnswer, Step, StepsTo, Close, Open, Publish, Pull, answered}
use Rattle.soy_desk.specs.DeskState.{DeskState, Entry, entry_named, first_entry, pulled_entry, with_entry, without}
use Rattle.soy_desk.specs.Given.{pull_alone, pulls_by, pulls_of}
use Rattle.soy_desk.specs.ManyRenderings.{IsAlone, entry_of}
use Rattle.soy_desk.specs.Openings.{Opening, opening_of}
use Rattle.soy_desk.specs.declared.fault.DeskFault.TheVariants as fault
use Rattle.soy_desk.specs.declared.fault.Full.{Full}
use Rattle.soy_desk.specs.declared.fault.Unknown.{Unknown}
use Rattle.soy_desk.proofs.Entries.{above_none, differs, is_itself, is_same}
use Rattle.soy_desk.proofs.Entries.{named_below, named_kept, named_name, named_new, named_none, push_ascends}
use Rattle.soy_desk.proofs.Entries.{with_ascends, with_other, with_same, without_ascends, without_other, without_same}

-- the names ascend, and are below the number of openings
abbrev pub Sound : DeskState → Type 0
Sound s = Ascends 0 s.entries s.opened

-- ---- the names stay sound

moved : (P : DeskState → Type 0) (after other : DeskState) → after ≡ other → P other → P after
moved P after other is h = subst P (sym is) h

pulled_sound : (before : DeskState) (name : ℕ) (c : PullCall RenderingAnswer) (after : DeskState) → Sound before
    → PullsNamed before name c after → Sound after
pulled_sound before name c after sound h =
    moved Sound after
    (record before { entries = with_entry (pulled_entry h.entry h.rest h.done) before.entries }) h.after_is
    (with_ascends 0 before.entries before.opened (pulled_entry h.entry h.rest h.done) sound)

open_sound : (before : DeskState) (input : Value) (template : ℕ) (answer : Result ℕ (Refusal Full)) (after : DeskState)
    → Sound before → OpenStep before input template answer after → Sound after
open_sound before input template (Ok name) after sound h =
    let new = first_entry before.opened before.published input template in
    moved Sound after (record before { entries = before.entries ++ new ∷ []; opened = before.opened + 1 }) h.2
    (push_ascends 0 before.entries before.opened new refl sound)
open_sound before input template (Err (refusal.Because full)) after sound h = moved Sound after before h.1 sound
open_sound before input template (Err refusal.OutOfMemory) after sound h = moved Sound after before h.1 sound

pull_sound : (before : DeskState) (name : ℕ) (c : PullCall DeskAnswer) (answer : DeskAnswer) (after : DeskState)
    → Sound before → PullStep before name c answer after → Sound after
pull_sound before name c (Ok n) after sound h = pulled_sound before name (answered c (Ok n)) after sound h
pull_sound before name c (Err (refusal.Because (fault.TooDeep call))) after sound h =
    pulled_sound before name (answered c (Err (refusal.Because call))) after sound h
pull_sound before name c (Err (refusal.Because fault.Unknown)) after sound h =
    moved Sound after before h.unchanged sound
pull_sound before name c (Err refusal.OutOfMemory) after sound h =
    pulled_sound before name (answered c (Err refusal.OutOfMemory)) after sound h

close_sound : (before : DeskState) (name : ℕ) (answer : Result (Unit {0}) Unknown) (after : DeskState) → Sound before
    → CloseStep before name answer after → Sound after
close_sound before name (Ok done) after sound h =
    moved Sound after (record before { entries = without name before.entries }) h.2
    (without_ascends 0 before.entries before.opened name sound)
close_sound before name (Err unknown) after sound h = moved Sound after before h.1 sound

pub step_sound : (before : DeskState) (step : Step) (after : DeskState) → Sound before → StepsTo before step after
    → Sound after
step_sound before (Publish program) after sound h = moved Sound after (record before { published = program }) h sound
step_sound before (Open input template answer) after sound h = open_sound before input template answer after sound h
step_sound before (Pull name c) after sound h = pull_sound before name c c.answer after sound h
step_sound before (Close name answer) after sound h = close_sound before name answer after sound h

-- ---- a step, to a name that isn't open

-- no rendering of the name is open, nor will be
pub record IsPast (name : ℕ) (s : DeskState) : Type 0 where
  pub none : entry_named name s.entries ≡ None
  pub low : name < s.opened

alone_other : (name other : ℕ) (calls : List (PullCall RenderingAnswer)) → (other == name) ≡ false
    → (if other == name then calls else []) ≡ []
alone_other name other calls test = ap (λ (b : Bool). if b then calls else []) test

alone_same : (name other : ℕ) (calls : List (PullCall RenderingAnswer)) → (other == name) ≡ true
    → (if other == name then calls else []) ≡ calls
alone_same name other calls test = ap (λ (b : Bool). if b then calls else []) test

-- the pull of an open rendering, which can't be that of a name that isn't open
named_apart : (before : DeskState) (name other : ℕ) (c : PullCall RenderingAnswer) (after : DeskState)
    → entry_named name before.entries ≡ None → PullsNamed before other c after → (other == name) ≡ false
named_apart before name other c after none h =
    differs other name
    (λ same. let is : entry_named other before.entries ≡ None =
    subst (λ (n : ℕ). entry_named n before.entries ≡ None) (sym same) none in
    let bad : Some h.entry ≡ None = sym h.is_open ∙ is in cc)

none_either : (c : PullCall DeskAnswer) (b : Bool)
    → (if b then pull_alone c (Err (refusal.Because fault.Unknown)) else []) ≡ []
none_either c true = refl
none_either c false = refl

pull_gives_none : (before : DeskState) (name other : ℕ) (c : PullCall DeskAnswer) (answer : DeskAnswer)
    (after : DeskState) → entry_named name before.entries ≡ None → PullStep before other c answer after
    → (if other == name then pull_alone c answer else []) ≡ []
pull_gives_none before name other c (Ok n) after none h =
    alone_other name other (pull_alone c (Ok n)) (named_apart before name other (answered c (Ok n)) after none h)
pull_gives_none before name other c (Err (refusal.Because (fault.TooDeep call))) after none h =
    alone_other name other (pull_alone c (Err (refusal.Because (fault.TooDeep call))))
    (named_apart before name other (answered c (Err (refusal.Because call))) after none h)
pull_gives_none before name other c (Err (refusal.Because fault.Unknown)) after none h = none_either c (other == name)
pull_gives_none before name other c (Err refusal.OutOfMemory) after none h =
    alone_other name other (pull_alone c (Err refusal.OutOfMemory))
    (named_apart before name other (answered c (Err refusal.OutOfMemory)) after none h)

-- of a name that isn't open nothing is pulled
pub step_gives_none : (before : DeskState) (step : Step) (after : DeskState) (name : ℕ)
    → entry_named name before.entries ≡ None → StepsTo before step after → pulls_by name step ≡ []
step_gives_none before (Publish program) after name none h = refl
step_gives_none before (Open input template answer) after name none h = refl
step_gives_none before (Pull other c) after name none h =
    pull_gives_none before name other c c.answer after none h
step_gives_none before (Close other answer) after name none h = refl

pulled_none : (before : DeskState) (name other : ℕ) (c : PullCall RenderingAnswer) (after : DeskState)
    → entry_named name before.entries ≡ None → PullsNamed before other c after → entry_named name after.entries ≡ None
pulled_none before name other c after none h =
    let new : Entry = pulled_entry h.entry h.rest h.done in
    let apart : (new.name == name) ≡ false =
    ap (λ (n : ℕ). n == name) (named_name other before.entries h.entry h.is_open)
    ∙ named_apart before name other c after none h in
    ap (λ (s : DeskState). entry_named name s.entries) h.after_is
    ∙ (with_other name before.entries new apart ∙ none)

pull_none : (before : DeskState) (name other : ℕ) (c : PullCall DeskAnswer) (answer : DeskAnswer) (after : DeskState)
    → entry_named name before.entries ≡ None → PullStep before other c answer after
    → entry_named name after.entries ≡ None
pull_none before name other c (Ok n) after none h = pulled_none before name other (answered c (Ok n)) after none h
pull_none before name other c (Err (refusal.Because (fault.TooDeep call))) after none h =
    pulled_none before name other (answered c (Err (refusal.Because call))) after none h
pull_none before name other c (Err (refusal.Because fault.Unknown)) after none h =
    ap (λ (s : DeskState). entry_named name s.entries) h.unchanged ∙ none
pull_none before name other c (Err refusal.OutOfMemory) after none h =
    pulled_none before name other (answered c (Err refusal.OutOfMemory)) after none h

bool_case : (b : Bool) → (b ≡ true) ⊎ (b ≡ false)
bool_case true = inl refl
bool_case false = inr refl

close_none_case : (es : List Entry) (high name other : ℕ) → Ascends 0 es high → entry_named name es ≡ None
    → ((other == name) ≡ true) ⊎ ((other == name) ≡ false) → entry_named name (without other es) ≡ None
close_none_case es high name other sound none (inl test) =
    let same : other ≡ name = is_same other name test in
    subst (λ (n : ℕ). entry_named name (without n es) ≡ None) (sym same) (without_same 0 es high name sound)
close_none_case es high name other sound none (inr test) = without_other name es other test ∙ none

close_none : (before : DeskState) (name other : ℕ) (answer : Result (Unit {0}) Unknown) (after : DeskState)
    → Sound before → entry_named name before.entries ≡ None → CloseStep before other answer after
    → entry_named name after.entries ≡ None
close_none before name other (Ok done) after sound none h =
    ap (λ (s : DeskState). entry_named name s.entries) h.2
    ∙ close_none_case before.entries before.opened name other sound none (bool_case (other == name))
close_none before name other (Err unknown) after sound none h =
    ap (λ (s : DeskState). entry_named name s.entries) h.1 ∙ none

open_past : (before : DeskState) (name : ℕ) (input : Value) (template : ℕ) (answer : Result ℕ (Refusal Full))
    (after : DeskState) → IsPast name before → OpenStep before input template answer after → IsPast name after
open_past before name input template (Ok other) after past h =
    let new = first_entry before.opened before.published input template in
    moved (IsPast name) after (record before { entries = before.entries ++ new ∷ []; opened = before.opened + 1 }) h.2
    (record {
      none = named_none name before.entries new past.none
          (differs before.opened name (λ same. omega (arith, same, past.low)));
      low = omega (arith, past.low);
    })
open_past before name input template (Err (refusal.Because full)) after past h =
    moved (IsPast name) after before h.1 past
open_past before name input template (Err refusal.OutOfMemory) after past h = moved (IsPast name) after before h.1 past

pub pulled_opened : (before : DeskState) (other : ℕ) (c : PullCall DeskAnswer) (answer : DeskAnswer) (after : DeskState)
    → PullStep before other c answer after → after.opened ≡ before.opened
pulled_opened before other c (Ok n) after h = ap (λ (s : DeskState). s.opened) h.after_is
pulled_opened before other c (Err (refusal.Because (fault.TooDeep call))) after h =
    ap (λ (s : DeskState). s.opened) h.after_is
pulled_opened before other c (Err (refusal.Because fault.Unknown)) after h =
    ap (λ (s : DeskState). s.opened) h.unchanged
pulled_opened before other c (Err refusal.OutOfMemory) after h = ap (λ (s : DeskState). s.opened) h.after_is

pub closed_opened : (before : DeskState) (other : ℕ) (answer : Result (Unit {0}) Unknown) (after : DeskState)
    → CloseStep before other answer after → after.opened ≡ before.opened
closed_opened before other (Ok done) after h = ap (λ (s : DeskState). s.opened) h.2
closed_opened before other (Err unknown) after h = ap (λ (s : DeskState). s.opened) h.1

pub step_past : (before : DeskState) (step : Step) (after : DeskState) (name : ℕ) → Sound before → IsPast name before
    → StepsTo before step after → IsPast name after
step_past before (Publish program) after name sound past h =
    moved (IsPast name) after (record before { published = program }) h
    (record { none = past.none; low = past.low })
step_past before (Open input template answer) after name sound past h =
    open_past before name input template answer after past h
step_past before (Pull other c) after name sound past h = record {
  none = pull_none before name other c c.answer after past.none h;
  low = omega (arith, past.low, pulled_opened before other c c.answer after h);
}
step_past before (Close other answer) after name sound past h = record {
  none = close_none before name other answer after sound past.none h;
  low = omega (arith, past.low, closed_opened before other answer after h);
}

-- what is closed stays closed, and gives nothing
pub record GivesNone (name : ℕ) (steps : List Step) (after : DeskState) : Type 0 where
  pub pulls : pulls_of name steps ≡ []
  pub none : entry_named name after.entries ≡ None

pub past_gives : (steps : List Step) (before after : DeskState) (name : ℕ) → Sound before → IsPast name before
    → DeskRun before steps after → GivesNone name steps after
past_gives [] before after name sound past run = record {
  pulls = refl;
  none = ap (λ (s : DeskState). entry_named name s.entries) run ∙ past.none;
}
past_gives (step ∷ steps) before after name sound past run =
    let rest = past_gives steps run.0 after name (step_sound before step run.0 sound run.1)
    (step_past before step run.0 name sound past run.1) run.2 in
    record {
      pulls = (λ i. step_gives_none before step run.0 name past.none run.1 i ++ rest.pulls i);
      none = rest.none;
    }

-- ---- a step, to a name that is open

-- what a step does to the open rendering of a name
pub data DoesTo (name : ℕ) (e : Entry) (calls : List (PullCall RenderingAnswer)) (after : DeskState) : Type 0 where
  Leaves : calls ≡ [] → entry_named name after.entries ≡ Some e → DoesTo name e calls after
  PullsIt : (c : PullCall RenderingAnswer) (rest : Rest) (done : Bool) → calls ≡ c ∷ []
      → PullsRest e.rest e.done c rest done
      → entry_named name after.entries ≡ Some (pulled_entry e rest done) → DoesTo name e calls after
  ClosesIt : calls ≡ [] → IsPast name after → DoesTo name e calls after

-- a pull of this name
pulled_same : (before : DeskState) (name : ℕ) (c : PullCall RenderingAnswer) (after : DeskState) (e : Entry)
    (calls : List (PullCall RenderingAnswer)) → entry_named name before.entries ≡ Some e
    → PullsNamed before name c after → calls ≡ c ∷ [] → DoesTo name e calls after
pulled_same before name c after e calls is h calls_are =
    let same : h.entry ≡ e = same_Some h.entry e (sym h.is_open ∙ is) in
    let new : Entry = pulled_entry e h.rest h.done in
    let name_is : e.name ≡ name = named_name name before.entries e is in
    let put : entry_named new.name (with_entry new before.entries) ≡ Some new =
    with_same before.entries new e (ap (λ (n : ℕ). entry_named n before.entries) name_is ∙ is) in
    let stands : entry_named name (with_entry new before.entries) ≡ Some new =
    subst (λ (n : ℕ). entry_named n (with_entry new before.entries) ≡ Some new) name_is put in
    PullsIt c h.rest h.done calls_are
    (subst (λ (f : Entry). PullsRest f.rest f.done c h.rest h.done) same h.pulls)
    (ap (λ (s : DeskState). entry_named name s.entries) h.after_is
    ∙ (ap (λ (f : Entry). entry_named name
    (with_entry (pulled_entry f h.rest h.done) before.entries)) same
    ∙ stands))

-- a pull of another
pulled_other : (before : DeskState) (name other : ℕ) (c : PullCall RenderingAnswer) (after : DeskState) (e : Entry)
    → (other == name) ≡ false → entry_named name before.entries ≡ Some e → PullsNamed before other c after
    → entry_named name after.entries ≡ Some e
pulled_other before name other c after e test is h =
    let new : Entry = pulled_entry h.entry h.rest h.done in
    let apart : (new.name == name) ≡ false =
    ap (λ (n : ℕ). n == name) (named_name other before.entries h.entry h.is_open) ∙ test in
    ap (λ (s : DeskState). entry_named name s.entries) h.after_is
    ∙ (with_other name before.entries new apart ∙ is)

pulled_does : (before : DeskState) (name other : ℕ) (c : PullCall RenderingAnswer) (after : DeskState) (e : Entry)
    → entry_named name before.entries ≡ Some e → PullsNamed before other c after
    → ((other == name) ≡ true) ⊎ ((other == name) ≡ false)
    → DoesTo name e (if other == name then c ∷ [] else []) after
pulled_does before name other c after e is h (inl test) =
    let same : other ≡ name = is_same other name test in
    pulled_same before name c after e (if other == name then c ∷ [] else []) is
    (subst (λ (n : ℕ). PullsNamed before n c after) same h) (alone_same name other (c ∷ []) test)
pulled_does before name other c after e is h (inr test) =
    Leaves (alone_other name other (c ∷ []) test) (pulled_other before name other c after e test is h)

pull_does : (before : DeskState) (name other : ℕ) (c : PullCall DeskAnswer) (answer : DeskAnswer) (after : DeskState)
    (e : Entry) → entry_named name before.entries ≡ Some e → PullStep before other c answer after
    → DoesTo name e (if other == name then pull_alone c answer else []) after
pull_does before name other c (Ok n) after e is h =
    pulled_does before name other (answered c (Ok n)) after e is h (bool_case (other == name))
pull_does before name other c (Err (refusal.Because (fault.TooDeep call))) after e is h =
    pulled_does before name other (answered c (Err (refusal.Because call))) after e is h (bool_case (other == name))
pull_does before name other c (Err (refusal.Because fault.Unknown)) after e is h =
    Leaves (none_either c (other == name)) (ap (λ (s : DeskState). entry_named name s.entries) h.unchanged ∙ is)
pull_does before name other c (Err refusal.OutOfMemory) after e is h =
    pulled_does before name other (answered c (Err refusal.OutOfMemory)) after e is h (bool_case (other == name))

close_does_case : (before : DeskState) (name other : ℕ) (after : DeskState) (e : Entry) → Sound before
    → entry_named name before.entries ≡ Some e → after ≡ record before { entries = without other before.entries }
    → ((other == name) ≡ true) ⊎ ((other == name) ≡ false) → DoesTo name e [] after
close_does_case before name other after e sound is after_is (inl test) =
    let same : other ≡ name = is_same other name test in
    ClosesIt refl
    (moved (IsPast name) after (record before { entries = without other before.entries }) after_is
    (record {
      none = subst (λ (n : ℕ). entry_named name (without n before.entries) ≡ None) (sym same)
          (without_same 0 before.entries before.opened name sound);
      low = named_below name before.entries before.opened e is sound;
    }))
close_does_case before name other after e sound is after_is (inr test) =
    Leaves refl
    (ap (λ (s : DeskState). entry_named name s.entries) after_is ∙ (without_other name before.entries other test ∙ is))

close_does : (before : DeskState) (name other : ℕ) (answer : Result (Unit {0}) Unknown) (after : DeskState) (e : Entry)
    → Sound before → entry_named name before.entries ≡ Some e → CloseStep before other answer after
    → DoesTo name e [] after
close_does before name other (Ok done) after e sound is h =
    close_does_case before name other after e sound is h.2 (bool_case (other == name))
close_does before name other (Err unknown) after e sound is h =
    Leaves refl (ap (λ (s : DeskState). entry_named name s.entries) h.1 ∙ is)

open_does : (before : DeskState) (name : ℕ) (input : Value) (template : ℕ) (answer : Result ℕ (Refusal Full))
    (after : DeskState) (e : Entry) → entry_named name before.entries ≡ Some e
    → OpenStep before input template answer after → DoesTo name e [] after
open_does before name input template (Ok other) after e is h =
    Leaves refl
    (ap (λ (s : DeskState). entry_named name s.entries) h.2
    ∙ named_kept name before.entries (first_entry before.opened before.published input template ∷ []) e is)
open_does before name input template (Err (refusal.Because full)) after e is h =
    Leaves refl (ap (λ (s : DeskState). entry_named name s.entries) h.1 ∙ is)
open_does before name input template (Err refusal.OutOfMemory) after e is h =
    Leaves refl (ap (λ (s : DeskState). entry_named name s.entries) h.1 ∙ is)

pub step_does : (before : DeskState) (step : Step) (after : DeskState) (name : ℕ) (e : Entry) → Sound before
    → entry_named name before.entries ≡ Some e → StepsTo before step after → DoesTo name e (pulls_by name step) after
step_does before (Publish program) after name e sound is h =
    Leaves refl (ap (λ (s : DeskState). entry_named name s.entries) h ∙ is)
step_does before (Open input template answer) after name e sound is h =
    open_does before name input template answer after e is h
step_does before (Pull other c) after name e sound is h = pull_does before name other c c.answer after e is h
step_does before (Close other answer) after name e sound is h = close_does before name other answer after e sound is h

-- ---- through all steps

with_first : (e : Entry) (calls first more : List (PullCall RenderingAnswer)) (name : ℕ) (after : DeskState)
    → calls ≡ first ++ more → IsAlone e (first ++ more) name after → IsAlone e calls name after
with_first e calls first more name after is h =
    subst (λ (cs : List (PullCall RenderingAnswer)). IsAlone e cs name after) (sym is) h

ends_here : (e : Entry) (name : ℕ) (after : DeskState) → entry_named name after.entries ≡ None
    → IsAlone e [] name after
ends_here e name after none = record {
  rest = e.rest;
  done = e.done;
  alone = (refl, refl);
  open_still = λ f is. let bad : None ≡ Some f = sym none ∙ is in cc;
}

pulled_first : (e : Entry) (c : PullCall RenderingAnswer) (rest : Rest) (done : Bool)
    (more : List (PullCall RenderingAnswer)) (name : ℕ) (after : DeskState) → PullsRest e.rest e.done c rest done
    → IsAlone (pulled_entry e rest done) more name after → IsAlone e (c ∷ more) name after
pulled_first e c rest done more name after pulls h = record {
  rest = h.rest;
  done = h.done;
  alone = (rest, done, pulls, h.alone);
  open_still = h.open_still;
}

follow_case : (step : Step) (steps : List Step) (middle after : DeskState) (name : ℕ) (e : Entry)
    → ((f : Entry) → entry_named name middle.entries ≡ Some f → IsAlone f (pulls_of name steps) name after)
    → (IsPast name middle → GivesNone name steps after) → DoesTo name e (pulls_by name step) middle
    → IsAlone e (pulls_by name step ++ pulls_of name steps) name after
follow_case step steps middle after name e kept past (Leaves none is) =
    with_first e (pulls_by name step ++ pulls_of name steps) [] (pulls_of name steps) name after
    (ap (λ (cs : List (PullCall RenderingAnswer)). cs ++ pulls_of name steps) none) (kept e is)
follow_case step steps middle after name e kept past (PullsIt c rest done calls pulls is) =
    with_first e (pulls_by name step ++ pulls_of name steps) (c ∷ []) (pulls_of name steps) name after
    (ap (λ (cs : List (PullCall RenderingAnswer)). cs ++ pulls_of name steps) calls)
    (pulled_first e c rest done (pulls_of name steps) name after pulls
    (kept (pulled_entry e rest done) is))
follow_case step steps middle after name e kept past (ClosesIt none is) =
    let gives = past is in
    with_first e (pulls_by name step ++ pulls_of name steps) [] [] name after
    (λ i. none i ++ gives.pulls i) (ends_here e name after gives.none)

pub follow : (steps : List Step) (before after : DeskState) (name : ℕ) (e : Entry) → Sound before
    → entry_named name before.entries ≡ Some e → DeskRun before steps after → IsAlone e (pulls_of name steps) name after
follow [] before after name e sound is run = record {
  rest = e.rest;
  done = e.done;
  alone = (refl, refl);
  open_still = λ f stands.
      sym (same_Some e f (sym is ∙ (sym (ap (λ (s : DeskState). entry_named name s.entries) run) ∙ stands)));
}
follow (step ∷ steps) before after name e sound is run =
    let next = step_sound before step run.0 sound run.1 in
    follow_case step steps run.0 after name e
    (λ f stands. follow steps run.0 after name f next stands run.2)
    (λ past. past_gives steps run.0 after name next past run.2)
    (step_does before step run.0 name e sound is run.1)

-- ---- from before its opening

-- no opening has had the name
abbrev pub IsAhead : ℕ → DeskState → Type 0
IsAhead name s = s.opened ≤ name

ahead_none : (s : DeskState) (name : ℕ) → Sound s → IsAhead name s → entry_named name s.entries ≡ None
ahead_none s name sound ahead = above_none name 0 s.entries s.opened ahead sound

-- what is claimed of the steps after one
abbrev Claimed : List Step → DeskState → ℕ → DeskState → Type 0
Claimed steps after name middle = (o : Opening) → Sound middle → IsAhead name middle
    → opening_of name middle.published steps ≡ Some o → IsAlone (entry_of name o) (pulls_of name steps) name after

none_first : (e : Entry) (calls more : List (PullCall RenderingAnswer)) (name : ℕ) (after : DeskState) → calls ≡ []
    → IsAlone e more name after → IsAlone e (calls ++ more) name after
none_first e calls more name after none h =
    with_first e (calls ++ more) [] more name after
    (ap (λ (cs : List (PullCall RenderingAnswer)). cs ++ more) none) h

further_case : (now old name : ℕ) → now ≡ old + 1 → (old ≡ name → ⊥) → (old < name) ⊎ (name ≤ old) → old ≤ name
    → now ≤ name
further_case now old name is not (inl lt) le = omega (arith, is, lt)
further_case now old name is not (inr ge) le =
    let same : old ≡ name = omega (arith, ge, le) in absurd (not same)

further : (now old name : ℕ) → now ≡ old + 1 → old ≤ name → (old ≡ name → ⊥) → now ≤ name
further now old name is le not = further_case now old name is not (cases_lt old name) le

begin_case : (steps : List Step) (before middle after : DeskState) (name : ℕ) (input : Value) (template other : ℕ)
    (o : Opening) (b : Bool) → (other == name) ≡ b → Sound before → IsAhead name before
    → OpenStep before input template (Ok other) middle → DeskRun middle steps after → Claimed steps after name middle
    → (if b then Some (record { program = before.published; template = template; input = input })
    else opening_of name before.published steps) ≡ Some o
    → IsAlone (entry_of name o) (pulls_of name steps) name after
begin_case steps before middle after name input template other o true test sound ahead h run claimed is =
    let first : Opening = record { program = before.published; template = template; input = input } in
    let opening_is : first ≡ o = same_Some first o is in
    let named : before.opened ≡ name = sym h.1 ∙ is_same other name test in
    let new : Entry = first_entry before.opened before.published input template in
    let stands : entry_named name middle.entries ≡ Some new =
    ap (λ (s : DeskState). entry_named name s.entries) h.2
    ∙ named_new name before.entries new (ahead_none before name sound ahead) named in
    subst (λ (f : Opening). IsAlone (entry_of name f) (pulls_of name steps) name after) opening_is
    (subst (λ (n : ℕ). IsAlone (first_entry n before.published input template) (pulls_of name steps) name after) named
    (follow steps middle after name new (open_sound before input template (Ok other) middle sound h) stands run))
begin_case steps before middle after name input template other o false test sound ahead h run claimed is =
    let opened_is : middle.opened ≡ before.opened + 1 = ap (λ (s : DeskState). s.opened) h.2 in
    let bad : other ≡ name → ⊥ = λ same. let hit = is_itself other name same in cc in
    let apart : before.opened ≡ name → ⊥ = λ same. bad (h.1 ∙ same) in
    claimed o (open_sound before input template (Ok other) middle sound h)
    (further middle.opened before.opened name opened_is ahead apart)
    (ap (λ (s : DeskState). opening_of name s.published steps) h.2 ∙ is)

begin_open : (steps : List Step) (before middle after : DeskState) (name : ℕ) (input : Value) (template : ℕ)
    (answer : Result ℕ (Refusal Full)) (o : Opening) → Sound before → IsAhead name before
    → OpenStep before input template answer middle → DeskRun middle steps after → Claimed steps after name middle
    → opening_of name before.published (Open input template answer ∷ steps) ≡ Some o
    → IsAlone (entry_of name o) (pulls_of name steps) name after
begin_open steps before middle after name input template (Ok other) o sound ahead h run claimed is =
    begin_case steps before middle after name input template other o (other == name) refl sound ahead h run claimed is
begin_open steps before middle after name input template (Err (refusal.Because full)) o sound ahead h run claimed is =
    claimed o (moved Sound middle before h.1 sound) (moved (IsAhead name) middle before h.1 ahead)
    (ap (λ (s : DeskState). opening_of name s.published steps) h.1 ∙ is)
begin_open steps before middle after name input template (Err refusal.OutOfMemory) o sound ahead h run claimed is =
    claimed o (moved Sound middle before h.1 sound) (moved (IsAhead name) middle before h.1 ahead)
    (ap (λ (s : DeskState). opening_of name s.published steps) h.1 ∙ is)

pub pulled_published : (before : DeskState) (other : ℕ) (c : PullCall DeskAnswer) (answer : DeskAnswer)
    (after : DeskState) → PullStep before other c answer after → after.published ≡ before.published
pulled_published before other c (Ok n) after h = ap (λ (s : DeskState). s.published) h.after_is
pulled_published before other c (Err (refusal.Because (fault.TooDeep call))) after h =
    ap (λ (s : DeskState). s.published) h.after_is
pulled_published before other c (Err (refusal.Because fault.Unknown)) after h =
    ap (λ (s : DeskState). s.published) h.unchanged
pulled_published before other c (Err refusal.OutOfMemory) after h = ap (λ (s : DeskState). s.published) h.after_is

pub closed_published : (before : DeskState) (other : ℕ) (answer : Result (Unit {0}) Unknown) (after : DeskState)
    → CloseStep before other answer after → after.published ≡ before.published
closed_published before other (Ok done) after h = ap (λ (s : DeskState). s.published) h.2
closed_published before other (Err unknown) after h = ap (λ (s : DeskState). s.published) h.1

begin_step : (step : Step) (steps : List Step) (before middle after : DeskState) (name : ℕ) (o : Opening)
    → Sound before → IsAhead name before → StepsTo before step middle → DeskRun middle steps after
    → Claimed steps after name middle → opening_of name before.published (step ∷ steps) ≡ Some o
    → IsAlone (entry_of name o) (pulls_by name step ++ pulls_of name steps) name after
begin_step (Publish program) steps before middle after name o sound ahead h run claimed is =
    claimed o (moved Sound middle (record before { published = program }) h sound)
    (moved (IsAhead name) middle (record before { published = program }) h ahead)
    (ap (λ (s : DeskState). opening_of name s.published steps) h ∙ is)
begin_step (Open input template answer) steps before middle after name o sound ahead h run claimed is =
    begin_open steps before middle after name input template answer o sound ahead h run claimed is
begin_step (Pull other c) steps before middle after name o sound ahead h run claimed is =
    none_first (entry_of name o) (pulls_by name (Pull other c)) (pulls_of name steps) name after
    (step_gives_none before (Pull other c) middle name (ahead_none before name sound ahead) h)
    (claimed o (pull_sound before other c c.answer middle sound h)
    (let e : middle.opened ≡ before.opened = pulled_opened before other c c.answer middle h in omega (arith, e, ahead))
    (ap (λ (p : ProgramParts). opening_of name p steps) (pulled_published before other c c.answer middle h) ∙ is))
begin_step (Close other answer) steps before middle after name o sound ahead h run claimed is =
    claimed o (close_sound before other answer middle sound h)
    (let e : middle.opened ≡ before.opened = closed_opened before other answer middle h in omega (arith, e, ahead))
    (ap (λ (p : ProgramParts). opening_of name p steps) (closed_published before other answer middle h) ∙ is)

-- the pulls of a name that is opened among these steps are pulls of its rendering alone
pub begin : (steps : List Step) (before after : DeskState) (name : ℕ) (o : Opening) → Sound before
    → IsAhead name before → DeskRun before steps after → opening_of name before.published steps ≡ Some o
    → IsAlone (entry_of name o) (pulls_of name steps) name after
begin [] before after name o sound ahead run is = cc
begin (step ∷ steps) before after name o sound ahead run is =
    begin_step step steps before run.0 after name o sound ahead run.1 run.2
    (λ p next further opening. begin steps run.0 after name p next further run.2 opening) is
