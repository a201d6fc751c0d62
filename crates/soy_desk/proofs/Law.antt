-- The law of many renderings, from what each step does.
use Rattle.std.proofs.Common.{◌≡◌, ℕ, ◌+◌, Bool, true, false, List, [], ◌∷◌, ◌++◌, Some, Result, Ok, Err}
use Rattle.std.proofs.Common.{refl, sym, ap, ◌∙◌, subst, arith, ◌==◌}
use Rattle.std.specs.Prelude.{encode_utf8_all, if◌then◌else◌}
use Rattle.std.proofs.lemmas.Option.{same_Some}
use Rattle.soy_base.specs.Piece.{Piece, Static, Value}
use Rattle.soy_base.specs.declared.memory.Refusal.{Refusal}
use Rattle.soy_base.specs.declared.memory.Refusal.TheVariants as refusal
use Rattle.soy_tree.specs.ViewValues.{view_value}
use Rattle.soy_tree.specs.declared.value.Value as code
use Rattle.soy_pieces.specs.Meaning.{joined_pieces}
use Rattle.soy_pieces.specs.Outcome.{GivesPiece, Outcome, RunEnds, Spent, pieces_of_outcome}
use Rattle.template_ir.specs.Run.{run}
use Rattle.template_ir.specs.ViewOps.{view_program}
use Rattle.template_ir.specs.declared.program.ProgramParts.{ProgramParts}
use Rattle.render_core.specs.Rest.{Rest, piece_text, rest_bytes, solid, solid_piece}
use Rattle.soy_desk.specs.Alone.{Alone, Left, NoneRefused, answers_of, left_of, rooms_of}
use Rattle.soy_desk.specs.DeskRun.{DeskAnswer, DeskRun, OpenStep, PullCall, PullStep, PullsNamed}
use Rattle.soy_desk.specs.DeskRun.{RenderingAnswer, Step, StepsTo, Close, Open, Publish, Pull, answered}
use Rattle.soy_desk.specs.DeskState.{DeskState, Entry, desk_with, entry_named, first_rest, pulled_entry, with_entry}
use Rattle.soy_desk.specs.Given.{given, pulls_of}
use Rattle.soy_desk.specs.ManyRenderings.{IsAlone, IsPrefix, entry_of, lefts}
use Rattle.soy_desk.specs.Openings.{Opening, opening_of, openings, published_after, run_bytes}
use Rattle.soy_desk.specs.declared.fault.Full.{Full}
use Rattle.soy_desk.proofs.Entries.{named_name}
use Rattle.soy_desk.proofs.Followed.{begin, closed_opened, closed_published, pulled_opened, pulled_published}
use Rattle.soy_desk.proofs.Lefts.{Settled, alone_bytes, pieces_spent, refused_leaves, same_answers}

-- ---- alone

pub desk_alone : (program : ProgramParts) (steps : List Step) (after : DeskState)
    → DeskRun (desk_with program) steps after → (name : ℕ) (o : Opening) → opening_of name program steps ≡ Some o
    → IsAlone (entry_of name o) (pulls_of name steps) name after
desk_alone program steps after run name o is =
    begin steps (desk_with program) after name o (omega arith) (omega arith) run is

first_settled : (o : Opening) → Settled (left_of (first_rest o.program o.input o.template)) false
first_settled o = λ is. cc

-- the same pulls alone are answered alike
pub desk_answers : (program : ProgramParts) (steps : List Step) (after : DeskState)
    → DeskRun (desk_with program) steps after → (name : ℕ) (o : Opening) → opening_of name program steps ≡ Some o
    → (calls : List (PullCall RenderingAnswer)) (rest : Rest) (done : Bool)
    → Alone (first_rest o.program o.input o.template) false calls rest done
    → rooms_of calls ≡ rooms_of (pulls_of name steps) → NoneRefused calls → NoneRefused (pulls_of name steps)
    → answers_of (pulls_of name steps) ≡ answers_of calls
desk_answers program steps after run name o is calls rest done alone rooms none others =
    let on_desk = desk_alone program steps after run name o is in
    let first = first_rest o.program o.input o.template in
    sym (same_answers calls (pulls_of name steps) first false rest done first false on_desk.rest on_desk.done
    (first_settled o) refl refl alone on_desk.alone rooms none others)

-- ---- the bytes

joined_piece : (p : Piece) (ps : List Piece) → joined_pieces (p ∷ ps) ≡ piece_text p ++ joined_pieces ps
joined_piece (Static text) ps = refl
joined_piece (Value text) ps = refl

piece_solid : (s : Spent) (p : Piece) (text : List ℕ) (o q : Outcome) → text ≡ piece_text p
    → joined_pieces (pieces_of_outcome q) ≡ joined_pieces (pieces_of_outcome o)
    → joined_pieces (pieces_of_outcome (solid_piece s p text q)) ≡ piece_text p ++ joined_pieces (pieces_of_outcome o)
piece_solid s p [] o q is same =
    ap joined_pieces (pieces_spent s q)
    ∙ (same ∙ ap (λ (t : List ℕ). t ++ joined_pieces (pieces_of_outcome o)) is)
piece_solid s p (c ∷ text) o q is same =
    joined_piece p (pieces_of_outcome q) ∙ ap (λ (t : List ℕ). piece_text p ++ t) same

-- pieces without bytes don't change the text
joined_solid : (o : Outcome) → joined_pieces (pieces_of_outcome (solid o)) ≡ joined_pieces (pieces_of_outcome o)
joined_solid (RunEnds s end) = refl
joined_solid (GivesPiece s p o) =
    piece_solid s p (piece_text p) o (solid o) refl (joined_solid o) ∙ sym (joined_piece p (pieces_of_outcome o))

first_bytes : (o : Opening) → rest_bytes (first_rest o.program o.input o.template) ≡ run_bytes o
first_bytes o = ap encode_utf8_all (joined_solid (run (view_program o.program) o.template (view_value o.input)))

-- what is given for a name is the beginning of what its program gives
pub desk_prefix : (program : ProgramParts) (steps : List Step) (after : DeskState)
    → DeskRun (desk_with program) steps after → (name : ℕ) (o : Opening) → opening_of name program steps ≡ Some o
    → IsPrefix (given name steps) (run_bytes o)
desk_prefix program steps after run name o is =
    let on_desk = desk_alone program steps after run name o is in (
      rest_bytes on_desk.rest,
      sym (first_bytes o)
          ∙ alone_bytes (pulls_of name steps) (first_rest o.program o.input o.template) false on_desk.rest on_desk.done
          (first_settled o) on_desk.alone,
    )

-- ---- a refused pull

same_lefts_case : (e : Entry) (es : List Entry) (old new : Entry) (b : Bool) → (e.name == new.name) ≡ b
    → new.name ≡ old.name → left_of new.rest ≡ left_of old.rest → new.done ≡ old.done
    → (entry_named new.name es ≡ Some old → lefts (with_entry new es) ≡ lefts es)
    → (if b then Some e else entry_named new.name es) ≡ Some old
    → lefts (if b then new ∷ es else e ∷ with_entry new es) ≡ lefts (e ∷ es)
same_lefts_case e es old new true test name left done rest is =
    let same : old ≡ e = sym (same_Some e old is) in
    let name_is : new.name ≡ e.name = name ∙ ap (λ (x : Entry). x.name) same in
    let left_is : left_of new.rest ≡ left_of e.rest = left ∙ ap (λ (x : Entry). left_of x.rest) same in
    let done_is : new.done ≡ e.done = done ∙ ap (λ (x : Entry). x.done) same in
    λ i. (name_is i, left_is i, done_is i) ∷ lefts es
same_lefts_case e es old new false test name left done rest is =
    ap (λ (ls : List (ℕ × Left × Bool)). (e.name, left_of e.rest, e.done) ∷ ls) (rest is)

same_lefts : (es : List Entry) (old new : Entry) → new.name ≡ old.name → left_of new.rest ≡ left_of old.rest
    → new.done ≡ old.done → entry_named new.name es ≡ Some old → lefts (with_entry new es) ≡ lefts es
same_lefts [] old new name left done is = refl
same_lefts (e ∷ es) old new name left done is =
    same_lefts_case e es old new (e.name == new.name) refl name left done (same_lefts es old new name left done) is

named_leaves : (before : DeskState) (name : ℕ) (c : PullCall RenderingAnswer) (after : DeskState)
    → c.answer ≡ Err refusal.OutOfMemory → PullsNamed before name c after
    → lefts after.entries ≡ lefts before.entries
named_leaves before name c after is h =
    let new : Entry = pulled_entry h.entry h.rest h.done in
    let same = refused_leaves h.entry.rest h.entry.done c h.rest h.done is h.pulls in
    let stands : entry_named new.name before.entries ≡ Some h.entry =
    ap (λ (n : ℕ). entry_named n before.entries) (named_name name before.entries h.entry h.is_open) ∙ h.is_open in
    ap (λ (s : DeskState). lefts s.entries) h.after_is
    ∙ same_lefts before.entries h.entry new refl same.0 same.1 stands

-- a pull that memory refused leaves what each rendering has still to give
pub desk_refused : (before after : DeskState) (name : ℕ) (c : PullCall DeskAnswer) → c.answer ≡ Err refusal.OutOfMemory
    → StepsTo before (Pull name c) after → lefts after.entries ≡ lefts before.entries
desk_refused before after name c is h =
    let pulled : PullStep before name c (Err refusal.OutOfMemory) after =
    subst (λ (a : DeskAnswer). PullStep before name c a after) is h in
    named_leaves before name (answered c (Err refusal.OutOfMemory)) after refl pulled

-- ---- the openings and the published program

open_counts : (before : DeskState) (input : code.Value) (template : ℕ) (answer : Result ℕ (Refusal Full))
    (middle after : DeskState) (steps : List Step) → OpenStep before input template answer middle
    → after.opened ≡ middle.opened + openings steps
    → after.opened ≡ before.opened + openings (Open input template answer ∷ steps)
open_counts before input template (Ok name) middle after steps h rest =
    let e : middle.opened ≡ before.opened + 1 = ap (λ (s : DeskState). s.opened) h.2 in omega (arith, e, rest)
open_counts before input template (Err (refusal.Because full)) middle after steps h rest =
    rest ∙ ap (λ (s : DeskState). s.opened + openings steps) h.1
open_counts before input template (Err refusal.OutOfMemory) middle after steps h rest =
    rest ∙ ap (λ (s : DeskState). s.opened + openings steps) h.1

step_counts : (step : Step) (before middle after : DeskState) (steps : List Step) → StepsTo before step middle
    → after.opened ≡ middle.opened + openings steps → after.opened ≡ before.opened + openings (step ∷ steps)
step_counts (Publish program) before middle after steps h rest =
    rest ∙ ap (λ (s : DeskState). s.opened + openings steps) h
step_counts (Open input template answer) before middle after steps h rest =
    open_counts before input template answer middle after steps h rest
step_counts (Pull name c) before middle after steps h rest =
    rest ∙ ap (λ (n : ℕ). n + openings steps) (pulled_opened before name c c.answer middle h)
step_counts (Close name answer) before middle after steps h rest =
    rest ∙ ap (λ (n : ℕ). n + openings steps) (closed_opened before name answer middle h)

counts_from : (steps : List Step) (before after : DeskState) → DeskRun before steps after
    → after.opened ≡ before.opened + openings steps
counts_from [] before after run = let e : after.opened ≡ before.opened = ap (λ (s : DeskState). s.opened) run in
    omega (arith, e)
counts_from (step ∷ steps) before after run =
    step_counts step before run.0 after steps run.1 (counts_from steps run.0 after run.2)

pub desk_opened : (program : ProgramParts) (steps : List Step) (after : DeskState)
    → DeskRun (desk_with program) steps after → after.opened ≡ openings steps
desk_opened program steps after run =
    let e : after.opened ≡ 0 + openings steps = counts_from steps (desk_with program) after run in omega (arith, e)

open_published : (before : DeskState) (input : code.Value) (template : ℕ) (answer : Result ℕ (Refusal Full))
    (middle : DeskState) → OpenStep before input template answer middle → middle.published ≡ before.published
open_published before input template (Ok name) middle h = ap (λ (s : DeskState). s.published) h.2
open_published before input template (Err (refusal.Because full)) middle h = ap (λ (s : DeskState). s.published) h.1
open_published before input template (Err refusal.OutOfMemory) middle h = ap (λ (s : DeskState). s.published) h.1

step_publishes : (step : Step) (before middle after : DeskState) (steps : List Step) → StepsTo before step middle
    → after.published ≡ published_after middle.published steps
    → after.published ≡ published_after before.published (step ∷ steps)
step_publishes (Publish program) before middle after steps h rest =
    rest ∙ ap (λ (s : DeskState). published_after s.published steps) h
step_publishes (Open input template answer) before middle after steps h rest =
    rest ∙ ap (λ (p : ProgramParts). published_after p steps) (open_published before input template answer middle h)
step_publishes (Pull name c) before middle after steps h rest =
    rest ∙ ap (λ (p : ProgramParts). published_after p steps) (pulled_published before name c c.answer middle h)
step_publishes (Close name answer) before middle after steps h rest =
    rest ∙ ap (λ (p : ProgramParts). published_after p steps) (closed_published before name answer middle h)

publishes_from : (steps : List Step) (before after : DeskState) → DeskRun before steps after
    → after.published ≡ published_after before.published steps
publishes_from [] before after run = ap (λ (s : DeskState). s.published) run
publishes_from (step ∷ steps) before after run =
    step_publishes step before run.0 after steps run.1 (publishes_from steps run.0 after run.2)

pub desk_published : (program : ProgramParts) (steps : List Step) (after : DeskState)
    → DeskRun (desk_with program) steps after → after.published ≡ published_after program steps
desk_published program steps after run = publishes_from steps (desk_with program) after run
