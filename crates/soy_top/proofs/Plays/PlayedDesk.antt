-- A desk shows the lines that are written for the steps of a script.
use Rattle.std.proofs.Common.{◌≡◌, ℕ, suc, ◌+◌, ◌≤◌, ◌<◌, Bool, true, false, List, [], ◌∷◌, ◌++◌, Option, Some, None}
use Rattle.std.proofs.Common.{Ok, Err, length, take, drop, refl, sym, ap, ◌∙◌, arith, subst, nat_lt, ◌==◌, codes}
use Rattle.std.specs.Prelude.{if◌then◌else◌, min, option_map, Result}
use Rattle.std.proofs.lemmas.Bool.{lt-ltb}
use Rattle.std.proofs.lemmas.Bool.Decides.{nat_tests}
use Rattle.std.proofs.lemmas.List.{drop_min, length-take-le, take-append-le, take_all, take_min}
use Rattle.soy_base.specs.Piece.{Piece}
use Rattle.soy_base.specs.declared.memory.Refusal.{Refusal}
use Rattle.soy_base.specs.declared.memory.Refusal.TheVariants as refusal
use Rattle.render_core.specs.Rest.{piece_bytes}
use Rattle.soy_desk.specs.Alone.{Left, left_of}
use Rattle.soy_desk.specs.DeskRun as desk_run
use Rattle.soy_desk.specs.DeskRun.{CloseStep, DeskAnswer, DeskRun, OpenStep, PullCall, PullStep, PullsNamed, PullsNone}
use Rattle.soy_desk.specs.DeskRun.{RenderingAnswer, Step, StepsTo, answered}
use Rattle.soy_desk.specs.DeskState.{DeskState, Entry, desk_with, entry_named, first_entry, first_rest, pulled_entry}
use Rattle.soy_desk.specs.DeskState.{with_entry, without}
use Rattle.soy_desk.specs.declared.fault.DeskFault.TheVariants as fault
use Rattle.soy_desk.specs.declared.fault.Full.{Full}
use Rattle.soy_desk.specs.declared.fault.Unknown.{Unknown}
use Rattle.soy_desk.proofs.Entries.{named_name}
use Rattle.soy_desk.proofs.Lefts.{Pulled, Settled, gives_of, left_with, pull_is, pulled, settles}
use Rattle.soy_pieces.specs.Outcome.{RunEnd, StopsAt, WholeRun}
use Rattle.soy_top.specs.Scripts.DeskLines.{CloseShows, OpenShows, OpensAs, PullShows, Shows, ShowsAll, program_of}
use Rattle.soy_top.specs.Line.{ended}
use Rattle.soy_top.specs.Scripts.Played.{Given, OpenPage, PlayState, PlayStep, Opens, Pulls, Closes, Publishes, Shown}
use Rattle.soy_top.specs.Scripts.Played.{full_line, given_of, named_line, next_given, opened_left}
use Rattle.soy_top.specs.Scripts.Played.{page_named, play_start, played_from, played_text, pull_left, show_close}
use Rattle.soy_top.specs.Scripts.Played.{show_given}
use Rattle.soy_top.specs.Scripts.Played.{show_open, show_pull, show_step, with_page, without_page}
use Rattle.soy_top.specs.Scripts.Script.{ScriptBundle, FirstBundle, SecondBundle}
use Rattle.soy_tree.specs.declared.value.Value.{Value}
use Rattle.template_ir.specs.declared.program.ProgramParts.{ProgramParts}

-- ---- open renderings

abbrev pub view_page : Entry → OpenPage
view_page e = record { name = e.name; left = left_of e.rest }

abbrev pub view_pages : List Entry → List OpenPage
view_pages [] = []
view_pages (e ∷ es) = view_page e ∷ view_pages es

abbrev pub AllSettled : List Entry → Type 0
AllSettled [] = Unit {0}
AllSettled (e ∷ es) = Settled (left_of e.rest) e.done × AllSettled es

named_by : (b : Bool) (e : Entry) (r : Option OpenPage) (s : Option Entry) → r ≡ option_map view_page s
    → (if b then Some (view_page e) else r) ≡ option_map view_page (if b then Some e else s)
named_by true e r s same = refl
named_by false e r s same = same

named_pages : (name : ℕ) (es : List Entry)
    → page_named name (view_pages es) ≡ option_map view_page (entry_named name es)
named_pages name [] = refl
named_pages name (e ∷ es) =
    named_by (e.name == name) e (page_named name (view_pages es)) (entry_named name es) (named_pages name es)

with_by : (b : Bool) (new e : Entry) (es : List Entry) → with_page (view_page new) (view_pages es)
    ≡ view_pages (with_entry new es)
    → (if b then view_page new ∷ view_pages es else view_page e ∷ with_page (view_page new) (view_pages es))
    ≡ view_pages (if b then new ∷ es else e ∷ with_entry new es)
with_by true new e es same = refl
with_by false new e es same = ap (λ (ps : List OpenPage). view_page e ∷ ps) same

with_pages : (new : Entry) (es : List Entry)
    → with_page (view_page new) (view_pages es) ≡ view_pages (with_entry new es)
with_pages new [] = refl
with_pages new (e ∷ es) = with_by (e.name == new.name) new e es (with_pages new es)

without_by : (b : Bool) (name : ℕ) (e : Entry) (es : List Entry)
    → without_page name (view_pages es) ≡ view_pages (without name es)
    → (if b then view_pages es else view_page e ∷ without_page name (view_pages es))
    ≡ view_pages (if b then es else e ∷ without name es)
without_by true name e es same = refl
without_by false name e es same = ap (λ (ps : List OpenPage). view_page e ∷ ps) same

without_pages : (name : ℕ) (es : List Entry) → without_page name (view_pages es) ≡ view_pages (without name es)
without_pages name [] = refl
without_pages name (e ∷ es) = without_by (e.name == name) name e es (without_pages name es)

more_pages : (es : List Entry) (e : Entry) → view_pages (es ++ e ∷ []) ≡ view_pages es ++ view_page e ∷ []
more_pages [] e = refl
more_pages (x ∷ es) e = ap (λ (ps : List OpenPage). view_page x ∷ ps) (more_pages es e)

count_pages : (es : List Entry) → length (view_pages es) ≡ length es
count_pages [] = refl
count_pages (e ∷ es) = ap (λ (n : ℕ). suc n) (count_pages es)

-- a page in its own place changes nothing
own_by : (b : Bool) (p x : OpenPage) (ps : List OpenPage)
    → (if b then Some x else page_named p.name ps) ≡ Some p
    → (page_named p.name ps ≡ Some p → with_page p ps ≡ ps)
    → (if b then p ∷ ps else x ∷ with_page p ps) ≡ x ∷ ps
own_by true p x ps is rest = let same : x ≡ p = cc in ap (λ (q : OpenPage). q ∷ ps) (sym same)
own_by false p x ps is rest = ap (λ (qs : List OpenPage). x ∷ qs) (rest is)

own_page : (p : OpenPage) (ps : List OpenPage) → page_named p.name ps ≡ Some p → with_page p ps ≡ ps
own_page p [] is = refl
own_page p (x ∷ ps) is = own_by (x.name == p.name) p x ps is (own_page p ps)

settled_by : (b : Bool) (x e : Entry) (r : Option Entry) → Settled (left_of x.rest) x.done
    → (r ≡ Some e → Settled (left_of e.rest) e.done) → (if b then Some x else r) ≡ Some e
    → Settled (left_of e.rest) e.done
settled_by true x e r here rest is =
    let same : x ≡ e = cc in subst (λ (y : Entry). Settled (left_of y.rest) y.done) same here
settled_by false x e r here rest is = rest is

settled_named : (name : ℕ) (es : List Entry) (e : Entry) → AllSettled es → entry_named name es ≡ Some e
    → Settled (left_of e.rest) e.done
settled_named name [] e all is = cc
settled_named name (x ∷ es) e all is =
    settled_by (x.name == name) x e (entry_named name es) all.0 (settled_named name es e all.1) is

with_settled_by : (b : Bool) (new e : Entry) (es : List Entry) → Settled (left_of new.rest) new.done
    → AllSettled (e ∷ es) → AllSettled (with_entry new es)
    → AllSettled (if b then new ∷ es else e ∷ with_entry new es)
with_settled_by true new e es here all rest = (here, all.1)
with_settled_by false new e es here all rest = (all.0, rest)

with_settled : (new : Entry) (es : List Entry) → Settled (left_of new.rest) new.done → AllSettled es
    → AllSettled (with_entry new es)
with_settled new [] here all = tt
with_settled new (e ∷ es) here all =
    with_settled_by (e.name == new.name) new e es here all (with_settled new es here all.1)

without_settled_by : (b : Bool) (name : ℕ) (e : Entry) (es : List Entry) → AllSettled (e ∷ es)
    → AllSettled (without name es) → AllSettled (if b then es else e ∷ without name es)
without_settled_by true name e es all rest = all.1
without_settled_by false name e es all rest = (all.0, rest)

without_settled : (name : ℕ) (es : List Entry) → AllSettled es → AllSettled (without name es)
without_settled name [] all = tt
without_settled name (e ∷ es) all =
    without_settled_by (e.name == name) name e es all (without_settled name es all.1)

more_settled : (es : List Entry) (e : Entry) → AllSettled es → Settled (left_of e.rest) e.done
    → AllSettled (es ++ e ∷ [])
more_settled [] e all here = (here, tt)
more_settled (x ∷ es) e all here = (all.0, more_settled es e all.1 here)

-- ---- a pull

-- the answer of a rendering, what then lies in the room and what is left agree with what is given
abbrev Agrees : RenderingAnswer → List ℕ → Left → Left → Option Given → Type 0
Agrees (Ok n) room new old given = given ≡ Some (take n room, new)
Agrees (Err (refusal.Because call)) room new old given = (given ≡ None) × (new ≡ old)
Agrees (Err refusal.OutOfMemory) room new old given = Unit {0}

given_first : (n : ℕ) (bytes room : List ℕ) → n ≤ length bytes → take n (take n bytes ++ drop n room) ≡ take n bytes
given_first n bytes room within =
    let whole : length (take n bytes) ≡ n = length-take-le n bytes within in
    let short : n ≤ length (take n bytes) = omega (arith, whole) in
    take-append-le n (take n bytes) (drop n room) short
    ∙ take_all n (take n bytes) (let h : length (take n bytes) ≤ n = omega (arith, whole) in h)

min_within : (a b : ℕ) → min a b ≤ b
min_within a b = omega arith

given_agrees : (bytes : List ℕ) (pieces : List Piece) (end : RunEnd) (done : Bool) (room : List ℕ) (old : Left)
    → Agrees (gives_of bytes pieces end done room).0 (gives_of bytes pieces end done room).1
    (gives_of bytes pieces end done room).2 old (Some (given_of (length room) bytes pieces end))
given_agrees bytes pieces end done room old =
    let n : ℕ = min (length room) (length bytes) in
    let first : take (length room) bytes ≡ take n (take n bytes ++ drop n room) =
    sym (take_min (length room) bytes)
    ∙ sym (given_first n bytes room (min_within (length room) (length bytes))) in
    let rest : drop (length room) bytes ≡ drop n bytes = sym (drop_min (length room) bytes) in
    λ i. Some (first i, left_with (rest i) pieces end)

done_agrees : (n : ℕ) (pieces : List Piece) (end : RunEnd) → pieces ≡ [] → end ≡ WholeRun
    → next_given (suc n) pieces end ≡ Some ([], left_with [] pieces end)
done_agrees n pieces end none whole =
    (λ i. next_given (suc n) (none i) (whole i)) ∙ sym (λ i. Some ([], left_with [] (none i) (whole i)))

next_agrees : (done : Bool) (pieces : List Piece) (end : RunEnd) (r : ℕ) (room : List ℕ)
    → Settled (left_with [] pieces end) done
    → Agrees (pulled (left_with [] pieces end) done (r ∷ room)).0 (pulled (left_with [] pieces end) done (r ∷ room)).1
    (pulled (left_with [] pieces end) done (r ∷ room)).2 (left_with [] pieces end)
    (next_given (length (r ∷ room)) pieces end)
next_agrees true pieces end r room settled =
    done_agrees (length room) pieces end (settled refl).1 (settled refl).2
next_agrees false [] WholeRun r room settled = refl
next_agrees false [] (StopsAt call) r room settled = (refl, refl)
next_agrees false (piece ∷ pieces) end r room settled =
    given_agrees (piece_bytes piece) pieces end false (r ∷ room) (left_with [] (piece ∷ pieces) end)

left_agrees : (begun : List ℕ) (pieces : List Piece) (end : RunEnd) (done : Bool) (room : List ℕ)
    → Settled (left_with begun pieces end) done
    → Agrees (pulled (left_with begun pieces end) done room).0 (pulled (left_with begun pieces end) done room).1
    (pulled (left_with begun pieces end) done room).2 (left_with begun pieces end)
    (pull_left (length room) (left_with begun pieces end))
left_agrees (b ∷ begun) pieces end done [] settled =
    given_agrees (b ∷ begun) pieces end done [] (left_with (b ∷ begun) pieces end)
left_agrees (b ∷ begun) pieces end done (r ∷ room) settled =
    given_agrees (b ∷ begun) pieces end done (r ∷ room) (left_with (b ∷ begun) pieces end)
left_agrees [] pieces end done [] settled = refl
left_agrees [] pieces end done (r ∷ room) settled = next_agrees done pieces end r room settled

-- ---- states

module _ (first second : ProgramParts) where
  -- a desk in the state of a play
  pub record Stands (desk : DeskState) (state : PlayState) : Type 0 where
    pub pages : state.pages ≡ view_pages desk.entries
    pub opened : state.opened ≡ desk.opened
    pub published : desk.published ≡ program_of first second state.published
    pub settled : AllSettled desk.entries

  -- the line and the state are those of a step
  abbrev Alike : DeskState → List ℕ → Shown → Type 0
  Alike after line shown = (line ≡ shown.0) × Stands after shown.1

  pub start_stands : Stands (desk_with first) play_start
  start_stands = record { pages = refl; opened = refl; published = refl; settled = tt }

  module _ (before after : DeskState) (state : PlayState) (stands : Stands before state) where
    -- the page under a name
    there : (name : ℕ) (o : Option Entry) → entry_named name before.entries ≡ o
        → page_named name state.pages ≡ option_map view_page o
    there name o is =
        ap (page_named name) stands.pages ∙ (named_pages name before.entries ∙ ap (option_map view_page) is)

    -- ---- open

    published_left : (bundle : ScriptBundle) (one other : Left) (input : Value) (template : ℕ)
        → before.published ≡ program_of first second bundle → OpensAs first second one other input template
        → opened_left bundle one other ≡ left_of (first_rest before.published input template)
    published_left FirstBundle one other input template is opens =
        opens.0 ∙ ap (λ (p : ProgramParts). left_of (first_rest p input template)) (sym is)
    published_left SecondBundle one other input template is opens =
        opens.1 ∙ ap (λ (p : ProgramParts). left_of (first_rest p input template)) (sym is)

    open_alike : (one other : Left) (input : Value) (template : ℕ) (answer : Result ℕ (Refusal Full)) (line : List ℕ)
        → OpensAs first second one other input template → OpenShows answer line
        → OpenStep before input template answer after
        → Alike after line (show_open state (opened_left state.published one other))
    open_alike one other input template (Ok name) line opens shows step =
        let left : Left = opened_left state.published one other in
        let same_count : length state.pages ≡ length before.entries =
        ap length stands.pages ∙ count_pages before.entries in
        let few : length state.pages < 64 = subst (λ (n : ℕ). n < 64) (sym same_count) step.0 in
        let has_room : nat_lt (length state.pages) 64 ≡ true = lt-ltb _ _ few in
        let page : OpenPage = record { name = state.opened; left = left } in
        let entry : Entry = first_entry before.opened before.published input template in
        let same_page : page ≡ view_page entry = λ i. record {
          name = stands.opened i;
          left = published_left state.published one other input template stands.published opens i;
        } in
        let pages : state.pages ++ page ∷ [] ≡ view_pages (before.entries ++ entry ∷ []) =
        (λ i. stands.pages i ++ same_page i ∷ []) ∙ sym (more_pages before.entries entry) in
        subst (λ (b : Bool). Alike after line (if b
        then (
          named_line (codes "opened") state.opened,
          record state {
            pages = state.pages ++ page ∷ [];
            opened = state.opened + 1;
          },
        )
        else (full_line, state))) (sym has_room) (
          shows ∙ ap (named_line (codes "opened")) (step.1 ∙ sym stands.opened),
          subst (λ (d : DeskState). Stands d (record state {
            pages = state.pages ++ page ∷ [];
            opened = state.opened + 1;
          })) (sym step.2) (record {
            pages = pages;
            opened = ap (λ (n : ℕ). n + 1) stands.opened;
            published = stands.published;
            settled = more_settled before.entries entry stands.settled (λ is. cc);
          }),
        )
    open_alike one other input template (Err (refusal.Because full)) line opens shows step =
        let same_count : length state.pages ≡ length before.entries =
        ap length stands.pages ∙ count_pages before.entries in
        let many : length state.pages ≡ 64 = same_count ∙ step.0 in
        let no_room : nat_lt (length state.pages) 64 ≡ false = grind (arith, nat_tests, many) in
        subst (λ (b : Bool). Alike after line (if b
        then (
          named_line (codes "opened") state.opened,
          record state {
            pages = state.pages ++ record { name = state.opened; left = opened_left state.published one other } ∷ [];
            opened = state.opened + 1;
          },
        )
        else (full_line, state))) (sym no_room)
        (shows, subst (λ (d : DeskState). Stands d state) (sym step.1) stands)
    open_alike one other input template (Err refusal.OutOfMemory) line opens shows step = absurd shows

    -- ---- pull

    module _ (name : ℕ) (c : PullCall RenderingAnswer) (named : PullsNamed before name c after) where
      entry_settled : Settled (left_of named.entry.rest) named.entry.done
      entry_settled = settled_named name before.entries named.entry stands.settled named.is_open

      rest_settled : Settled (left_of named.rest) named.done
      rest_settled = settles named.entry.rest named.entry.done c named.rest named.done entry_settled named.pulls

      there_is : page_named name state.pages ≡ Some (view_page named.entry)
      there_is = there name (Some named.entry) named.is_open

      after_settled : AllSettled (with_entry (pulled_entry named.entry named.rest named.done) before.entries)
      after_settled =
          with_settled (pulled_entry named.entry named.rest named.done) before.entries rest_settled stands.settled

    pull_agrees : (name : ℕ) (c : PullCall RenderingAnswer) (named : PullsNamed before name c after)
        → (answer : RenderingAnswer) → c.answer ≡ answer
        → (◌≡◌ {A = Pulled} (c.answer, c.room_after, left_of named.rest, named.done)
        (pulled (left_of named.entry.rest) named.entry.done c.room))
        → Agrees c.answer c.room_after (left_of named.rest) (left_of named.entry.rest)
        (pull_left (length c.room) (left_of named.entry.rest))
    pull_agrees name c named answer is same =
        subst (λ (p : Pulled). Agrees p.0 p.1 p.2 (left_of named.entry.rest)
        (pull_left (length c.room) (left_of named.entry.rest))) (sym same)
        (left_agrees (left_of named.entry.rest).begun (left_of named.entry.rest).pieces
        (left_of named.entry.rest).end named.entry.done c.room (entry_settled name c named))

    -- what is shown for the page of a name
    shown_named : (name count : ℕ) (page : OpenPage) (given : Option Given)
        → page_named name state.pages ≡ Some page → pull_left count page.left ≡ given
        → show_pull state name count (page_named name state.pages) ≡ show_given state name page given
    shown_named name count page given is gives =
        ap (show_pull state name count) is ∙ ap (show_given state name page) gives

    pull_alike : (name count : ℕ) (c : PullCall DeskAnswer) (answer : DeskAnswer) (line : List ℕ)
        → length c.room ≡ count → PullShows name c.room_after answer line → PullStep before name c answer after
        → Alike after line (show_pull state name count (page_named name state.pages))
    pull_alike name count c (Ok n) line room shows named =
        let call : PullCall RenderingAnswer = answered c (Ok n) in
        let page : OpenPage = view_page named.entry in
        let agrees : pull_left (length c.room) page.left ≡ Some (take n c.room_after, left_of named.rest) =
        pull_agrees name call named (Ok n) refl
        (pull_is named.entry.rest named.entry.done call named.rest named.done (entry_settled name call named) tt
        named.pulls) in
        let gives : pull_left count page.left ≡ Some (take n c.room_after, left_of named.rest) =
        ap (λ (m : ℕ). pull_left m page.left) (sym room) ∙ agrees in
        let new : Entry = pulled_entry named.entry named.rest named.done in
        subst (λ (s : Shown). Alike after line s)
        (sym (shown_named name count page (Some (take n c.room_after, left_of named.rest))
        (there_is name call named) gives)) (
          shows,
          subst (λ (d : DeskState). Stands d (record state {
            pages = with_page (view_page new) state.pages;
          })) (sym named.after_is) (record {
            pages = ap (with_page (view_page new)) stands.pages ∙ with_pages new before.entries;
            opened = stands.opened;
            published = stands.published;
            settled = after_settled name call named;
          }),
        )
    pull_alike name count c (Err (refusal.Because (fault.TooDeep stop))) line room shows named =
        let call : PullCall RenderingAnswer = answered c (Err (refusal.Because stop)) in
        let page : OpenPage = view_page named.entry in
        let agrees : (pull_left (length c.room) page.left ≡ None) × (left_of named.rest ≡ left_of named.entry.rest) =
        pull_agrees name call named (Err (refusal.Because stop)) refl
        (pull_is named.entry.rest named.entry.done call named.rest named.done (entry_settled name call named) tt
        named.pulls) in
        let gives : pull_left count page.left ≡ None =
        ap (λ (m : ℕ). pull_left m page.left) (sym room) ∙ agrees.0 in
        let new : Entry = pulled_entry named.entry named.rest named.done in
        let same_page : view_page new ≡ page = λ i. record { name = named.entry.name; left = agrees.1 i } in
        let own_name : page_named page.name state.pages ≡ Some page =
        ap (λ (m : ℕ). page_named m state.pages) (named_name name before.entries named.entry named.is_open)
        ∙ there_is name call named in
        let pages : state.pages ≡ view_pages (with_entry new before.entries) =
        sym (own_page page state.pages own_name)
        ∙ (ap (λ (p : OpenPage). with_page p state.pages) (sym same_page)
        ∙ (ap (with_page (view_page new)) stands.pages ∙ with_pages new before.entries)) in
        subst (λ (s : Shown). Alike after line s)
        (sym (shown_named name count page None (there_is name call named) gives)) (
          shows,
          subst (λ (d : DeskState). Stands d state) (sym named.after_is) (record {
            pages = pages;
            opened = stands.opened;
            published = stands.published;
            settled = after_settled name call named;
          }),
        )
    pull_alike name count c (Err (refusal.Because fault.Unknown)) line room shows none =
        subst (λ (s : Shown). Alike after line s)
        (sym (ap (show_pull state name count) (there name None none.isnt_open)))
        (shows, subst (λ (d : DeskState). Stands d state) (sym none.unchanged) stands)
    pull_alike name count c (Err refusal.OutOfMemory) line room shows named = absurd shows

    -- ---- close

    close_alike : (name : ℕ) (answer : Result (Unit {0}) Unknown) (line : List ℕ) → CloseShows name answer line
        → CloseStep before name answer after
        → Alike after line (show_close state name (page_named name state.pages))
    close_alike name (Ok done) line shows step =
        subst (λ (s : Shown). Alike after line s)
        (sym (ap (show_close state name) (there name (Some step.0) step.1))) (
          shows,
          subst (λ (d : DeskState). Stands d (record state { pages = without_page name state.pages }))
              (sym step.2) (record {
                pages = ap (without_page name) stands.pages ∙ without_pages name before.entries;
                opened = stands.opened;
                published = stands.published;
                settled = without_settled name before.entries stands.settled;
              }),
        )
    close_alike name (Err unknown) line shows step =
        subst (λ (s : Shown). Alike after line s)
        (sym (ap (show_close state name) (there name None step.0)))
        (shows, subst (λ (d : DeskState). Stands d state) (sym step.1) stands)

    -- ---- every step

    -- **the line that a desk shows for a step is the one that is written, and the states go together**
    pub step_alike : (p : PlayStep) (s : Step) (line : List ℕ) → Shows first second p s line → StepsTo before s after
        → Alike after line (show_step state p)
    step_alike (Opens one other) (desk_run.Open input template answer) line shows step =
        open_alike one other input template answer line shows.0 shows.1 step
    step_alike (Pulls name count) (desk_run.Pull other c) line shows step =
        pull_alike name count c c.answer line shows.1 shows.2
        (subst (λ (m : ℕ). PullStep before m c c.answer after) shows.0 step)
    step_alike (Closes name) (desk_run.Close other answer) line shows step =
        close_alike name answer line shows.1
        (subst (λ (m : ℕ). CloseStep before m answer after) shows.0 step)
    step_alike (Publishes bundle) (desk_run.Publish program) line shows step = (
      shows.1,
      subst (λ (d : DeskState). Stands d (record state { published = bundle })) (sym step) (record {
        pages = stands.pages;
        opened = stands.opened;
        published = shows.0;
        settled = stands.settled;
      }),
    )
    step_alike (Opens one other) (desk_run.Pull name c) line shows step = absurd shows
    step_alike (Opens one other) (desk_run.Close name answer) line shows step = absurd shows
    step_alike (Opens one other) (desk_run.Publish program) line shows step = absurd shows
    step_alike (Pulls name count) (desk_run.Open input template answer) line shows step = absurd shows
    step_alike (Pulls name count) (desk_run.Close other answer) line shows step = absurd shows
    step_alike (Pulls name count) (desk_run.Publish program) line shows step = absurd shows
    step_alike (Closes name) (desk_run.Open input template answer) line shows step = absurd shows
    step_alike (Closes name) (desk_run.Pull other c) line shows step = absurd shows
    step_alike (Closes name) (desk_run.Publish program) line shows step = absurd shows
    step_alike (Publishes bundle) (desk_run.Open input template answer) line shows step = absurd shows
    step_alike (Publishes bundle) (desk_run.Pull name c) line shows step = absurd shows
    step_alike (Publishes bundle) (desk_run.Close name answer) line shows step = absurd shows

  -- ---- all steps

  all_alike : (ps : List PlayStep) (ss : List Step) (before after : DeskState) (state : PlayState) (text : List ℕ)
      → Stands before state → DeskRun before ss after → ShowsAll first second ps ss text
      → text ≡ played_from state ps
  all_alike [] [] before after state text stands run shows = shows
  all_alike (p ∷ ps) (s ∷ ss) before after state text stands run shows =
      let one = step_alike before run.0 state stands p s shows.0 shows.2 run.1 in
      let rest = all_alike ps ss run.0 after (show_step state p).1 shows.1 one.1 run.2 shows.3 in
      shows.4 ∙ (λ i. ended (one.0 i) ++ rest i)
  all_alike [] (s ∷ ss) before after state text stands run shows = absurd shows
  all_alike (p ∷ ps) [] before after state text stands run shows = absurd shows

  -- **what a new desk shows for the steps of a script is what is written for them**
  pub desk_shows : (ps : List PlayStep) (ss : List Step) (after : DeskState) (text : List ℕ)
      → DeskRun (desk_with first) ss after → ShowsAll first second ps ss text → text ≡ played_text ps
  desk_shows ps ss after text run shows =
      all_alike ps ss (desk_with first) after play_start text start_stands run shows
