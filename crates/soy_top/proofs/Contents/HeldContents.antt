-- What is known of files that are held, and of an answer that is no refusal: the contents are those of files within
-- their limits, and those of inputs that are accepted.
use Rattle.std.proofs.Common.{◌≡◌, ◌≤◌, ℕ, zero, suc, Bool, true, false, cond, ◌-◌, List, [], ◌∷◌, ◌++◌, length, drop}
use Rattle.std.proofs.Common.{take, length-append, map, Option, Some, None, refl, sym, ap, ◌∙◌, arith, codes, subst}
use Rattle.std.proofs.lemmas.List.{length-map}
use Rattle.std.specs.Prelude.{IsTrue, unwrap_or, is_some, Result, Ok, Err, nat_lt}
use Rattle.std.proofs.lemmas.Bool.{le-ltb, ltb-false}
use Rattle.std.specs.Option.{option_map_or}
use Rattle.std.proofs.lemmas.Slice.Eq.{bytes_eq-Decides}
use Rattle.soy_base.specs.declared.code.Code.{Code}
use Rattle.soy_base.specs.declared.path.PathStep.{PathStep}
use Rattle.soy_front.specs.Accepted.{Accepted}
use Rattle.soy_front.specs.FrontAnswer.{DeserveFront, Front, front_answer}
use Rattle.soy_front.specs.declared.fault.FrontFault.{FrontFault}
use Rattle.soy_front.proofs.FrontAnswers.{answered_accepted, answered_deserved}
use Rattle.soy_io.specs.FileOf.{Files, file_of}
use Rattle.soy_top.specs.Commands.AcceptedRender.{AcceptedPage}
use Rattle.soy_top.specs.Answer.{Answer, Done, Read, Refused, PageAnswer, accepted_then, asked_answer, contents_answer}
use Rattle.soy_top.specs.Answer.{data_answer, entry_answer, front_line, limits_answer, page_answer, template_outcome}
use Rattle.soy_top.specs.Answer.{unless_refused}
use Rattle.soy_top.specs.Asked.{Asked, has_file_count}
use Rattle.soy_top.specs.FilesWanted.{FileWanted, asked_files, bundle_files, content, contents, data_file}
use Rattle.soy_top.specs.FilesWanted.{first_not_held, first_over_limit, is_source_language, source_file}
use Rattle.soy_top.specs.Commands.HoldsInputs.{HoldsBundle, HoldsData}
use Rattle.soy_top.specs.Inputs.{bundle_content, but_last, last}
use Rattle.soy_top.specs.Line.{entry_line, too_large_line}
use Rattle.soy_top.specs.Pointer.{pointer_line}
use Rattle.soy_top.specs.Words.{Word}
use Rattle.soy_top.proofs.Options.{some_none}
use Rattle.soy_rules.specs.Templates.{Declared}
use Rattle.soy_tree.specs.Values.{Value}
use Rattle.soy_types.specs.ReadData.{data_at}

-- an answer that is none of a file and none of a line
abbrev pub IsNoRefusal : Answer → Type 0
IsNoRefusal (Read file) = ⊥
IsNoRefusal (Refused line) = ⊥
IsNoRefusal _ = Unit {0}

-- such an answer is neither
not_read : (file : Word) (a : Answer) → IsNoRefusal a → Read file ≡ a → ⊥
not_read file a fine is = subst IsNoRefusal (sym is) fine

pub done_same : (text other : List ℕ) → ◌≡◌ {A = Answer} (Done text) (Done other) → other ≡ text
done_same text other e = cc

pub not_refused : (line : List ℕ) (a : Answer) → IsNoRefusal a → Refused line ≡ a → ⊥
not_refused line a fine is = subst IsNoRefusal (sym is) fine

-- such an answer by the data is one by values that were read
pub data_given : (page : PageAnswer) (json_name : Word) (of : Front) (d : Declared)
    (r : Result Value (Code × List PathStep)) (a : Answer) → IsNoRefusal a → data_answer page json_name of d r ≡ a
    → (v : Value) × (r ≡ Ok v) × (page_answer page (template_outcome of d v) ≡ a)
data_given page json_name of d (Ok v) a fine h = (v, refl, h)
data_given page json_name of d (Err fault) a fine h =
    absurd (not_refused (pointer_line json_name fault.1 fault.0) a fine h)

-- one by the template is one of a template that was found
pub entry_given : (page : PageAnswer) (template json_name : Word) (json : List ℕ) (of : Front) (o : Option Declared)
    (a : Answer) → IsNoRefusal a → entry_answer page template json_name json of o ≡ a
    → (d : Declared) × (o ≡ Some d) × (data_answer page json_name of d (data_at d.template.params json) ≡ a)
entry_given page template json_name json of None a fine h = absurd (not_refused (entry_line template) a fine h)
entry_given page template json_name json of (Some d) a fine h = (d, refl, h)

-- one by the files that are held and within their limits is one by their contents
option_none : (o : Option Word) (f : Word → Answer) (rest a : Answer) → ((w : Word) → f w ≡ a → ⊥)
    → option_map_or f o rest ≡ a → (o ≡ None) × (rest ≡ a)
option_none None f rest a never h = (refl, h)
option_none (Some w) f rest a never h = absurd (never w h)

pub record IsByContents (files : Files) (asked : Asked) (a : Answer) : Type 0 where
  pub held : first_not_held files (asked_files asked) ≡ None
  pub within : first_over_limit files (asked_files asked) ≡ None
  pub given : contents_answer asked (contents files (asked_files asked)) ≡ a

pub by_contents : (files : Files) (asked : Asked) (a : Answer) → IsNoRefusal a → asked_answer files asked ≡ a
    → IsByContents files asked a
by_contents files asked a fine h =
    let held = option_none (first_not_held files (asked_files asked)) Read
    (limits_answer files asked (asked_files asked)) a (λ w e. not_read w a fine e) h in
    let within = option_none (first_over_limit files (asked_files asked)) (λ file. Refused (too_large_line file))
    (contents_answer asked (contents files (asked_files asked))) a
    (λ w e. not_refused (too_large_line w) a fine e) held.1 in
    record { held = held.0; within = within.0; given = within.1 }

-- a file before the first that isn't held is held
pub content_held : (o : Option (List ℕ)) (rest : Option Word) (name : Word) → cond (is_some o) rest (Some name) ≡ None
    → (o ≡ Some (unwrap_or o [])) × (rest ≡ None)
content_held None rest name h = cc
content_held (Some bytes) rest name h = (refl, h)

-- files none of which isn't held are held
pub all_held : (files : Files) (names : List Word) → first_not_held files (map source_file names) ≡ None
    → map (file_of files) names ≡ map Some (contents files (map source_file names))
all_held files [] held = refl
all_held files (name ∷ names) held =
    let first = content_held (file_of files name) (first_not_held files (map source_file names)) name held in
    ap (λ o. o ∷ map (file_of files) names) first.0
    ∙ ap (λ os. Some (content files (source_file name)) ∷ os) (all_held files names first.1)

-- ---- the contents of template files are the last

as_many : (files : Files) (names : List Word) → length (contents files (map source_file names)) ≡ length names
as_many files names = length-map (map source_file names) (content files) ∙ length-map names source_file

take_before : {A : Type 0} (xs ys : List A) (n : ℕ) → n ≡ length xs → take n (xs ++ ys) ≡ xs
take_before [] ys n e = rw e refl
take_before (x ∷ xs) ys zero e = absurd (omega (arith, e))
take_before (x ∷ xs) ys (suc n) e = ap (λ l. x ∷ l) (take_before xs ys n (omega (arith, e)))

drop_before : {A : Type 0} (xs ys : List A) (n : ℕ) → n ≡ length xs → drop n (xs ++ ys) ≡ ys
drop_before [] ys n e = rw e refl
drop_before (x ∷ xs) ys zero e = absurd (omega (arith, e))
drop_before (x ∷ xs) ys (suc n) e = drop_before xs ys n (omega (arith, e))

length_both : {A : Type 0} (xs ys : List A) (n : ℕ) → n ≡ length ys → length (xs ++ ys) - n ≡ length xs
length_both xs ys n e = omega (arith, e, length-append xs ys)

contents_both : (files : Files) (xs ys : List FileWanted)
    → contents files (xs ++ ys) ≡ contents files xs ++ contents files ys
contents_both files [] ys = refl
contents_both files (x ∷ xs) ys = ap (λ l. content files x ∷ l) (contents_both files xs ys)

-- the contents before those of template files, and these
module _ (files : Files) (before : List FileWanted) (names : List Word) where
  abbrev named : List (List ℕ)
  named = contents files (map source_file names)

  count : length (contents files before ++ named) - length names ≡ length (contents files before)
  count = length_both (contents files before) named (length names) (sym (as_many files names))

  pub before_named : but_last (length names) (contents files (before ++ map source_file names)) ≡ contents files before
  before_named =
      ap (but_last (length names)) (contents_both files before (map source_file names))
      ∙ take_before (contents files before) named _ count

  pub last_named : last (length names) (contents files (before ++ map source_file names)) ≡ named
  last_named =
      ap (last (length names)) (contents_both files before (map source_file names))
      ∙ drop_before (contents files before) named _ count

-- files before others none of which isn't held
pub held_before : (files : Files) (xs ys : List FileWanted) → first_not_held files (xs ++ ys) ≡ None
    → (first_not_held files xs ≡ None) × (first_not_held files ys ≡ None)
held_before files [] ys h = (refl, h)
held_before files (x ∷ xs) ys h =
    let first = content_held (file_of files x.name) (first_not_held files (xs ++ ys)) x.name h in
    let rest = held_before files xs ys first.1 in
    (ap (λ o. cond (is_some o) (first_not_held files xs) (Some x.name)) first.0 ∙ rest.0, rest.1)

-- a file that isn't over its limit, before others
pub first_within : (over : Bool) (n limit : ℕ) (name : Word) (rest : Option Word) → nat_lt limit n ≡ over
    → cond over (Some name) rest ≡ None → (n ≤ limit) × (rest ≡ None)
first_within true n limit name rest is none = absurd (some_none name none)
first_within false n limit name rest is none = (ltb-false limit n is, none)

-- files before others none of which is over its limit
pub within_before : (files : Files) (xs ys : List FileWanted) → first_over_limit files (xs ++ ys) ≡ None
    → first_over_limit files xs ≡ None
within_before files [] ys h = refl
within_before files (x ∷ xs) ys h =
    let n : ℕ = length (content files x) in
    let first = first_within (nat_lt x.limit n) n x.limit x.name (first_over_limit files (xs ++ ys)) refl h in
    ap (λ b. cond b (Some x.name) (first_over_limit files xs)) (le-ltb x.limit n first.0)
    ∙ within_before files xs ys first.1

-- ---- files that are accepted

-- an answer by what files are accepted as
pub then_given : (names : List Word) (contents : List (List ℕ)) (bundle : Word) (answer : Front → Answer)
    (r : Result Front FrontFault) (a : Answer) → IsNoRefusal a → unless_refused names contents bundle answer r ≡ a
    → (of : Front) × (r ≡ Ok of) × (answer of ≡ a)
then_given names contents bundle answer (Ok of) a fine h = (of, refl, h)
then_given names contents bundle answer (Err fault) a fine h =
    absurd (not_refused (front_line names contents bundle fault) a fine h)

-- a file of data is held with its content, before others
data_held : (files : Files) (name : Word) (rest : List FileWanted) → first_not_held files (data_file name ∷ rest) ≡ None
    → first_over_limit files (data_file name ∷ rest) ≡ None
    → HoldsData files name (unwrap_or (file_of files name) [])
data_held files name rest held within = (
  (content_held (file_of files name) (first_not_held files rest) name held).0,
  (first_within (nat_lt 4194304 (length (content files (data_file name)))) (length (content files (data_file name)))
      4194304 name (first_over_limit files rest) refl within).0,
)

-- the bundle of a name is held with its content
pub bundle_held : (files : Files) (bundle : Word) (b : Bool) → is_source_language bundle ≡ b
    → first_not_held files (cond b [] (data_file bundle ∷ [])) ≡ None
    → first_over_limit files (cond b [] (data_file bundle ∷ [])) ≡ None
    → HoldsBundle files bundle (cond b None (Some (unwrap_or (file_of files bundle) [])))
bundle_held files bundle true e held within = (bytes_eq-Decides bundle (codes "-")).0 e
bundle_held files bundle false e held within = (
  (λ same. let f : true ≡ false = sym ((bytes_eq-Decides bundle (codes "-")).1 same) ∙ e in absurd (cc f)),
  data_held files bundle [] held within,
)

-- the content of the first bundle, where nothing is before it
pub first_content : (files : Files) (bundle : Word) (b : Bool) → is_source_language bundle ≡ b
    → bundle_content bundle 0 (contents files (bundle_files bundle))
    ≡ cond b None (Some (unwrap_or (file_of files bundle) []))
first_content files bundle true e = rw e refl
first_content files bundle false e = rw e refl

-- the content of the bundle of a render, behind the data
second_content : (files : Files) (json_name bundle : Word) (b : Bool) → is_source_language bundle ≡ b
    → bundle_content bundle 1 (contents files (data_file json_name ∷ bundle_files bundle))
    ≡ cond b None (Some (unwrap_or (file_of files bundle) []))
second_content files json_name bundle true e = rw e refl
second_content files json_name bundle false e = rw e refl

-- ---- inputs that are accepted

-- of the words of a command that wants a page, and an answer that is no refusal
module _ (files : Files) (json_name bundle : Word) (names : List Word) (a : Answer) (fine : IsNoRefusal a) where
  abbrev pub before : List FileWanted
  before = data_file json_name ∷ bundle_files bundle

  abbrev pub sources : List (List ℕ)
  sources = contents files (map source_file names)

  abbrev pub json : List ℕ
  json = unwrap_or (file_of files json_name) []

  abbrev pub bundle_bytes : Option (List ℕ)
  bundle_bytes = cond (is_source_language bundle) None (Some (unwrap_or (file_of files bundle) []))

  -- an answer by all contents is one by those of the template files and those before them
  pub by_inputs : (inputs : List (List ℕ) → List (List ℕ) → Answer)
      → inputs (but_last (length names) (contents files (before ++ map source_file names)))
      (last (length names) (contents files (before ++ map source_file names))) ≡ a
      → inputs (contents files before) sources ≡ a
  by_inputs inputs h =
      ap (λ x. inputs x sources) (sym (before_named files before names))
      ∙ (ap (λ y. inputs (but_last (length names) (contents files (before ++ map source_file names))) y)
      (sym (last_named files before names)) ∙ h)

  -- what is answered by inputs that are accepted
  pub record InputsGiven (answer : Front → Answer) : Type 0 where
    pub of : Front
    pub json_is : HoldsData files json_name json
    pub bundle_is : HoldsBundle files bundle bundle_bytes
    pub files_are : map (file_of files) names ≡ map Some sources
    pub accepted : Accepted sources bundle_bytes
    pub deserved : DeserveFront sources bundle_bytes of
    pub given : answer of ≡ a

  pub inputs_given : (answer : Front → Answer) → first_not_held files (before ++ map source_file names) ≡ None
      → first_over_limit files (before ++ map source_file names) ≡ None
      → accepted_then names sources bundle (bundle_content bundle 1 (contents files before)) answer ≡ a
      → InputsGiven answer
  inputs_given answer held within h =
      let here = held_before files before (map source_file names) held in
      let limits = within_before files before (map source_file names) within in
      let json_here = content_held (file_of files json_name) (first_not_held files (bundle_files bundle)) json_name
      here.0 in
      let json_within = first_within (nat_lt 4194304 (length (content files (data_file json_name))))
      (length (content files (data_file json_name))) 4194304 json_name (first_over_limit files (bundle_files bundle))
      refl limits in
      let t = then_given names sources bundle answer
      (front_answer sources (bundle_content bundle 1 (contents files before))) a fine h in
      let answered = ap (λ c. front_answer sources c)
      (sym (second_content files json_name bundle (is_source_language bundle) refl)) ∙ t.1 in
      record {
        of = t.0;
        json_is = (json_here.0, json_within.0);
        bundle_is = bundle_held files bundle (is_source_language bundle) refl json_here.1 json_within.1;
        files_are = all_held files names here.1;
        accepted = answered_accepted sources bundle_bytes t.0 answered;
        deserved = answered_deserved sources bundle_bytes t.0 answered;
        given = t.2;
      }

  -- so the command's inputs are accepted
  abbrev pub accepted_page : (command template : Word) (words : List Word) (answer : Front → Answer)
      → words ≡ command ∷ template ∷ json_name ∷ bundle ∷ names → IsTrue (has_file_count names)
      → InputsGiven answer → AcceptedPage command files words
  accepted_page command template words answer are few g = record {
    template = template;
    json_name = json_name;
    bundle = bundle;
    names = names;
    json = json;
    content = bundle_bytes;
    contents = sources;
    of = g.of;
    words_are = are;
    json_held = g.json_is;
    bundle_held = g.bundle_is;
    files_held = (few, g.files_are);
    accepted = g.accepted;
    deserved = g.deserved;
  }
