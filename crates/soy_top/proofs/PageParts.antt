-- What a page that is rendered was made of.
use Rattle.std.proofs.Common.{◌≡◌, ◌≤◌, ℕ, List, ◌∷◌, ◌++◌, map, Option, Some, None, refl, sym, ap}
use Rattle.std.proofs.Common.{subst, length, arith}
use Rattle.std.specs.Prelude.{IfSome, Result, Ok, Err, nat_lt, option_and_then, slice_get}
use Rattle.std.specs.Str.{chars}
use Rattle.soy_base.specs.declared.code.Code.{Code}
use Rattle.soy_base.specs.declared.path.PathStep.{PathStep}
use Rattle.soy_front.specs.Entries.{entry_number}
use Rattle.soy_front.specs.FrontAnswer.{Front, front_answer}
use Rattle.soy_front.specs.declared.fault.FrontFault.{FrontFault}
use Rattle.soy_io.specs.FileOf.{Files}
use Rattle.soy_top.specs.Answer.{entry_of}
use Rattle.soy_top.specs.Asked.{Asked, Render, Check, Extract, Gen, Play, Preview, Format, asked_by_words}
use Rattle.soy_top.specs.FilesWanted.{FileWanted, asked_files, bundle_files, content, contents, data_file}
use Rattle.soy_top.specs.FilesWanted.{first_not_held, first_over_limit, known_files, source_file, wanted_files}
use Rattle.soy_top.specs.Inputs.{bundle_content, but_last, last}
use Rattle.soy_top.specs.Numbered.{numbered}
use Rattle.soy_top.specs.Rendered.{Rendered, known_rendered, rendered_asked, rendered_contents, rendered_data}
use Rattle.soy_top.specs.Rendered.{rendered_entry, rendered_front, rendered_words}
use Rattle.soy_top.specs.Rendered.{unless_file}
use Rattle.soy_top.specs.Words.{Word}
use Rattle.soy_top.proofs.Options.{none_some}
use Rattle.soy_top.proofs.Contents.HeldContents.{before_named, first_within}
use Rattle.soy_rules.specs.ShortLists.{HasShortLists}
use Rattle.soy_rules.specs.Templates.{Declared, declared}
use Rattle.soy_tree.specs.Values.{Value}
use Rattle.soy_tree.specs.ViewTrees.{view_trees}
use Rattle.soy_types.specs.ReadData.{data_at}
use Rattle.soy_types.proofs.ReadWithin.{data_short}

-- the template is that of a number, and the lists of the data are short
pub record PageParts (page : Rendered) : Type 0 where
  pub json : List ℕ
  pub bundle : Option (List ℕ)
  pub number : ℕ
  pub front : front_answer page.contents bundle ≡ Ok page.accepted
  pub found : slice_get (declared (view_trees page.accepted.files.trees)) number ≡ Some page.entry
  pub reads : data_at page.entry.template.params json ≡ Ok page.input
  pub short : HasShortLists page.input

-- a template that is found has a number
found_number : {A : Type 0} (xs : List A) (o : Option ℕ) (x : A) → option_and_then (slice_get xs) o ≡ Some x
    → (number : ℕ) × (slice_get xs number ≡ Some x)
found_number xs None x is = absurd (none_some x is)
found_number xs (Some number) x is = (number, is)

module _ (names : List Word) (files : List (List ℕ)) (bundle : Option (List ℕ)) (template : Word) (json : List ℕ)
    (few : length json ≤ 4194304) where
  data_parts : (of : Front) (d : Declared) → front_answer files bundle ≡ Ok of → entry_of of template ≡ Some d
      → (r : Result Value (Code × List PathStep)) → data_at d.template.params json ≡ r
      → IfSome (rendered_data names files of d r) PageParts
  data_parts of d front entry (Ok v) reads =
      let ds : List Declared = declared (view_trees of.files.trees) in
      let there = found_number ds (entry_number (chars template) ds) d entry in
      record {
        json = json;
        bundle = bundle;
        number = there.0;
        front = front;
        found = there.1;
        reads = reads;
        short = data_short d.template.params json v (omega (arith, few)) reads;
      }
  data_parts of d front entry (Err fault) reads = tt

  entry_parts : (of : Front) → front_answer files bundle ≡ Ok of → (o : Option Declared) → entry_of of template ≡ o
      → IfSome (rendered_entry names files json of o) PageParts
  entry_parts of front None entry = tt
  entry_parts of front (Some d) entry =
      data_parts of d front entry (data_at d.template.params json) refl

  pub front_parts : (r : Result Front FrontFault) → front_answer files bundle ≡ r
      → IfSome (rendered_front names files template json r) PageParts
  front_parts (Ok of) front = entry_parts of front (entry_of of template) refl
  front_parts (Err fault) front = tt

-- ---- the data are within their limit

-- the first file that is wanted is the data
json_within : (files : Files) (json_name : Word) (rest : List FileWanted)
    → first_over_limit files (data_file json_name ∷ rest) ≡ None
    → length (content files (data_file json_name)) ≤ 4194304
json_within files json_name rest none =
    let n : ℕ = length (content files (data_file json_name)) in
    (first_within (nat_lt 4194304 n) n 4194304 json_name (first_over_limit files rest) refl none).0

-- a page in whose way no file stands is made of its parts
unless_parts : (o : Option Word) (page : Option Rendered) → (o ≡ None → IfSome page PageParts)
    → IfSome (unless_file o page) PageParts
unless_parts None page parts = parts refl
unless_parts (Some file) page parts = tt

-- ---- all commands

-- the page of a `render`; other commands have none
render_parts : (files : Files) (template json_name bundle : Word) (names : List Word)
    → first_over_limit files (asked_files (Render template json_name bundle names)) ≡ None
    → IfSome (rendered_contents (Render template json_name bundle names)
    (contents files (asked_files (Render template json_name bundle names)))) PageParts
render_parts files template json_name bundle names within =
    let before : List FileWanted = data_file json_name ∷ bundle_files bundle in
    let all : List (List ℕ) = contents files (before ++ map source_file names) in
    let json : List ℕ = numbered 0 (but_last (length names) all) in
    let same : json ≡ content files (data_file json_name) = ap (numbered 0) (before_named files before names) in
    front_parts names (last (length names) all) (bundle_content bundle 1 (but_last (length names) all)) template json
    (subst (λ (j : List ℕ). length j ≤ 4194304) (sym same)
    (json_within files json_name (bundle_files bundle ++ map source_file names) within))
    (front_answer (last (length names) all) (bundle_content bundle 1 (but_last (length names) all))) refl

contents_parts : (files : Files) (asked : Asked) → first_over_limit files (asked_files asked) ≡ None
    → IfSome (rendered_contents asked (contents files (asked_files asked))) PageParts
contents_parts files (Render template json_name bundle names) within =
    render_parts files template json_name bundle names within
contents_parts files (Check bundle names) within = tt
contents_parts files (Extract names) within = tt
contents_parts files (Gen number) within = tt
contents_parts files (Play script first second names) within = tt
contents_parts files (Preview template json_name bundle names) within = tt
contents_parts files (Format name) within = tt

asked_parts : (files : Files) (asked : Asked) → IfSome (rendered_asked files asked) PageParts
asked_parts files asked =
    let wanted : List FileWanted = asked_files asked in
    unless_parts (first_not_held files wanted)
    (unless_file (first_over_limit files wanted) (rendered_contents asked (contents files wanted)))
    (λ held. unless_parts (first_over_limit files wanted) (rendered_contents asked (contents files wanted))
    (contents_parts files asked))

words_parts : (files : Files) (o : Option Asked) → IfSome (option_and_then (rendered_asked files) o) PageParts
words_parts files None = tt
words_parts files (Some asked) = asked_parts files asked

-- **a page that is rendered is made of what is read and accepted**
pub rendered_parts : (held : Option Files) (words : List Word) → IfSome (known_rendered held words) PageParts
rendered_parts held words = of_files (known_files held (wanted_files words)) where
  of_files : (o : Option Files) → IfSome (option_and_then (λ files. rendered_words files words) o) PageParts
  of_files None = tt
  of_files (Some files) = words_parts files (asked_by_words words)
