-- The answer that the lines of a script are.
use Rattle.std.proofs.Common.{◌≡◌, ℕ, cond, List, ◌∷◌, ◌++◌, length, map, Option, Some, None, refl, sym, ap, ◌∙◌, []}
use Rattle.std.specs.Prelude.{encode_utf8_all, unwrap_or, Result, Ok, Err}
use Rattle.std.specs.Str.{chars, is_utf8}
use Rattle.std.proofs.lemmas.Str.{is_utf8-from_IsUtf8}
use Rattle.msg_bundle.specs.BundlesAlike.{BundlesAlike}
use Rattle.soy_base.specs.declared.code.Code.{Code}
use Rattle.soy_base.specs.declared.path.PathStep.{PathStep}
use Rattle.soy_front.specs.FilesAnswer.{ReadFiles}
use Rattle.soy_front.specs.FrontAnswer.{Front}
use Rattle.soy_front.proofs.FilesLaws.{trees_within}
use Rattle.soy_io.specs.FileOf.{Files, file_of}
use Rattle.soy_top.specs.Answer.{Answer, Done, Refused, accepted_then, answer, contents_answer, inputs_answer}
use Rattle.soy_top.specs.Answer.{open_of, opens_of, params_of, play_answer, steps_answer, steps_of, utf8_fault}
use Rattle.soy_top.specs.Answer.{unless_refused}
use Rattle.soy_top.specs.Asked.{Asked, Play}
use Rattle.soy_top.specs.FilesWanted.{FileWanted, asked_files, bundle_files, contents, is_source_language, source_file}
use Rattle.soy_top.specs.Commands.HoldsInputs.{HoldsBundle}
use Rattle.soy_top.specs.Inputs.{bundle_content, last, second_number}
use Rattle.soy_top.specs.Commands.IsPlayed.{AcceptedPlay, IsPlayed}
use Rattle.soy_top.specs.Line.{fault_line}
use Rattle.soy_top.specs.Scripts.Played.{PlayStep, Opens, first_left}
use Rattle.soy_top.specs.Scripts.Script.{script_lines}
use Rattle.soy_top.specs.Scripts.ScriptSteps.{open_entry, open_step, opening, read_values}
use Rattle.soy_top.specs.Words.{Word}
use Rattle.soy_top.proofs.AcceptedAlike.{deserved_given, outcome_alike}
use Rattle.soy_top.proofs.Contents.HeldContents.{before_named, last_named}
use Rattle.soy_top.proofs.Plays.PlayTexts.{first_bundle, play_all, play_before, second_bundle}
use Rattle.soy_top.proofs.Contents.ReadyFiles.{AreReady, BundleReady, bundle_ready, data_content, data_not_large}
use Rattle.soy_top.proofs.Contents.ReadyFiles.{data_not_missing, is_language, no_language, ready_answer, sources_ready}
use Rattle.soy_top.proofs.SpelledWords.{play_asks}
use Rattle.soy_top.proofs.Plays.StepsAlike.{steps_same}
use Rattle.soy_rules.specs.Templates.{Declared}
use Rattle.soy_tree.specs.Types.{Name}
use Rattle.soy_tree.specs.Values.{Value}
use Rattle.soy_types.specs.ReadData.{data_at}

-- the content of a bundle that is held
content_is : (files : Files) (bundle : Word) (bytes : Option (List ℕ)) → HoldsBundle files bundle bytes
    → cond (is_source_language bundle) None (Some (unwrap_or (file_of files bundle) [])) ≡ bytes
content_is files bundle None held =
    ap (λ b. cond b None (Some (unwrap_or (file_of files bundle) []))) (is_language files bundle held)
content_is files bundle (Some bytes) held =
    ap (λ b. cond b None (Some (unwrap_or (file_of files bundle) [])))
    (no_language files bundle (is_source_language bundle) refl held.0)
    ∙ ap Some (data_content files bundle bytes held.1)

-- what files and bundles are accepted as, and what they deserve, have the same steps
module _ (given of : Front) (files : given.files ≡ of.files) (language : BundlesAlike given.language of.language)
    (given_other other : Front) (other_files : given_other.files ≡ other.files)
    (other_language : BundlesAlike given_other.language other.language) where
  opens_alike : (d : Declared) (v : Value) → opens_of given given_other d v ≡ opens_of of other d v
  opens_alike d v = λ i. Opens (first_left (outcome_alike given of files language d v i))
      (first_left (outcome_alike given_other other other_files other_language d v i))

  abbrev given_step : Result (Declared × Value) Code → Result PlayStep Code
  given_step = open_step (open_of given) params_of (opens_of given given_other)

  abbrev deserved_step : Result (Declared × Value) Code → Result PlayStep Code
  deserved_step = open_step (open_of of) params_of (opens_of of other)

  values_alike : (d : Declared) (r : Result Value (Code × List PathStep))
      → given_step (read_values (open_of given) params_of d r) ≡ deserved_step (read_values (open_of of) params_of d r)
  values_alike d (Ok v) = ap Ok (opens_alike d v)
  values_alike d (Err fault) = refl

  opened_alike : (json : List ℕ) (o : Option Declared)
      → given_step (open_entry (open_of given) params_of json o)
      ≡ deserved_step (open_entry (open_of of) params_of json o)
  opened_alike json None = refl
  opened_alike json (Some d) = values_alike d (data_at d.template.params (encode_utf8_all json))

  open_alike : (name : Name) (json : List ℕ)
      → given_step (opening (open_of given) params_of name json)
      ≡ deserved_step (opening (open_of of) params_of name json)
  open_alike name json =
      ap (λ (f : ReadFiles). given_step (open_entry (open_of given) params_of json
      (open_of (record { files = f; language = given.language; walk = given.walk }) name))) files
      ∙ opened_alike json (open_of of name)

  steps_alike : (bytes : List ℕ) → steps_of given given_other bytes ≡ steps_of of other bytes
  steps_alike bytes =
      steps_same (open_of given) params_of (opens_of given given_other) (open_of of) params_of (opens_of of other)
      open_alike 1 (script_lines (chars bytes))

module _ (files : Files) (words : List Word) (p : AcceptedPlay files words) where
  abbrev play_asked : Asked
  play_asked = Play p.script p.first p.second p.names

  abbrev play_files : List FileWanted
  play_files = map source_file p.names

  abbrev play_first : List FileWanted
  play_first = play_before p.script p.first p.second p.names

  play_ready : AreReady files play_files p.contents
  play_ready =
      sources_ready files p.names p.contents p.files_held.1
      (trees_within p.contents p.of.files.trees p.deserved.files.have)

  second_ready : BundleReady files p.second p.other_content play_files
  second_ready =
      bundle_ready files p.second p.other_content play_files p.second_held play_ready.held play_ready.within

  first_ready : BundleReady files p.first p.content (bundle_files p.second ++ play_files)
  first_ready =
      bundle_ready files p.first p.content (bundle_files p.second ++ play_files) p.first_held second_ready.held
      second_ready.within

  play_inputs_are : contents_answer play_asked (contents files (asked_files play_asked))
      ≡ inputs_answer play_asked (contents files play_first) p.contents
  play_inputs_are =
      ap (λ fs. contents_answer play_asked (contents files fs)) (sym (play_all p.script p.first p.second p.names))
      ∙ (ap (λ x. inputs_answer play_asked x (last (length p.names) (contents files (play_first ++ play_files))))
      (before_named files play_first p.names)
      ∙ ap (inputs_answer play_asked (contents files play_first))
      (last_named files play_first p.names ∙ play_ready.same))

  -- the answer by what the files are accepted as under the second bundle
  second_then : (given : Front)
      → accepted_then p.names p.contents p.second p.other_content (play_answer p.script p.bytes given)
      ≡ play_answer p.script p.bytes given (deserved_given p.contents p.other_content p.other p.other_deserved).given
  second_then given =
      ap (unless_refused p.names p.contents p.second (play_answer p.script p.bytes given))
      (deserved_given p.contents p.other_content p.other p.other_deserved).answered

  -- **the answer is that by what the inputs deserve**
  play_is : answer files words ≡ play_answer p.script p.bytes p.of p.other
  play_is =
      let g = deserved_given p.contents p.content p.of p.deserved in
      let h = deserved_given p.contents p.other_content p.other p.other_deserved in
      let rest : List FileWanted = bundle_files p.first ++ (bundle_files p.second ++ play_files) in
      ready_answer files words play_asked
      (play_asks words p.script p.first p.second p.names p.words_are p.files_held.0)
      (data_not_missing files p.script p.bytes rest p.script_held ∙ first_ready.held)
      (data_not_large files p.script p.bytes rest p.script_held ∙ first_ready.within)
      ∙ (play_inputs_are
      ∙ (ap (λ bs. accepted_then p.names p.contents p.first (bundle_content p.first 1 (contents files play_first))
      (λ of. accepted_then p.names p.contents p.second
      (bundle_content p.second (second_number p.first) (contents files play_first)) (play_answer p.script bs of)))
      (data_content files p.script p.bytes p.script_held)
      ∙ (ap (λ c. accepted_then p.names p.contents p.first c (λ of. accepted_then p.names p.contents p.second
      (bundle_content p.second (second_number p.first) (contents files play_first))
      (play_answer p.script p.bytes of)))
      (first_bundle files p.script p.first p.second (is_source_language p.first) refl
      ∙ content_is files p.first p.content p.first_held)
      ∙ (ap (λ c. accepted_then p.names p.contents p.first p.content (λ of. accepted_then p.names p.contents p.second c
      (play_answer p.script p.bytes of)))
      (second_bundle files p.script p.first p.second (is_source_language p.first) (is_source_language p.second) refl
      refl
      ∙ content_is files p.second p.other_content p.second_held)
      ∙ (ap (unless_refused p.names p.contents p.first (λ of. accepted_then p.names p.contents p.second p.other_content
      (play_answer p.script p.bytes of))) g.answered
      ∙ (second_then g.given
      ∙ ap (λ r. cond (is_utf8 p.bytes) (steps_answer p.script r)
      (Refused (fault_line p.script p.bytes (utf8_fault p.bytes))))
      (steps_alike g.given p.of g.files g.language h.given p.other h.files h.language p.bytes)))))))

-- the lines of a script are the answer
pub played_answered : (files : Files) (words : List Word) (text : List ℕ) → IsPlayed files words text
    → answer files words ≡ Done text
played_answered files words text p =
    let bytes : List ℕ = p.play.bytes in
    play_is files words p.play
    ∙ (ap (λ b. cond b (steps_answer p.play.script (steps_of p.play.of p.play.other bytes))
    (Refused (fault_line p.play.script bytes (utf8_fault bytes)))) (is_utf8-from_IsUtf8 bytes p.utf8)
    ∙ (ap (steps_answer p.play.script) p.checked ∙ ap Done (sym p.text_is)))
