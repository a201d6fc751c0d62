-- Where the answer to a `play` is a text, the words, the files and the script are those of steps, whose lines it is;
-- and it never ends too deep.
use Rattle.std.proofs.Common.{◌≡◌, ℕ, Bool, true, false, cond, List, [], ◌∷◌, ◌++◌, length, map, Option, Some, None}
use Rattle.std.proofs.Common.{refl, sym, ap, ◌∙◌, codes, append_assoc}
use Rattle.std.specs.Prelude.{unwrap_or, Result, Ok, Err, nat_lt}
use Rattle.std.specs.Str.{is_utf8}
use Rattle.std.proofs.lemmas.Str.{IsUtf8-from_is_utf8}
use Rattle.soy_front.specs.FrontAnswer.{front_answer}
use Rattle.soy_front.proofs.FrontAnswers.{answered_accepted, answered_deserved}
use Rattle.soy_io.specs.FileOf.{Files, file_of}
use Rattle.soy_top.specs.Answer.{Answer, Refused, Done, TooDeep, accepted_then, contents_answer, inputs_answer}
use Rattle.soy_top.specs.Answer.{play_answer, steps_answer, steps_of, utf8_fault}
use Rattle.soy_top.specs.Asked.{Asked, Play}
use Rattle.soy_top.specs.FilesWanted.{FileWanted, asked_files, bundle_files, content, contents, data_file}
use Rattle.soy_top.specs.FilesWanted.{first_not_held, first_over_limit, is_source_language, source_file}
use Rattle.soy_top.specs.Inputs.{bundle_content, but_last, second_number}
use Rattle.soy_top.specs.Commands.IsPlayed.{AcceptedPlay, IsPlayed}
use Rattle.soy_top.specs.Line.{fault_line}
use Rattle.soy_top.specs.Numbered.{numbered}
use Rattle.soy_top.specs.Scripts.Played.{PlayStep, played_text}
use Rattle.soy_top.specs.Words.{Word}
use Rattle.soy_top.specs.declared.play.StepFault.{StepFault}
use Rattle.soy_top.proofs.Contents.HeldContents.{IsByContents, IsNoRefusal, all_held, before_named, bundle_held}
use Rattle.soy_top.proofs.Contents.HeldContents.{content_held}
use Rattle.soy_top.proofs.Contents.HeldContents.{done_same, first_within, held_before, last_named, then_given}
use Rattle.soy_top.proofs.Contents.HeldContents.{within_before}
use Rattle.soy_top.proofs.SpelledWords.{IsSpelled}

-- files behind others none of which is over its limit
within_behind : (files : Files) (xs ys : List FileWanted) → first_over_limit files (xs ++ ys) ≡ None
    → first_over_limit files ys ≡ None
within_behind files [] ys h = h
within_behind files (x ∷ xs) ys h =
    let first = first_within (nat_lt x.limit (length (content files x))) (length (content files x)) x.limit x.name
    (first_over_limit files (xs ++ ys)) refl h in
    within_behind files xs ys first.1

-- the contents of the two bundles, behind a script
pub first_bundle : (files : Files) (script first second : Word) (b : Bool) → is_source_language first ≡ b
    → bundle_content first 1 (contents files (data_file script ∷ (bundle_files first ++ bundle_files second)))
    ≡ cond b None (Some (unwrap_or (file_of files first) []))
first_bundle files script first second true e = rw e refl
first_bundle files script first second false e = rw e refl

pub second_bundle : (files : Files) (script first second : Word) (b d : Bool) → is_source_language first ≡ b
    → is_source_language second ≡ d
    → bundle_content second (second_number first)
    (contents files (data_file script ∷ (bundle_files first ++ bundle_files second)))
    ≡ cond d None (Some (unwrap_or (file_of files second) []))
second_bundle files script first second true true e f = rw (e, f) refl
second_bundle files script first second true false e f = rw (e, f) refl
second_bundle files script first second false true e f = rw (e, f) refl
second_bundle files script first second false false e f = rw (e, f) refl

-- the files before the template files, and all
module _ (script first second : Word) (names : List Word) where
  abbrev pub play_before : List FileWanted
  play_before = data_file script ∷ (bundle_files first ++ bundle_files second)

  pub play_all : play_before ++ map source_file names ≡ asked_files (Play script first second names)
  play_all =
      ap (λ fs. data_file script ∷ fs)
      (append_assoc (bundle_files first) (bundle_files second) (map source_file names))

module _ (files : Files) (words : List Word) (script first second : Word) (names : List Word) (a : Answer)
    (fine : IsNoRefusal a) where
  abbrev all_sources : List (List ℕ)
  all_sources = contents files (map source_file names)

  abbrev script_bytes : List ℕ
  script_bytes = unwrap_or (file_of files script) []

  abbrev bytes_of : Word → Option (List ℕ)
  bytes_of bundle = cond (is_source_language bundle) None (Some (unwrap_or (file_of files bundle) []))

  abbrev play_inputs : List (List ℕ)
  play_inputs = contents files (play_before script first second names)

  -- the same answer by the contents of the files and those before them
  by_play : contents_answer (Play script first second names)
      (contents files (asked_files (Play script first second names))) ≡ a
      → inputs_answer (Play script first second names) play_inputs all_sources ≡ a
  by_play h =
      let asked : Asked = Play script first second names in
      let before : List FileWanted = play_before script first second names in
      ap (λ x. inputs_answer asked x all_sources) (sym (before_named files before names))
      ∙ (ap (λ y. inputs_answer asked (but_last (length names) (contents files (before ++ map source_file names))) y)
      (sym (last_named files before names))
      ∙ (ap (λ fs. contents_answer asked (contents files fs)) (play_all script first second names) ∙ h))

  pub record PlayGiven : Type 0 where
    pub play : AcceptedPlay files words
    pub given : play_answer play.script play.bytes play.of play.other ≡ a

  pub play_given : IsSpelled words (Play script first second names)
      → IsByContents files (Play script first second names) a → PlayGiven
  play_given spelled by =
      let sources : List FileWanted = map source_file names in
      let rest : List FileWanted = bundle_files second ++ sources in
      let script_here = content_held (file_of files script) (first_not_held files (bundle_files first ++ rest)) script
      by.held in
      let first_here = held_before files (bundle_files first) rest script_here.1 in
      let second_here = held_before files (bundle_files second) sources first_here.1 in
      let script_limit = first_within (nat_lt 4194304 (length (content files (data_file script))))
      (length (content files (data_file script))) 4194304 script
      (first_over_limit files (bundle_files first ++ rest)) refl by.within in
      let first_limit = within_before files (bundle_files first) rest script_limit.1 in
      let second_limit = within_before files (bundle_files second) sources
      (within_behind files (bundle_files first) rest script_limit.1) in
      let t = then_given names all_sources first (λ of. accepted_then names all_sources second
      (bundle_content second (second_number first) play_inputs) (play_answer script (numbered 0 play_inputs) of))
      (front_answer all_sources (bundle_content first 1 play_inputs)) a fine (by_play by.given) in
      let u = then_given names all_sources second (play_answer script (numbered 0 play_inputs) t.0)
      (front_answer all_sources (bundle_content second (second_number first) play_inputs)) a fine t.2 in
      let one = ap (λ c. front_answer all_sources c)
      (sym (first_bundle files script first second (is_source_language first) refl)) ∙ t.1 in
      let other = ap (λ c. front_answer all_sources c) (sym (second_bundle files script first second
      (is_source_language first) (is_source_language second) refl refl)) ∙ u.1 in
      record {
        play = record {
          script = script;
          first = first;
          second = second;
          names = names;
          bytes = script_bytes;
          content = bytes_of first;
          other_content = bytes_of second;
          contents = all_sources;
          of = t.0;
          other = u.0;
          words_are = spelled.0;
          script_held = (script_here.0, script_limit.0);
          first_held = bundle_held files first (is_source_language first) refl first_here.0 first_limit;
          second_held = bundle_held files second (is_source_language second) refl second_here.0 second_limit;
          files_held = (spelled.1, all_held files names second_here.1);
          accepted = answered_accepted all_sources (bytes_of first) t.0 one;
          other_accepted = answered_accepted all_sources (bytes_of second) u.0 other;
          deserved = answered_deserved all_sources (bytes_of first) t.0 one;
          other_deserved = answered_deserved all_sources (bytes_of second) u.0 other;
        };
        given = u.2;
      }

-- a text by a script is that of its steps
steps_text : (script : Word) (r : Result (List PlayStep) StepFault) (text : List ℕ) → steps_answer script r ≡ Done text
    → (steps : List PlayStep) × (r ≡ Ok steps) × (text ≡ played_text steps)
steps_text script (Ok steps) text h = (steps, refl, done_same (played_text steps) text h)
steps_text script (Err fault) text h = cc

script_text : (script : Word) (r : Result (List PlayStep) StepFault) (line text : List ℕ) (b : Bool)
    → cond b (steps_answer script r) (Refused line) ≡ Done text → (b ≡ true) × (steps_answer script r ≡ Done text)
script_text script r line text true h = (refl, h)
script_text script r line text false h = cc

pub play_text : (files : Files) (words : List Word) (script first second : Word) (names : List Word) (text : List ℕ)
    → PlayGiven files words script first second names (Done text) tt → IsPlayed files words text
play_text files words script first second names text p =
    let bytes : List ℕ = p.play.bytes in
    let r = steps_of p.play.of p.play.other bytes in
    let q = script_text p.play.script r (fault_line p.play.script bytes (utf8_fault bytes)) text (is_utf8 bytes)
    p.given in
    let s = steps_text p.play.script r text q.1 in
    record {
      play = p.play;
      steps = s.0;
      utf8 = IsUtf8-from_is_utf8 bytes q.0;
      checked = s.1;
      text_is = s.2;
    }

-- and it never ends too deep
steps_not_deep : (script : Word) (r : Result (List PlayStep) StepFault) (text line : List ℕ)
    → steps_answer script r ≡ TooDeep text line → ⊥
steps_not_deep script (Ok steps) text line h = cc
steps_not_deep script (Err fault) text line h = cc

pub script_not_deep : (script : Word) (r : Result (List PlayStep) StepFault) (fault text line : List ℕ) (b : Bool)
    → cond b (steps_answer script r) (Refused fault) ≡ TooDeep text line → ⊥
script_not_deep script r fault text line true h = steps_not_deep script r text line h
script_not_deep script r fault text line false h = cc
