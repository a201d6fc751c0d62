-- The reply to a call that compiles, and what it fills its slot with.
--
-- There are 1 to 64 files, as of a `check`, and at most one bundle (2); all parts are there and all names are UTF-8
-- (7); the bundle is at most 4 MiB long; and then the first fault of the files and the bundle is answered, with the
-- line that a `check` gives for it and what goes with it. Otherwise the slot is filled with the program of the files
-- under the bundle.
-- Example: a file `{namespace a` is refused at its end.
use Rattle.std.specs.Prelude.{◌≡◌, ℕ, ◌==◌, List, [], length, ◌||◌, nat_lt, Option, None, Some, option_map, Result, Ok}
use Rattle.std.specs.Prelude.{Err, if◌then◌else◌}
use Rattle.soy_base.specs.declared.code.Code.{Code}
use Rattle.soy_base.specs.declared.code.Code.TheVariants as code
use Rattle.soy_front.specs.Compiled.{AreCompiled}
use Rattle.soy_front.specs.DetailAnswer.{front_detail}
use Rattle.soy_front.specs.FrontAnswer.{Front, front_answer}
use Rattle.soy_front.specs.declared.fault.Detail.{Detail}
use Rattle.soy_front.specs.declared.fault.FrontFault.{FrontFault}
use Rattle.soy_front.specs.declared.fault.FrontFault.TheVariants as front
use Rattle.soy_page.specs.declared.templates.Templates.{Templates}
use Rattle.soy_top.specs.Answer.{front_line}
use Rattle.soy_top.specs.Line.{too_large_line}
use Rattle.soy_top.specs.Pointer.{pointer}
use Rattle.soy_top.specs.Words.{Word}
use Rattle.soyc_c.specs.CompileCall.{CompileCall, compile_call_at}
use Rattle.soyc_c.specs.DetailText.{detail_text}
use Rattle.soyc_c.specs.FaultParts.{Absent, Has, PartContent}
use Rattle.soyc_c.specs.FaultNumbers.{FaultNumbers, numbers_elsewhere, front_numbers}
use Rattle.soyc_c.specs.SlotReply.{SlotReply, bare, fault_reply}
use Rattle.soyc_c.specs.TemplateFiles.{file_contents, file_names}
use Rattle.soyc_c.specs.declared.held.Held.{Held}
use Rattle.soyc_c.specs.declared.held.Held.TheVariants as held
use Rattle.soyc_c.specs.declared.parts.FileParts.{FileParts}

-- a refusal with its line, its code and perhaps its JSON pointer
abbrev pub refused : List ℕ → Code → PartContent → FaultNumbers → SlotReply
refused line code pointer fault = fault_reply 5 line code pointer [] fault

abbrev pub front_code : FrontFault → Code
front_code (front.Soy fault) = fault.code
front_code (front.Bundle fault) = fault.code

abbrev pub front_pointer : FrontFault → PartContent
front_pointer (front.Soy fault) = Absent
front_pointer (front.Bundle fault) = Has (pointer fault.path)

abbrev pub bundle_content : Option (Word × List ℕ) → Option (List ℕ)
bundle_content bundle = option_map (λ b. b.1) bundle

-- what stands after the line; with a fault of a bundle nothing goes
abbrev pub text_beside : FrontFault → Detail → List ℕ
text_beside (front.Soy fault) detail = detail_text detail
text_beside (front.Bundle fault) detail = []

-- by what the files and the bundle are answered, and what goes with their fault
abbrev pub front_reply : List Word → List (List ℕ) → Word → Detail → Result Front FrontFault → SlotReply
front_reply names contents bundle detail (Ok of) = bare 0
front_reply names contents bundle detail (Err fault) =
    fault_reply 5 (front_line names contents bundle fault) (front_code fault) (front_pointer fault)
    (text_beside fault detail) (front_numbers contents fault)

abbrev pub files_reply : List Word → List (List ℕ) → Option (Word × List ℕ) → SlotReply
files_reply names contents None =
    front_reply names contents [] (front_detail contents None) (front_answer contents None)
files_reply names contents (Some bundle) =
    if nat_lt 4194304 (length bundle.1)
    then refused (too_large_line bundle.0) code.TooLarge Absent (numbers_elsewhere 2 code.TooLarge)
    else front_reply names contents bundle.0 (front_detail contents (Some bundle.1))
    (front_answer contents (Some bundle.1))

-- the same, where the parts of a bundle may be malformed
abbrev pub under_reply : List Word → List (List ℕ) → Option (Option (Word × List ℕ)) → SlotReply
under_reply names contents None = bare 7
under_reply names contents (Some bundle) = files_reply names contents bundle

abbrev pub compile_call_reply : Option CompileCall → SlotReply
compile_call_reply None = bare 7
compile_call_reply (Some call) = files_reply call.names call.contents call.bundle

-- **the reply, where the slot is empty**
abbrev pub compile_reply : List ℕ → List FileParts → List FileParts → SlotReply
compile_reply bytes files bundles =
    if (length files == 0) || nat_lt 64 (length files) || nat_lt 1 (length bundles) then bare 2
    else compile_call_reply (compile_call_at bytes files bundles)

-- ---- what the slot is filled with

-- the templates are those of files of these names and contents under a bundle
pub record AreTemplates (names : List Word) (contents : List (List ℕ)) (bundle : Option (List ℕ))
    (templates : Templates) : Type 0 where
  pub names_are : file_names templates ≡ names
  pub contents_are : file_contents templates ≡ contents
  pub compiled : AreCompiled contents bundle templates.compiled

-- the same, where the parts of a bundle may be malformed
abbrev pub AreUnder : List Word → List (List ℕ) → Option (Option (Word × List ℕ)) → Templates → Type 0
AreUnder names contents None templates = ⊥
AreUnder names contents (Some bundle) templates = AreTemplates names contents (bundle_content bundle) templates

-- **templates of the files of a call under its bundle**
pub record Compiles (bytes : List ℕ) (files bundles : List FileParts) (templates : Templates) : Type 0 where
  pub call : CompileCall
  pub is_call : compile_call_at bytes files bundles ≡ Some call
  pub are : AreTemplates call.names call.contents (bundle_content call.bundle) templates

-- a slot's content is these templates
abbrev pub IsTemplates : Templates → Held → Type 0
IsTemplates templates (held.Templates others) = others ≡ templates
IsTemplates templates (held.Page page) = ⊥
