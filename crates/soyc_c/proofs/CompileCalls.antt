-- The files and the bundle of a call, by what is read of its parts.
use Rattle.std.proofs.Common.{◌≡◌, ℕ, suc, ◌≤◌, List, [], ◌∷◌, map, length, Option, Some, None, Ok, Err, refl, sym, ap}
use Rattle.std.proofs.Common.{◌∙◌, arith, subst}
use Rattle.std.proofs.lemmas.List.{length-map}
use Rattle.std.specs.Prelude.{IfOk, Result, option_map}
use Rattle.soy_front.specs.Compiled.{AreCompiled}
use Rattle.soy_front.specs.FrontAnswer.{Front}
use Rattle.soy_front.specs.ViewSources.{view_contents}
use Rattle.soy_front.specs.declared.fault.Detail.{Detail}
use Rattle.soy_front.specs.declared.fault.FrontFault.{FrontFault}
use Rattle.soy_front.specs.declared.source.Source.{Source}
use Rattle.soy_top.specs.Words.{Word}
use Rattle.std.specs.Prelude.{slice_get}
use Rattle.soyc_c.specs.Call.{all_of, both}
use Rattle.soyc_c.specs.CompileCall.{CompileCall, bundle_at, compile_call, contents_at, names_at}
use Rattle.soyc_c.specs.Compiling.{AreUnder, AreTemplates, Compiles, bundle_content, compile_call_reply, front_reply}
use Rattle.soyc_c.specs.Compiling.{under_reply}
use Rattle.soyc_c.specs.Parts.{part_bytes}
use Rattle.soyc_c.specs.declared.parts.FileParts.{FileParts}
use Rattle.soyc_c.specs.declared.unfilled.Unfilled.{Unfilled}
use Rattle.soyc_c.specs.SlotReply.{SlotReply, bare}
use Rattle.soy_page.specs.WereCompiled.{WereCompiled}
use Rattle.soy_page.specs.declared.templates.Templates.{Templates}

module _ (ns : Option (List Word)) (cs : Option (List (List ℕ))) (o : Option (Option (Word × List ℕ))) where
  abbrev pub asked : Option CompileCall
  asked = option_map compile_call (both (both ns cs) o)

-- what is read of the names and the contents
asked-found : (names : List Word) (contents : List (List ℕ)) (ns : Option (List Word)) (cs : Option (List (List ℕ)))
    (o : Option (Option (Word × List ℕ))) → ns ≡ Some names → cs ≡ Some contents
    → asked ns cs o ≡ asked (Some names) (Some contents) o
asked-found names contents ns cs o is_names is_contents =
    ap (λ n. asked n cs o) is_names ∙ ap (λ c. asked (Some names) c o) is_contents

reply-under : (names : List Word) (contents : List (List ℕ)) (o : Option (Option (Word × List ℕ)))
    → compile_call_reply (asked (Some names) (Some contents) o) ≡ under_reply names contents o
reply-under names contents None = refl
reply-under names contents (Some bundle) = refl

-- so the reply is that by the bundle
pub reply-found : (names : List Word) (contents : List (List ℕ)) (ns : Option (List Word))
    (cs : Option (List (List ℕ))) (o : Option (Option (Word × List ℕ))) → ns ≡ Some names → cs ≡ Some contents
    → compile_call_reply (asked ns cs o) ≡ under_reply names contents o
reply-found names contents ns cs o is_names is_contents =
    ap compile_call_reply (asked-found names contents ns cs o is_names is_contents) ∙ reply-under names contents o

-- where the names or the contents are malformed, so is the call
pub no-names : (ns : Option (List Word)) (cs : Option (List (List ℕ))) (o : Option (Option (Word × List ℕ)))
    → ns ≡ None → compile_call_reply (asked ns cs o) ≡ bare 7
no-names ns cs o none = ap (λ n. compile_call_reply (asked n cs o)) none

no-second : (ns : Option (List Word)) (o : Option (Option (Word × List ℕ)))
    → compile_call_reply (asked ns None o) ≡ bare 7
no-second None o = refl
no-second (Some names) o = refl

pub no-contents : (ns : Option (List Word)) (cs : Option (List (List ℕ))) (o : Option (Option (Word × List ℕ)))
    → cs ≡ None → compile_call_reply (asked ns cs o) ≡ bare 7
no-contents ns cs o none = ap (λ c. compile_call_reply (asked ns c o)) none ∙ no-second ns o

-- the call of templates that are compiled
record IsAsked (names : List Word) (contents : List (List ℕ)) (o : Option (Option (Word × List ℕ)))
    (templates : Templates) : Type 0 where
  pub call : CompileCall
  pub is_call : asked (Some names) (Some contents) o ≡ Some call
  pub are : AreTemplates call.names call.contents (bundle_content call.bundle) templates

is-asked : (names : List Word) (contents : List (List ℕ)) (o : Option (Option (Word × List ℕ))) (templates : Templates)
    → AreUnder names contents o templates → IsAsked names contents o templates
is-asked names contents None templates h = absurd h
is-asked names contents (Some bundle) templates h = record {
  call = record { names = names; contents = contents; bundle = bundle };
  is_call = refl;
  are = h;
}

pub call-found : (names : List Word) (contents : List (List ℕ)) (ns : Option (List Word))
    (cs : Option (List (List ℕ))) (o : Option (Option (Word × List ℕ))) (templates : Templates) → ns ≡ Some names
    → cs ≡ Some contents → AreUnder names contents o templates
    → (call : CompileCall) × (asked ns cs o ≡ Some call)
    × AreTemplates call.names call.contents (bundle_content call.bundle) templates
call-found names contents ns cs o templates is_names is_contents h =
    let it = is-asked names contents o templates h in
    (it.call, asked-found names contents ns cs o is_names is_contents ∙ it.is_call, it.are)

-- so it is of this call
pub compiles-found : (bytes : List ℕ) (files bundles : List FileParts) (names : List Word) (contents : List (List ℕ))
    (result : Result Templates Unfilled) → names_at bytes files ≡ Some names → contents_at bytes files ≡ Some contents
    → IfOk result (λ t. AreUnder names contents (bundle_at bytes (slice_get bundles 0)) t)
    → IfOk result (λ t. Compiles bytes files bundles t)
compiles-found bytes files bundles names contents (Ok t) is_names is_contents under =
    let it = call-found names contents (names_at bytes files) (contents_at bytes files)
    (bundle_at bytes (slice_get bundles 0)) t is_names is_contents under in
    record { call = it.0; is_call = it.1; are = it.2 }
compiles-found bytes files bundles names contents (Err u) is_names is_contents under = tt

-- such templates were compiled
pub were-compiled : (bytes : List ℕ) (files bundles : List FileParts) (templates : Templates)
    → Compiles bytes files bundles templates → WereCompiled templates
were-compiled bytes files bundles templates h = record {
  bundle = bundle_content h.call.bundle;
  compiled =
      subst (λ contents. AreCompiled contents (bundle_content h.call.bundle) templates.compiled)
      (sym h.are.contents_are) h.are.compiled;
}

-- there are as many contents as files
none_some : {A : Type 0} (y : A) → ◌≡◌ {A = Option A} None (Some y) → ⊥
none_some y e = cc

same_length : {A : Type 0} (xs ys : List A) → ◌≡◌ {A = Option (List A)} (Some xs) (Some ys) → length ys ≡ length xs
same_length xs ys same = cc

longer : {A : Type 0} (x : A) (o : Option (List A)) (ys : List A) (n : ℕ)
    → ((zs : List A) → o ≡ Some zs → length zs ≡ n) → option_map (λ rest. x ∷ rest) o ≡ Some ys → length ys ≡ suc n
longer x None ys n each is = absurd (none_some ys is)
longer x (Some zs) ys n each is = same_length (x ∷ zs) ys is ∙ ap suc (each zs refl)

all-length : {A : Type 0} (xs : List (Option A)) (ys : List A) → all_of xs ≡ Some ys → length ys ≡ length xs
all-length [] ys is = same_length [] ys is
all-length (None ∷ xs) ys is = absurd (none_some ys is)
all-length (Some x ∷ xs) ys is = longer x (all_of xs) ys (length xs) (λ zs e. all-length xs zs e) is

pub few-sources : (bytes : List ℕ) (files : List FileParts) (sources : List Source) → length files ≤ 64
    → contents_at bytes files ≡ Some (view_contents sources) → length sources ≤ 64
few-sources bytes files sources few is =
    omega (
      arith,
      few,
      all-length (map (λ file. part_bytes bytes file.content) files) (view_contents sources) is,
      length-map sources (λ s. s.bytes),
      length-map files (λ file. part_bytes bytes file.content),
    )

-- what is accepted is answered so, and so is the first fault, with what goes with it
pub front-done : (names : List Word) (contents : List (List ℕ)) (bundle : Word) (detail : Detail)
    (r : Result Front FrontFault) (of : Front) → r ≡ Ok of → front_reply names contents bundle detail r ≡ bare 0
front-done names contents bundle detail r of is = ap (front_reply names contents bundle detail) is

pub front-refused : (names : List Word) (contents : List (List ℕ)) (bundle : Word) (wanted detail : Detail)
    (r : Result Front FrontFault) (fault : FrontFault) → r ≡ Err fault → detail ≡ wanted
    → front_reply names contents bundle wanted r ≡ front_reply names contents bundle detail (Err fault)
front-refused names contents bundle wanted detail r fault is same =
    ap (front_reply names contents bundle wanted) is
    ∙ ap (λ d. front_reply names contents bundle d (Err fault)) (sym same)
