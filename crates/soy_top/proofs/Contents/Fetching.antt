-- What the fetches of the files that are wanted say of the files that are held.
use Rattle.std.proofs.Common.{◌≡◌, ℕ, ◌<◌, ◌≤◌, Bool, true, false, cond, List, [], ◌∷◌, ◌++◌, Option, Some, None}
use Rattle.std.proofs.Common.{Result, Ok, Err, length, drop, refl, sym, ap, subst, ◌∙◌, arith, append_assoc, append-nil}
use Rattle.std.proofs.Common.{nat_lt, get_or, add-one, ◌+◌, Vec, inl, inr, ◌⊎◌}
use Rattle.std.specs.Prelude.{IfSome, Contains, unwrap_or}
use Rattle.std.specs.Option.{option_or}
use Rattle.std.specs.declared.alloc.Global.{Global}
use Rattle.std.proofs.Math.ListN.{drop_of_length-le}
use Rattle.std.proofs.Math.Seq.{drop-cons}
use Rattle.std.proofs.lemmas.List.{get_or-map, length-map}
use Rattle.soy_front.specs.declared.source.Source.{Source}
use Rattle.soy_io.specs.Rose.{Rose}
use Rattle.std.proofs.lemmas.Bool.{lt-ltb, ltb-true}
use Rattle.soy_io.specs.Fetches.{HasNoFile}
use Rattle.soy_io.specs.FileOf.{Files, file_of}
use Rattle.soy_top.specs.declared.ending.Ending.{Ending}
use Rattle.soy_top.specs.declared.ending.Ending.TheVariants as ending
use Rattle.soy_top.specs.declared.wanted.FileWanted as code
use Rattle.soy_top.specs.Fetched.{SoFar, next_fetched, AreContents, IsNotHeld, FetchesFile, FetchesAll, FetchedContents}
use Rattle.soy_top.specs.View.{view_file, view_files}
use Rattle.soy_front.specs.ViewSources.{view_contents}
use Rattle.soy_top.specs.FilesWanted.{FileWanted, file_names, known_files, first_not_held, first_over_limit, content}
use Rattle.soy_top.specs.FilesWanted.{contents}
use Rattle.soy_top.specs.Words.{Word}

-- the files before `rest` are held; the first over its limit is the one so far or the first of the rest; and where
-- there is none so far, the contents of all are those so far and those of the rest
pub record AreSoFar (files : Files) (wanted rest : List FileWanted) (so_far : SoFar) : Type 0 where
  pub held : first_not_held files wanted ≡ first_not_held files rest
  pub over : first_over_limit files wanted ≡ option_or so_far.too_large (first_over_limit files rest)
  pub same : so_far.too_large ≡ None → contents files wanted ≡ so_far.contents ++ contents files rest

abbrev pub FetchedSoFar : Option Files → List FileWanted → List FileWanted → SoFar → Type 0
FetchedSoFar known wanted rest so_far = IfSome known (λ files. AreSoFar files wanted rest so_far)

-- at first nothing was fetched
pub fetched-none : (known : Option Files) (wanted : List FileWanted)
    → FetchedSoFar known wanted wanted (record { contents = []; too_large = None })
fetched-none None wanted = tt
fetched-none (Some files) wanted = record { held = refl; over = refl; same = λ none. refl }

not_held-next : (files : Files) (file : FileWanted) (rest : List FileWanted) (bytes : List ℕ)
    → file_of files file.name ≡ Some bytes → first_not_held files (file ∷ rest) ≡ first_not_held files rest
not_held-next files file rest bytes found = rw found refl

over-by : (found : List ℕ) (bytes : List ℕ) (file : FileWanted) (rest : Option Word) (b : Bool) → found ≡ bytes
    → nat_lt file.limit (length bytes) ≡ b
    → cond (nat_lt file.limit (length found)) (Some file.name) rest ≡ cond b (Some file.name) rest
over-by found bytes file rest b same e = rw same (rw e refl)

content-found : (files : Files) (file : FileWanted) (bytes : List ℕ) → file_of files file.name ≡ Some bytes
    → content files file ≡ bytes
content-found files file bytes found = ap (λ o. unwrap_or o []) found

within-lt : (limit n : ℕ) (b : Bool) → nat_lt limit n ≡ b → n ≤ limit → nat_lt limit n ≡ false
within-lt limit n true e h = let more : limit < n = ltb-true _ _ e in absurd (omega (arith, more, h))
within-lt limit n false e h = e

over-within : (files : Files) (file : FileWanted) (rest : List FileWanted) (bytes : List ℕ)
    → file_of files file.name ≡ Some bytes → length bytes ≤ file.limit
    → first_over_limit files (file ∷ rest) ≡ first_over_limit files rest
over-within files file rest bytes found within =
    over-by (content files file) bytes file (first_over_limit files rest) false (content-found files file bytes found)
    (within-lt _ _ _ refl within)

over-past : (files : Files) (file : FileWanted) (rest : List FileWanted) (bytes : List ℕ)
    → file_of files file.name ≡ Some bytes → file.limit < length bytes
    → first_over_limit files (file ∷ rest) ≡ Some file.name
over-past files file rest bytes found past =
    over-by (content files file) bytes file (first_over_limit files rest) true (content-found files file bytes found)
    (lt-ltb _ _ past)

option_or-again : (so_far : Option Word) (name : Word) (rest : Option Word)
    → option_or so_far (Some name) ≡ option_or (option_or so_far (Some name)) rest
option_or-again None name rest = refl
option_or-again (Some x) name rest = refl

no_or : (so_far : Option Word) (name : Word) → option_or so_far (Some name) ≡ None → ⊥
no_or None name e = cc
no_or (Some x) name e = cc

next-held : (files : Files) (wanted rest : List FileWanted) (file : FileWanted) (so_far : SoFar) (faults : ℕ × ℕ)
    (bytes : Option (Vec ℕ Global)) → AreSoFar files wanted (file ∷ rest) so_far
    → FetchesFile (Some files) file faults (Ok bytes) → AreSoFar files wanted rest (next_fetched so_far file.name bytes)
next-held files wanted rest file so_far faults (Some bytes) far one = record {
  held = far.held ∙ not_held-next files file rest bytes.items one.0;
  over = far.over ∙ ap (option_or so_far.too_large) (over-within files file rest bytes.items one.0 one.1);
  same = λ none.
      far.same none ∙ (ap (λ b. so_far.contents ++ (b ∷ contents files rest))
      (content-found files file bytes.items one.0)
      ∙ sym (append_assoc so_far.contents (bytes.items ∷ []) (contents files rest)));
}
next-held files wanted rest file so_far faults None far one = record {
  held = far.held ∙ not_held-next files file rest one.0 one.1;
  over = far.over ∙ (ap (option_or so_far.too_large) (over-past files file rest one.0 one.1 one.2)
      ∙ option_or-again so_far.too_large file.name (first_over_limit files rest));
  same = λ none. absurd (no_or so_far.too_large file.name none);
}

fetched-next : (held : Option Files) (wanted rest : List FileWanted) (file : FileWanted) (so_far : SoFar)
    (faults : ℕ × ℕ) (bytes : Option (Vec ℕ Global))
    → FetchedSoFar (known_files held wanted) wanted (file ∷ rest) so_far → FetchesFile held file faults (Ok bytes)
    → 0 < length wanted → FetchedSoFar (known_files held wanted) wanted rest (next_fetched so_far file.name bytes)
fetched-next (Some files) wanted rest file so_far faults bytes far one some =
    next-held files wanted rest file so_far faults bytes far one
fetched-next None [] rest file so_far faults bytes far one some = absurd (omega (arith, some))
fetched-next None (w ∷ ws) rest file so_far faults bytes far one some = tt

-- the files from one on are that file and those from the next on
view_files-drop : (wanted : List code.FileWanted) (i : ℕ) (d : code.FileWanted) → i < length wanted
    → view_files (drop i wanted) ≡ view_file (get_or wanted i d) ∷ view_files (drop (i + 1) wanted)
view_files-drop wanted i d within =
    ap view_files (drop-cons wanted i d within) ∙ ap (λ k. view_file (get_or wanted i d) ∷ view_files (drop k wanted))
    (sym (add-one i))

some_wanted : (wanted : List code.FileWanted) (i : ℕ) → i < length wanted → 0 < length (view_files wanted)
some_wanted [] i within = absurd (omega (arith, within))
some_wanted (w ∷ ws) i within = omega arith

-- a file that is wanted is one of the names
named : (wanted : List code.FileWanted) (i : ℕ) (d : code.FileWanted) → i < length wanted
    → Contains (file_names (view_files wanted)) (get_or wanted i d).name.now
named wanted i d within =
    let seen : i < length (view_files wanted) = rw (length-map wanted view_file) within in (
      i,
      rw (length-map (view_files wanted) (λ (file : FileWanted). file.name)) seen,
      get_or-map
          (λ (file : FileWanted). file.name) (view_files wanted) i (view_file d) _ seen
          ∙ ap (λ (file : FileWanted). file.name) (get_or-map view_file wanted i d (view_file d) within),
    )

-- where no file is wanted, none is fetched
pub none_wanted : (wanted : List code.FileWanted) (i : ℕ) → i < length wanted → view_files wanted ≡ [] → ⊥
none_wanted [] i within none = omega (arith, within)
none_wanted (w ∷ ws) i within none = cc

-- one more file was fetched
pub fetched-step : (held now_held : Option Files) (wanted : List code.FileWanted) (i : ℕ) (d : code.FileWanted)
    (so_far next : SoFar) (faults : ℕ × ℕ) (bytes : Option (Vec ℕ Global)) → i < length wanted
    → FetchedSoFar (known_files held (view_files wanted)) (view_files wanted) (view_files (drop i wanted)) so_far
    → FetchesFile now_held (view_file (get_or wanted i d)) faults (Ok bytes) → now_held ≡ held
    → next ≡ next_fetched so_far (get_or wanted i d).name.now bytes
    → FetchedSoFar (known_files held (view_files wanted)) (view_files wanted) (view_files (drop (i + 1) wanted)) next
fetched-step held now_held wanted i d so_far next faults bytes within far one still same =
    let file : FileWanted = view_file (get_or wanted i d) in
    let rest : List FileWanted = view_files (drop (i + 1) wanted) in
    let here : FetchedSoFar (known_files held (view_files wanted)) (view_files wanted) (file ∷ rest) so_far =
    rw (view_files-drop wanted i d within) at far in
    rw same (fetched-next held (view_files wanted) rest file so_far faults bytes here
    (subst (λ h. FetchesFile h file faults (Ok bytes)) still one) (some_wanted wanted i within))

-- a rise since then is a rise since before
rose-before : (first before now : ℕ) → first ≤ before → Rose before now → Rose first now
rose-before first before now later rose = omega (arith, later, rose)

not_held-first : (files : Files) (wanted rest : List FileWanted) (file : FileWanted)
    → first_not_held files wanted ≡ first_not_held files (file ∷ rest) → file_of files file.name ≡ None
    → first_not_held files wanted ≡ Some file.name
not_held-first files wanted rest file far none = far ∙ rw none refl

is_not_held : (held : Option Files) (wanted rest : List FileWanted) (file : FileWanted) (so_far : SoFar)
    → FetchedSoFar (known_files held wanted) wanted (file ∷ rest) so_far → HasNoFile held file.name
    → IsNotHeld (known_files held wanted) wanted file.name
is_not_held None wanted rest file so_far far none = absurd none
is_not_held (Some files) wanted rest file so_far far none = not_held-first files wanted rest file far.held none

read_ground : (held : Option Files) (wanted rest : List FileWanted) (file : FileWanted) (so_far : SoFar)
    (first before now : ℕ) → first ≤ before → FetchedSoFar (known_files held wanted) wanted (file ∷ rest) so_far
    → Rose before now ⊎ HasNoFile held file.name → Rose first now ⊎ IsNotHeld (known_files held wanted) wanted file.name
read_ground held wanted rest file so_far first before now later far (inl rose) =
    inl (rose-before first before now later rose)
read_ground held wanted rest file so_far first before now later far (inr none) =
    inr (is_not_held held wanted rest file so_far far none)

-- a fetch of one file that ends the run ends the fetch of all
pub fetch-stops : (held now_held : Option Files) (wanted : List code.FileWanted) (i : ℕ) (d : code.FileWanted)
    (so_far : SoFar) (first before now : ℕ) (e : Ending) → i < length wanted → first ≤ before
    → FetchedSoFar (known_files held (view_files wanted)) (view_files wanted) (view_files (drop i wanted)) so_far
    → FetchesFile now_held (view_file (get_or wanted i d)) (before, now) (Err e) → now_held ≡ held
    → FetchesAll (known_files held (view_files wanted)) (view_files wanted) (first, now) (Err e)
fetch-stops held now_held wanted i d so_far first before now ending.Usage within later far one still = absurd one
fetch-stops held now_held wanted i d so_far first before now (ending.Read line) within later far one still =
    let file : code.FileWanted = get_or wanted i d in
    let rest : List FileWanted = view_files (drop (i + 1) wanted) in
    let here : FetchedSoFar (known_files held (view_files wanted)) (view_files wanted) (view_file file ∷ rest)
    so_far = rw (view_files-drop wanted i d within) at far in
    let cause : Rose before now ⊎ HasNoFile held file.name.now =
    subst (λ h. Rose before now ⊎ HasNoFile h file.name.now) still one.0 in (
      file.name.now,
      named wanted i d within,
      read_ground held (view_files wanted) rest (view_file file) so_far first
          before now later here cause,
      one.1,
    )
fetch-stops held now_held wanted i d so_far first before now (ending.Refused line) within later far one still =
    absurd one
fetch-stops held now_held wanted i d so_far first before now ending.Memory within later far one still = tt

are_contents : (files : Files) (wanted : List FileWanted) (so_far : SoFar) (fetched : List (List ℕ))
    → AreSoFar files wanted [] so_far → so_far.too_large ≡ None → fetched ≡ so_far.contents
    → AreContents files wanted fetched
are_contents files wanted so_far fetched far none same = record {
  all_held = far.held;
  all_within = far.over ∙ ap (λ o. option_or o None) none;
  same = same ∙ (sym (append-nil so_far.contents) ∙ sym (far.same none));
}

fetched-to-end : (known : Option Files) (wanted : List FileWanted) (so_far : SoFar) (faults : ℕ × ℕ)
    (result : Result (Vec Source Global) Ending) → FetchedSoFar known wanted [] so_far
    → FetchedContents so_far result → FetchesAll known wanted faults result
fetched-to-end None wanted so_far faults (Ok fetched) far h = tt
fetched-to-end (Some files) wanted so_far faults (Ok fetched) far h =
    are_contents files wanted so_far (view_contents fetched.items) far h.0 h.1
fetched-to-end known wanted so_far faults (Err ending.Usage) far h = absurd h
fetched-to-end known wanted so_far faults (Err (ending.Read line)) far h = absurd h
fetched-to-end None wanted so_far faults (Err (ending.Refused line)) far h = (h.0, tt, h.2)
fetched-to-end (Some files) wanted so_far faults (Err (ending.Refused line)) far h =
    (h.0, (far.held, far.over ∙ ap (λ o. option_or o None) h.1), h.2)
fetched-to-end known wanted so_far faults (Err ending.Memory) far h = tt

-- all files were fetched
pub fetched-all : (known : Option Files) (wanted : List code.FileWanted) (i : ℕ) (so_far : SoFar) (faults : ℕ × ℕ)
    (result : Result (Vec Source Global) Ending) → length wanted ≤ i
    → FetchedSoFar known (view_files wanted) (view_files (drop i wanted)) so_far → FetchedContents so_far result
    → FetchesAll known (view_files wanted) faults result
fetched-all known wanted i so_far faults result past far h =
    fetched-to-end known (view_files wanted) so_far faults result
    (subst (λ rest. FetchedSoFar known (view_files wanted) (view_files rest) so_far)
    (drop_of_length-le wanted past) far) h
