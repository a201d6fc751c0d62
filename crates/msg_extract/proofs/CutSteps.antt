-- The cuts so far, before those to come.
use Rattle.std.proofs.Common.{◌≡◌, List, [], ◌∷◌, ◌++◌, map, Option, Some, None, option_map, refl, ap, ◌∙◌}
use Rattle.std.proofs.Common.{append_assoc}
use Rattle.std.proofs.lemmas.List.{map-append}
use Rattle.soy_tree.specs.MessageText.{Cut}
use Rattle.msg_extract.specs.Views.ViewCutter.{cuts_before}

pub map_append : {A B : Type 0} (f : A → B) (xs ys : List A) → map f (xs ++ ys) ≡ map f xs ++ map f ys
map_append f xs ys = map-append f xs ys

-- before the first cut there are none
pub none_before : (others : Option (List Cut)) → cuts_before [] others ≡ others
none_before None = refl
none_before (Some cuts) = refl

pub print_after_text : (done text : List Cut) (p : Cut) (others : Option (List Cut))
    → cuts_before ((done ++ text) ++ (p ∷ [])) others
    ≡ cuts_before done (option_map (λ cuts. text ++ p ∷ cuts) others)
print_after_text done text p None = refl
print_after_text done text p (Some cuts) = ap Some (append_assoc (done ++ text) (p ∷ []) cuts
    ∙ append_assoc done text (p ∷ cuts))

pub tag_after_text : (done text : List Cut) (others : Option (List Cut))
    → cuts_before (done ++ text) others ≡ cuts_before done (option_map (λ cuts. text ++ cuts) others)
tag_after_text done text None = refl
tag_after_text done text (Some cuts) = ap Some (append_assoc done text cuts)

pub tag_ends : (done : List Cut) (p : Cut) (others : Option (List Cut))
    → cuts_before (done ++ (p ∷ [])) others ≡ cuts_before done (option_map (λ cuts. p ∷ cuts) others)
tag_ends done p None = refl
tag_ends done p (Some cuts) = ap Some (append_assoc done (p ∷ []) cuts)
