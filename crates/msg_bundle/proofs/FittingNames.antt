-- The translations of a bundle fit the messages of the files that its catalogue lists.
use Rattle.std.proofs.Common.{◌≡◌, ℕ, Bool, true, false, List, [], ◌∷◌, Option, Some, None, refl, sym, ap, ◌∙◌}
use Rattle.std.proofs.Common.{bytes_eq, subst}
use Rattle.std.specs.Prelude.{Ok}
use Rattle.std.specs.List.{list_all}
use Rattle.std.specs.Option.{option_or}
use Rattle.std.specs.Str.{chars}
use Rattle.std.proofs.lemmas.Slice.Eq.{bytes_eq-Decides}
use Rattle.serde_json.specs.Data.{Members, no_members, member}
use Rattle.soy_base.specs.declared.code.Code.TheVariants as code
use Rattle.soy_tree.specs.declared.bundle.Translation.{Translation}
use Rattle.soy_tree.specs.Formed.{AreFormed, is_formed_body, is_formed_message, is_formed_tree}
use Rattle.soy_tree.specs.MessageParts.{MsgPart, MsgParts, ExactArms, NamedArms, SelectArms, TextPart, Placeholder}
use Rattle.soy_tree.specs.MessageParts.{NumberPart, PluralPart, SelectPart, no_part, part, no_exact_arm, exact_arm}
use Rattle.soy_tree.specs.MessageParts.{no_named_arm, named_arm, no_select_arm, select_arm}
use Rattle.soy_tree.specs.Nodes.{Message, message}
use Rattle.soy_tree.specs.Trees.{Tree}
use Rattle.soy_tree.specs.ViewMessageParts.{view_parts}
use Rattle.msg_extract.specs.Catalogue.{catalogue_of, find_listed, is_same_listed, listed}
use Rattle.msg_extract.specs.Fits.{FitsMessage, FitsMessages, FitsTrees, IsTranslation, exact_fault, named_fault}
use Rattle.msg_extract.specs.Fits.{part_fault, parts_fault, select_fault, unless_among}
use Rattle.msg_extract.specs.MessageId.{id_of}
use Rattle.msg_extract.specs.MessagesIn.{tree_messages}
use Rattle.msg_extract.specs.declared.catalogue.Listed.{Listed}
use Rattle.msg_extract.specs.declared.role_names.NameKind.TheVariants as kind
use Rattle.msg_extract.proofs.JoinedTests.{and_left, and_right}
use Rattle.msg_extract.specs.Translations.{translation_of}
use Rattle.msg_bundle.specs.Translations.{AreTranslations, IsNext, Translates, text_of}
use Rattle.msg_bundle.proofs.CatalogueRows.{AreRows, HasRow, HaveRows, HaveRowsOf, catalogue_are, catalogue_has}
use Rattle.msg_bundle.proofs.CatalogueRows.{row_found}
use Rattle.msg_bundle.proofs.FormedMessages.{AllFormed, tree_formed}
use Rattle.msg_bundle.proofs.TextNames.{same_names}

-- rows of the same names refuse the same parts
module _ (l k : Listed) (p : l.placeholders ≡ k.placeholders) (q : l.plurals ≡ k.plurals) (r : l.selects ≡ k.selects)
  where
    mutual
      same_part : (x : MsgPart) → part_fault l x ≡ part_fault k x
      same_part (TextPart text) = refl
      same_part (Placeholder name) = ap (λ names. unless_among names name code.Placeholder) p
      same_part NumberPart = refl
      same_part (PluralPart ordinal name by exact named) =
          λ i. option_or (unless_among (q i) name code.Selector) (option_or (same_exact exact i) (same_named named i))
      same_part (SelectPart name arms) =
          λ i. option_or (unless_among (r i) name code.Selector) (same_select arms i)

      same_parts : (ps : MsgParts) → parts_fault l ps ≡ parts_fault k ps
      same_parts no_part = refl
      same_parts (part x ps) = λ i. option_or (same_part x i) (same_parts ps i)

      same_exact : (arms : ExactArms) → exact_fault l arms ≡ exact_fault k arms
      same_exact no_exact_arm = refl
      same_exact (exact_arm n ps arms) = λ i. option_or (same_parts ps i) (same_exact arms i)

      same_named : (arms : NamedArms) → named_fault l arms ≡ named_fault k arms
      same_named no_named_arm = refl
      same_named (named_arm category ps arms) = λ i. option_or (same_parts ps i) (same_named arms i)

      same_select : (arms : SelectArms) → select_fault l arms ≡ select_fault k arms
      same_select no_select_arm = refl
      same_select (select_arm word ps arms) = λ i. option_or (same_parts ps i) (same_select arms i)

same_text : (l k : Listed) → is_same_listed l k ≡ true → l.text ≡ k.text
same_text l k h = (bytes_eq-Decides l.text k.text).0
    (and_right (bytes_eq l.meaning k.meaning) (bytes_eq l.text k.text) h)

-- formed messages of one row refuse the same
same_fault : (m n : Message) → is_formed_message m ≡ true → is_formed_message n ≡ true
    → (listed m).text ≡ (listed n).text → (ps : MsgParts)
    → parts_fault (listed m) ps ≡ parts_fault (listed n) ps
same_fault (message desc meaning body span) (message desc' meaning' body' span') f g same ps =
    let formed : is_formed_body body ≡ true = and_left (is_formed_body body) _ f in
    let formed' : is_formed_body body' ≡ true = and_left (is_formed_body body') _ g in
    same_parts (listed (message desc meaning body span)) (listed (message desc' meaning' body' span'))
    (same_names kind.Placeholder body body' formed formed' same) (same_names kind.Plural body body' formed formed' same)
    (same_names kind.Select body body' formed formed' same) ps

-- the translation of an id is that of the row that is found under it
some_same : {A : Type 0} (a b : A) → Some a ≡ Some b → a ≡ b
some_same a b e = cc e

translates : (rows : List Listed) (ms : Members) (ts : List Translation) (id : List ℕ) (parts : MsgParts)
    (row : Listed) → AreTranslations rows ms ts → translation_of ts id ≡ Some parts → find_listed id rows ≡ Some row
    → IsTranslation row parts
translates rows no_members [] id parts row h e found = absurd (cc e)
translates rows no_members (t ∷ ts) id parts row h e found = absurd h
translates rows (member key json ms) ts id parts row h e found =
    at (λ us k f. translates rows ms us id parts row k f found) (find_listed (chars key) rows) refl ts h e
  where
    this : (s : Listed) (t : Translation) → find_listed (chars key) rows ≡ Some s → t.id ≡ chars key
        → Translates s (text_of json) (view_parts t.parts) → t.id ≡ id → (Some (view_parts t.parts)) ≡ Some parts
        → IsTranslation row parts
    this s t is key_is translation same parts_are =
        let row_is : s ≡ row = some_same s row (sym is ∙ ap (λ i. find_listed i rows) (sym key_is ∙ same) ∙ found) in
        subst (IsTranslation row) (some_same (view_parts t.parts) parts parts_are)
        (subst (λ l. IsTranslation l (view_parts t.parts)) row_is
        (record { text = text_of json; pattern = translation.pattern; names = translation.names }))

    at : ((us : List Translation) → AreTranslations rows ms us → translation_of us id ≡ Some parts
        → IsTranslation row parts) → (o : Option Listed) → find_listed (chars key) rows ≡ o → (us : List Translation)
        → IsNext o key (text_of json) (AreTranslations rows ms) us → translation_of us id ≡ Some parts
        → IsTranslation row parts
    at more None is us k f = more us k f
    at more (Some s) is [] k f = absurd k
    at more (Some s) is (t ∷ us) k f = by (bytes_eq t.id id) refl
      where
        by : (b : Bool) → bytes_eq t.id id ≡ b → IsTranslation row parts
        by true d = this s t is k.0.0 k.0.1 ((bytes_eq-Decides t.id id).0 d) (rw d at f)
        by false d = more us k.1 (rw d at f)

-- ---- messages and files

module _ (rows : List Listed) (are : AreRows rows) (ms : Members) (ts : List Translation)
    (translations : AreTranslations rows ms ts) where
  same_id : (m : Message) → id_of m ≡ (listed m).id
  same_id (message desc meaning body span) = refl

  one_fits : (m : Message) → is_formed_message m ≡ true → HasRow rows m → FitsMessage m (translation_of ts (id_of m))
  one_fits m f has = at (translation_of ts (id_of m)) refl
    where
      at : (o : Option MsgParts) → translation_of ts (id_of m) ≡ o → FitsMessage m o
      at None e = tt
      at (Some parts) e =
          let found = ap (λ id. find_listed id rows) (same_id m) ∙ has.1 in
          let given = translates rows ms ts (id_of m) parts has.0 translations e found in
          let of = row_found (id_of m) rows has.0 are found in
          let same : (listed m).text ≡ (listed of.0).text =
          sym (same_text has.0 (listed m) has.2) ∙ ap (λ l. l.text) of.2 in
          record {
            text = given.text;
            pattern = given.pattern;
            names = same_fault m of.0 f of.1 same parts ∙ (ap (λ l. parts_fault l parts) (sym of.2) ∙ given.names);
          }

  all_fit : (us : List Message) → AllFormed us → HaveRows rows us → FitsMessages (translation_of ts) us
  all_fit [] f has = tt
  all_fit (m ∷ us) f has = (one_fits m f.0 has.0, all_fit us f.1 has.1)

  files_fit : (trees : List Tree) → list_all is_formed_tree trees ≡ true → HaveRowsOf rows trees
      → FitsTrees (translation_of ts) trees
  files_fit [] f has = tt
  files_fit (tree ∷ trees) f has = (
    all_fit (tree_messages tree)
        (tree_formed tree (and_left (is_formed_tree tree) (list_all is_formed_tree trees) f)) has.0,
    files_fit trees (and_right (is_formed_tree tree) (list_all is_formed_tree trees) f) has.1,
  )

pub bundle_fits : (rows : List Listed) (ms : Members) (ts : List Translation) (trees : List Tree)
    → AreTranslations rows ms ts → catalogue_of trees ≡ Ok rows → AreFormed trees
    → FitsTrees (translation_of ts) trees
bundle_fits rows ms ts trees translations is formed =
    files_fit rows (catalogue_are trees rows is formed) ms ts translations trees formed (catalogue_has trees rows is)
