-- A plain body has the pieces that its characters make.
use Rattle.std.proofs.Common.{◌≡◌, ℕ, Bool, true, false, not, ◌&&◌, ◌||◌, ◌==◌, List, [], ◌∷◌, ◌++◌, Some, map}
use Rattle.std.proofs.Common.{option_map, refl, sym, ap, ◌∙◌, arith}
use Rattle.std.specs.Prelude.{if◌then◌else◌}
use Rattle.std.specs.List.{list_all}
use Rattle.std.proofs.lemmas.Bool.Decides.{nat_tests}
use Rattle.std.proofs.lemmas.List as lists
use Rattle.std.proofs.lemmas.List.Folds.{list_all-append}
use Rattle.soy_base.specs.Among.{lacks}
use Rattle.soy_base.specs.Characters.{left_brace, less_than, number_sign, right_brace, single_quote}
use Rattle.soy_base.specs.Cuts.{is_nil}
use Rattle.soy_base.specs.declared.fault.Span.{Span}
use Rattle.soy_tree.specs.Nodes.{Nodes, TextNode, Print, If, Switch, For, Let, LetBlock, Call, MessageNode, no_node}
use Rattle.soy_tree.specs.Nodes.{node}
use Rattle.soy_tree.specs.MessageText.{MessageItem, Character, Printed, Cut, PrintCut, characters}
use Rattle.soy_tree.specs.MessageText.{cuts_after_text, cuts_of, joined_items, message_items, text_cut}
use Rattle.msg_extract.specs.Canonical.CanonicalText.{is_special, text_of_items, written_run, written_text}
use Rattle.msg_extract.specs.Canonical.Pieces.{Piece, TextPiece, cut_pieces, found_pieces, one_cut_pieces}
use Rattle.msg_extract.specs.PlainPieces.{are_plain, begun_pieces, is_plain_character, is_plain_text}
use Rattle.msg_extract.specs.PlainPieces.{plain_pieces, print_pieces}
use Rattle.msg_extract.proofs.JoinedTests.{and_both, and_left, and_right}
use Rattle.msg_extract.proofs.Texts.PieceLists.{append_assoc}

-- ---- characters

and_false : (b : Bool) → (b && false) ≡ false
and_false true = refl
and_false false = refl

same_as : (d : ℕ) → (d == d) ≡ true
same_as d = grind (arith, nat_tests)

-- a text that has the character
pub has_one : (d : ℕ) (before rest : List ℕ) → lacks (d ∷ []) (before ++ d ∷ rest) ≡ false
has_one d [] rest = rw (same_as d) refl
has_one d (c ∷ cs) rest =
    ap (λ t. not ((c == d) || false) && t) (has_one d cs rest) ∙ and_false (not ((c == d) || false))

alone : (b : Bool) → not (b || false) ≡ true → b ≡ false
alone true e = absurd (cc e)
alone false e = refl

lacks_first : (d c : ℕ) (cs : List ℕ) → lacks (d ∷ []) (c ∷ cs) ≡ true → (c == d) ≡ false
lacks_first d c cs h = alone (c == d) (and_left (not ((c == d) || false)) (lacks (d ∷ []) cs) h)

lacks_rest : (d c : ℕ) (cs : List ℕ) → lacks (d ∷ []) (c ∷ cs) ≡ true → lacks (d ∷ []) cs ≡ true
lacks_rest d c cs h = and_right (not ((c == d) || false)) (lacks (d ∷ []) cs) h

plain_character : (flag : Bool) (c : ℕ) → (c == less_than) ≡ false → (c == single_quote) ≡ false
    → (c == left_brace) ≡ false → (c == right_brace) ≡ false → (flag ≡ true → (c == number_sign) ≡ false)
    → is_plain_character flag c ≡ true
plain_character true c t q l r n = rw (t, q, l, r, n refl) refl
plain_character false c t q l r n = rw (t, q, l, r) refl

plain_all : (flag : Bool) (cs : List ℕ) → lacks (less_than ∷ []) cs ≡ true → lacks (single_quote ∷ []) cs ≡ true
    → lacks (left_brace ∷ []) cs ≡ true → lacks (right_brace ∷ []) cs ≡ true
    → (flag ≡ true → lacks (number_sign ∷ []) cs ≡ true) → list_all (is_plain_character flag) cs ≡ true
plain_all flag [] t q l r n = refl
plain_all flag (c ∷ cs) t q l r n =
    and_both (is_plain_character flag c) (list_all (is_plain_character flag) cs)
    (plain_character flag c (lacks_first less_than c cs t) (lacks_first single_quote c cs q)
    (lacks_first left_brace c cs l) (lacks_first right_brace c cs r) (λ e. lacks_first number_sign c cs (n e)))
    (plain_all flag cs (lacks_rest less_than c cs t) (lacks_rest single_quote c cs q) (lacks_rest left_brace c cs l)
    (lacks_rest right_brace c cs r) (λ e. lacks_rest number_sign c cs (n e)))

or_given : (flag b : Bool) → (not flag || b) ≡ true → flag ≡ true → b ≡ true
or_given true b h e = h
or_given false b h e = absurd (cc e)

-- the characters of a plain text
plain_characters : (flag : Bool) (cs : List ℕ) → is_plain_text flag cs ≡ true
    → list_all (is_plain_character flag) cs ≡ true
plain_characters flag cs h =
    let t : Bool = lacks (less_than ∷ []) cs in
    let q : Bool = lacks (single_quote ∷ []) cs in
    let l : Bool = lacks (left_brace ∷ []) cs in
    let r : Bool = lacks (right_brace ∷ []) cs in
    let n : Bool = not flag || lacks (number_sign ∷ []) cs in
    let h2 : (q && (l && (r && n))) ≡ true = and_right t (q && (l && (r && n))) h in
    let h3 : (l && (r && n)) ≡ true = and_right q (l && (r && n)) h2 in
    let h4 : (r && n) ≡ true = and_right l (r && n) h3 in
    plain_all flag cs (and_left t (q && (l && (r && n))) h) (and_left q (l && (r && n)) h2) (and_left l (r && n) h3)
    (and_left r n h4) (or_given flag (lacks (number_sign ∷ []) cs) (and_right r n h4))

neither : (x y z : Bool) → not (x || y || z) ≡ true → (x ≡ false) × (y ≡ false) × (z ≡ false)
neither false false false e = (refl, refl, refl)
neither true y z e = absurd (cc e)
neither false true z e = absurd (cc e)
neither false false true e = absurd (cc e)

-- ---- texts

-- a plain text is written as it stands
plain_written : (flag : Bool) (cs : List ℕ) → list_all (is_plain_character flag) cs ≡ true → written_text flag cs ≡ cs
plain_written flag [] h = refl
plain_written flag (c ∷ cs) h =
    let here = neither (c == less_than) (c == single_quote) (is_special flag c)
    (and_left (is_plain_character flag c) (list_all (is_plain_character flag) cs) h) in
    either (is_special flag c) (c == single_quote) here.2 here.1
    ∙ ap (λ t. c ∷ t) (plain_written flag cs
    (and_right (is_plain_character flag c) (list_all (is_plain_character flag) cs) h))
  where
    either : (special quote : Bool) → special ≡ false → quote ≡ false
        → (if special then single_quote ∷ (c ∷ written_run flag cs)
        else (if quote then single_quote ∷ (single_quote ∷ written_text flag cs) else c ∷ written_text flag cs))
        ≡ c ∷ written_text flag cs
    either true quote e f = absurd (cc e)
    either false true e f = absurd (cc f)
    either false false e f = refl

-- characters with the spans of their nodes
abbrev as_items : List (ℕ × Span) → List MessageItem
as_items = map (λ p. Character p.0 p.1)

abbrev as_text : List (ℕ × Span) → List ℕ
as_text = map (λ p. p.0)

abbrev with_span : Span → List ℕ → List (ℕ × Span)
with_span span = map (λ c. (c, span))

span_items : (span : Span) (cs : List ℕ) → as_items (with_span span cs) ≡ characters cs span
span_items span [] = refl
span_items span (c ∷ cs) = ap (λ ps. Character c span ∷ ps) (span_items span cs)

span_text : (span : Span) (cs : List ℕ) → as_text (with_span span cs) ≡ cs
span_text span [] = refl
span_text span (c ∷ cs) = ap (λ t. c ∷ t) (span_text span cs)

items_text : (ps : List (ℕ × Span)) → text_of_items (as_items ps) ≡ as_text ps
items_text [] = refl
items_text (p ∷ ps) = ap (λ t. p.0 ∷ t) (items_text ps)

-- the text that has begun
begun_cut : (flag : Bool) (ps : List (ℕ × Span)) → list_all (is_plain_character flag) (as_text ps) ≡ true
    → cut_pieces flag (text_cut (as_items ps)) ≡ begun_pieces (as_text ps)
begun_cut flag [] h = refl
begun_cut flag (p ∷ ps) h =
    ap (λ t. TextPiece t ∷ []) (ap (written_text flag) (items_text (p ∷ ps)) ∙ plain_written flag (as_text (p ∷ ps)) h)

pub begun_none : (text : List ℕ) → is_nil text ≡ true → begun_pieces text ≡ []
begun_none [] e = refl
begun_none (c ∷ cs) e = absurd (cc e)

pub begun_some : (text : List ℕ) → is_nil text ≡ false → begun_pieces text ≡ TextPiece text ∷ []
begun_some [] e = absurd (cc e)
begun_some (c ∷ cs) e = refl

-- ---- cuts

pieces_join : (flag : Bool) (cuts more : List Cut)
    → cut_pieces flag (cuts ++ more) ≡ cut_pieces flag cuts ++ cut_pieces flag more
pieces_join flag [] more = refl
pieces_join flag (cut ∷ cuts) more =
    ap (λ ps. one_cut_pieces flag cut ++ ps) (pieces_join flag cuts more)
    ∙ sym (append_assoc (one_cut_pieces flag cut) (cut_pieces flag cuts) (cut_pieces flag more))

-- no tag begins in a plain text
text_passed : (flag : Bool) (cs : List ℕ) (span : Span) (rest text : List MessageItem)
    → list_all (is_plain_character flag) cs ≡ true
    → cuts_after_text (characters cs span ++ rest) text ≡ cuts_after_text rest (text ++ characters cs span)
text_passed flag [] span rest text h = ap (cuts_after_text rest) (sym (lists.append-nil text))
text_passed flag (c ∷ cs) span rest text h =
    let here = neither (c == less_than) (c == single_quote) (is_special flag c)
    (and_left (is_plain_character flag c) (list_all (is_plain_character flag) cs) h) in
    rw here.0 (text_passed flag cs span rest (text ++ Character c span ∷ [])
    (and_right (is_plain_character flag c) (list_all (is_plain_character flag) cs) h)
    ∙ ap (cuts_after_text rest) (append_assoc text (Character c span ∷ []) (characters cs span)))

record HasCuts (flag : Bool) (items text : List MessageItem) (pieces : List Piece) : Type 0 where
  pub cuts : List Cut
  pub are : cuts_after_text items text ≡ Some cuts
  pub same : cut_pieces flag cuts ≡ pieces

record HasItems (flag : Bool) (ns : Nodes) (text : List MessageItem) (pieces : List Piece) : Type 0 where
  pub items : List MessageItem
  pub are : message_items ns ≡ Some items
  pub cut : HasCuts flag items text pieces

-- a plain body behind a text that has begun
plain_has : (flag : Bool) (ns : Nodes) (ps : List (ℕ × Span)) → are_plain flag ns ≡ true
    → list_all (is_plain_character flag) (as_text ps) ≡ true
    → HasItems flag ns (as_items ps) (plain_pieces (as_text ps) ns)
plain_has flag no_node ps h k = record {
  items = [];
  are = refl;
  cut = record { cuts = text_cut (as_items ps); are = refl; same = begun_cut flag ps k };
}
plain_has flag (node (TextNode cs span) ns) ps h k =
    let plain : list_all (is_plain_character flag) cs ≡ true =
    plain_characters flag cs (and_left (is_plain_text flag cs) (are_plain flag ns) h) in
    let more : List (ℕ × Span) = ps ++ with_span span cs in
    let text : as_text more ≡ as_text ps ++ cs =
    lists.map-append (λ p. p.0) ps (with_span span cs) ∙ ap (λ t. as_text ps ++ t) (span_text span cs) in
    let begun : as_items more ≡ as_items ps ++ characters cs span =
    lists.map-append (λ p. Character p.0 p.1) ps (with_span span cs)
    ∙ ap (λ t. as_items ps ++ t) (span_items span cs) in
    let all : list_all (is_plain_character flag) (as_text more) ≡ true =
    ap (list_all (is_plain_character flag)) text ∙ (list_all-append (is_plain_character flag) (as_text ps) cs
    ∙ and_both (list_all (is_plain_character flag) (as_text ps)) (list_all (is_plain_character flag) cs) k plain) in
    let rest : HasItems flag ns (as_items more) (plain_pieces (as_text more) ns) =
    plain_has flag ns more (and_right (is_plain_text flag cs) (are_plain flag ns) h) all in
    record {
      items = characters cs span ++ rest.items;
      are = ap (joined_items (Some (characters cs span))) rest.are;
      cut = record {
        cuts = rest.cut.cuts;
        are =
            text_passed flag cs span rest.items (as_items ps) plain
            ∙ (ap (cuts_after_text rest.items) (sym begun) ∙ rest.cut.are);
        same = rest.cut.same ∙ ap (λ t. plain_pieces t ns) text;
      };
    }
plain_has flag (node (Print e phname span) ns) ps h k =
    let rest : HasItems flag ns [] (plain_pieces [] ns) = plain_has flag ns [] h refl in
    record {
      items = Printed e phname span ∷ rest.items;
      are = ap (joined_items (Some (Printed e phname span ∷ []))) rest.are;
      cut = record {
        cuts = text_cut (as_items ps) ++ PrintCut e phname span ∷ rest.cut.cuts;
        are = ap (option_map (λ cuts. text_cut (as_items ps) ++ PrintCut e phname span ∷ cuts)) rest.cut.are;
        same =
            pieces_join flag (text_cut (as_items ps)) (PrintCut e phname span ∷ rest.cut.cuts)
            ∙ (ap (λ qs. qs ++ (print_pieces e phname span ++ cut_pieces flag rest.cut.cuts)) (begun_cut flag ps k)
            ∙ (ap (λ qs. begun_pieces (as_text ps) ++ (print_pieces e phname span ++ qs)) rest.cut.same
            ∙ sym (append_assoc (begun_pieces (as_text ps)) (print_pieces e phname span) (plain_pieces [] ns))));
      };
    }
plain_has flag (node (If arms other span) ns) ps h k = absurd (cc h)
plain_has flag (node (Switch e cases other span) ns) ps h k = absurd (cc h)
plain_has flag (node (For x index e body span) ns) ps h k = absurd (cc h)
plain_has flag (node (Let x e span) ns) ps h k = absurd (cc h)
plain_has flag (node (LetBlock x kind body span) ns) ps h k = absurd (cc h)
plain_has flag (node (Call name all given span) ns) ps h k = absurd (cc h)
plain_has flag (node (MessageNode m other span) ns) ps h k = absurd (cc h)

pub plain_are : (flag : Bool) (ns : Nodes) → are_plain flag ns ≡ true
    → found_pieces flag (cuts_of (message_items ns)) ≡ plain_pieces [] ns
plain_are flag ns h =
    let has : HasItems flag ns [] (plain_pieces [] ns) = plain_has flag ns [] h refl in
    ap (λ items. found_pieces flag (cuts_of items)) has.are ∙ (ap (found_pieces flag) has.cut.are ∙ has.cut.same)
