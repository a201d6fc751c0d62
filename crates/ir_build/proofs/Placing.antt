-- The ops of the texts and prints that stand for a placeholder, and the expression of a selector.
use Rattle.std.proofs.Common.{◌≡◌, ℕ, ◌+◌, ◌<◌, Bool, true, false, ◌&&◌, List, [], ◌∷◌, ◌++◌, Option, Some}
use Rattle.std.proofs.Common.{None, drop, length, slice_index_or, refl, sym, ap, subst, ◌∙◌, arith}
use Rattle.std.specs.Prelude.{if◌then◌else◌, bytes_eq}
use Rattle.std.specs.Option.{option_or}
use Rattle.soy_base.specs.declared.fault.Span.{Span}
use Rattle.soy_base.specs.declared.place.Place.{Place}
use Rattle.soy_pieces.specs.Branch.{selector, selector_of_role}
use Rattle.soy_rules.specs.Placeholders.{uses_of}
use Rattle.soy_rules.specs.Placeholders.{placeholder_cut}
use Rattle.soy_tree.specs.declared.node.Node as code
use Rattle.soy_tree.specs.Expressions.{Expr}
use Rattle.soy_tree.specs.MessageParts.{Placeholder}
use Rattle.soy_tree.specs.MessageText.{Character, Cut, MessageItem, PrintCut, Printed, TagCut, TextCut}
use Rattle.soy_tree.specs.Nodes.{Message, Node, Nodes, Print, TextNode, message}
use Rattle.soy_rules.specs.Placeholders.{AsPlaceholder, AsPlural, AsSelect, Role, Use, body_uses, name_of}
use Rattle.soy_tree.specs.Types.{Name}
use Rattle.soy_tree.specs.ViewNodes.{nodes_of, view_message, view_node, view_nodes}
use Rattle.msg_extract.specs.NamedNodes.{named_nodes}
use Rattle.msg_extract.specs.PlaceholderNodes.{BegunText, nodes_behind, placeholders_of}
use Rattle.msg_extract.specs.SelectorRows.{SelectorRow, role_rows, selector_rows, selectors_of}
use Rattle.template_ir.specs.HoleCounts.{cut_holes, part_holes, tag_holes}
use Rattle.template_ir.specs.Ops.{Op, PrintOp}
use Rattle.template_ir.specs.StandFor.{StandsCut, StandsTag, StandsText, place_of}
use Rattle.msg_extract.proofs.Naming.NamedCuts.{named_cut, nodes_there}
use Rattle.ir_build.specs.Claims.{all_placed_holes, all_placed_stand, part_stands, placed_holes, placed_stands}
use Rattle.ir_build.specs.Claims.{source_uses}
use Rattle.ir_build.specs.Laid.{Made, Pushes, with_hole}
use Rattle.ir_build.specs.NamedRows.{is_of, selector_in}
use Rattle.ir_build.specs.OnGoing.{PushesOn}
use Rattle.ir_build.specs.TextOps.{text_ops}
use Rattle.ir_build.specs.declared.source.Source.{Source}
use Rattle.ir_build.proofs.CommandOps.{text_pushed}
use Rattle.ir_build.proofs.Laying.{hole_pushed, pushes_as, pushes_both, pushes_none}
use Rattle.ir_build.proofs.Views.{node_next}

-- ---- a text and a print

pub placed_text : (places : List Place) (text : List ℕ) (span : Span) (m : Made) (own own_after : List Op)
    → own_after ≡ own ++ text_ops text
    → Pushes (placed_stands places (TextNode text span)) (placed_holes (TextNode text span)) m m own own_after
placed_text places text span m own own_after e = text_pushed places text m own own_after e

pub placed_print : (places : List Place) (e : Expr) (phname : Option Name) (span : Span) (a b : Made)
    (own own_after : List Op) → b ≡ with_hole a → own_after ≡ own ++ (PrintOp e (place_of places a.holes) ∷ [])
    → Pushes (placed_stands places (Print e phname span)) (placed_holes (Print e phname span)) a b own own_after
placed_print places e phname span a b own own_after is own_is =
    hole_pushed (placed_stands places (Print e phname span)) a b (PrintOp e (place_of places a.holes)) own own_after is
    own_is (λ all at get. (get, refl))

-- another node adds nothing
pub not_placed : (places : List Place) (n seen : Node) (m : Made) (own : List Op) → n ≡ seen → placed_holes seen ≡ 0
    → ((hole : ℕ) (all : List Op) (at : ℕ) → placed_stands places seen hole all at at)
    → Pushes (placed_stands places n) (placed_holes n) m m own own
not_placed places n seen m own e count nothing =
    subst (λ (x : Node). Pushes (placed_stands places x) (placed_holes x) m m own own) (sym e)
    (pushes_as (placed_stands places seen) (placed_stands places seen) 0 (placed_holes seen) m m own own (sym count)
    (λ hole all at end h. h) (pushes_none (placed_stands places seen) m own (λ all at. nothing m.holes all at)))

pub placed_as : (places : List Place) (n seen : Node) (a b : Made) (own own_after : List Op) → n ≡ seen
    → Pushes (placed_stands places seen) (placed_holes seen) a b own own_after
    → Pushes (placed_stands places n) (placed_holes n) a b own own_after
placed_as places n seen a b own own_after e p =
    subst (λ (x : Node). Pushes (placed_stands places x) (placed_holes x) a b own own_after) (sym e) p

pub text_placed : (places : List Place) (n : Node) (text : List ℕ) (span : Span) (m : Made) (own own_after : List Op)
    → n ≡ TextNode text span → own_after ≡ own ++ text_ops text
    → Pushes (placed_stands places n) (placed_holes n) m m own own_after
text_placed places n text span m own own_after is e =
    placed_as places n (TextNode text span) m m own own_after is (placed_text places text span m own own_after e)

pub print_placed : (places : List Place) (n : Node) (e : Expr) (phname : Option Name) (span : Span) (a b : Made)
    (own own_after : List Op) → n ≡ Print e phname span
    → own_after ≡ own ++ (PrintOp e (place_of places a.holes) ∷ []) → b ≡ with_hole a
    → Pushes (placed_stands places n) (placed_holes n) a b own own_after
print_placed places n e phname span a b own own_after is own_is made =
    placed_as places n (Print e phname span) a b own own_after is
    (placed_print places e phname span a b own own_after made own_is)

-- ---- nodes

abbrev pub PlacedOn : List Place → List code.Node → ℕ → Made → Made → List Op → List Op → Type 0
PlacedOn places xs i first now own_first own_now =
    PushesOn (all_placed_stand places (view_nodes (drop i xs))) (all_placed_holes (view_nodes (drop i xs)))
    (all_placed_stand places (view_nodes xs)) (all_placed_holes (view_nodes xs)) first now own_first own_now

pub placed_step : (places : List Place) (xs : List code.Node) (i : ℕ) (x : code.Node) (first now next : Made)
    (own_first own_now own_next : List Op) → i < length xs → x ≡ slice_index_or xs i x
    → Pushes (placed_stands places (view_node x)) (placed_holes (view_node x)) now next own_now own_next
    → PlacedOn places xs i first now own_first own_now → PlacedOn places xs (i + 1) first next own_first own_next
placed_step places xs i x first now next own_first own_now own_next below is p on =
    let rest : Nodes = view_nodes (drop (i + 1) xs) in
    λ later own_later q. on later own_later
    (subst (λ (ns : Nodes). Pushes (all_placed_stand places ns) (all_placed_holes ns) now later own_now own_later)
    (sym (node_next xs i x below is))
    (pushes_both (placed_stands places (view_node x)) (all_placed_stand places rest) (placed_holes (view_node x))
    (all_placed_holes rest) now next later own_now own_next own_later p q))

pub placed_end : (places : List Place) (xs rest : List code.Node) (first now : Made) (own_first own_now : List Op)
    → rest ≡ []
    → PushesOn (all_placed_stand places (view_nodes rest)) (all_placed_holes (view_nodes rest))
    (all_placed_stand places (view_nodes xs)) (all_placed_holes (view_nodes xs)) first now own_first own_now
    → Pushes (all_placed_stand places (view_nodes xs)) (all_placed_holes (view_nodes xs)) first now own_first own_now
placed_end places xs rest first now own_first own_now nil on =
    on now own_now
    (subst (λ (r : List code.Node). Pushes (all_placed_stand places (view_nodes r)) (all_placed_holes (view_nodes r))
    now now own_now own_now) (sym nil) (pushes_none (all_placed_stand places (view_nodes [])) now own_now
    (λ all at. refl)))

-- ---- the nodes of a cut

abbrev begun_text : BegunText → List ℕ
begun_text None = []
begun_text (Some text) = text.0

module _ (places : List Place) (all : List Op) where
  no_more : (X : ℕ → Type 0) (at past end : ℕ) → end ≡ past → X past → X end
  no_more X at past end e x = subst X (sym e) x

  tag_stands : (begun : BegunText) (tag : List MessageItem) (hole at end : ℕ)
      → all_placed_stand places (nodes_of (nodes_behind begun tag)) hole all at end
      → StandsTag places all (begun_text begun) tag hole at end
  tag_stands None [] hole at end h = h
  tag_stands (Some text) [] hole at end h =
      subst (λ (n : ℕ). StandsText places all text.0 at n) (sym h.2) h.1
  tag_stands None (Character c span ∷ rest) hole at end h = tag_stands (Some (c ∷ [], span)) rest hole at end h
  tag_stands (Some text) (Character c span ∷ rest) hole at end h =
      tag_stands (Some (text.0 ++ (c ∷ []), text.1)) rest hole at end h
  tag_stands None (Printed e phname span ∷ rest) hole at end h =
      (at, h.0, refl, h.1, tag_stands None rest (hole + 1) h.0 end h.2)
  tag_stands (Some text) (Printed e phname span ∷ rest) hole at end h =
      let no : hole + 0 ≡ hole = omega arith in
      let there : (past : ℕ) × placed_stands places (Print e phname span) hole all h.0 past
      × all_placed_stand places (nodes_of (nodes_behind None rest)) (hole + 1) all past end =
      subst (λ (n : ℕ). (past : ℕ) × placed_stands places (Print e phname span) n all h.0 past
      × all_placed_stand places (nodes_of (nodes_behind None rest)) (n + 1) all past end) no h.2 in
      (h.0, there.0, h.1, there.1, tag_stands None rest (hole + 1) there.0 end there.2)

tag_count : (begun : BegunText) (tag : List MessageItem)
    → all_placed_holes (nodes_of (nodes_behind begun tag)) ≡ tag_holes tag
tag_count None [] = refl
tag_count (Some text) [] = refl
tag_count None (Character c span ∷ rest) = tag_count (Some (c ∷ [], span)) rest
tag_count (Some text) (Character c span ∷ rest) = tag_count (Some (text.0 ++ (c ∷ []), text.1)) rest
tag_count None (Printed e phname span ∷ rest) = ap (λ n. 1 + n) (tag_count None rest)
tag_count (Some text) (Printed e phname span ∷ rest) =
    let e : 0 + (1 + all_placed_holes (nodes_of (nodes_behind None rest)))
    ≡ 1 + all_placed_holes (nodes_of (nodes_behind None rest)) = omega arith in
    e ∙ ap (λ n. 1 + n) (tag_count None rest)

cut_stands : (places : List Place) (all : List Op) (cut : Option Cut) (hole at end : ℕ)
    → all_placed_stand places (nodes_there cut) hole all at end → StandsCut places all cut hole at end
cut_stands places all None hole at end h = h
cut_stands places all (Some (TextCut text)) hole at end h = h
cut_stands places all (Some (PrintCut e phname span)) hole at end h =
    (h.1.0, h.2 ∙ h.1.1)
cut_stands places all (Some (TagCut tag)) hole at end h = tag_stands places all None tag hole at end h

cut_count : (cut : Option Cut) → all_placed_holes (nodes_there cut) ≡ cut_holes cut
cut_count None = refl
cut_count (Some (TextCut text)) = refl
cut_count (Some (PrintCut e phname span)) = refl
cut_count (Some (TagCut tag)) = tag_count None tag

-- the nodes of a placeholder stand for it
pub placeholder_pushed : (s : Source) (name : Name) (ns : Nodes) (rows : List (Name × Nodes)) (a b : Made)
    (own own_after : List Op) → ns ≡ named_nodes name rows → rows ≡ placeholders_of (view_message s.message.now)
    → Pushes (all_placed_stand s.places.now ns) (all_placed_holes ns) a b own own_after
    → Pushes (part_stands s (Placeholder name)) (part_holes (source_uses s) (Placeholder name)) a b own own_after
placeholder_pushed s name ns rows a b own own_after ns_are rows_are p =
    let cut : Option Cut = placeholder_cut name (source_uses s) (source_uses s) in
    let e : ns ≡ nodes_there (placeholder_cut name (source_uses s) (source_uses s)) =
    ns_are ∙ (ap (named_nodes name) rows_are ∙ named_cut (view_message s.message.now) name) in
    pushes_as (all_placed_stand s.places.now (nodes_there (placeholder_cut name (source_uses s) (source_uses s))))
    (part_stands s (Placeholder name))
    (all_placed_holes (nodes_there (placeholder_cut name (source_uses s) (source_uses s))))
    (cut_holes (placeholder_cut name (source_uses s) (source_uses s))) a b own own_after
    (cut_count (placeholder_cut name (source_uses s) (source_uses s)))
    (λ hole all at end h. cut_stands s.places.now all (placeholder_cut name (source_uses s) (source_uses s)) hole at end
    h)
    (subst (λ (x : Nodes). Pushes (all_placed_stand s.places.now x) (all_placed_holes x) a b own own_after) e p)

-- ---- selectors

same_if : (b : Bool) (p x : Option Expr) → p ≡ x → p ≡ (if b then x else x)
same_if true p x h = h
same_if false p x h = h

plural_one : (of_plural b : Bool) (e : Expr) (p x : Option Expr) → p ≡ x
    → (if is_of of_plural true && b then Some e else p)
    ≡ (if b then option_or (if of_plural then Some e else None) x else x)
plural_one true true e p x h = refl
plural_one true false e p x h = h
plural_one false true e p x h = h
plural_one false false e p x h = h

select_one : (of_plural b : Bool) (e : Expr) (p x : Option Expr) → p ≡ x
    → (if is_of of_plural false && b then Some e else p)
    ≡ (if b then option_or (if of_plural then None else Some e) x else x)
select_one true true e p x h = h
select_one true false e p x h = h
select_one false true e p x h = refl
select_one false false e p x h = h

role_one : (of_plural : Bool) (name n : Name) (role : Role) (rows : List SelectorRow) (x : Option Expr)
    → selector_in of_plural name rows ≡ x
    → selector_in of_plural name (role_rows n role ++ rows)
    ≡ (if bytes_eq n name then option_or (selector_of_role of_plural role) x else x)
role_one of_plural name n (AsPlaceholder cut) rows x h =
    same_if (bytes_eq n name) (selector_in of_plural name rows) x h
role_one of_plural name n (AsPlural e) rows x h =
    plural_one of_plural (bytes_eq n name) e (selector_in of_plural name rows) x h
role_one of_plural name n (AsSelect e) rows x h =
    select_one of_plural (bytes_eq n name) e (selector_in of_plural name rows) x h

selector_found : (of_plural : Bool) (name : Name) (all uses : List Use)
    → selector_in of_plural name (selector_rows all uses) ≡ selector of_plural name all uses
selector_found of_plural name all [] = refl
selector_found of_plural name all (u ∷ uses) =
    role_one of_plural name (name_of all u.base u.content) u.role (selector_rows all uses)
    (selector of_plural name all uses) (selector_found of_plural name all uses)

pub selector_is : (m : Message) (of_plural : Bool) (name : Name) (rows : List SelectorRow) → rows ≡ selectors_of m
    → selector_in of_plural name rows ≡ selector of_plural name (uses_of m) (uses_of m)
selector_is (message desc meaning body span) of_plural name rows e =
    ap (selector_in of_plural name) e ∙ selector_found of_plural name (body_uses body) (body_uses body)
