-- Lists of parts and arms of a translation, compiled item by item, and the ops of single parts.
use Rattle.std.proofs.Common.{◌≡◌, ℕ, ◌+◌, ◌<◌, ◌≤◌, Bool, true, false, List, [], ◌∷◌, ◌++◌, Option, Some, None, drop}
use Rattle.std.proofs.Common.{length, map, slice_index_or, refl, sym, subst}
use Rattle.soy_pieces.specs.Branch.{selector}
use Rattle.soy_tree.specs.declared.bundle.ExactArm as code_exact
use Rattle.soy_tree.specs.declared.bundle.MsgPart as code
use Rattle.soy_tree.specs.declared.bundle.NamedArm as code_named
use Rattle.soy_tree.specs.declared.bundle.SelectArm as code_word
use Rattle.soy_tree.specs.Expressions.{Expr}
use Rattle.soy_tree.specs.MessageParts.{ExactArms, MsgParts, NamedArms, SelectArms, NumberPart, PluralPart}
use Rattle.soy_tree.specs.MessageParts.{SelectPart, TextPart, exact_arm, named_arm, select_arm}
use Rattle.soy_tree.specs.Types.{Name}
use Rattle.soy_tree.specs.ViewMessageParts.{exact_arms_of, named_arms_of, select_arms_of, view_exact, view_named}
use Rattle.soy_tree.specs.ViewMessageParts.{view_part, view_parts, view_select_arm}
use Rattle.template_ir.specs.HoleCounts.{exact_holes, named_holes, part_holes, parts_holes, word_holes}
use Rattle.template_ir.specs.Ops.{NumberOp, Op, PluralOp, SelectOp}
use Rattle.template_ir.specs.StandFor.{place_of}
use Rattle.template_ir.specs.declared.op.ExactBlock.{ExactBlock}
use Rattle.template_ir.specs.declared.op.NamedBlock.{NamedBlock}
use Rattle.template_ir.specs.declared.op.WordBlock.{WordBlock}
use Rattle.ir_build.specs.Claims.{block_stands, exact_stand, named_stand, part_stands, parts_stand, selected_ops}
use Rattle.ir_build.specs.Claims.{source_uses, words_stand}
use Rattle.ir_build.specs.Laid.{Lays, Made, Pushes, laid_block, with_hole, with_ops}
use Rattle.ir_build.specs.OnGoing.{PushesOn, RowsOn}
use Rattle.ir_build.specs.Rows.{exact_block, named_block, word_block}
use Rattle.ir_build.specs.TextOps.{text_ops}
use Rattle.ir_build.specs.declared.source.Source.{Source}
use Rattle.ir_build.proofs.CommandOps.{text_pushed}
use Rattle.ir_build.proofs.Laying.{hole_pushed, lays_as, lays_both, lays_push, lays_push_none, pushes_block}
use Rattle.ir_build.proofs.Laying.{pushes_both, pushes_none}
use Rattle.ir_build.proofs.Loops.{rows_begin, rows_end, rows_step}
use Rattle.ir_build.proofs.OpLists.{drop_all}
use Rattle.ir_build.proofs.Views.{exact_next, named_next, part_next, word_next}

abbrev pub PartsOn : Source → List code.MsgPart → ℕ → Made → Made → List Op → List Op → Type 0
PartsOn s xs i first now own_first own_now =
    PushesOn (parts_stand s (view_parts (drop i xs))) (parts_holes (source_uses s) (view_parts (drop i xs)))
    (parts_stand s (view_parts xs)) (parts_holes (source_uses s) (view_parts xs)) first now own_first own_now

abbrev exacts : List code_exact.ExactArm → ExactArms
exacts xs = exact_arms_of (map view_exact xs)

abbrev nameds : List code_named.NamedArm → NamedArms
nameds xs = named_arms_of (map view_named xs)

abbrev words : List code_word.SelectArm → SelectArms
words xs = select_arms_of (map view_select_arm xs)

abbrev pub ExactOn : Source → List code_exact.ExactArm → ℕ → Made → Made → List ExactBlock → Type 0
ExactOn s xs i first now done =
    RowsOn (exact_stand s (exact_arms_of (map view_exact (drop i xs))))
    (exact_holes (source_uses s) (exact_arms_of (map view_exact (drop i xs))))
    (exact_stand s (exact_arms_of (map view_exact xs))) (exact_holes (source_uses s)
    (exact_arms_of (map view_exact xs))) first now done

abbrev pub NamedOn : Source → List code_named.NamedArm → ℕ → Made → Made → List NamedBlock → Type 0
NamedOn s xs i first now done =
    RowsOn (named_stand s (named_arms_of (map view_named (drop i xs))))
    (named_holes (source_uses s) (named_arms_of (map view_named (drop i xs))))
    (named_stand s (named_arms_of (map view_named xs))) (named_holes (source_uses s)
    (named_arms_of (map view_named xs))) first now done

abbrev pub WordsOn : Source → List code_word.SelectArm → ℕ → Made → Made → List WordBlock → Type 0
WordsOn s xs i first now done =
    RowsOn (words_stand s (select_arms_of (map view_select_arm (drop i xs))))
    (word_holes (source_uses s) (select_arms_of (map view_select_arm (drop i xs))))
    (words_stand s (select_arms_of (map view_select_arm xs)))
    (word_holes (source_uses s) (select_arms_of (map view_select_arm xs))) first now done

module _ (s : Source) where
  pub parts_step : (xs : List code.MsgPart) (i : ℕ) (x : code.MsgPart) (first now next : Made)
      (own_first own_now own_next : List Op) → i < length xs → x ≡ slice_index_or xs i x
      → Pushes (part_stands s (view_part x)) (part_holes (source_uses s) (view_part x)) now next own_now own_next
      → PartsOn s xs i first now own_first own_now → PartsOn s xs (i + 1) first next own_first own_next
  parts_step xs i x first now next own_first own_now own_next below is p on =
      let rest : MsgParts = view_parts (drop (i + 1) xs) in
      λ later own_later q. on later own_later
      (subst (λ (ps : MsgParts). Pushes (parts_stand s ps) (parts_holes (source_uses s) ps) now later own_now own_later)
      (sym (part_next xs i x below is))
      (pushes_both (part_stands s (view_part x)) (parts_stand s rest) (part_holes (source_uses s) (view_part x))
      (parts_holes (source_uses s) rest) now next later own_now own_next own_later p q))

  pub parts_end : (xs rest : List code.MsgPart) (first now : Made) (own_first own_now : List Op) → rest ≡ []
      → PushesOn (parts_stand s (view_parts rest)) (parts_holes (source_uses s) (view_parts rest))
      (parts_stand s (view_parts xs)) (parts_holes (source_uses s) (view_parts xs)) first now own_first own_now
      → Pushes (parts_stand s (view_parts xs)) (parts_holes (source_uses s) (view_parts xs)) first now own_first own_now
  parts_end xs rest first now own_first own_now nil on =
      on now own_now
      (subst (λ (r : List code.MsgPart). Pushes (parts_stand s (view_parts r)) (parts_holes (source_uses s) (view_parts
      r)) now now own_now own_now) (sym nil)
      (pushes_none (parts_stand s (view_parts [])) now own_now (λ all at. refl)))

  parts_block : (items parts : List code.MsgPart) (a b d : Made) (none inner : List Op) → items ≡ parts → none ≡ []
      → Pushes (parts_stand s (view_parts items)) (parts_holes (source_uses s) (view_parts items)) a b none inner
      → d ≡ with_ops b inner
      → Lays (block_stands (parts_stand s (view_parts parts)) (laid_block b inner))
      (parts_holes (source_uses s) (view_parts parts)) a d
  parts_block items parts a b d none inner it nil p made =
      pushes_block (parts_stand s (view_parts parts)) (parts_holes (source_uses s) (view_parts parts)) a b d none inner
      nil
      (subst (λ (x : List code.MsgPart). Pushes (parts_stand s (view_parts x)) (parts_holes (source_uses s) (view_parts
      x)) a b none inner) it p) made

  pub exact_step : (xs : List code_exact.ExactArm) (i : ℕ) (x : code_exact.ExactArm) (items : List code.MsgPart)
      (first now mid next : Made) (none inner : List Op) (done done_next : List ExactBlock) → i < length xs
      → x ≡ slice_index_or xs i x → items ≡ x.parts → none ≡ []
      → Pushes (parts_stand s (view_parts items)) (parts_holes (source_uses s) (view_parts items)) now mid none inner
      → next ≡ with_ops mid inner → done_next ≡ done ++ (exact_block x.is (laid_block mid inner) ∷ [])
      → ExactOn s xs i first now done → ExactOn s xs (i + 1) first next done_next
  exact_step xs i x items first now mid next none inner done done_next below is it nil p made e on =
      let rest : ExactArms = exact_arms_of (map view_exact (drop (i + 1) xs)) in
      let body : MsgParts = view_parts x.parts in
      rows_step (exact_stand s (exact_arms_of (map view_exact (drop i xs)))) (exact_stand s rest)
      (exact_stand s (exact_arms_of (map view_exact xs)))
      (exact_holes (source_uses s) (exact_arms_of (map view_exact (drop i xs)))) (exact_holes (source_uses s) rest)
      (exact_holes (source_uses s) (exact_arms_of (map view_exact xs))) first now next done done_next
      (exact_block x.is (laid_block mid inner)) e
      (λ later more l. subst (λ (v : ExactArms). Lays (exact_stand s v (exact_block x.is (laid_block mid inner) ∷ more))
      (exact_holes (source_uses s) v) now later) (sym (exact_next xs i x below is))
      (lays_as _ (exact_stand s (exact_arm x.is body rest) (exact_block x.is (laid_block mid inner) ∷ more))
      (parts_holes (source_uses s) body + exact_holes (source_uses s) rest) _ now later refl
      (λ hole all before y. (refl, y.0.0, y.0.1, y.1))
      (lays_both (block_stands (parts_stand s body) (laid_block mid inner)) (exact_stand s rest more)
      (parts_holes (source_uses s) body) (exact_holes (source_uses s) rest) now next later
      (parts_block items x.parts now mid next none inner it nil p made) l))) on

  pub named_step : (xs : List code_named.NamedArm) (i : ℕ) (x : code_named.NamedArm) (items : List code.MsgPart)
      (first now mid next : Made) (none inner : List Op) (done done_next : List NamedBlock) → i < length xs
      → x ≡ slice_index_or xs i x → items ≡ x.parts → none ≡ []
      → Pushes (parts_stand s (view_parts items)) (parts_holes (source_uses s) (view_parts items)) now mid none inner
      → next ≡ with_ops mid inner → done_next ≡ done ++ (named_block x.category (laid_block mid inner) ∷ [])
      → NamedOn s xs i first now done → NamedOn s xs (i + 1) first next done_next
  named_step xs i x items first now mid next none inner done done_next below is it nil p made e on =
      let rest : NamedArms = named_arms_of (map view_named (drop (i + 1) xs)) in
      let body : MsgParts = view_parts x.parts in
      rows_step (named_stand s (named_arms_of (map view_named (drop i xs)))) (named_stand s rest)
      (named_stand s (named_arms_of (map view_named xs)))
      (named_holes (source_uses s) (named_arms_of (map view_named (drop i xs)))) (named_holes (source_uses s) rest)
      (named_holes (source_uses s) (named_arms_of (map view_named xs))) first now next done done_next
      (named_block x.category (laid_block mid inner)) e
      (λ later more l. subst (λ (v : NamedArms). Lays (named_stand s v (named_block x.category (laid_block mid inner) ∷
      more)) (named_holes (source_uses s) v) now later) (sym (named_next xs i x below is))
      (lays_as _ (named_stand s (named_arm x.category body rest) (named_block x.category (laid_block mid inner) ∷ more))
      (parts_holes (source_uses s) body + named_holes (source_uses s) rest) _ now later refl
      (λ hole all before y. (refl, y.0.0, y.0.1, y.1))
      (lays_both (block_stands (parts_stand s body) (laid_block mid inner)) (named_stand s rest more)
      (parts_holes (source_uses s) body) (named_holes (source_uses s) rest) now next later
      (parts_block items x.parts now mid next none inner it nil p made) l))) on

  pub word_step : (xs : List code_word.SelectArm) (i : ℕ) (x : code_word.SelectArm) (items : List code.MsgPart)
      (first now mid next : Made) (none inner : List Op) (done done_next : List WordBlock) → i < length xs
      → x ≡ slice_index_or xs i x → items ≡ x.parts → none ≡ []
      → Pushes (parts_stand s (view_parts items)) (parts_holes (source_uses s) (view_parts items)) now mid none inner
      → next ≡ with_ops mid inner → done_next ≡ done ++ (word_block x.is (laid_block mid inner) ∷ [])
      → WordsOn s xs i first now done → WordsOn s xs (i + 1) first next done_next
  word_step xs i x items first now mid next none inner done done_next below is it nil p made e on =
      let rest : SelectArms = select_arms_of (map view_select_arm (drop (i + 1) xs)) in
      let body : MsgParts = view_parts x.parts in
      rows_step (words_stand s (select_arms_of (map view_select_arm (drop i xs)))) (words_stand s rest)
      (words_stand s (select_arms_of (map view_select_arm xs)))
      (word_holes (source_uses s) (select_arms_of (map view_select_arm (drop i xs)))) (word_holes (source_uses s) rest)
      (word_holes (source_uses s) (select_arms_of (map view_select_arm xs))) first now next done done_next
      (word_block x.is (laid_block mid inner)) e
      (λ later more l. subst (λ (v : SelectArms). Lays (words_stand s v (word_block x.is (laid_block mid inner) ∷ more))
      (word_holes (source_uses s) v) now later) (sym (word_next xs i x below is))
      (lays_as _ (words_stand s (select_arm x.is body rest) (word_block x.is (laid_block mid inner) ∷ more))
      (parts_holes (source_uses s) body + word_holes (source_uses s) rest) _ now later refl
      (λ hole all before y. (refl, y.0.0, y.0.1, y.1))
      (lays_both (block_stands (parts_stand s body) (laid_block mid inner)) (words_stand s rest more)
      (parts_holes (source_uses s) body) (word_holes (source_uses s) rest) now next later
      (parts_block items x.parts now mid next none inner it nil p made) l))) on

  -- ---- single parts

  pub text_part_pushed : (text : List ℕ) (m : Made) (own own_after : List Op) → own_after ≡ own ++ text_ops text
      → Pushes (part_stands s (TextPart text)) (part_holes (source_uses s) (TextPart text)) m m own own_after
  text_part_pushed text m own own_after e = text_pushed s.places.now text m own own_after e

  pub number_part_pushed : (a b : Made) (own own_after : List Op) → b ≡ with_hole a
      → own_after ≡ own ++ (NumberOp (place_of s.places.now a.holes) ∷ [])
      → Pushes (part_stands s NumberPart) (part_holes (source_uses s) NumberPart) a b own own_after
  number_part_pushed a b own own_after is e =
      hole_pushed (part_stands s NumberPart) a b (NumberOp (place_of s.places.now a.holes)) own own_after is e
      (λ all at get. (get, refl))

  plural_selected : (chosen : Option Expr) (ordinal : Bool) (name : Name) (offset : ℕ) (exact : ExactArms)
      (named : NamedArms) (numbers : List ExactBlock) (categories : List NamedBlock) (a b : Made)
      (own own_after : List Op) → chosen ≡ selector true name (source_uses s) (source_uses s)
      → Lays (λ hole all before. exact_stand s exact numbers hole all before
      × named_stand s named categories (hole + exact_holes (source_uses s) exact) all before)
      (exact_holes (source_uses s) exact + named_holes (source_uses s) named) a b
      → own_after ≡ own ++ selected_ops chosen (λ e. PluralOp e offset ordinal numbers categories)
      → Pushes (part_stands s (PluralPart ordinal name offset exact named))
      (exact_holes (source_uses s) exact + named_holes (source_uses s) named) a b own own_after
  plural_selected None ordinal name offset exact named numbers categories a b own own_after is l e =
      lays_push_none _ (part_stands s (PluralPart ordinal name offset exact named)) _ a b own own_after l e
      (λ hole all at x. rw (← is) refl)
  plural_selected (Some n) ordinal name offset exact named numbers categories a b own own_after is l e =
      lays_push _ (part_stands s (PluralPart ordinal name offset exact named)) _ a b
      (PluralOp n offset ordinal numbers categories) own own_after l e
      (λ hole all at x get. rw (← is) (numbers, categories, x.0, x.1, (get, refl)))

  pub plural_part_pushed : (ordinal : Bool) (name : Name) (offset : ℕ) (exact : ExactArms) (named : NamedArms)
      (numbers : List ExactBlock) (categories : List NamedBlock) (a b d : Made) (own own_after : List Op)
      → Lays (exact_stand s exact numbers) (exact_holes (source_uses s) exact) a b
      → Lays (named_stand s named categories) (named_holes (source_uses s) named) b d
      → own_after ≡ own ++ selected_ops (selector true name (source_uses s) (source_uses s))
      (λ e. PluralOp e offset ordinal numbers categories)
      → Pushes (part_stands s (PluralPart ordinal name offset exact named))
      (part_holes (source_uses s) (PluralPart ordinal name offset exact named)) a d own own_after
  plural_part_pushed ordinal name offset exact named numbers categories a b d own own_after l m e =
      plural_selected (selector true name (source_uses s) (source_uses s)) ordinal name offset exact named numbers
      categories a d own own_after refl
      (lays_both (exact_stand s exact numbers) (named_stand s named categories) (exact_holes (source_uses s) exact)
      (named_holes (source_uses s) named) a b d l m) e

  select_selected : (chosen : Option Expr) (name : Name) (arms : SelectArms) (blocks : List WordBlock) (a b : Made)
      (own own_after : List Op) → chosen ≡ selector false name (source_uses s) (source_uses s)
      → Lays (words_stand s arms blocks) (word_holes (source_uses s) arms) a b
      → own_after ≡ own ++ selected_ops chosen (λ e. SelectOp e blocks)
      → Pushes (part_stands s (SelectPart name arms)) (word_holes (source_uses s) arms) a b own own_after
  select_selected None name arms blocks a b own own_after is l e =
      lays_push_none (words_stand s arms blocks) (part_stands s (SelectPart name arms)) _ a b own own_after l e
      (λ hole all at x. rw (← is) refl)
  select_selected (Some n) name arms blocks a b own own_after is l e =
      lays_push (words_stand s arms blocks) (part_stands s (SelectPart name arms)) _ a b (SelectOp n blocks) own
      own_after l e (λ hole all at x get. rw (← is) (blocks, x, (get, refl)))

  pub select_part_pushed : (name : Name) (arms : SelectArms) (blocks : List WordBlock) (a b : Made)
      (own own_after : List Op) → Lays (words_stand s arms blocks) (word_holes (source_uses s) arms) a b
      → own_after ≡ own ++ selected_ops (selector false name (source_uses s) (source_uses s)) (λ e. SelectOp e blocks)
      → Pushes (part_stands s (SelectPart name arms)) (part_holes (source_uses s) (SelectPart name arms)) a b own
      own_after
  select_part_pushed name arms blocks a b own own_after l e =
      select_selected (selector false name (source_uses s) (source_uses s)) name arms blocks a b own own_after refl l e

  -- ---- before the first arm and past the last

  pub exact_begin : (xs : List code_exact.ExactArm) (m : Made) (done : List ExactBlock) → done ≡ [] → ExactOn s xs 0 m m
      done
  exact_begin xs m done nil =
      rows_begin (exact_stand s (exact_arms_of (map view_exact xs))) (exact_holes (source_uses s)
      (exact_arms_of (map view_exact xs))) m done nil

  pub exact_end : (xs : List code_exact.ExactArm) (i : ℕ) (first now : Made) (done : List ExactBlock) → length xs ≤ i
      → ExactOn s xs i first now done
      → Lays (exact_stand s (exact_arms_of (map view_exact xs)) done) (exact_holes (source_uses s)
      (exact_arms_of (map view_exact xs))) first now
  exact_end xs i first now done long on =
      rows_end (exact_stand s (exact_arms_of (map view_exact []))) (exact_stand s (exact_arms_of (map view_exact xs))) 0
      (exact_holes (source_uses s) (exact_arms_of (map view_exact xs))) first now done refl (λ all before. tt)
      (subst (λ (ys : List code_exact.ExactArm). RowsOn (exact_stand s (exact_arms_of (map view_exact ys)))
      (exact_holes (source_uses s) (exact_arms_of (map view_exact
      ys))) (exact_stand s (exact_arms_of (map view_exact xs))) (exact_holes (source_uses s)
      (exact_arms_of (map view_exact xs))) first now done)
      (drop_all xs i long) on)

  pub named_begin : (xs : List code_named.NamedArm) (m : Made) (done : List NamedBlock) → done ≡ [] → NamedOn s xs 0 m m
      done
  named_begin xs m done nil =
      rows_begin (named_stand s (named_arms_of (map view_named xs))) (named_holes (source_uses s)
      (named_arms_of (map view_named xs))) m done nil

  pub named_end : (xs : List code_named.NamedArm) (i : ℕ) (first now : Made) (done : List NamedBlock) → length xs ≤ i
      → NamedOn s xs i first now done
      → Lays (named_stand s (named_arms_of (map view_named xs)) done) (named_holes (source_uses s)
      (named_arms_of (map view_named xs))) first now
  named_end xs i first now done long on =
      rows_end (named_stand s (named_arms_of (map view_named []))) (named_stand s (named_arms_of (map view_named xs))) 0
      (named_holes (source_uses s) (named_arms_of (map view_named xs))) first now done refl (λ all before. tt)
      (subst (λ (ys : List code_named.NamedArm). RowsOn (named_stand s (named_arms_of (map view_named ys)))
      (named_holes (source_uses s) (named_arms_of (map view_named
      ys))) (named_stand s (named_arms_of (map view_named xs))) (named_holes (source_uses s)
      (named_arms_of (map view_named xs))) first now done)
      (drop_all xs i long) on)

  pub word_begin : (xs : List code_word.SelectArm) (m : Made) (done : List WordBlock) → done ≡ [] → WordsOn s xs 0 m m
      done
  word_begin xs m done nil =
      rows_begin (words_stand s (select_arms_of (map view_select_arm xs))) (word_holes (source_uses s)
      (select_arms_of (map view_select_arm xs))) m done nil

  pub word_end : (xs : List code_word.SelectArm) (i : ℕ) (first now : Made) (done : List WordBlock) → length xs ≤ i
      → WordsOn s xs i first now done
      → Lays (words_stand s (select_arms_of (map view_select_arm xs)) done) (word_holes (source_uses s)
      (select_arms_of (map view_select_arm xs))) first now
  word_end xs i first now done long on =
      rows_end (words_stand s (select_arms_of (map view_select_arm [])))
      (words_stand s (select_arms_of (map view_select_arm xs))) 0
      (word_holes (source_uses s) (select_arms_of (map view_select_arm xs))) first now done refl (λ all before. tt)
      (subst (λ (ys : List code_word.SelectArm). RowsOn (words_stand s (select_arms_of (map view_select_arm ys)))
      (word_holes (source_uses s) (select_arms_of (map view_select_arm
      ys))) (words_stand s (select_arms_of (map view_select_arm xs))) (word_holes (source_uses s)
      (select_arms_of (map view_select_arm xs))) first now done)
      (drop_all xs i long) on)
