-- Rows that name rows written before them.
use Rattle.std.proofs.Common.{◌≡◌, ◌<◌, ℕ, List, [], ◌∷◌, ◌++◌, Option, Some, None, Result, Ok, Err, OnOk, IfOk, length}
use Rattle.std.proofs.Common.{map, refl, sym, ap, subst, ◌∙◌}
use Rattle.std.proofs.lemmas.List.{append-nil}
use Rattle.std.specs.declared.alloc.Global.{Global}
use Rattle.std.specs.declared.vec.Vec.{Vec}
use Rattle.soy_base.specs.declared.kind.Kind.{Kind}
use Rattle.soy_base.specs.declared.memory.OutOfMemory.{OutOfMemory}
use Rattle.soy_meaning.specs.Paths.Plan.{Plan, Frame, Hole, Loop, Then, arms_meet}
use Rattle.soy_pieces.specs.Site.{Site}
use Rattle.soy_meaning.specs.Paths.PlanOfNodes.{PlanContext, called_classes, translated_plan, translation_plans}
use Rattle.soy_rules.specs.Placeholders.{uses_of}
use Rattle.soy_meaning.specs.Paths.PlanOfParts.{parts_plan}
use Rattle.soy_tree.specs.MessageParts.{MsgParts}
use Rattle.soy_tree.specs.Nodes.{Message}
use Rattle.soy_rules.specs.TypeOf.{Scope}
use Rattle.std.specs.List.{All}
use Rattle.soy_rules.specs.Templates.{Declared}
use Rattle.soy_base.specs.declared.place.ValueClass.{ValueClass}
use Rattle.html_context.specs.RowPlans.{plan_at}
use Rattle.html_context.specs.StandsFor.{Writes, WritesMore, walk_of, walks_of}
use Rattle.html_context.specs.Walks.{view_site}
use Rattle.html_context.specs.declared.fault.Site as code_site
use Rattle.html_context.specs.declared.table.Row.{Row}
use Rattle.html_context.specs.declared.table.Row.TheVariants as row
use Rattle.html_context.proofs.PlanCongruence.{Way, frame_walks, loop_walks, meet_walks, then_walks}
use Rattle.html_context.proofs.WrittenLists.{ListSoFar, below_all, first_behind, list_written, next_listed}
use Rattle.html_context.proofs.WrittenLists.{written_meet}
use Rattle.html_context.proofs.WrittenRows.{keeps_on, writes, writes_on}

-- what a body was written as, as a loop
pub written_loop : (at : code_site.Site) (p : Plan) (old mid new : List Row) (n : ℕ) (result : Result ℕ OutOfMemory)
    → Writes p old mid (Ok n) → OnOk result (new ≡ mid ++ (row.Loop at n ∷ [])) → IfOk result (λ k. k ≡ length mid)
    → Writes (Loop (view_site at) p) old new result
written_loop at p old mid new n result w e is =
    writes_on (Loop (view_site at) p) old mid new result w.0
    (writes (Loop (view_site at) p) mid new (row.Loop at n) result e is
    (loop_walks (view_site at) (plan_at mid n) p w.2))

-- as a frame
pub written_frame : (kind : Kind) (at : code_site.Site) (p : Plan) (old mid new : List Row) (n : ℕ)
    (result : Result ℕ OutOfMemory)
    → Writes p old mid (Ok n) → OnOk result (new ≡ mid ++ (row.Frame kind at n ∷ []))
    → IfOk result (λ k. k ≡ length mid)
    → Writes (Frame kind (view_site at) p) old new result
written_frame kind at p old mid new n result w e is =
    writes_on (Frame kind (view_site at) p) old mid new result w.0
    (writes (Frame kind (view_site at) p) mid new (row.Frame kind at n) result e is
    (frame_walks kind (view_site at) (plan_at mid n) p w.2))

same_writes : (p q : Plan) (a b : List Row) (result : Result ℕ OutOfMemory) → walk_of p ≡ walk_of q
    → Writes p a b result → Writes q a b result
same_writes p q a b (Ok n) e w = (w.0, w.1, w.2 ∙ e)
same_writes p q a b (Err o) e w = tt

-- what was written first, and what follows it
pub then_on : (p q : Plan) (old mid new : List Row) (n : ℕ) (result : Result ℕ OutOfMemory) → Writes p old mid (Ok n)
    → Writes (Then (plan_at mid n) q) mid new result → Writes (Then p q) old new result
then_on p q old mid new n result w h =
    writes_on (Then p q) old mid new result w.0
    (same_writes (Then (plan_at mid n) q) (Then p q) mid new result (then_walks (plan_at mid n) q p q w.2 refl) h)

-- what was written first, and arms that meet with it
pub meet_on : (at : code_site.Site) (p : Plan) (qs : List Plan) (old mid new : List Row) (n : ℕ)
    (result : Result ℕ OutOfMemory) → Writes p old mid (Ok n)
    → Writes (arms_meet (view_site at) (plan_at mid n ∷ qs)) mid new result
    → Writes (arms_meet (view_site at) (p ∷ qs)) old new result
meet_on at p qs old mid new n result w h =
    writes_on (arms_meet (view_site at) (p ∷ qs)) old mid new result w.0
    (same_writes (arms_meet (view_site at) (plan_at mid n ∷ qs)) (arms_meet (view_site at) (p ∷ qs)) mid new result
    (meet_walks (view_site at) (plan_at mid n ∷ qs) (p ∷ qs) (ap (λ (f : Way). f ∷ map walk_of qs) w.2)) h)

map_both : (ps qs : List Plan) → map walk_of (ps ++ qs) ≡ map walk_of ps ++ map walk_of qs
map_both [] qs = refl
map_both (p ∷ ps) qs = ap (λ (l : List Way). walk_of p ∷ l) (map_both ps qs)

-- the source of a message, its translation and that of its fallback
pub translated_meet : (at : code_site.Site) (source : ℕ) (ps qs : List Plan) (old a b new : List Row)
    (first one two : Vec ℕ Global) (result : Result ℕ OutOfMemory)
    → first.items ≡ source ∷ [] → WritesMore first.items ps old a (Ok one) → WritesMore one.items qs a b (Ok two)
    → OnOk result (new ≡ b ++ (row.Meet at two.items ∷ [])) → IfOk result (λ k. k ≡ length b)
    → Writes (arms_meet (view_site at) (plan_at old source ∷ (ps ++ qs))) old new result
translated_meet at source ps qs old a b new first one two result f w v e is =
    written_meet at old b new two.items (plan_at old source ∷ (ps ++ qs)) result (
      keeps_on old a b w.0 v.0,
      below_all (length b) two.items v.1,
      append-nil (walks_of b two.items)
          ∙ (v.2 ∙ (ap (λ (l : List Way). l ++ map walk_of qs) (w.2
          ∙ ap (λ (l : List ℕ). walks_of old l ++ map walk_of ps) f)
          ∙ ap (λ (l : List Way). walk_of (plan_at old source) ∷ l) (sym (map_both ps qs)))),
    )
    e is

-- the hole of a call that calls no template
pub written_no_classes : (at : code_site.Site) (classes : List ValueClass) (called : Option Declared)
    (old new : List Row)
    (result : Result ℕ OutOfMemory) → None ≡ called → classes ≡ [] → OnOk result
    (new ≡ old ++ (row.Hole at classes ∷ []))
    → IfOk result (λ k. k ≡ length old) → Writes (Hole (view_site at) (called_classes called)) old new result
written_no_classes at classes called old new result none c e k =
    subst (λ (d : Option Declared). Writes (Hole (view_site at) (called_classes d)) old new result) none
    (writes (Hole (view_site at) []) old new (row.Hole at classes) result e k
    (ap (λ (l : List ValueClass). walk_of (Hole (view_site at) l)) c))

-- no translation behind arms that are there
pub no_translation : (k : PlanContext) (m : Message) (scope : Scope) (at : Site) (old : List Row)
    (before : Vec ℕ Global) → All (λ j. j < length old) before.items → k.translation m ≡ None
    → WritesMore before.items (translation_plans k m scope at) old old (Ok before)
no_translation k m scope at old before h is =
    subst (λ (o : Option MsgParts). WritesMore before.items (translated_plan (uses_of m) scope at o) old old
    (Ok before)) (sym is)
    (list_written old old before.items (walks_of old before.items ++ map walk_of [])
    (first_behind old before.items [] h))

-- a translation behind arms that are there
pub one_translation : (k : PlanContext) (m : Message) (scope : Scope) (at : Site) (parts : MsgParts)
    (old mid : List Row)
    (before numbers : Vec ℕ Global) (n : ℕ) → All (λ j. j < length old) before.items → k.translation m ≡ Some parts
    → Writes (parts_plan (uses_of m) scope at parts) old mid (Ok n) → numbers.items ≡ before.items ++ (n ∷ [])
    → WritesMore before.items (translation_plans k m scope at) old mid (Ok numbers)
one_translation k m scope at parts old mid before numbers n h is w e =
    let p : Plan = parts_plan (uses_of m) scope at parts in
    subst (λ (o : Option MsgParts). WritesMore before.items (translated_plan (uses_of m) scope at o) old mid
    (Ok numbers)) (sym is)
    (list_written old mid numbers.items (walks_of old before.items ++ map walk_of (p ∷ []))
    (subst (λ (l : List ℕ). ListSoFar old mid l [] (walks_of old before.items ++ map walk_of (p ∷ []))) (sym e)
    (next_listed old old mid before.items n p [] (walks_of old before.items ++ map walk_of (p ∷ []))
    (first_behind old before.items (p ∷ []) h) w)))
