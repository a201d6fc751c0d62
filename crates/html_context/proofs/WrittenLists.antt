-- Rows that are written one after the other, and the row that names them.
use Rattle.std.proofs.Common.{◌≡◌, ◌≤◌, ◌<◌, ℕ, zero, suc, List, [], ◌∷◌, ◌++◌, Result, Ok, OnOk, IfOk, length, map}
use Rattle.std.proofs.Common.{refl, sym, ap, ◌∙◌, append_assoc, arith}
use Rattle.std.specs.List.{All}
use Rattle.std.proofs.lemmas.List.{append-nil}
use Rattle.soy_base.specs.declared.memory.OutOfMemory.{OutOfMemory}
use Rattle.soy_rules.specs.Faults.{followed_by}
use Rattle.soy_meaning.specs.Paths.Plan.{Plan, Nothing, Then, arms_meet, in_turn}
use Rattle.html_context.specs.RowPlans.{plan_among, plan_at, row_plans}
use Rattle.html_context.specs.StandsFor.{Keeps, Writes, walk_of, walks_of}
use Rattle.html_context.specs.Walks.{view_site}
use Rattle.html_context.specs.declared.fault.Site as code_site
use Rattle.html_context.specs.declared.table.Row.{Row}
use Rattle.html_context.specs.declared.table.Row.TheVariants as row
use Rattle.html_context.proofs.PlanCongruence.{Way, each_way, in_turn_ways, map_through, meet_walks}
use Rattle.html_context.proofs.WrittenRows.{keeps_itself, keeps_length, keeps_on, keeps_plan, writes, writes_on}

-- ---- numbers of rows that are there

abbrev pub EachBelow : ℕ → List ℕ → Type 0
EachBelow n [] = Unit {0}
EachBelow n (k ∷ ks) = (k < n) × EachBelow n ks

pub below_all : (n : ℕ) (ks : List ℕ) → All (λ k. k < n) ks → EachBelow n ks
below_all n [] h = tt
below_all n (k ∷ ks) h = (h 0 k (omega arith), below_all n ks (λ i d small. h (suc i) d (omega arith)))

all_below : (n : ℕ) (ks : List ℕ) → EachBelow n ks → All (λ k. k < n) ks
all_below n [] h i d small = absurd (omega arith)
all_below n (k ∷ ks) h zero d small = h.0
all_below n (k ∷ ks) h (suc i) d small = all_below n ks h.1 i d (omega arith)

below_more : (m n : ℕ) (ks : List ℕ) → m ≤ n → EachBelow m ks → EachBelow n ks
below_more m n [] h b = tt
below_more m n (k ∷ ks) h b = (let small : k < m = b.0 in omega arith, below_more m n ks h b.1)

below_end : (n : ℕ) (ks : List ℕ) (k : ℕ) → EachBelow n ks → k < n → EachBelow n (ks ++ (k ∷ []))
below_end n [] k b small = (small, tt)
below_end n (j ∷ ks) k b small = (b.0, below_end n ks k b.1 small)

walks_keep : (old new : List Row) (ks : List ℕ) → Keeps old new → EachBelow (length old) ks
    → walks_of new ks ≡ walks_of old ks
walks_keep old new [] h b = refl
walks_keep old new (k ∷ ks) h b =
    ap (λ (p : Plan). walk_of p ∷ walks_of new ks) (keeps_plan old new k h b.0)
    ∙ ap (λ (l : List Way). walk_of (plan_at old k) ∷ l) (walks_keep old new ks h b.1)

walks_end : (rows : List Row) (ks : List ℕ) (k : ℕ)
    → walks_of rows (ks ++ (k ∷ [])) ≡ walks_of rows ks ++ (walk_of (plan_at rows k) ∷ [])
walks_end rows [] k = refl
walks_end rows (j ∷ ks) k = ap (λ (l : List Way). walk_of (plan_at rows j) ∷ l) (walks_end rows ks k)

-- the walks of numbers, and of one more that was written behind their rows
one_more : (rows new : List Row) (numbers : List ℕ) (n : ℕ) (p : Plan) → EachBelow (length rows) numbers
    → Writes p rows new (Ok n) → walks_of new (numbers ++ (n ∷ [])) ≡ walks_of rows numbers ++ (walk_of p ∷ [])
one_more rows new numbers n p b w =
    walks_end new numbers n
    ∙ ap (λ (l : List Way). l ++ (walk_of (plan_at new n) ∷ [])) (walks_keep rows new numbers w.0 b)
    ∙ ap (λ (f : Way). walks_of rows numbers ++ (f ∷ [])) w.2

more_below : (rows new : List Row) (numbers : List ℕ) (n : ℕ) (p : Plan) → EachBelow (length rows) numbers
    → Writes p rows new (Ok n) → EachBelow (length new) (numbers ++ (n ∷ []))
more_below rows new numbers n p b w =
    below_end (length new) numbers n (below_more (length rows) (length new) numbers (keeps_length rows new w.0) b) w.1

-- ---- one after the other

abbrev pub ways_then : List Way → Way → Way
ways_then [] g = g
ways_then (f ∷ fs) g = λ w. followed_by (f w) (ways_then fs g)

ways_then_end : (fs : List Way) (f g : Way) → ways_then (fs ++ (f ∷ [])) g ≡ ways_then fs (λ w. followed_by (f w) g)
ways_then_end [] f g = refl
ways_then_end (e ∷ fs) f g = ap (λ (h : Way). λ w. followed_by (e w) h) (ways_then_end fs f g)

ways_then_none : (fs : List Way) → ways_then fs (λ w. Ok w) ≡ each_way fs
ways_then_none [] = refl
ways_then_none (e ∷ fs) = ap (λ (h : Way). λ w. followed_by (e w) h) (ways_then_none fs)

-- rows behind the old ones, whose walks and that of the rest are together that of the whole
abbrev pub InTurnSoFar : List Row → List Row → List ℕ → Plan → Plan → Type 0
InTurnSoFar old rows numbers rest whole =
    Keeps old rows × EachBelow (length rows) numbers
    × (ways_then (walks_of rows numbers) (walk_of rest) ≡ walk_of whole)

pub first_in_turn : (old : List Row) (p : Plan) → InTurnSoFar old old [] p p
first_in_turn old p = (keeps_itself old, tt, refl)

pub next_in_turn : (old rows new : List Row) (numbers : List ℕ) (n : ℕ) (p rest whole : Plan)
    → InTurnSoFar old rows numbers (Then p rest) whole → Writes p rows new (Ok n)
    → InTurnSoFar old new (numbers ++ (n ∷ [])) rest whole
next_in_turn old rows new numbers n p rest whole h w = (
  keeps_on old rows new h.0 w.0,
  more_below rows new numbers n p h.1 w,
  ap (λ (fs : List Way). ways_then fs (walk_of rest)) (one_more rows new numbers n p h.1 w)
      ∙ ways_then_end (walks_of rows numbers) (walk_of p) (walk_of rest) ∙ h.2,
)

all_in_turn : (old rows : List Row) (numbers : List ℕ) (whole : Plan) → InTurnSoFar old rows numbers Nothing whole
    → walk_of (in_turn (map (plan_among (row_plans rows)) numbers)) ≡ walk_of whole
all_in_turn old rows numbers whole h =
    in_turn_ways (map (plan_among (row_plans rows)) numbers)
    ∙ ap each_way (map_through (plan_at rows) numbers)
    ∙ sym (ways_then_none (walks_of rows numbers)) ∙ h.2

pub written_in_turn : (old rows new : List Row) (numbers : List ℕ) (whole : Plan) (result : Result ℕ OutOfMemory)
    → InTurnSoFar old rows numbers Nothing whole → OnOk result (new ≡ rows ++ (row.InTurn numbers ∷ []))
    → IfOk result (λ n. n ≡ length rows) → Writes whole old new result
written_in_turn old rows new numbers whole result h e at =
    writes_on whole old rows new result h.0
    (writes whole rows new (row.InTurn numbers) result e at (all_in_turn old rows numbers whole h))

-- ---- arms

-- rows behind the old ones, whose walks and those of the rest are these
abbrev pub ListSoFar : List Row → List Row → List ℕ → List Plan → List Way → Type 0
ListSoFar old rows numbers rest whole =
    Keeps old rows × EachBelow (length rows) numbers × (walks_of rows numbers ++ map walk_of rest ≡ whole)

pub first_listed : (old : List Row) (ps : List Plan) → ListSoFar old old [] ps (map walk_of ps)
first_listed old ps = (keeps_itself old, tt, refl)

pub first_behind : (old : List Row) (before : List ℕ) (ps : List Plan) → All (λ n. n < length old) before
    → ListSoFar old old before ps (walks_of old before ++ map walk_of ps)
first_behind old before ps h = (keeps_itself old, below_all (length old) before h, refl)

pub next_listed : (old rows new : List Row) (numbers : List ℕ) (n : ℕ) (p : Plan) (rest : List Plan) (whole : List Way)
    → ListSoFar old rows numbers (p ∷ rest) whole → Writes p rows new (Ok n)
    → ListSoFar old new (numbers ++ (n ∷ [])) rest whole
next_listed old rows new numbers n p rest whole h w = (
  keeps_on old rows new h.0 w.0,
  more_below rows new numbers n p h.1 w,
  ap (λ (fs : List Way). fs ++ map walk_of rest) (one_more rows new numbers n p h.1 w)
      ∙ append_assoc (walks_of rows numbers) (walk_of p ∷ []) (map walk_of rest) ∙ h.2,
)

-- the same, as the functions that write lists say it
abbrev pub Listed : List Row → List Row → List ℕ → List Way → Type 0
Listed old rows numbers whole =
    Keeps old rows × All (λ n. n < length rows) numbers × (walks_of rows numbers ≡ whole)

pub list_written : (old rows : List Row) (numbers : List ℕ) (whole : List Way)
    → ListSoFar old rows numbers [] whole → Listed old rows numbers whole
list_written old rows numbers whole h =
    (h.0, all_below (length rows) numbers h.1, sym (append-nil (walks_of rows numbers)) ∙ h.2)

pub written_list : (old rows : List Row) (numbers : List ℕ) (whole : List Way)
    → Listed old rows numbers whole → ListSoFar old rows numbers [] whole
written_list old rows numbers whole h =
    (h.0, below_all (length rows) numbers h.1, append-nil (walks_of rows numbers) ∙ h.2)

ways_append : (ps qs : List Plan) → map walk_of ps ++ map walk_of qs ≡ map walk_of (ps ++ qs)
ways_append [] qs = refl
ways_append (p ∷ ps) qs = ap (λ (fs : List Way). walk_of p ∷ fs) (ways_append ps qs)

-- a list behind another
pub written_lists : (old mid rows : List Row) (before numbers : List ℕ) (ps qs : List Plan)
    → Listed old mid before (map walk_of ps) → Listed mid rows numbers (walks_of mid before ++ map walk_of qs)
    → ListSoFar old rows numbers [] (map walk_of (ps ++ qs))
written_lists old mid rows before numbers ps qs h k = (
  keeps_on old mid rows h.0 k.0,
  below_all (length rows) numbers k.1,
  append-nil (walks_of rows numbers) ∙ k.2 ∙ ap (λ (fs : List Way). fs ++ map walk_of qs) h.2 ∙ ways_append ps qs,
)

all_meet : (at : code_site.Site) (old rows : List Row) (numbers : List ℕ) (ps : List Plan)
    → ListSoFar old rows numbers [] (map walk_of ps)
    → walk_of (arms_meet (view_site at) (map (plan_among (row_plans rows)) numbers))
    ≡ walk_of (arms_meet (view_site at) ps)
all_meet at old rows numbers ps h =
    meet_walks (view_site at) (map (plan_among (row_plans rows)) numbers) ps
    (map_through (plan_at rows) numbers ∙ sym (append-nil (walks_of rows numbers)) ∙ h.2)

pub written_meet : (at : code_site.Site) (old rows new : List Row) (numbers : List ℕ) (ps : List Plan)
    (result : Result ℕ OutOfMemory) → ListSoFar old rows numbers [] (map walk_of ps)
    → OnOk result (new ≡ rows ++ (row.Meet at numbers ∷ [])) → IfOk result (λ n. n ≡ length rows)
    → Writes (arms_meet (view_site at) ps) old new result
written_meet at old rows new numbers ps result h e is =
    writes_on (arms_meet (view_site at) ps) old rows new result h.0
    (writes (arms_meet (view_site at) ps) rows new (row.Meet at numbers) result e is
    (all_meet at old rows numbers ps h))
