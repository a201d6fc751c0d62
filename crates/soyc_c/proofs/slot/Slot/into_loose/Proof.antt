-- `into_loose` tests the address: at null nothing is held, and else what a box owns.
use Rattle.std.proofs.Common.{◌≡◌, List, [], ◌∷◌, ◌++◌, Option, refl, sym, ap, ◌∙◌, subst, lit<}
use mir.Syntax.{Fn}
use mir.Val.{Val, vptr, vcons, vnil}
use base.Logic.{SProp, ent, emp, id⊢}
use base.Fml.{ftrue}
use prog.Wp.{WpFn}
use contract.Monad.{fact, fact_i}
use contract.Running.{tables}
use types.Kit.{‵, raw, ◌⊛◌, given, at_ret, ◌$◌, ◌∵◌, !, qed, by, move, keep, drop, use0, use1, split, learn, suffices, fsplit, fjoin}
use types.Match.{live}
use types.Part.{agg, sub, whole}
use types.Run.{stop, fld, lit, of_opd, bin, no_more, and_then, first, branches, exec, returns, enter}
use types.ByLocal.{alloc_all, pass_all, free_all, look_at, get, get_in, sets, sets_last, env}
use denote.Exit.{no}
use denote.Param.{layout}
use denote.RattleType.{RattleType, owns}
use denote.RawPtr.{Ptr, Testable, block_ptr, null_ptr, ptr_val, tests_null}
use denote.Signature.{type_at, types_at}
use denote.Steps.{nothing}
use denote.Triple.Entry.{alive}
use denote.Triple.Walked.{Stays, stay_dropped, walk_of}
use Rattle.std.specs.declared.option.Option.TheVariants.{None, Some}
use Rattle.std.proofs.alloc.Calls.{Goes-blank}
use Rattle.std.proofs.alloc.Shapes.{after}
use Rattle.std.proofs.cell.Inside.{Good}
use Rattle.std.proofs.option.Made.{Some-of, none_of}
use Rattle.std.proofs.raw_atomic.Walks.{proved_at, leaves}
use Rattle.std.specs.Box.Ownership.{box_owns}
use Rattle.std.proofs.alloc.Global.TheLaws as heap_laws
use Rattle.std.specs.contracts.impls.GlobalAllocator.TheImpl.{ghosts}
use Rattle.std.proofs.ResultValues.{and_tt}
use Rattle.soyc_c.proofs.Looses.{Loose, both, loose_good, loose_in}
use Rattle.soyc_c.proofs.SlotSteps.{R, Z, by_held, slot_good, slot_out, param_at, tested}
use Rattle.soyc_c.specs.contracts.slot.Slot.into_loose.{ended, clauses}
use Rattle.soyc_c.specs.contracts.slot.Slot.into_loose.Key.{name as #self}
use Rattle.soyc_c.proofs.slot.Slot.into_loose.Statement.{statement}
use Rattle.soyc_c.proofs.slot.Slot.into_loose.Code as code

pub into_loose_spec : {M : Type 1} → statement M
into_loose_spec 𝓤 𝓛 𝓜 𝓡 wired =
    let H = 𝓛.H in let 𝓣 = tables 𝓤 H 𝓜 𝓡 𝓡.env in let En = ended in let c = clauses 𝓛 𝓜.mem 𝓡.returns in
    let LZ = heap_laws.the_row_laws in let Lr : RattleType = Loose R Z LZ ghosts in
    let fn : Fn = code.function in
    let hs : Stays En.signature.params En.kept = (stay_dropped (param_at 0 En.signature.params) En.kept.0, tt) in
    proved_at 𝓛 En hs c 𝓜 𝓡 (Goes-blank 𝓛 0 (param_at 0 En.signature.params) En.kept.0 (λ κs x f. tt), tt) #self fn (code.unfolded 𝓤 H 𝓜 𝓡 wired) (λ z are.
    let Post : Val → SProp 𝓤 = (walk_of 𝓛 En hs c).post z in let Run : List Val → SProp 𝓤 = λ ws. WpFn 𝓤 H 𝓣.C 𝓣.Λ fn ws Post in
    let Out : RattleType = type_at En.signature.result z.0.0 in let d = z.0.3.0 in let a = d.alloc in
    qed 𝓛 ((raw (alive 𝓛 En.signature z.0.0 z.0.1) ⊛ ‵ (owns (types_at En.signature.params z.0.0) z.0.3 z.0.4))
    ∷ raw ((c z.0.0 z.0.3).requires z.1) ∷ []) ∵
    move ! (1 ∷ []) $ drop ! $ split ! $ move ! (1 ∷ []) $ fsplit ! $
    slot_out ! d z.0.4.0 (λ h ws fits.
    -- [what is held; the handle; nothing; the tokens]
    by_held ! a d.at d.value
    (λ is none. let w : Val = both (ptr_val null_ptr) h in
    suffices ! (Run (w ∷ [])) (subst (λ (us : List Val). ent 𝓤 (Run (w ∷ [])) (Run us)) (sym (λ i. (ws ∙ ap (λ (p : Ptr). both (ptr_val p) h ∷ []) is) i ++ [])) (id⊢ 𝓤 (Run (w ∷ [])))) $
    enter ! 𝓣.C 𝓣.Λ fn (w ∷ []) Post $ alloc_all ! (λ l. pass_all ! refl (slot_good null_ptr h fits, tt) $ let Ev = env fn.locals l in
    sets ! (of_opd ! (get_in ! (fld ! refl (stop !)) (sub ! 0 refl (whole !)))) refl (tt, record { fits = lit< tt }) $
    sets ! (of_opd ! (get_in ! (fld ! refl (stop !)) (sub ! 1 refl (whole !)))) refl fits $
    sets ! (bin ! (get ! refl) (lit ! tt) tt) refl (tt, tt) $ first ! $ branches ! (get ! refl)
    (λ _. sets_last ! (agg ! (and_then ! (lit ! tt) (no_more !))) refl (tt, (record { fits = lit< tt }, tt)) $
    exec ! 𝓣.C 𝓣.Λ Ev (after 4 fn.body) (at_ret Ev Post) $ sets ! (of_opd ! (get ! refl)) refl (tt, (record { fits = lit< tt }, tt)) $
    returns ! (look_at ! 0 refl) $ free_all ! refl $
    -- [the handle; nothing; the tokens]
    use0 𝓛 (‵ (Out.own_val None (live 0 vnil ∷ []))) (none_of 𝓛 Lr) $
    use0 𝓛 (raw (fact 𝓤 (None ≡ d.value))) (fact_i 𝓤 (None ≡ d.value) (emp 𝓤) (sym none)) $ nothing ! $ nothing ! $ fjoin ! $
    keep ! (5 ∷ 0 ∷ 2 ∷ 1 ∷ []) $ by ! (leaves 𝓛 En hs c z (live 0 vnil) None (tt, tt) (tt, tt))) (λ wrong. absurd wrong)))
    (λ b o y is some. let made : Val = both (vptr b o) h in
    let typed = loose_good R Z LZ ghosts b o h fits in let v₁ : Val = live 1 (vcons made vnil) in
    let lost : Lr.Denot = record { at = block_ptr b o; alloc = a; value = y } in
    let good : Good (layout Out) v₁ = (and_tt _ typed.0, (record { fits = lit< tt }, (typed.1, tt))) in
    use1 𝓛 (given (Testable (block_ptr b o)) (‵ (box_owns (ghosts.dealloc_token a) R (block_ptr b o) y))) (tested 𝓛 a (block_ptr b o) y) $ learn ! (λ t.
    suffices ! (Run (made ∷ [])) (subst (λ (us : List Val). ent 𝓤 (Run (made ∷ [])) (Run us)) (sym (λ i. (ws ∙ ap (λ (p : Ptr). both (ptr_val p) h ∷ []) is) i ++ [])) (id⊢ 𝓤 (Run (made ∷ [])))) $
    enter ! 𝓣.C 𝓣.Λ fn (made ∷ []) Post $ alloc_all ! (λ l. pass_all ! refl (slot_good (block_ptr b o) h fits, tt) $ let Ev = env fn.locals l in
    sets ! (of_opd ! (get_in ! (fld ! refl (stop !)) (sub ! 0 refl (whole !)))) refl (tt, tt) $
    sets ! (of_opd ! (get_in ! (fld ! refl (stop !)) (sub ! 1 refl (whole !)))) refl fits $
    sets ! (bin ! (get ! refl) (lit ! tt) (tests_null (block_ptr b o) t)) refl (tt, tt) $ first ! $ branches ! (get ! refl) (λ wrong. absurd wrong) (λ _.
    sets ! (of_opd ! (get ! refl)) refl (tt, tt) $ sets ! (agg ! (and_then ! (get ! refl) (and_then ! (get ! refl) (no_more !)))) refl typed $
    sets_last ! (agg ! (and_then ! (lit ! tt) (and_then ! (get ! refl) (no_more !)))) refl good $
    exec ! 𝓣.C 𝓣.Λ Ev (after 4 fn.body) (at_ret Ev Post) $ sets ! (of_opd ! (get ! refl)) refl good $
    returns ! (look_at ! 0 refl) $ free_all ! refl $
    -- [what the box owned; the handle; nothing; the tokens]
    loose_in R Z LZ ghosts ! b o h a y $ use1 𝓛 (‵ (Out.own_val (Some lost) (v₁ ∷ []))) (Some-of 𝓛 Lr lost made) $
    use0 𝓛 (raw (fact 𝓤 (Some y ≡ d.value))) (fact_i 𝓤 (Some y ≡ d.value) (emp 𝓤) (sym some)) $ nothing ! $ nothing ! $ fjoin ! $
    keep ! (4 ∷ 0 ∷ 2 ∷ 1 ∷ []) $ by ! (leaves 𝓛 En hs c z v₁ (Some lost) (tt, tt) (tt, tt))))))))
