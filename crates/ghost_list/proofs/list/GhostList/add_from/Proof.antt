-- The full right to add lets the entries grow.
use Rattle.std.proofs.Common.{List, [], ◌∷◌, ◌++◌, refl}
use mir.Syntax.{a_type, dcons, dnil, named}
use mir.Val.{Val, vunit, vptr}
use mir.MapTy.{inst_fn}
use base.Fraction.{full_share}
use base.Logic.{SProp}
use base.Fml.{Fml, ftrue, fsep, flft}
use types.Kit.{‵, raw, ◌⊛◌, later, ◌$◌, ◌∵◌, !, qed, by, move, keep, drop, use1, split, fsplit, fsplit3, fjoin, fjoin3, await, feq_i}
use types.Run.{unit_lit, of_opd, returns, enter}
use types.ByLocal.{alloc_all, pass_all, free_all, look_at, sets}
use contract.Monad.{fact_i}
use contract.Running.{tables}
use denote.Exit.{yes}
use denote.RattleType.{RattleType, owns}
use denote.Signature.{types_at, plain}
use denote.Builtin.{RefOf}
use denote.Ref.{mut_vals, mut_Tells, shr_vals, shr_Tells}
use denote.Steps.{nothing, opens, closes}
use denote.Param.{param, bounded}
use denote.Triple.Walked.{Stays, stay_dropped, stay_ref, walk_of, Goes-dropped, Goes-ref}
use Rattle.std.proofs.raw_atomic.Walks.{proved}
use Rattle.ghost_list.specs.Owned.{held}
use Rattle.ghost_list.specs.contracts.list.GhostList as GhostList
use Rattle.ghost_list.proofs.Steps as steps
use Rattle.ghost_list.proofs.Tokens.{ends}
use Rattle.ghost_list.specs.contracts.list.GhostList.add_from.{ended, clauses}
use Rattle.ghost_list.specs.contracts.list.GhostList.add_from.Key.{name as #self}
use Rattle.ghost_list.proofs.list.GhostList.add_from.Statement.{statement}
use Rattle.ghost_list.proofs.list.GhostList.add_from.Code as code

pub add_from_spec : {M : Type 1} → statement M
add_from_spec 𝓤 𝓛 𝓜 𝓡 wired E J X N _ _ _ _ g d gn dn _ _ =
    let H = 𝓛.H in let 𝓣 = tables 𝓤 H 𝓜 𝓡 𝓡.env in
    let E' : RattleType = param 0 E in let J' : RattleType = param 1 J in let C : RattleType = GhostList.the_row E' J' g in let code_of = E'.coded.code in
    let X' : RattleType = param 2 X in let En = ended E J X N g d gn dn in let c = clauses E J X N g d gn dn 𝓛 𝓜.mem 𝓡.returns in
    let inst = bounded (a_type ∷ a_type ∷ a_type ∷ a_type ∷ []) (E, (J, (X, (N, tt)))) (dcons d (dcons dn dnil)) in let fn = inst_fn inst code.function in
    let From = RefOf (1 ∷ []) tt (plain (λ _. X')) (λ _. tt) in
    let hs : Stays En.signature.params En.kept = (stay_ref (0 ∷ []) tt (plain (λ _. C)), (stay_dropped From yes, tt)) in
    proved 𝓛 En hs c 𝓜 𝓡 (Goes-ref 𝓛 6 0 tt (plain (λ _. C)), (Goes-dropped 𝓛 6 From yes (λ κs x f. refl), tt)) (#self inst) fn (code.unfolded 𝓤 H 𝓜 𝓡 wired (E, (J, (X, (N, tt)))) d dn)
    (λ κs. (mut_vals, (shr_vals, tt))) (λ κs. (mut_Tells (named 0) κs.0 C, (shr_Tells (named 1) κs.1.0 X', tt))) (λ κs qs bounds a gh are.
    let b = a.0.ref_ptr.0 in let o = a.0.ref_ptr.1 in let at : Val = vptr b o in let at' : Val = vptr a.1.0.ref_ptr.0 a.1.0.ref_ptr.1 in
    let me = a.0.now in let entry = gn.entry a.1.0.now in let new : C.Denot = record { marker = me.marker; entries = me.entries ++ entry ∷ [] } in
    let y : (walk_of 𝓛 En hs c).Ghost = ((κs, qs, bounds, a, (at ∷ [], (at' ∷ [], tt))), gh) in let Post : Val → SProp 𝓤 = (walk_of 𝓛 En hs c).post y in
    let toks : Fml = fsep (flft κs.0 qs.0) (fsep (flft κs.1.0 qs.1.0) (fsep (flft κs.1.1.0 qs.1.1.0) (fsep (flft κs.1.1.1.0 qs.1.1.1.0) (fsep (flft κs.1.1.1.1.0 qs.1.1.1.1.0) (fsep (flft κs.1.1.1.1.1.0 qs.1.1.1.1.1.0) ftrue))))) in
    qed 𝓛 ((‵ toks ⊛ ‵ (owns (types_at En.signature.params κs) a y.0.4)) ∷ raw ((c κs a).requires gh) ∷ []) ∵ keep ! (0 ∷ []) $ split ! $
    fsplit ! $ move ! (2 ∷ []) $ fsplit ! $ fsplit3 ! $ drop ! $ move ! (2 ∷ []) $ drop ! $ move ! (0 ∷ 1 ∷ 2 ∷ []) $
    -- [two parts of self; its token; the other tokens]
    enter ! 𝓣.C 𝓣.Λ fn (at ∷ at' ∷ []) Post $ alloc_all ! (λ l. pass_all ! refl ((tt, tt), ((tt, tt), tt)) $
    opens ! tt C b o (λ vs. move ! (1 ∷ []) $ fsplit ! $ move ! (1 ∷ []) $
    use1 𝓛 (later (‵ (held code_of g.name new.entries full_share))) (steps.grows 𝓛 E'.coded g.name me.entries (entry ∷ [])) $ await ! tt $
    move ! (1 ∷ 0 ∷ []) $ fjoin ! $ move ! (1 ∷ 0 ∷ 2 ∷ 3 ∷ 4 ∷ []) $ closes ! tt C new vs b o $
    sets ! (of_opd ! (unit_lit !)) refl (tt, tt) $ feq_i ! (List Val) (vunit ∷ []) (vunit ∷ []) refl $ move ! (3 ∷ 4 ∷ []) $ fjoin ! $ move ! (1 ∷ []) $
    -- [the unit; the tokens; two parts of self]
    nothing ! $ nothing ! $ fjoin ! $ feq_i ! (List Val) (at ∷ []) (at ∷ []) refl $ move ! (0 ∷ 4 ∷ 5 ∷ []) $ fjoin3 ! $ fjoin ! $
    returns ! (look_at ! 0 refl) $ free_all ! refl $ keep ! (2 ∷ 0 ∷ 1 ∷ []) $ by ! (ends 𝓛 En hs c y vunit tt (new, (tt, tt)) (tt, (tt, tt)) (fact_i 𝓤 _ _ refl)))))
