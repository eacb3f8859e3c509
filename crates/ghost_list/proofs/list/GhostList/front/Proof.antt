-- A share of the right to add determines the entries.
use Rattle.std.proofs.Common.{[], ◌∷◌, refl}
use mir.Syntax.{a_type, dcons, dnil, named}
use mir.Val.{Val, vptr}
use mir.MapTy.{inst_fn}
use base.Logic.{SProp}
use base.Fml.{Fml, ftrue, fsep, flft, fshr_bor}
use types.Kit.{‵, raw, ◌⊛◌, ◌$◌, ◌∵◌, !, qed, by, move, keep, drop, use0, use1, split, fsplit, fjoin}
use types.Run.{no_more, and_then, returns, enter}
use types.ByLocal.{alloc_all, pass_all, free_all, look_at, get, sets}
use types.Part.{agg}
use types.Tokens.{shr_bor-open, obor_close}
use contract.Monad.{fact_i}
use contract.Running.{tables}
use denote.Exit.{yes}
use denote.RattleType.{RattleType, owns}
use denote.Signature.{types_at, plain}
use denote.Builtin.{RefOf}
use denote.Ref.{shr_vals, shr_Tells}
use denote.Steps.{nothing}
use denote.Param.{param, bounded}
use denote.Struct.Tuple.{Tuple}
use denote.Triple.Walked.{Stays, stay_dropped, walk_of, Goes-dropped}
use Rattle.std.proofs.raw_atomic.Walks.{proved}
use Rattle.ghost_list.specs.Owned.{held, known}
use Rattle.ghost_list.specs.contracts.list.GhostList as GhostList
use Rattle.ghost_list.proofs.Lent.{ghost_list_lent}
use Rattle.ghost_list.proofs.Steps as steps
use Rattle.ghost_list.proofs.Tokens.{token, Token, token_made, ends}
use Rattle.ghost_list.specs.contracts.list.GhostList.front.{ended, clauses}
use Rattle.ghost_list.specs.contracts.list.GhostList.front.Key.{name as #self}
use Rattle.ghost_list.proofs.list.GhostList.front.Statement.{statement}
use Rattle.ghost_list.proofs.list.GhostList.front.Code as code

pub front_spec : {M : Type 1} → statement M
front_spec 𝓤 𝓛 𝓜 𝓡 wired E J _ _ g d _ =
    let H = 𝓛.H in let 𝓣 = tables 𝓤 H 𝓜 𝓡 𝓡.env in
    let E' : RattleType = param 0 E in let J' : RattleType = param 1 J in let C : RattleType = GhostList.the_row E' J' g in let code_of = E'.coded.code in
    let En = ended E J g d in let c = clauses E J g d 𝓛 𝓜.mem 𝓡.returns in
    let inst = bounded (a_type ∷ a_type ∷ []) (E, (J, tt)) (dcons d dnil) in let fn = inst_fn inst code.function in
    let Arg = RefOf (0 ∷ []) tt (plain (λ _. C)) (λ _. tt) in
    let hs : Stays En.signature.params En.kept = (stay_dropped Arg yes, tt) in
    proved 𝓛 En hs c 𝓜 𝓡 (Goes-dropped 𝓛 3 Arg yes (λ κs x f. refl), tt) (#self inst) fn (code.unfolded 𝓤 H 𝓜 𝓡 wired (E, (J, tt)) d)
    (λ κs. (shr_vals, tt)) (λ κs. (shr_Tells (named 0) κs.0 C, tt)) (λ κs qs bounds a gh are.
    let me = a.0.now in let at : Val = vptr a.0.ref_ptr.0 a.0.ref_ptr.1 in
    let y : (walk_of 𝓛 En hs c).Ghost = ((κs, qs, bounds, a, (at ∷ [], tt)), gh) in let Post : Val → SProp 𝓤 = (walk_of 𝓛 En hs c).post y in
    let toks : Fml = fsep (flft κs.0 qs.0) (fsep (flft κs.1.0 qs.1.0) (fsep (flft κs.1.1.0 qs.1.1.0) ftrue)) in
    qed 𝓛 ((‵ toks ⊛ ‵ (owns (types_at En.signature.params κs) a y.0.4)) ∷ raw ((c κs a).requires gh) ∷ []) ∵ keep ! (0 ∷ []) $ split ! $
    fsplit ! $ move ! (2 ∷ []) $ fsplit ! $ fsplit ! $ keep ! (1 ∷ 3 ∷ 4 ∷ []) $ use1 𝓛 (‵ (fshr_bor κs.0 (held code_of g.name me.entries))) (ghost_list_lent 𝓛 E' J' g κs.0 me a.0.ref_ptr.0 a.0.ref_ptr.1) $
    -- [the share's borrow; its token; the other tokens]
    enter ! 𝓣.C 𝓣.Λ fn (at ∷ []) Post $ alloc_all ! (λ l. pass_all ! refl ((tt, tt), tt) $
    shr_bor-open ! tt (steps.held_halves 𝓛 E'.coded g.name me.entries) (λ q. move ! (1 ∷ []) $
    use1 𝓛 (‵ (held code_of g.name me.entries q) ⊛ ‵ (known code_of g.name me.entries)) (steps.shows 𝓛 E'.coded g.name me.entries q) $
    split ! $ move ! (2 ∷ 0 ∷ []) $ obor_close ! tt $ drop ! $ move ! (0 ∷ 2 ∷ []) $ fjoin ! $ move ! (1 ∷ []) $
    -- [the known entries; the tokens]
    sets ! (agg ! (no_more !)) refl (tt, tt) $ sets ! (agg ! (and_then ! (get ! refl) (no_more !))) refl (tt, (tt, tt)) $
    use0 𝓛 (‵ ((Token (Tuple (E' ∷ J' ∷ []))).own_val (record {}, tt) (token ∷ []))) (token_made (Tuple (E' ∷ J' ∷ [])) 𝓛) $ fjoin ! $ nothing ! $ nothing ! $ fjoin ! $
    returns ! (look_at ! 0 refl) $ free_all ! refl $ keep ! (2 ∷ 0 ∷ 1 ∷ []) $ by ! (ends 𝓛 En hs c y token (record { marker = record {}; entries = me.entries }) (tt, tt) (tt, tt) (fact_i 𝓤 _ _ refl)))))
