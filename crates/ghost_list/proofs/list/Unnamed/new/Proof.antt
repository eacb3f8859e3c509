-- `new` makes the right to add, under a name of its own.
use Rattle.std.proofs.Common.{ℕ, [], ◌∷◌, refl}
use mir.Val.{Val}
use base.Logic.{SProp, id⊢}
use types.Kit.{‵, raw, some, later, ◌$◌, ◌∵◌, !, qed, by, keep, use0, fjoin, pick, await}
use types.Run.{no_more, and_then, returns, enter}
use types.ByLocal.{alloc_all, pass_all, free_all, look_at, get, sets}
use types.Part.{agg}
use contract.Running.{tables}
use denote.Builtin.{unit}
use denote.Steps.{nothing}
use denote.Triple.Entry.{on_entry}
use denote.Triple.Walked.{walk_of}
use Rattle.std.proofs.raw_atomic.Walks.{proved}
use Rattle.ghost_list.specs.Owned.{unnamed}
use Rattle.ghost_list.proofs.Steps as steps
use Rattle.ghost_list.proofs.Tokens.{token, Token, token_made, ends}
use Rattle.ghost_list.specs.contracts.list.Unnamed.new.{ended, clauses}
use Rattle.ghost_list.specs.contracts.list.Unnamed.new.Key.{name as #self}
use Rattle.ghost_list.proofs.list.Unnamed.new.Statement.{statement}
use Rattle.ghost_list.proofs.list.Unnamed.new.Code as code

pub new_spec : {M : Type 1} → statement M
new_spec 𝓤 𝓛 𝓜 𝓡 wired =
    let H = 𝓛.H in let 𝓣 = tables 𝓤 H 𝓜 𝓡 𝓡.env in
    let c = clauses 𝓛 𝓜.mem 𝓡.returns in let fn = code.function in
    proved 𝓛 ended tt c 𝓜 𝓡 tt #self fn (code.unfolded 𝓤 H 𝓜 𝓡 wired) (λ κs. tt) (λ κs. tt) (λ κs qs bounds a gh are.
    let y : (walk_of 𝓛 ended tt c).Ghost = ((κs, qs, bounds, a, tt), gh) in let Post : Val → SProp 𝓤 = (walk_of 𝓛 ended tt c).post y in
    qed 𝓛 (raw (on_entry 𝓛 ended.signature κs qs a tt) ∷ raw ((c κs a).requires gh) ∷ []) ∵ keep ! [] $
    enter ! 𝓣.C 𝓣.Λ fn [] Post $ alloc_all ! (λ l. pass_all ! refl tt $
    use0 𝓛 (later (some (λ (name : ℕ). ‵ (unnamed name)))) (steps.begins 𝓛) $ await ! tt $ pick ! (λ name.
    sets ! (agg ! (no_more !)) refl (tt, tt) $ sets ! (agg ! (and_then ! (get ! refl) (no_more !))) refl (tt, (tt, tt)) $
    use0 𝓛 (‵ ((Token (unit)).own_val (record {}, tt) (token ∷ []))) (token_made (unit) 𝓛) $ fjoin ! $ nothing ! $ nothing ! $
    returns ! (look_at ! 0 refl) $ free_all ! refl $ by ! (ends 𝓛 ended tt c y token (record { marker = record {}; name = name }) tt tt (id⊢ 𝓤 _)))))
