-- `none` makes the empty struct, with the cycles that its clause names. Assumes `Logic`.
use Rattle.iloc_sched.proofs.Common.{[], ◌∷◌, replicate, None, refl, w64}
use Rattle.std.proofs.raw_atomic.Walks.{proved}
use base.Fml.{ftrue}
use types.Kit.{‵, raw, ◌$◌, ◌∵◌, !, qed, done, keep, join, fjoin, group, suffices}
use types.Part.{agg}
use types.Run.{enter, returns, no_more}
use types.ByLocal.{alloc_all, pass_all, free_all, look_at, sets}
use denote.Builtin.{usize}
use denote.Exit.{yes}
use denote.Plain.{uint_vals, uint_Tells}
use denote.Signature.{plain}
use denote.Steps.{nothing}
use denote.Triple.Entry.{on_entry}
use denote.Triple.Walked.{Stays, walk_of, says, stay_dropped, Goes-dropped, ends_at}
use Rattle.iloc_sched.specs.contracts.cycle.issued.Issued.{the_row as R}
use Rattle.iloc_sched.specs.contracts.cycle.issued.Issued.none as f
use Rattle.iloc_sched.proofs.cycle.issued.EmptyStruct.{empty, empty_made}
use Rattle.iloc_sched.proofs.cycle.issued.Issued.none.Statement.{statement}
use Rattle.iloc_sched.proofs.cycle.issued.Issued.none.Code as code

abbrev stayed : Stays f.ended.signature.params f.ended.kept
stayed = (stay_dropped _ yes, tt)

pub none_spec : {M : Type 1} → statement M
none_spec 𝓤 𝓛 𝓜 𝓡 wired =
    let c = f.clauses 𝓛 𝓜.mem 𝓡.returns in let W = walk_of 𝓛 f.ended stayed c in
    proved 𝓛 f.ended stayed c 𝓜 𝓡 (Goes-dropped 𝓛 0 (plain (λ _. usize)) yes (λ κs x w. refl), tt)
    f.Key.name code.function (code.unfolded 𝓤 𝓛.H 𝓜 𝓡 wired)
    (λ κs. (uint_vals w64, tt)) (λ κs. (uint_Tells w64, tt)) (λ κs qs bounds a _ are.
    let y : W.Ghost = ((κs, qs, bounds, a, (uint_vals w64 a.0, tt)), tt) in
    let made : R.Denot = record { cycles = replicate a.0 None } in
    qed 𝓛 (raw (on_entry 𝓛 f.signature κs qs a y.0.4) ∷ ‵ ftrue ∷ []) ∵ keep ! [] $
    enter ! _ _ _ _ _ $ alloc_all ! (λ l. pass_all ! refl ((tt, record { fits = are.0.1 }), tt) $
    sets ! (agg ! (no_more !)) refl (tt, tt) $
    returns ! (look_at ! 0 refl) $ free_all ! refl $
    suffices ! _ (ends_at 𝓛 f.ended stayed c y empty made (tt, tt) (tt, tt)) $ says ! refl $
    nothing ! $ empty_made ! $ fjoin ! $
    nothing ! $ nothing ! $ join ! $ nothing ! $ group ! 3 $ done !))
