-- `of` hands its box to `into_raw_with_allocator`, and makes the struct of the pair that comes back.
use Rattle.std.proofs.Common.{◌≡◌, List, [], ◌∷◌, ◌++◌, refl, sym, subst}
use Rattle.std.proofs.raw_atomic.Walks.{proved_at, leaves}
use seplogic.Ra.Ura.{Ura}
use mir.Syntax.{Fn}
use mir.Val.{Val, vptr}
use mir.MapTy.{inst_fn}
use base.Logic.{ent, emp}
use prog.Model.{Model}
use prog.Wp.{WpFn}
use types.Logic.{Logic}
use types.Kit.{raw, some, later, ◌$◌, ◌∵◌, !, qed, by, move, split3, fjoin, pick, learn, use0, use1, await}
use types.Run.{stop, fld, of_opd, no_more, and_then, returns, enter}
use types.ByLocal.{alloc_all, pass_all, free_all, look_at, get, get_in, sets, lands_as}
use types.Part.{agg, sub, whole}
use contract.Monad.{fact, fact_i}
use contract.Running.{Running, MachineTables, tables}
use denote.Exit.{no}
use denote.RawPtr.{block_ptr}
use denote.Signature.{plain}
use denote.Steps.{nothing}
use denote.Param.{layout}
use denote.Triple.Call.{calls_at}
use denote.Triple.Clauses.{Clauses, Ended}
use denote.Triple.Statement.{Contract, Triple}
use denote.Triple.Walked.{Stays, stay_dropped, walk_of}
use Rattle.core.proofs.alloc.Calls.{Goes-blank}
use Rattle.core.proofs.atomic.Steps.{fm}
use Rattle.core.proofs.cell.Inside.{Good, one}
use Rattle.std_alloc.proofs.boxed.Box.into_raw_with_allocator.Met as unbox
use Rattle.st_loose.proofs.Parts.{two, Loose, loose_fits, loose_joined}
use Rattle.st_loose.proofs.BoxCalls.{Params, args, unbox_key, Row, al, TheBox, box_laws, Unboxes, at_unbox, Unboxed, unbox_gives}
use Rattle.st_loose.specs.contracts.loose_box.LooseBox.of as f
use Rattle.st_loose.specs.contracts.loose_box.LooseBox.of.Key.{name as #of}
use Rattle.st_loose.proofs.loose_box.LooseBox.of.Statement.{statement}
use Rattle.st_loose.proofs.loose_box.LooseBox.of.Code as code

module _ (P : Params) where
  abbrev fn : Fn
  fn = inst_fn (args P) code.function

  abbrev ended : Ended
  ended = f.ended P.T P.A P.ghosts P.methods P.T_drop P.A_drop

  -- at the return nothing is left of the box
  abbrev stayed : Stays ended.signature.params ended.kept
  stayed = (stay_dropped (plain (λ _. TheBox P)) no, tt)

  module _ {M : Type 1} {𝓤 : Ura M} (𝓛 : Logic 𝓤) (𝓜 : Model 𝓤 𝓛.H) (𝓡 : Running 𝓤 𝓛.H 𝓜) where
    abbrev 𝓣 : MachineTables 𝓤 𝓛.H 𝓜
    𝓣 = tables 𝓤 𝓛.H 𝓜 𝓡 𝓡.env

    abbrev clauses : Clauses 𝓤 ended
    clauses = f.clauses P.T P.A P.ghosts P.methods P.T_drop P.A_drop 𝓛 𝓜.mem 𝓡.returns

    abbrev W : Contract 𝓤
    W = walk_of 𝓛 ended stayed clauses

    abbrev U : Contract 𝓤
    U = Unboxes P 𝓛 𝓜.mem 𝓡.returns

    -- The box is in the word w. What `of` is given is what the call asks for, as it stands.
    walk : Triple 𝓤 (𝓣.C (unbox_key P)) U → (z : W.Ghost) (w : Val) → Good (layout (TheBox P)) w
        → ent 𝓤 (U.pre (at_unbox P 𝓛 𝓜.mem 𝓡.returns z.0.0 z.0.1 z.0.3.0 w)) (WpFn 𝓤 𝓛.H 𝓣.C 𝓣.Λ fn (w ∷ []) (W.post z))
    walk met z w good =
        let it = z.0.3.0 in let y = at_unbox P 𝓛 𝓜.mem 𝓡.returns z.0.0 z.0.1 it w in
        qed 𝓛 (raw (U.pre y) ∷ []) ∵ enter ! 𝓣.C 𝓣.Λ fn (w ∷ []) (W.post z) $ alloc_all ! (λ l. pass_all ! refl (good, tt) $
        -- [the tokens, the box, and that the types outlive the lifetimes, in one entry; the locals]
        -- let (at, alloc) = Box::into_raw_with_allocator(it);
        sets ! (of_opd ! (get ! refl)) refl good $ calls_at ! (fm 𝓛 𝓜 𝓡) U met y (and_then ! (get ! refl) (no_more !)) (λ u.
        use1 𝓛 (later (some (Unboxed P 𝓛 𝓜.mem 𝓡.returns z.0.0 z.0.1 it u))) (unbox_gives P 𝓛 𝓜.mem 𝓡.returns z.0.0 z.0.1 it w u) $
        await ! tt $ pick ! (λ n. learn ! (λ came. split3 ! $
        -- [the tokens; what the box owned; the allocator; the locals]
        let b = n.0 in let o = n.1 in let h = n.2 in let fits = loose_fits (Row P) (al P) b o h came.1 in
        lands_as ! came.0 refl fits $
        sets ! (of_opd ! (get_in ! (fld ! refl (stop !)) (sub ! 0 refl (whole !)))) refl (tt, tt) $
        sets ! (of_opd ! (get_in ! (fld ! refl (stop !)) (sub ! 1 refl (whole !)))) refl came.1 $
        -- LooseBox { at, alloc }: it owns what the box owned, and the allocator
        sets ! (of_opd ! (get ! refl)) refl came.1 $
        sets ! (agg ! (and_then ! (get ! refl) (and_then ! (get ! refl) (no_more !)))) refl fits $
        move ! (1 ∷ 2 ∷ []) $ loose_joined (Row P) (al P) ! b o h it.alloc it.value $
        returns ! (look_at ! 0 refl) $ free_all ! refl $
        -- [the box in its parts; the tokens], to which come that its value is the box's, and that nothing is left of the box
        use0 𝓛 (raw (fact 𝓤 (it.value ≡ it.value))) (fact_i 𝓤 (it.value ≡ it.value) (emp 𝓤) refl) $ nothing ! $ nothing ! $ fjoin ! $
        -- [the tokens; nothing of the box; the box in its parts; that its value is the box's]
        move ! (3 ∷ 0 ∷ 2 ∷ 1 ∷ []) $ let made : (Loose (Row P) (al P)).Denot = record { at = block_ptr b o; alloc = it.alloc; value = it.value } in
        by ! (leaves 𝓛 ended stayed clauses z (two (vptr b o) h) made ((tt, (tt, tt)), tt) (tt, tt))))))

pub of_spec : {M : Type 1} → statement M
of_spec 𝓤 𝓛 𝓜 𝓡 wired T A L L' g d dT dA allocator T_glue A_glue =
    let P : Params = record { T = T; A = A; T_laws = L; A_laws = L'; ghosts = g; methods = d; T_drop = dT; A_drop = dA } in
    let t = 𝓣 P 𝓛 𝓜 𝓡 in let w = W P 𝓛 𝓜 𝓡 in
    let unboxes = unbox.met 𝓤 𝓛 𝓜 𝓡 (code.calls-std_alloc::boxed::Box::into_raw_with_allocator 𝓡.env wired) T A L L' g d dA dT allocator A_glue T_glue in
    proved_at 𝓛 (ended P) (stayed P) (clauses P 𝓛 𝓜 𝓡) 𝓜 𝓡 (Goes-blank 𝓛 2 (plain (λ _. TheBox P)) no (λ κs x k. tt), tt)
    (#of (args P)) (fn P) (code.unfolded 𝓤 𝓛.H 𝓜 𝓡 wired (T, (A, tt)) d dT dA) (λ z are.
    -- a box is one machine word, so it is enough to walk from there
    let word = one (layout (TheBox P)) z.0.4.0 (((box_laws P).lawful 𝓛).typed z.0.3.0 z.0.4.0 are.0) in
    let Walk : List Val → Type 1 = λ ws. ent 𝓤 (w.pre ((z.0.0, z.0.1, tt, z.0.3, (ws, tt)), tt)) (WpFn 𝓤 𝓛.H t.C t.Λ (fn P) (ws ++ []) (w.post z)) in
    subst Walk (sym word.1) (walk P 𝓛 𝓜 𝓡 unboxes z word.0 word.2))
