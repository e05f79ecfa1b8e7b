-- `into_box` takes the struct apart, and hands the parts to `from_raw`.
use Rattle.std.proofs.Common.{◌≡◌, ℕ, List, [], ◌∷◌, ◌++◌, refl, sym, subst}
use Rattle.std.proofs.raw_atomic.Walks.{proved_at, leaves}
use seplogic.Ra.Ura.{Ura}
use mir.Syntax.{Fn}
use mir.Val.{Val, vptr}
use mir.MapTy.{inst_fn}
use base.Fml.{ftrue, fsep}
use base.Logic.{SProp, ent, emp}
use prog.Model.{Model}
use prog.Wp.{WpFn}
use types.Logic.{Logic}
use types.Kit.{‵, raw, ◌⊛◌, some, later, at_ret, ◌$◌, ◌∵◌, !, qed, by, move, keep, split, fsplit, fjoin, pick, learn, use0, use1, await, group}
use types.Run.{stop, fld, of_opd, no_more, and_then, first, blocks, exec, returns, enter}
use types.ByLocal.{alloc_all, pass_all, free_all, look_at, get, get_in, sets, lands_last, env}
use types.Part.{sub, whole}
use contract.Monad.{fact, fact_i}
use contract.Running.{Running, MachineTables, tables}
use denote.Exit.{no}
use denote.Signature.{plain}
use denote.Steps.{nothing}
use denote.Triple.Call.{calls_at_last}
use denote.Triple.Clauses.{Clauses, Ended}
use denote.Triple.Statement.{Contract, Triple}
use denote.Triple.Walked.{Stays, stay_dropped, walk_of}
use Rattle.core.proofs.alloc.Calls.{Fits, Goes-blank}
use Rattle.core.proofs.alloc.Shapes.{after}
use Rattle.core.proofs.atomic.Steps.{fm}
use Rattle.std_alloc.proofs.boxed.Box.from_raw.Met as box
use Rattle.st_loose.proofs.Parts.{two, Loose, loose_fits, loose_apart}
use Rattle.st_loose.proofs.BoxCalls.{Params, args, box_key, Row, al, Tokens, Outlive, Boxes, at_box, box_goes, Boxed, box_gives}
use Rattle.st_loose.specs.contracts.loose_box.LooseBox.into_box as f
use Rattle.st_loose.specs.contracts.loose_box.LooseBox.into_box.Key.{name as #into_box}
use Rattle.st_loose.proofs.loose_box.LooseBox.into_box.Statement.{statement}
use Rattle.st_loose.proofs.loose_box.LooseBox.into_box.Code as code

module _ (P : Params) where
  abbrev fn : Fn
  fn = inst_fn (args P) code.function

  abbrev ended : Ended
  ended = f.ended P.T P.A P.ghosts P.methods P.T_drop P.A_drop

  -- at the return nothing is left of the struct
  abbrev stayed : Stays ended.signature.params ended.kept
  stayed = (stay_dropped (plain (λ _. Loose (Row P) (al P))) no, tt)

  module _ {M : Type 1} {𝓤 : Ura M} (𝓛 : Logic 𝓤) (𝓜 : Model 𝓤 𝓛.H) (𝓡 : Running 𝓤 𝓛.H 𝓜) where
    abbrev 𝓣 : MachineTables 𝓤 𝓛.H 𝓜
    𝓣 = tables 𝓤 𝓛.H 𝓜 𝓡 𝓡.env

    abbrev clauses : Clauses 𝓤 ended
    clauses = f.clauses P.T P.A P.ghosts P.methods P.T_drop P.A_drop 𝓛 𝓜.mem 𝓡.returns

    abbrev W : Contract 𝓤
    W = walk_of 𝓛 ended stayed clauses

    abbrev B : Contract 𝓤
    B = Boxes P 𝓛 𝓜.mem 𝓡.returns

    -- The struct is two words, an address and the allocator's, h. What it owns has been put into the form that the call asks for.
    walk : Triple 𝓤 (𝓣.C (box_key P)) B → (z : W.Ghost) (b o : ℕ) (h : Val) → Fits (al P) h
        → ent 𝓤 (B.pre (at_box P 𝓛 𝓜.mem 𝓡.returns z.0.0 z.0.1 z.0.3.0.alloc b o h z.0.3.0.value)) (WpFn 𝓤 𝓛.H 𝓣.C 𝓣.Λ fn (two (vptr b o) h ∷ []) (W.post z))
    walk met z b o h fits =
        let l = z.0.3.0 in let y = at_box P 𝓛 𝓜.mem 𝓡.returns z.0.0 z.0.1 l.alloc b o h l.value in let w = two (vptr b o) h in
        qed 𝓛 (raw (B.pre y) ∷ []) ∵ enter ! 𝓣.C 𝓣.Λ fn (w ∷ []) (W.post z) $
        alloc_all ! (λ locals. pass_all ! refl (loose_fits (Row P) (al P) b o h fits, tt) $ let E = env fn.locals locals in
        -- [the tokens, what a box owns, the allocator, and that the types outlive the lifetimes, in one entry; the locals]
        -- let LooseBox { at, alloc } = self;
        sets ! (of_opd ! (get_in ! (fld ! refl (stop !)) (sub ! 0 refl (whole !)))) refl (tt, tt) $
        sets ! (of_opd ! (get_in ! (fld ! refl (stop !)) (sub ! 1 refl (whole !)))) refl fits $
        -- unsafe { Box::from_raw(alloc, at) }
        first ! $ blocks ! $ sets ! (of_opd ! (get ! refl)) refl fits $
        calls_at_last ! (fm 𝓛 𝓜 𝓡) B met y (and_then ! (get ! refl) (and_then ! (get ! refl) (no_more !))) (λ u.
        use1 𝓛 (later (some (Boxed P 𝓛 𝓜.mem 𝓡.returns z.0.0 z.0.1 l.value u))) (box_gives P 𝓛 𝓜.mem 𝓡.returns z.0.0 z.0.1 l.alloc b o h l.value u) $
        await ! tt $ pick ! (λ it. learn ! (λ came. split ! $
        -- [the tokens; the box; the locals]
        lands_last ! refl came.1 $ exec ! 𝓣.C 𝓣.Λ E (after 3 fn.body) (at_ret E (W.post z)) $
        sets ! (of_opd ! (get ! refl)) refl came.1 $
        returns ! (look_at ! 0 refl) $ free_all ! refl $
        -- [the tokens; the box], to which come that it has the struct's value, and that nothing is left of the struct
        use0 𝓛 (raw (fact 𝓤 (it.value ≡ l.value))) (fact_i 𝓤 (it.value ≡ l.value) (emp 𝓤) came.0) $ nothing ! $ nothing ! $ fjoin ! $
        -- [the tokens; nothing of the struct; the box; that it has the struct's value]
        move ! (2 ∷ 0 ∷ 3 ∷ 1 ∷ []) $ by ! (leaves 𝓛 ended stayed clauses z u it ((tt, (tt, tt)), tt) (tt, tt))))))

pub into_box_spec : {M : Type 1} → statement M
into_box_spec 𝓤 𝓛 𝓜 𝓡 wired T A L L' g d dT dA allocator T_glue A_glue =
    let P : Params = record { T = T; A = A; T_laws = L; A_laws = L'; ghosts = g; methods = d; T_drop = dT; A_drop = dA } in
    let t = 𝓣 P 𝓛 𝓜 𝓡 in let w = W P 𝓛 𝓜 𝓡 in
    let boxes = box.met 𝓤 𝓛 𝓜 𝓡 (code.calls-std_alloc::boxed::Box::from_raw 𝓡.env wired) T A L L' g d dA allocator A_glue in
    proved_at 𝓛 (ended P) (stayed P) (clauses P 𝓛 𝓜 𝓡) 𝓜 𝓡 (Goes-blank 𝓛 2 (plain (λ _. Loose (Row P) (al P))) no (λ κs x k. tt), tt)
    (#into_box (args P)) (fn P) (code.unfolded 𝓤 𝓛.H 𝓜 𝓡 wired (T, (A, tt)) d dT dA) (λ z are.
    let l = z.0.3.0 in let Run : List Val → SProp 𝓤 = λ ws. WpFn 𝓤 𝓛.H t.C t.Λ (fn P) ws (w.post z) in
    let tokens = Tokens P 𝓛 𝓜.mem 𝓡.returns z.0.0 z.0.1 in let outlive = Outlive P 𝓛 𝓜.mem 𝓡.returns z.0.0 z.0.1 in
    qed 𝓛 ((tokens ⊛ ‵ (fsep ((Loose (Row P) (al P)).own_val l z.0.4.0) ftrue)) ∷ outlive ∷ []) ∵ split ! $ move ! (1 ∷ []) $ fsplit ! $
    loose_apart (Row P) (al P) ! l z.0.4.0 (λ b o h at word fits.
    -- [what a box owns; the allocator; no further parameter; the tokens; that the types outlive them]
    let asked = (B P 𝓛 𝓜 𝓡).pre (at_box P 𝓛 𝓜.mem 𝓡.returns z.0.0 z.0.1 l.alloc b o h l.value) in
    keep ! (3 ∷ 4 ∷ 0 ∷ 1 ∷ []) $ group ! 4 $ use1 𝓛 (raw asked) (box_goes P 𝓛 𝓜.mem 𝓡.returns z.0.0 z.0.1 l.alloc b o h l.value) $
    by ! (subst (λ (ws : List Val). ent 𝓤 asked (Run (ws ++ []))) (sym word) (walk P 𝓛 𝓜 𝓡 boxes z b o h fits))))
