-- `attach_front` fills the block. Assumes `Logic`.
use mathlib.Core.Path.{◌≡◌, refl, sym, subst}
use Prim.Native.Nat.{ℕ, ◌+◌, ◌<◌, ◌^◌}
use native.Mathlib.Omega.{arith}
use mathlib.Core.List.{List, [], ◌∷◌, ◌++◌}
use lib.Dec.{eqb→eq}
use mir.Syntax.{Args, Fn, a_type, dnil, dcons, ty_ptr}
use mir.MapTy.{inst_fn}
use mir.Val.{Val, vptr, vunit}
use base.Logic.{SProp, ent, id⊢}
use base.Fml.{ftrue, flft}
use prog.Wp.{WpFn}
use contract.BorrowLft.{◌⊑◌}
use contract.Monad.{fact}
use contract.Running.{tables}
use types.Kit.{‵, raw, ◌⊛◌, at_ret, ◌$◌, ◌∵◌, !, qed, move, keep, use1, use2, split, join, group, fsplit, fsplit3, fjoin, fjoin3, feq_i, feq_l, suffices, frame, done}
use types.Part.{whole, sub, agg, look_in, store_in}
use types.Run.{init, stop, fld, load, lit, unit_lit, of_opd, bin, and_then, no_more, assigns, assigns_last, first, blocks, branches, skips, exec, returns, enter}
use types.ByLocal.{alloc_all, pass_all, free_all, look_at, get, get_in, through, sets, env}
use denote.Exit.{no}
use denote.RattleType.{RattleType, owns}
use denote.Memory.{lone}
use denote.RawPtr.{Ptr, block_ptr, ptr_val}
use denote.Param.{param, bounded}
use denote.Signature.{plain, types_at}
use denote.Steps.{nothing, heard}
use denote.Struct.Struct.{as_fields}
use denote.Triple.Walked.{says, Stays, stay_ref, stay_dropped, walk_of, ends_at, Goes-ref, Goes-dropped}
use Rattle.core.proofs.alloc.Calls.{α, Goes-blank}
use Rattle.std.proofs.raw_atomic.Walks.{proved_at}
use Rattle.std_alloc.proofs.VecSteps.Shapes.{after}
use Rattle.std_alloc.proofs.RcSteps.{Good, Ptr-Good}
use Rattle.std_alloc.proofs.RawLayout.{as_written}
use Rattle.std_alloc.proofs.BoxSteps.Form.{Bx, X, τ, R, P}
use Rattle.std_alloc.proofs.BoxSteps.Steps.{el_tells}
use Rattle.std_alloc.proofs.OfVacant.{Vacant, vacant_val, vacant_typed, Vacant-had}
use Rattle.st_queue.specs.contracts.chain.Node as Block
use Rattle.st_steps.specs.contracts.steps.Steps as Count
use Rattle.st_queue.specs.Links.{Link, links_of, IsChained}
use Rattle.st_queue.proofs.Chained.{IsChained-had, IsChained-cons}
use Rattle.st_queue.proofs.NodeSteps.{uncons, node_val, Hd, D, Nr, Held, One, cons_in, nodes_opens, nodes_closes, node_made}
use Rattle.st_queue.proofs.Walking.{nothing_in, not_zero}
use Rattle.st_queue.specs.contracts.chain.Chain.attach_front as f
use Rattle.st_queue.specs.contracts.chain.Chain.attach_front.Key.{name as #self}
use Rattle.st_queue.proofs.chain.Chain.attach_front.Statement.{statement}
use Rattle.st_queue.proofs.chain.Chain.attach_front.Code as code

pub attach_front_spec : {M : Type 1} → statement M
attach_front_spec 𝓤 𝓛 𝓜 𝓡 wired Y Z W L LZ LW g d dd lg ld met md metL =
    let E : Bx = record { row = Y; laws = L; al = record { row = Z; laws = LZ; g = g; d = d; drops = dd } } in
    let 𝓣 = tables 𝓤 𝓛.H 𝓜 𝓡 𝓡.env in
    let inst : Args = bounded (a_type ∷ a_type ∷ a_type ∷ []) (Y, (Z, (W, tt))) (dcons d (dcons dd (dcons ld dnil))) in
    let fn : Fn = inst_fn inst code.function in
    let En = f.ended Y Z W g d dd lg ld in
    let c = f.clauses Y Z W g d dd lg ld 𝓛 𝓜.mem 𝓡.returns in
    let St : RattleType = Count.the_row (param 2 W) lg in
    let Node : RattleType = Block.the_row (R E) (P E) in
    let Room : RattleType = Vacant E.al Node in
    let hs : Stays En.signature.params En.kept = (stay_ref (0 ∷ []) tt (plain (λ _. Nr E)), (stay_dropped (plain (λ _. Room)) no, (stay_dropped (plain (λ _. R E)) no, (stay_ref (1 ∷ []) tt (plain (λ _. St)), tt)))) in
    proved_at 𝓛 En hs c 𝓜 𝓡 (Goes-ref 𝓛 5 0 tt (plain (λ _. Nr E)), (Goes-blank 𝓛 5 (plain (λ _. Room)) no (λ κs x f. tt), (Goes-dropped 𝓛 5 (plain (λ _. R E)) no (λ κs x f. refl), (Goes-ref 𝓛 5 1 tt (plain (λ _. St)), tt))))
    (#self inst) fn (code.unfolded 𝓤 𝓛.H 𝓜 𝓡 wired (Y, (Z, (W, tt))) d dd ld) (λ y are.
    let κs = y.0.0 in let qs = y.0.1 in let a = y.0.3 in let vss = y.0.4 in
    let κ = κs.0 in let μ = κs.1.0 in let κ₂ = κs.1.1.0 in let κ₃ = κs.1.1.1.0 in let κ₄ = κs.1.1.1.1.0 in
    let q = qs.0 in let s = qs.1.0 in let q₂ = qs.1.1.0 in let q₃ = qs.1.1.1.0 in let q₄ = qs.1.1.1.1.0 in
    let now : D E = a.0.now in let rb = a.0.ref_ptr.0 in let ro = a.0.ref_ptr.1 in
    let x : X E = a.1.1.0 in
    let count = a.1.1.1.0 in
    let sb = count.ref_ptr.0 in let so = count.ref_ptr.1 in let n : ℕ = count.now in
    let Post : Val → SProp 𝓤 = (walk_of 𝓛 En hs c).post y in
    let Run : List Val → SProp 𝓤 = λ ws. WpFn 𝓤 𝓛.H 𝓣.C 𝓣.Λ fn ws Post in
    qed 𝓛 (((‵ (flft κ q) ⊛ ‵ (flft μ s) ⊛ ‵ (flft κ₂ q₂) ⊛ ‵ (flft κ₃ q₃) ⊛ ‵ (flft κ₄ q₄) ⊛ ‵ ftrue) ⊛ ‵ (owns (types_at En.signature.params κs) a vss))
    ∷ raw (fact 𝓤 (κ₂ ⊑ Y.lives)) ∷ raw (fact 𝓤 (κ₃ ⊑ Z.lives)) ∷ raw (fact 𝓤 (κ₄ ⊑ W.lives)) ∷ raw (fact 𝓤 (now.count + 1 < 2 ^ 63)) ∷ []) ∵
    keep ! (4 ∷ 0 ∷ []) $ heard ! (now.count + 1 < 2 ^ 63) (λ asked.
    split ! $ split ! $ move ! (2 ∷ []) $
    fsplit ! $ fsplit3 ! $ feq_l ! (λ e₁. move ! (2 ∷ []) $ fsplit ! $ move ! (1 ∷ []) $ fsplit ! $ move ! (1 ∷ []) $ fsplit ! $ fsplit3 ! $ feq_l ! (λ e₄. fjoin ! $
    move ! (2 ∷ []) $ el_tells E ! x vss.1.1.0 (λ v e₃ good. move ! (3 ∷ []) $ Vacant-had E.al Node ! a.1.0 vss.1.0 (λ b o hv at e₂ fa.
    let h : Hd E = a.1.0.alloc in
    let p : Ptr = block_ptr b o in
    let canon : List Val = vptr rb ro ∷ vacant_val hv b o ∷ v ∷ vptr sb so ∷ [] in
    let ok = now.ok in
    let fits : now.count < 2 ^ 64 = omega arith in
    let more : now.count + 1 < 2 ^ 64 = omega arith in
    let typed : Good (lone Node.mir) (node_val now.head v hv) = as_fields (ty_ptr ∷ τ E ∷ α E.al ∷ []) (ptr_val now.head ∷ v ∷ hv ∷ []) (Ptr-Good now.head, (good, (fa, tt))) in
    let added : Link × Hd E = ((p, now.head), h) in
    keep ! (6 ∷ 7 ∷ 8 ∷ 0 ∷ 1 ∷ 2 ∷ 3 ∷ 4 ∷ 9 ∷ []) $
    suffices ! (Run canon) (subst (λ (us : List Val). ent 𝓤 (Run canon) (Run us)) (sym (λ i. e₁ i ++ (e₂ i ++ (e₃ i ++ (e₄ i ++ []))))) (id⊢ 𝓤 (Run canon))) $
    enter ! 𝓣.C 𝓣.Λ fn canon Post $ alloc_all ! (λ l. pass_all ! refl ((tt, tt), (vacant_typed E.al Node hv b o fa, (good, ((tt, tt), tt)))) $
    let Ev = env fn.locals l in
    nodes_opens E ! tt now rb ro $ move ! (5 ∷ []) $ as_written ! (lone Node.mir) b o $
    -- [the room; the nodes; the words; the open borrow; obs; auth; the token; the handle; the element; the count; the other tokens]
    sets ! (of_opd ! (get_in ! (fld ! refl (stop !)) (sub ! 0 refl (whole !)))) refl (tt, tt) $ sets ! (of_opd ! (get_in ! (fld ! refl (stop !)) (sub ! 1 refl (whole !)))) refl fa $
    sets ! (of_opd ! (load ! (through ! refl (fld ! refl (stop !))) (look_in ! 2 (sub ! 0 refl (whole !))))) refl (Ptr-Good now.head) $
    first ! $ blocks ! $ sets ! (of_opd ! (get ! refl)) refl good $ sets ! (of_opd ! (get ! refl)) refl fa $
    sets ! (agg ! (and_then ! (get ! refl) (and_then ! (get ! refl) (and_then ! (get ! refl) (no_more !))))) refl typed $
    assigns_last ! (of_opd ! (get ! refl)) (through ! refl (stop !)) (init ! 0 refl typed) $ exec ! 𝓣.C 𝓣.Λ Ev (after 4 fn.body) (at_ret Ev Post) $
    move ! (0 ∷ 6 ∷ 7 ∷ 8 ∷ []) $ group ! 4 $
    use1 𝓛 (‵ (One E added x)) (node_made E 𝓛 (Block.the_type (R E) (P E)).name b o now.head h x v hv) $
    use2 𝓛 (‵ (Held E (added ∷ now.blocks) (x ∷ now.items))) (cons_in E 𝓛 added now.blocks x now.items) $
    -- [the nodes; the words; the open borrow; obs; auth; the count; the other tokens]
    assigns ! (of_opd ! (get ! refl)) (through ! refl (fld ! refl (stop !))) (store_in ! 1 (sub ! 0 refl (whole !)) (tt, tt)) $
    sets ! (of_opd ! (load ! (through ! refl (fld ! refl (stop !))) (look_in ! 1 (sub ! 2 refl (whole !))))) refl (tt, record { fits = fits }) $
    sets ! (bin ! (get ! refl) (lit ! tt) tt) refl (tt, tt) $
    first ! $ branches ! (get ! refl)
    (λ is0.
    let zero : now.count ≡ 0 = eqb→eq now.count 0 is0 in
    let none : now.blocks ≡ [] = nothing_in now.blocks (omega arith) in
    let new : D E = record { head = p; tail = p; count = now.count + 1; items = x ∷ now.items; blocks = added ∷ now.blocks; ok = (omega arith, omega arith); small = asked; chained = ∣ subst (λ ks. IsChained p p ((p, now.head) ∷ links_of ks)) (sym none) ((refl, tt), refl) ∣₁ } in
    assigns_last ! (of_opd ! (get ! refl)) (through ! refl (fld ! refl (stop !))) (store_in ! 1 (sub ! 1 refl (whole !)) (tt, tt)) $ exec ! 𝓣.C 𝓣.Λ Ev (after 8 fn.body) (at_ret Ev Post) $
    sets ! (of_opd ! (load ! (through ! refl (fld ! refl (stop !))) (look_in ! 1 (sub ! 2 refl (whole !))))) refl (tt, record { fits = fits }) $ sets ! (bin ! (get ! refl) (lit ! tt) (record { fits = more })) refl (tt, record { fits = more }) $
    assigns ! (of_opd ! (get ! refl)) (through ! refl (fld ! refl (stop !))) (store_in ! 1 (sub ! 2 refl (whole !)) (tt, record { fits = more })) $
    sets ! (of_opd ! (unit_lit !)) refl (tt, tt) $ nodes_closes E ! tt new rb ro $
    returns ! (look_at ! 0 refl) $ free_all ! refl $ keep ! (0 ∷ 1 ∷ 2 ∷ 3 ∷ 4 ∷ []) $
    suffices ! _ (ends_at 𝓛 En hs c y vunit tt (new, ((tt, (tt, tt)), (tt, (n, tt)))) (tt, (tt, (tt, (tt, tt))))) $ says ! (refl, refl) $
    move ! (2 ∷ 4 ∷ []) $ join ! $ frame ! $
    feq_i ! (List Val) vss.0 (vptr rb ro ∷ []) e₁ $ fjoin3 ! $ move ! (1 ∷ []) $ feq_i ! (List Val) vss.1.1.1.0 (vptr sb so ∷ []) e₄ $ fjoin ! $ nothing ! $ move ! (1 ∷ 0 ∷ []) $ fjoin ! $ nothing ! $ fjoin ! $ nothing ! $ fjoin ! $ move ! (1 ∷ 0 ∷ []) $ fjoin ! $
    feq_i ! (List Val) (vunit ∷ []) (vunit ∷ []) refl $ move ! (1 ∷ 0 ∷ []) $ done !)
    (λ isnt.
    let some_node : 0 < now.count = not_zero now.count isnt in
    let ns = uncons now.blocks (omega arith) in
    let m = ns.0 in
    let linked : IsChained now.head now.tail (m.0 ∷ links_of ns.1) = subst (λ ks. IsChained now.head now.tail (links_of ks)) ns.2 (IsChained-had _ _ _ now.chained) in
    let new : D E = record {
      head = p;
      tail = now.tail;
      count = now.count + 1;
      items = x ∷ now.items;
      blocks = added ∷ now.blocks;
      ok = (omega arith, omega arith);
      small = asked;
      chained = ∣ subst (λ ks. IsChained p now.tail ((p, now.head) ∷ links_of ks)) (sym ns.2) (IsChained-cons now.head now.tail p m.0 (links_of ns.1) linked) ∣₁;
    } in
    skips ! $ exec ! 𝓣.C 𝓣.Λ Ev (after 8 fn.body) (at_ret Ev Post) $
    sets ! (of_opd ! (load ! (through ! refl (fld ! refl (stop !))) (look_in ! 1 (sub ! 2 refl (whole !))))) refl (tt, record { fits = fits }) $ sets ! (bin ! (get ! refl) (lit ! tt) (record { fits = more })) refl (tt, record { fits = more }) $
    assigns ! (of_opd ! (get ! refl)) (through ! refl (fld ! refl (stop !))) (store_in ! 1 (sub ! 2 refl (whole !)) (tt, record { fits = more })) $
    sets ! (of_opd ! (unit_lit !)) refl (tt, tt) $ nodes_closes E ! tt new rb ro $
    returns ! (look_at ! 0 refl) $ free_all ! refl $ keep ! (0 ∷ 1 ∷ 2 ∷ 3 ∷ 4 ∷ []) $
    suffices ! _ (ends_at 𝓛 En hs c y vunit tt (new, ((tt, (tt, tt)), (tt, (n, tt)))) (tt, (tt, (tt, (tt, tt))))) $ says ! (refl, refl) $
    move ! (2 ∷ 4 ∷ []) $ join ! $ frame ! $
    feq_i ! (List Val) vss.0 (vptr rb ro ∷ []) e₁ $ fjoin3 ! $ move ! (1 ∷ []) $ feq_i ! (List Val) vss.1.1.1.0 (vptr sb so ∷ []) e₄ $ fjoin ! $ nothing ! $ move ! (1 ∷ 0 ∷ []) $ fjoin ! $ nothing ! $ fjoin ! $ nothing ! $ fjoin ! $ move ! (1 ∷ 0 ∷ []) $ fjoin ! $
    feq_i ! (List Val) (vunit ∷ []) (vunit ∷ []) refl $ move ! (1 ∷ 0 ∷ []) $ done !))))))))
