-- `detach_first` counts a step, and moves the element and the handle out of the first node. Assumes `Logic`.
use mathlib.Core.Path.{◌≡◌, refl, ap, subst, ◌∙◌}
use Prim.Native.Nat.{ℕ, ◌+◌, ◌-◌, ◌≤◌, ◌<◌, ◌^◌}
use native.Mathlib.Omega.{arith}
use mathlib.Core.List.{List, [], ◌∷◌}
use lib.ListN.{length}
use mir.Syntax.{Args, Fn, named, a_type, dnil, dcons}
use mir.MapTy.{inst_fn}
use mir.Val.{Val, vptr}
use base.Logic.{emp, id⊢}
use base.Fml.{ftrue, flft, fres}
use contract.BorrowLft.{◌⊑◌}
use contract.Monad.{fact, fact_i}
use contract.Running.{tables}
use types.Kit.{‵, raw, ◌⊛◌, some, later, at_ret, ◌$◌, ◌∵◌, !, qed, drop, move, keep, use0, use1, use2, split, join, pick, await, rewrite, fsplit, fsplit3, fjoin, fjoin3, feq_i, feq_l, suffices, frame, done}
use types.Part.{whole, sub, agg, look_in, store_in}
use types.Run.{look, stop, fld, load, lit, of_opd, bin, addr, and_then, no_more, assigns, first, blocks, exec, returns, enter}
use types.ByLocal.{alloc_all, pass_all, free_all, look_at, get, through, sets, sets_last, is, lands_as, env}
use denote.RattleType.{RattleType, owns}
use denote.RawPtr.{block_ptr, ptr_val}
use denote.Ref.{mut_vals, mut_Tells}
use denote.Builtin.{unit}
use denote.Param.{param, bounded}
use denote.Signature.{plain, types_at}
use denote.Steps.{nothing, only, heard}
use denote.Struct.Tuple.{Tuple}
use denote.Triple.Call.{calls_at}
use denote.Triple.Clauses.{lasts}
use denote.Triple.Spec.{triple_of}
use denote.Triple.Table.{framed}
use denote.Triple.Walked.{says, Stays, stay_ref, gave_ref, walk_of, ends_at, Goes-ref, Goes-gave_ref}
use Rattle.std.proofs.raw_atomic.Walks.{proved}
use Rattle.std_alloc.proofs.VecSteps.Shapes.{after}
use Rattle.std_alloc.proofs.RcSteps.{Ptr-Good}
use Rattle.std_alloc.proofs.BoxSteps.Form.{Bx, X, τ, R, P}
use Rattle.std_alloc.proofs.OfVacant.{Vacant, vacant_val, vacant_ty, vacant_typed, Vacant-made}
use Rattle.std_alloc.proofs.Pairs.{pair_val, pair_Typed, pair_of}
use Rattle.st_queue.specs.contracts.chain.Node as Block
use Rattle.st_steps.specs.contracts.steps.Steps as Count
use Rattle.st_queue.specs.Links.{Link, links_of, IsChained}
use Rattle.st_queue.proofs.Chained.{IsChained-had, IsChained-tail}
use Rattle.st_queue.proofs.NodeSteps.{uncons, Hd, D, Nr, Held, One, cons_out, nodes_opens, nodes_closes, one_opens, node_unmade, block_back}
use Rattle.st_steps.specs.contracts.steps.Steps.tick as t
use Rattle.st_steps.proofs.steps.Steps.tick.Met as t-thm
use Rattle.st_queue.specs.contracts.chain.Chain.detach_first as f
use Rattle.st_queue.specs.contracts.chain.Chain.detach_first.Key.{name as #self}
use Rattle.st_queue.proofs.chain.Chain.detach_first.Statement.{statement}
use Rattle.st_queue.proofs.chain.Chain.detach_first.Code as code

pub detach_first_spec : {M : Type 1} → statement M
detach_first_spec 𝓤 𝓛 𝓜 𝓡 wired Y Z W L LZ LW g d dd lg ld met md metL =
    let E : Bx = record { row = Y; laws = L; al = record { row = Z; laws = LZ; g = g; d = d; drops = dd } } in
    let 𝓣 = tables 𝓤 𝓛.H 𝓜 𝓡 𝓡.env in
    let inst : Args = bounded (a_type ∷ a_type ∷ a_type ∷ []) (Y, (Z, (W, tt))) (dcons d (dcons dd (dcons ld dnil))) in
    let fn : Fn = inst_fn inst code.function in
    let En = f.ended Y Z W g d dd lg ld in
    let c = f.clauses Y Z W g d dd lg ld 𝓛 𝓜.mem 𝓡.returns in
    let St : RattleType = Count.the_row (param 2 W) lg in
    let Node : RattleType = Block.the_row (R E) (P E) in
    let Room : RattleType = Vacant E.al Node in
    let Out : RattleType = Tuple (R E ∷ Room ∷ []) in
    let hs : Stays En.signature.params En.kept = (stay_ref (0 ∷ []) tt (plain (λ _. Nr E)), (gave_ref (1 ∷ []) tt (plain (λ _. St)), tt)) in
    proved 𝓛 En hs c 𝓜 𝓡 (Goes-ref 𝓛 5 0 tt (plain (λ _. Nr E)), (Goes-gave_ref 𝓛 5 1 tt (plain (λ _. St)), tt))
    (#self inst) fn (code.unfolded 𝓤 𝓛.H 𝓜 𝓡 wired (Y, (Z, (W, tt))) d dd ld)
    (λ κs. (mut_vals, (mut_vals, tt))) (λ κs. (mut_Tells (named 0) κs.0 (Nr E), (mut_Tells (named 1) κs.1.0 St, tt))) (λ κs qs bounds a gh are.
    let κ = κs.0 in let μ = κs.1.0 in let κ₂ = κs.1.1.0 in let κ₃ = κs.1.1.1.0 in let κ₄ = κs.1.1.1.1.0 in
    let q = qs.0 in let s = qs.1.0 in let q₂ = qs.1.1.0 in let q₃ = qs.1.1.1.0 in let q₄ = qs.1.1.1.1.0 in
    let now : D E = a.0.now in let rb = a.0.ref_ptr.0 in let ro = a.0.ref_ptr.1 in
    let sb = a.1.0.ref_ptr.0 in let so = a.1.0.ref_ptr.1 in let δ = a.1.0.ghost_name in let n : ℕ = a.1.0.now in
    let y : (walk_of 𝓛 En hs c).Ghost = ((κs, qs, bounds, a, (mut_vals a.0, (mut_vals a.1.0, tt))), gh) in
    let Post = (walk_of 𝓛 En hs c).post y in
    qed 𝓛 (((‵ (flft κ q) ⊛ ‵ (flft μ s) ⊛ ‵ (flft κ₂ q₂) ⊛ ‵ (flft κ₃ q₃) ⊛ ‵ (flft κ₄ q₄) ⊛ ‵ ftrue) ⊛ ‵ (owns (types_at En.signature.params κs) a (mut_vals a.0, (mut_vals a.1.0, tt))))
    ∷ raw (fact 𝓤 (κ₂ ⊑ Y.lives)) ∷ raw (fact 𝓤 (κ₃ ⊑ Z.lives)) ∷ raw (fact 𝓤 (κ₄ ⊑ W.lives)) ∷ raw (fact 𝓤 (0 < now.count)) ∷ []) ∵
    keep ! (3 ∷ 4 ∷ 0 ∷ []) $ heard ! (κ₄ ⊑ W.lives) (λ le. heard ! (0 < now.count) (λ asked.
    let ok = now.ok in
    let small = now.small in
    let fits : now.count < 2 ^ 64 = omega arith in
    let less : now.count - 1 < 2 ^ 64 = omega arith in
    let least : 1 ≤ now.count = omega arith in
    let ns = uncons now.blocks (omega arith) in
    let xs = uncons now.items (omega arith) in
    let m = ns.0 in
    let x = xs.0 in
    let long = ap length ns.2 in
    let many = ap length xs.2 in
    let linked : IsChained now.head now.tail (m.0 ∷ links_of ns.1) = subst (λ ks. IsChained now.head now.tail (links_of ks)) ns.2 (IsChained-had _ _ _ now.chained) in
    let new : D E = record { head = m.0.1; tail = now.tail; count = now.count - 1; items = xs.1; blocks = ns.1; ok = (omega arith, omega arith); small = omega arith; chained = ∣ IsChained-tail now.head now.tail m.0 (links_of ns.1) linked ∣₁ } in
    split ! $ split ! $ move ! (1 ∷ []) $ split ! $ move ! (1 ∷ []) $ split ! $ move ! (1 ∷ []) $ split ! $ move ! (1 ∷ []) $ split ! $ move ! (6 ∷ []) $
    fsplit ! $ fsplit3 ! $ drop ! $ move ! (2 ∷ []) $ fsplit ! $ keep ! (0 ∷ 4 ∷ 8 ∷ 2 ∷ 3 ∷ 9 ∷ 7 ∷ 6 ∷ []) $
    -- [the count; two tokens; obs; the borrow; three tokens]
    enter ! _ _ _ _ _ $ alloc_all ! (λ l. pass_all ! refl ((tt, tt), ((tt, tt), tt)) $
    let Ev = env fn.locals l in
    sets ! (addr ! (through ! refl (stop !))) refl (tt, tt) $
    let G = triple_of 𝓛 (t.signature W lg ld) (t.spec W lg ld 𝓛 𝓜.mem 𝓡.returns) in
    let z : G.Ghost = (((μ, (κ₄, tt)), (s, (q₄, tt)), (bounds.1.1.0, tt), (a.1.0, tt), (mut_vals a.1.0, tt)), tt) in
    nothing ! $ move ! (1 ∷ 0 ∷ []) $ join ! $ nothing ! $ move ! (2 ∷ 0 ∷ []) $ join ! $ move ! (2 ∷ 0 ∷ []) $ join ! $ join ! $
    use0 𝓛 (raw (fact 𝓤 (κ₄ ⊑ W.lives))) (fact_i 𝓤 (κ₄ ⊑ W.lives) (emp 𝓤) le) $ nothing ! $ move ! (1 ∷ 0 ∷ []) $ join ! $ move ! (1 ∷ 0 ∷ []) $
    use2 𝓛 (raw (G.pre z)) (id⊢ 𝓤 _) $
    calls_at ! (framed 𝓤 𝓛.H 𝓜 𝓣) G (t-thm.met 𝓤 𝓛 𝓜 𝓡 (code.calls-st_steps::steps::Steps::tick 𝓡.env wired) W LW lg ld metL) z (and_then ! (get ! refl) (no_more !)) (λ v.
    use1 𝓛 (later (some (λ (u : Unit {0}). ((‵ (flft μ s) ⊛ ‵ (flft κ₄ q₄) ⊛ ‵ ftrue) ⊛ ‵ (unit.own_val u (v ∷ []))) ⊛
    some (λ (ws : ℕ × Unit {0}). ‵ (lasts (t.ended W lg ld) z.0.0 z.0.3 ws) ⊛ raw (fact 𝓤 (ws.0 ≡ n + 1)))))) (id⊢ 𝓤 _) $
    await ! tt $ pick ! (λ u. split ! $ split ! $ move ! (1 ∷ []) $ feq_l ! (λ is_unit. lands_as ! (ap only is_unit) refl (tt, tt) $
    move ! (1 ∷ []) $ pick ! (λ ws. split ! $ move ! (1 ∷ []) $ heard ! (ws.0 ≡ n + 1) (λ more. fsplit ! $ fsplit ! $
    rewrite ! 0 (λ (k : ℕ). ‵ (fres δ (St.coded.code k))) more refl $ move ! (4 ∷ 5 ∷ 6 ∷ []) $
    -- [obs; the borrow; its token; the count's last value; its borrow; nothing; two tokens; two more]
    nodes_opens E ! tt now rb ro $
    rewrite ! 0 (λ (ks : List (Link × Hd E)). ‵ (Held E ks now.items)) ns.2 refl $ rewrite ! 0 (λ (ys : List (X E)). ‵ (Held E (m ∷ ns.1) ys)) xs.2 refl $
    use1 𝓛 (‵ (One E m x) ⊛ ‵ (Held E ns.1 xs.1)) (cons_out E 𝓛 m ns.1 x xs.1) $ split ! $
    one_opens E ! m.0 m.1 x (λ b o e. node_unmade E ! b o m.0.1 m.1 x (λ v hv good fa.
    let room = vacant_typed E.al Node hv b o fa in
    let both = pair_Typed (τ E) (vacant_ty E.al Node) v (vacant_val hv b o) good room in
    let made : Room.Denot = record { ptr = block_ptr b o; alloc = m.1 } in
    -- [the node, in seven; the others; the words; the open borrow; obs; auth]
    sets ! (is ! (of_opd ! (load ! (through ! refl (fld ! refl (stop !))) (look_in ! 8 (sub ! 0 refl (whole !))))) (ap ptr_val (linked.0.0 ∙ e))) refl (tt, tt) $ sets ! (of_opd ! (get ! refl)) refl (tt, tt) $
    sets ! (of_opd ! (load ! (through ! refl (fld ! refl (stop !))) (look_in ! 8 (sub ! 2 refl (whole !))))) refl (tt, record { fits = fits }) $ sets ! (bin ! (get ! refl) (lit ! tt) least) refl (tt, record { fits = less }) $
    assigns ! (of_opd ! (get ! refl)) (through ! refl (fld ! refl (stop !))) (store_in ! 8 (sub ! 2 refl (whole !)) (tt, record { fits = less })) $ first ! $ blocks ! $
    sets ! (of_opd ! (load ! (through ! refl (fld ! refl (stop !))) (look ! 0 refl))) refl (Ptr-Good m.0.1) $
    assigns ! (of_opd ! (get ! refl)) (through ! refl (fld ! refl (stop !))) (store_in ! 8 (sub ! 0 refl (whole !)) (Ptr-Good m.0.1)) $
    sets ! (addr ! (through ! refl (fld ! refl (stop !)))) refl (tt, tt) $ sets ! (of_opd ! (load ! (through ! refl (stop !)) (look ! 1 refl))) refl good $
    sets ! (addr ! (through ! refl (fld ! refl (stop !)))) refl (tt, tt) $ sets ! (of_opd ! (load ! (through ! refl (stop !)) (look ! 2 refl))) refl fa $
    sets ! (of_opd ! (get ! refl)) refl good $ sets ! (of_opd ! (get ! refl)) refl fa $ sets ! (agg ! (and_then ! (get ! refl) (and_then ! (get ! refl) (no_more !)))) refl room $
    sets_last ! (agg ! (and_then ! (get ! refl) (and_then ! (get ! refl) (no_more !)))) refl both $ exec ! 𝓣.C 𝓣.Λ Ev (after 8 fn.body) (at_ret Ev Post) $ sets ! (of_opd ! (get ! refl)) refl both $
    block_back E ! b o m.0.1 v hv $ Vacant-made E.al Node ! m.1 b o $ move ! (1 ∷ 0 ∷ []) $
    use2 𝓛 (‵ (Out.own_val (x, made) (pair_val v (vacant_val hv b o) ∷ []))) (pair_of 𝓛 (R E) Room x made v (vacant_val hv b o)) $
    move ! (1 ∷ 2 ∷ 3 ∷ 4 ∷ 5 ∷ []) $ nodes_closes E ! tt new rb ro $
    -- [obs; the borrow; its token; the pair; the count's last value; its borrow; nothing; two tokens; two more]
    returns ! (look_at ! 0 refl) $ free_all ! refl $ keep ! (7 ∷ 0 ∷ 1 ∷ 2 ∷ 3 ∷ 4 ∷ 5 ∷ 8 ∷ 9 ∷ []) $
    suffices ! _ (ends_at 𝓛 En hs c y (pair_val v (vacant_val hv b o)) (x, made) (new, (n + 1, tt)) (tt, (tt, tt))) $ says ! (xs.2, refl) $
    split ! $ move ! (9 ∷ 1 ∷ []) $ join ! $ move ! (8 ∷ 0 ∷ []) $ join ! $ move ! (1 ∷ 0 ∷ []) $ join ! $ move ! (3 ∷ 0 ∷ []) $ join ! $ frame ! $
    feq_i ! (List Val) (vptr rb ro ∷ []) (vptr rb ro ∷ []) refl $ fjoin3 ! $ move ! (2 ∷ 3 ∷ []) $ fjoin ! $ nothing ! $ move ! (1 ∷ 0 ∷ []) $ fjoin ! $ move ! (1 ∷ 0 ∷ []) $ fjoin ! $ done !)))))))))))
