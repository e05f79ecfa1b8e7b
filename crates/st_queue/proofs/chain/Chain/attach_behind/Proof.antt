-- `attach_behind` counts a step, fills the block, and makes the last node, if there is one, point to it. Assumes `Logic`.
use mathlib.Core.Path.{◌≡◌, refl, sym, ap, subst, ◌∙◌}
use Prim.Native.Nat.{ℕ, ◌+◌, ◌<◌, ◌^◌}
use native.Mathlib.Omega.{arith}
use mathlib.Core.List.{List, [], ◌∷◌, ◌++◌, map-append}
use lib.ListN.{length, length-append}
use lib.Dec.{eqb→eq}
use mir.Syntax.{Args, Fn, a_type, dnil, dcons, ty_ptr}
use mir.MapTy.{inst_fn}
use mir.Val.{Val, vptr, vunit}
use base.Logic.{SProp, ent, emp, id⊢}
use base.Fml.{ftrue, flft, fres}
use prog.Wp.{WpFn}
use contract.BorrowLft.{◌⊑◌}
use contract.Monad.{fact, fact_i}
use contract.Running.{tables}
use types.Kit.{‵, raw, ◌⊛◌, some, later, at_ret, ◌$◌, ◌∵◌, !, qed, drop, move, keep, use0, use1, use2, split, join, group, pick, await, rewrite, fsplit, fsplit3, fjoin, fjoin3, feq_i, feq_l, suffices, frame, done}
use types.Part.{whole, sub, agg, look_in, store_in}
use types.Run.{store, init, stop, fld, load, lit, unit_lit, of_opd, bin, addr, and_then, no_more, assigns, assigns_last, first, blocks, branches, exec, returns, enter}
use types.ByLocal.{alloc_all, pass_all, free_all, look_at, get, get_in, through, sets, is, lands_as, env}
use denote.Exit.{no}
use denote.RattleType.{RattleType, owns}
use denote.Memory.{lone}
use denote.RawPtr.{Ptr, block_ptr, ptr_val}
use denote.Ref.{mut_vals}
use denote.Builtin.{unit}
use denote.Param.{param, bounded}
use denote.Signature.{plain, types_at}
use denote.Steps.{nothing, only, heard}
use denote.Struct.Struct.{as_fields}
use denote.Triple.Call.{calls_at}
use denote.Triple.Clauses.{lasts}
use denote.Triple.Spec.{triple_of}
use denote.Triple.Table.{framed}
use denote.Triple.Walked.{says, Stays, stay_ref, gave_ref, stay_dropped, walk_of, ends_at, Goes-ref, Goes-gave_ref, Goes-dropped}
use Rattle.core.proofs.alloc.Calls.{α, Goes-blank}
use Rattle.std.proofs.raw_atomic.Walks.{proved_at}
use Rattle.std_alloc.proofs.VecSteps.Shapes.{after}
use Rattle.std_alloc.proofs.RcSteps.{Good, Ptr-Good}
use Rattle.std_alloc.proofs.RawLayout.{as_written}
use Rattle.std_alloc.proofs.BoxSteps.Form.{Bx, X, τ, R, P}
use Rattle.std_alloc.proofs.BoxSteps.Steps.{el_tells}
use Rattle.std_alloc.proofs.OfVacant.{Vacant, vacant_val, vacant_typed, Vacant-had}
use Rattle.st_queue.specs.contracts.chain.Node as Block
use Rattle.st_steps.specs.contracts.steps.Steps as Count
use Rattle.st_queue.specs.Links.{Link, links_of, IsChained}
use Rattle.st_queue.proofs.Chained.{IsChained-had, IsChained-last, IsChained-join}
use Rattle.st_queue.proofs.NodeSteps.{unsnoc, node_val, Hd, D, Nr, Held, One, cons_in, snoc_out, snoc_in, nodes_opens, nodes_closes, one_opens, one_closes, node_made}
use Rattle.st_queue.proofs.Walking.{nothing_in, not_zero}
use Rattle.st_steps.specs.contracts.steps.Steps.tick as t
use Rattle.st_steps.proofs.steps.Steps.tick.Met as t-thm
use Rattle.st_queue.specs.contracts.chain.Chain.attach_behind as f
use Rattle.st_queue.specs.contracts.chain.Chain.attach_behind.Key.{name as #self}
use Rattle.st_queue.proofs.chain.Chain.attach_behind.Statement.{statement}
use Rattle.st_queue.proofs.chain.Chain.attach_behind.Code as code

pub attach_behind_spec : {M : Type 1} → statement M
attach_behind_spec 𝓤 𝓛 𝓜 𝓡 wired Y Z W L LZ LW g d dd lg ld met md metL =
    let E : Bx = record { row = Y; laws = L; al = record { row = Z; laws = LZ; g = g; d = d; drops = dd } } in
    let 𝓣 = tables 𝓤 𝓛.H 𝓜 𝓡 𝓡.env in
    let inst : Args = bounded (a_type ∷ a_type ∷ a_type ∷ []) (Y, (Z, (W, tt))) (dcons d (dcons dd (dcons ld dnil))) in
    let fn : Fn = inst_fn inst code.function in
    let En = f.ended Y Z W g d dd lg ld in
    let c = f.clauses Y Z W g d dd lg ld 𝓛 𝓜.mem 𝓡.returns in
    let St : RattleType = Count.the_row (param 2 W) lg in
    let Node : RattleType = Block.the_row (R E) (P E) in
    let Room : RattleType = Vacant E.al Node in
    let hs : Stays En.signature.params En.kept = (stay_ref (0 ∷ []) tt (plain (λ _. Nr E)), (stay_dropped (plain (λ _. Room)) no, (stay_dropped (plain (λ _. R E)) no, (gave_ref (1 ∷ []) tt (plain (λ _. St)), tt)))) in
    proved_at 𝓛 En hs c 𝓜 𝓡 (Goes-ref 𝓛 5 0 tt (plain (λ _. Nr E)), (Goes-blank 𝓛 5 (plain (λ _. Room)) no (λ κs x f. tt), (Goes-dropped 𝓛 5 (plain (λ _. R E)) no (λ κs x f. refl), (Goes-gave_ref 𝓛 5 1 tt (plain (λ _. St)), tt))))
    (#self inst) fn (code.unfolded 𝓤 𝓛.H 𝓜 𝓡 wired (Y, (Z, (W, tt))) d dd ld) (λ y are.
    let κs = y.0.0 in let qs = y.0.1 in let bounds = y.0.2 in let a = y.0.3 in let vss = y.0.4 in
    let κ = κs.0 in let μ = κs.1.0 in let κ₂ = κs.1.1.0 in let κ₃ = κs.1.1.1.0 in let κ₄ = κs.1.1.1.1.0 in
    let q = qs.0 in let s = qs.1.0 in let q₂ = qs.1.1.0 in let q₃ = qs.1.1.1.0 in let q₄ = qs.1.1.1.1.0 in
    let now : D E = a.0.now in let rb = a.0.ref_ptr.0 in let ro = a.0.ref_ptr.1 in
    let x : X E = a.1.1.0 in
    let count = a.1.1.1.0 in
    let sb = count.ref_ptr.0 in let so = count.ref_ptr.1 in let δ = count.ghost_name in let n : ℕ = count.now in
    let Post : Val → SProp 𝓤 = (walk_of 𝓛 En hs c).post y in
    let Run : List Val → SProp 𝓤 = λ ws. WpFn 𝓤 𝓛.H 𝓣.C 𝓣.Λ fn ws Post in
    qed 𝓛 (((‵ (flft κ q) ⊛ ‵ (flft μ s) ⊛ ‵ (flft κ₂ q₂) ⊛ ‵ (flft κ₃ q₃) ⊛ ‵ (flft κ₄ q₄) ⊛ ‵ ftrue) ⊛ ‵ (owns (types_at En.signature.params κs) a vss))
    ∷ raw (fact 𝓤 (κ₂ ⊑ Y.lives)) ∷ raw (fact 𝓤 (κ₃ ⊑ Z.lives)) ∷ raw (fact 𝓤 (κ₄ ⊑ W.lives)) ∷ raw (fact 𝓤 (now.count + 1 < 2 ^ 63)) ∷ []) ∵
    keep ! (3 ∷ 4 ∷ 0 ∷ []) $ heard ! (κ₄ ⊑ W.lives) (λ le. heard ! (now.count + 1 < 2 ^ 63) (λ asked.
    split ! $ split ! $ move ! (1 ∷ []) $ split ! $ move ! (1 ∷ []) $ split ! $ move ! (1 ∷ []) $ split ! $ move ! (1 ∷ []) $ split ! $ move ! (6 ∷ []) $
    fsplit ! $ fsplit3 ! $ feq_l ! (λ e₁. move ! (2 ∷ []) $ fsplit ! $ move ! (1 ∷ []) $ fsplit ! $ move ! (1 ∷ []) $ fsplit ! $ fsplit3 ! $ feq_l ! (λ e₄.
    feq_i ! (List Val) (vptr sb so ∷ []) (vptr sb so ∷ []) refl $ fjoin3 ! $ move ! (2 ∷ []) $ el_tells E ! x vss.1.1.0 (λ v e₃ good. move ! (3 ∷ []) $ Vacant-had E.al Node ! a.1.0 vss.1.0 (λ b o hv at e₂ fa.
    let h : Hd E = a.1.0.alloc in
    let p : Ptr = block_ptr b o in
    let canon : List Val = vptr rb ro ∷ vacant_val hv b o ∷ v ∷ vptr sb so ∷ [] in
    keep ! (4 ∷ 8 ∷ 12 ∷ 6 ∷ 7 ∷ 13 ∷ 0 ∷ 1 ∷ 2 ∷ 3 ∷ 11 ∷ 10 ∷ []) $
    -- [the count; two tokens; obs; the borrow; its token; the room, in three; the element; two tokens]
    suffices ! (Run canon) (subst (λ (us : List Val). ent 𝓤 (Run canon) (Run us)) (sym (λ i. e₁ i ++ (e₂ i ++ (e₃ i ++ (e₄ i ++ []))))) (id⊢ 𝓤 (Run canon))) $
    enter ! 𝓣.C 𝓣.Λ fn canon Post $ alloc_all ! (λ l. pass_all ! refl ((tt, tt), (vacant_typed E.al Node hv b o fa, (good, ((tt, tt), tt)))) $
    let Ev = env fn.locals l in
    sets ! (addr ! (through ! refl (stop !))) refl (tt, tt) $
    let G = triple_of 𝓛 (t.signature W lg ld) (t.spec W lg ld 𝓛 𝓜.mem 𝓡.returns) in
    let z : G.Ghost = (((μ, (κ₄, tt)), (s, (q₄, tt)), (bounds.1.1.0, tt), (count, tt), (mut_vals count, tt)), tt) in
    nothing ! $ move ! (1 ∷ 0 ∷ []) $ join ! $ nothing ! $ move ! (2 ∷ 0 ∷ []) $ join ! $ move ! (2 ∷ 0 ∷ []) $ join ! $ join ! $
    use0 𝓛 (raw (fact 𝓤 (κ₄ ⊑ W.lives))) (fact_i 𝓤 (κ₄ ⊑ W.lives) (emp 𝓤) le) $ nothing ! $ move ! (1 ∷ 0 ∷ []) $ join ! $ move ! (1 ∷ 0 ∷ []) $
    use2 𝓛 (raw (G.pre z)) (id⊢ 𝓤 _) $
    calls_at ! (framed 𝓤 𝓛.H 𝓜 𝓣) G (t-thm.met 𝓤 𝓛 𝓜 𝓡 (code.calls-st_steps::steps::Steps::tick 𝓡.env wired) W LW lg ld metL) z (and_then ! (get ! refl) (no_more !)) (λ r.
    use1 𝓛 (later (some (λ (u : Unit {0}). ((‵ (flft μ s) ⊛ ‵ (flft κ₄ q₄) ⊛ ‵ ftrue) ⊛ ‵ (unit.own_val u (r ∷ []))) ⊛
    some (λ (ws : ℕ × Unit {0}). ‵ (lasts (t.ended W lg ld) z.0.0 z.0.3 ws) ⊛ raw (fact 𝓤 (ws.0 ≡ n + 1)))))) (id⊢ 𝓤 _) $
    await ! tt $ pick ! (λ u. split ! $ split ! $ move ! (1 ∷ []) $ feq_l ! (λ is_unit. lands_as ! (ap only is_unit) refl (tt, tt) $
    move ! (1 ∷ []) $ pick ! (λ ws. split ! $ move ! (1 ∷ []) $ heard ! (ws.0 ≡ n + 1) (λ told. fsplit ! $ fsplit ! $
    rewrite ! 0 (λ (k : ℕ). ‵ (fres δ (St.coded.code k))) told refl $ move ! (4 ∷ 5 ∷ 6 ∷ 7 ∷ 8 ∷ 9 ∷ 10 ∷ []) $
    -- [obs; the borrow; its token; the room, in three; the element; the count's last value; its borrow; nothing; two tokens; two more]
    let ok = now.ok in
    let fits : now.count < 2 ^ 64 = omega arith in
    let more : now.count + 1 < 2 ^ 64 = omega arith in
    let typed : Good (lone Node.mir) (node_val p v hv) = as_fields (ty_ptr ∷ τ E ∷ α E.al ∷ []) (ptr_val p ∷ v ∷ hv ∷ []) (Ptr-Good p, (good, (fa, tt))) in
    nodes_opens E ! tt now rb ro $ move ! (5 ∷ []) $ as_written ! (lone Node.mir) b o $
    -- [the room; the nodes; the words; the open borrow; obs; auth; the token; the handle; the element]
    sets ! (of_opd ! (get_in ! (fld ! refl (stop !)) (sub ! 0 refl (whole !)))) refl (tt, tt) $ sets ! (of_opd ! (get_in ! (fld ! refl (stop !)) (sub ! 1 refl (whole !)))) refl fa $
    first ! $ blocks ! $ sets ! (of_opd ! (get ! refl)) refl good $ sets ! (of_opd ! (get ! refl)) refl fa $
    sets ! (agg ! (and_then ! (get ! refl) (and_then ! (get ! refl) (and_then ! (get ! refl) (no_more !))))) refl typed $
    assigns_last ! (of_opd ! (get ! refl)) (through ! refl (stop !)) (init ! 0 refl typed) $ exec ! 𝓣.C 𝓣.Λ Ev (after 5 fn.body) (at_ret Ev Post) $
    move ! (0 ∷ 6 ∷ 7 ∷ 8 ∷ []) $ group ! 4 $
    use1 𝓛 (‵ (One E ((p, p), h) x)) (node_made E 𝓛 (Block.the_type (R E) (P E)).name b o p h x v hv) $
    -- [the node; the nodes; the words; the open borrow; obs; auth]
    sets ! (of_opd ! (load ! (through ! refl (fld ! refl (stop !))) (look_in ! 2 (sub ! 2 refl (whole !))))) refl (tt, record { fits = fits }) $
    sets ! (bin ! (get ! refl) (lit ! tt) tt) refl (tt, tt) $
    first ! $ branches ! (get ! refl)
    (λ is0.
    let zero : now.count ≡ 0 = eqb→eq now.count 0 is0 in
    let none : now.items ≡ [] = nothing_in now.items (omega arith) in
    let new : D E = record { head = p; tail = p; count = now.count + 1; items = x ∷ []; blocks = ((p, p), h) ∷ []; ok = (omega arith, omega arith); small = asked; chained = ∣ ((refl, tt), refl) ∣₁ } in
    move ! (1 ∷ []) $ drop ! $
    assigns_last ! (of_opd ! (get ! refl)) (through ! refl (fld ! refl (stop !))) (store_in ! 1 (sub ! 0 refl (whole !)) (tt, tt)) $ exec ! 𝓣.C 𝓣.Λ Ev (after 8 fn.body) (at_ret Ev Post) $
    assigns ! (of_opd ! (get ! refl)) (through ! refl (fld ! refl (stop !))) (store_in ! 1 (sub ! 1 refl (whole !)) (tt, tt)) $
    sets ! (of_opd ! (load ! (through ! refl (fld ! refl (stop !))) (look_in ! 1 (sub ! 2 refl (whole !))))) refl (tt, record { fits = fits }) $ sets ! (bin ! (get ! refl) (lit ! tt) (record { fits = more })) refl (tt, record { fits = more }) $
    assigns ! (of_opd ! (get ! refl)) (through ! refl (fld ! refl (stop !))) (store_in ! 1 (sub ! 2 refl (whole !)) (tt, record { fits = more })) $
    sets ! (of_opd ! (unit_lit !)) refl (tt, tt) $ nothing ! $ move ! (1 ∷ 0 ∷ []) $
    use2 𝓛 (‵ (Held E new.blocks new.items)) (cons_in E 𝓛 ((p, p), h) [] x []) $ nodes_closes E ! tt new rb ro $
    returns ! (look_at ! 0 refl) $ free_all ! refl $ keep ! (6 ∷ 0 ∷ 1 ∷ 2 ∷ 3 ∷ 4 ∷ 7 ∷ 8 ∷ []) $
    suffices ! _ (ends_at 𝓛 En hs c y vunit tt (new, ((tt, (tt, tt)), (tt, (n + 1, tt)))) (tt, (tt, (tt, (tt, tt))))) $ says ! (ap (λ zs. zs ++ x ∷ []) (sym none), refl) $
    split ! $ move ! (8 ∷ 1 ∷ []) $ join ! $ move ! (7 ∷ 0 ∷ []) $ join ! $ move ! (1 ∷ 0 ∷ []) $ join ! $ move ! (3 ∷ 0 ∷ []) $ join ! $ frame ! $
    feq_i ! (List Val) vss.0 (vptr rb ro ∷ []) e₁ $ fjoin3 ! $ move ! (1 ∷ 2 ∷ []) $ fjoin ! $ nothing ! $ move ! (1 ∷ 0 ∷ []) $ fjoin ! $ nothing ! $ fjoin ! $ nothing ! $ fjoin ! $ move ! (1 ∷ 0 ∷ []) $ fjoin ! $
    feq_i ! (List Val) (vunit ∷ []) (vunit ∷ []) refl $ move ! (1 ∷ 0 ∷ []) $ done !)
    (λ isnt.
    let some_node : 0 < now.count = not_zero now.count isnt in
    let ns = unsnoc now.blocks (omega arith) in
    let xs = unsnoc now.items (omega arith) in
    let m = ns.1 in
    let long = ap length ns.2 ∙ length-append ns.0 (m ∷ []) in
    let many = ap length xs.2 ∙ length-append xs.0 (xs.1 ∷ []) in
    let alike : length ns.0 ≡ length xs.0 = omega arith in
    let linked : IsChained now.head now.tail (links_of ns.0 ++ m.0 ∷ []) = subst (IsChained now.head now.tail) (ap links_of ns.2 ∙ map-append (λ k. k.0) ns.0 (m ∷ [])) (IsChained-had _ _ _ now.chained) in
    let last = IsChained-last now.head now.tail (links_of ns.0) m.0 linked in
    move ! (1 ∷ []) $
    rewrite ! 0 (λ (ks : List (Link × Hd E)). ‵ (Held E ks now.items)) ns.2 refl $ rewrite ! 0 (λ (ys : List (X E)). ‵ (Held E (ns.0 ++ m ∷ []) ys)) xs.2 refl $
    use1 𝓛 (‵ (One E m xs.1) ⊛ ‵ (Held E ns.0 xs.0)) (snoc_out E 𝓛 ns.0 m xs.0 xs.1 alike) $ split ! $ one_opens E ! m.0 m.1 xs.1 (λ hb ho e.
    let o' : Ptr = block_ptr hb ho in
    let here : IsChained now.head now.tail (links_of ns.0 ++ (o', m.0.1) ∷ []) = subst (λ k. IsChained now.head now.tail (links_of ns.0 ++ (k, m.0.1) ∷ [])) e linked in
    let was : Link × Hd E = ((o', p), m.1) in
    let added : Link × Hd E = ((p, p), h) in
    let front = ns.0 ++ was ∷ [] in
    let ys = xs.0 ++ xs.1 ∷ [] in
    let still = length-append ns.0 (was ∷ []) in
    let same = length-append xs.0 (xs.1 ∷ []) in
    let links : (links_of ns.0 ++ was.0 ∷ []) ++ added.0 ∷ [] ≡ links_of (front ++ added ∷ []) = ap (λ ls. ls ++ added.0 ∷ []) (sym (map-append (λ k. k.0) ns.0 (was ∷ []))) ∙ sym (map-append (λ k. k.0) front (added ∷ [])) in
    let new : D E = record {
      head = now.head;
      tail = p;
      count = now.count + 1;
      items = ys ++ x ∷ [];
      blocks = front ++ added ∷ [];
      ok = (omega (arith, length-append ys (x ∷ [])), omega (arith, length-append front (added ∷ [])));
      small = asked;
      chained = ∣ subst (IsChained now.head p) links (IsChained-join now.head now.tail p p (links_of ns.0) (o', m.0.1) (p, p) [] here ((refl, tt), refl)) ∣₁;
    } in
    -- [the last node, in three; the others; the new one; the words; the open borrow; obs; auth]
    sets ! (is ! (of_opd ! (load ! (through ! refl (fld ! refl (stop !))) (look_in ! 5 (sub ! 1 refl (whole !))))) (ap ptr_val (last ∙ e))) refl (tt, tt) $ sets ! (of_opd ! (get ! refl)) refl (tt, tt) $
    blocks ! $ assigns_last ! (of_opd ! (get ! refl)) (through ! refl (fld ! refl (stop !))) (store ! 1 refl (tt, tt)) $ exec ! 𝓣.C 𝓣.Λ Ev (after 8 fn.body) (at_ret Ev Post) $
    assigns ! (of_opd ! (get ! refl)) (through ! refl (fld ! refl (stop !))) (store_in ! 5 (sub ! 1 refl (whole !)) (tt, tt)) $
    sets ! (of_opd ! (load ! (through ! refl (fld ! refl (stop !))) (look_in ! 5 (sub ! 2 refl (whole !))))) refl (tt, record { fits = fits }) $ sets ! (bin ! (get ! refl) (lit ! tt) (record { fits = more })) refl (tt, record { fits = more }) $
    assigns ! (of_opd ! (get ! refl)) (through ! refl (fld ! refl (stop !))) (store_in ! 5 (sub ! 2 refl (whole !)) (tt, record { fits = more })) $
    sets ! (of_opd ! (unit_lit !)) refl (tt, tt) $ one_closes E ! hb ho p m.1 xs.1 $
    use2 𝓛 (‵ (Held E front ys)) (snoc_in E 𝓛 ns.0 was xs.0 xs.1 alike) $ move ! (1 ∷ 0 ∷ []) $
    use2 𝓛 (‵ (Held E new.blocks new.items)) (snoc_in E 𝓛 front added ys x (omega arith)) $ nodes_closes E ! tt new rb ro $
    returns ! (look_at ! 0 refl) $ free_all ! refl $ keep ! (6 ∷ 0 ∷ 1 ∷ 2 ∷ 3 ∷ 4 ∷ 7 ∷ 8 ∷ []) $
    suffices ! _ (ends_at 𝓛 En hs c y vunit tt (new, ((tt, (tt, tt)), (tt, (n + 1, tt)))) (tt, (tt, (tt, (tt, tt))))) $ says ! (ap (λ zs. zs ++ x ∷ []) (sym xs.2), refl) $
    split ! $ move ! (8 ∷ 1 ∷ []) $ join ! $ move ! (7 ∷ 0 ∷ []) $ join ! $ move ! (1 ∷ 0 ∷ []) $ join ! $ move ! (3 ∷ 0 ∷ []) $ join ! $ frame ! $
    feq_i ! (List Val) vss.0 (vptr rb ro ∷ []) e₁ $ fjoin3 ! $ move ! (1 ∷ 2 ∷ []) $ fjoin ! $ nothing ! $ move ! (1 ∷ 0 ∷ []) $ fjoin ! $ nothing ! $ fjoin ! $ nothing ! $ fjoin ! $ move ! (1 ∷ 0 ∷ []) $ fjoin ! $
    feq_i ! (List Val) (vunit ∷ []) (vunit ∷ []) refl $ move ! (1 ∷ 0 ∷ []) $ done !)))))))))))))))
