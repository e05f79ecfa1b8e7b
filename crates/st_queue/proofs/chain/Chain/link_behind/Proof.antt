-- `link_behind` makes the last node of one chain and the first of the other point to each other. Assumes `Logic`.
use mathlib.Core.Path.{◌≡◌, refl, sym, ap, subst, ◌∙◌}
use Prim.Native.Nat.{ℕ, ◌+◌, ◌<◌, ◌^◌}
use native.Mathlib.Omega.{arith}
use mathlib.Core.List.{List, [], ◌∷◌, ◌++◌, map-append}
use lib.ListN.{length, length-append}
use lib.Dec.{lit<}
use seplogic.Ra.Ura.{Ura}
use mir.Syntax.{Fn, named}
use mir.MapTy.{inst_fn}
use mir.Val.{Val, vptr, vunit}
use base.Logic.{SProp, ent}
use base.Fml.{Lft, GName, Share, ftrue, flft, fobs, fbor}
use prog.Wp.{Env, Calls, Loops, WpFn, Tables}
use types.Logic.{Logic}
use contract.Monad.{fact}
use contract.Running.{tables, tables_of}
use sound.WpLaws.{WpFn-mono}
use types.Kit.{Item, ⋆, ‵, ◌⊛◌, at_ret, ◌$◌, ◌∵◌, !, qed, by, move, keep, use1, use2, split, split3, join, rewrite, fsplit3, fjoin, fjoin3, feq_i, feq_l, suffices, frame, done}
use types.Part.{whole, sub, look_in, store_in}
use types.Run.{store, stop, fld, load, lit, unit_lit, of_opd, bin, assigns, assigns_last, first, blocks, exec, returns, enter}
use types.ByLocal.{alloc_all, pass_all, free_all, look_at, get, through, sets, is, env}
use types.SemTy.{Body as Borrowed}
use denote.Exit.{yes}
use denote.RattleType.{owns}
use denote.Memory.{mem}
use denote.RawPtr.{Ptr, block_ptr, ptr_val}
use denote.Ref.{MutBor, MutRef}
use denote.Builtin.{RefMutOf, unit}
use denote.Signature.{plain}
use denote.Steps.{nothing}
use denote.Triple.Carry.{spared}
use denote.Triple.Clauses.{Clauses, Ended, closing}
use denote.Triple.Entry.{on_entry}
use denote.Triple.Spec.{Meets, triple_of}
use denote.Triple.Table.{entered, run_framed}
use denote.Triple.Walked.{says, needs, Stays, stay_ref, walk_of, ends_at, Goes-ref, walk_Meets}
use Rattle.std_alloc.proofs.VecSteps.Shapes.{after}
use Rattle.std_alloc.proofs.RcSteps.{Ptr-Good}
use Rattle.std_alloc.proofs.BoxSteps.Form.{Bx, args, X}
use Rattle.st_queue.specs.Links.{Link, links_of, IsChained}
use Rattle.st_queue.proofs.Chained.{IsChained-had, IsChained-last, IsChained-join}
use Rattle.st_queue.proofs.NodeSteps.{uncons, unsnoc, Hd, D, Nr, Held, One, snoc_out, snoc_in, append_in, nodes_opens, nodes_closes, one_opens, one_closes}
use Rattle.st_queue.specs.contracts.chain.Chain.link_behind.Key.{name as #self}
use Rattle.st_queue.proofs.chain.Chain.link_behind.Statement as stated
use Rattle.st_queue.proofs.chain.Chain.link_behind.Code as code

module _ (E : Bx) where
  abbrev function : Fn
  function = inst_fn (args E) code.function

  abbrev ended : Ended
  ended = record { signature = record { lifetimes = 2; outlives = []; params = RefMutOf (0 ∷ []) tt (plain (λ _. Nr E)) (λ _. tt) ∷ RefMutOf (1 ∷ []) tt (plain (λ _. Nr E)) (λ _. tt) ∷ []; result = plain (λ _. unit) }; kept = (yes, (yes, tt)) }

  abbrev stayed : Stays ended.signature.params ended.kept
  stayed = (stay_ref (0 ∷ []) tt (plain (λ _. Nr E)), (stay_ref (1 ∷ []) tt (plain (λ _. Nr E)), tt))

  abbrev Asks : D E → D E → Type 0
  Asks d c = (0 < d.count) × (0 < c.count) × (d.count + c.count < 2 ^ 63)

  abbrev Gives : D E → D E → D E → D E → Type 0
  Gives d c new rest = (new.items ≡ d.items ++ c.items) × (rest.items ≡ [])

  abbrev spec : {M : Type 1} {𝓤 : Ura M} (𝓛 : Logic 𝓤) → Clauses 𝓤 ended
  spec {𝓤 = 𝓤} 𝓛 κs a = record { ghost = Unit {0}; requires = λ _. fact 𝓤 (Asks a.0.now a.1.0.now); ensures = λ _ r w. fact 𝓤 (Gives a.0.now a.1.0.now w.0.now w.1.0.now) }

module _ (E : Bx) {M : Type 1} {𝓤 : Ura M} (𝓛 : Logic 𝓤) (C : Calls 𝓤 𝓛.H) (Λ : Loops 𝓤 𝓛.H) (κ μ : Lft) (q s : Share) (rb ro sb so : ℕ) (γ δ : GName) (d c : D E) (ps us : List Val) where
  open 𝓛 use {H}

  abbrev self : MutBor (D E)
  self = record { ref_ptr = (rb, ro); ghost_name = γ; now = d }

  abbrev other : MutBor (D E)
  other = record { ref_ptr = (sb, so); ghost_name = δ; now = c }

  abbrev bound : (walk_of 𝓛 (ended E) (stayed E) (spec E 𝓛)).Ghost
  bound = (((κ, (μ, tt)), (q, (s, tt)), tt, (self, (other, tt)), (ps, (us, tt))), tt)

  abbrev Post : Val → SProp 𝓤
  Post = (walk_of 𝓛 (ended E) (stayed E) (spec E 𝓛)).post bound

  abbrev Had : D E → D E → List (Item 𝓤)
  Had u v = ‵ (fobs γ ((Nr E).coded.code u)) ∷ ‵ (fbor κ (Borrowed (mem (Nr E)) rb ro γ)) ∷ ‵ (flft κ q)
      ∷ ‵ (fobs δ ((Nr E).coded.code v)) ∷ ‵ (fbor μ (Borrowed (mem (Nr E)) sb so δ)) ∷ ‵ (flft μ s) ∷ []

  exits : ps ≡ vptr rb ro ∷ [] → us ≡ vptr sb so ∷ [] → (new rest : D E) → Gives E d c new rest → ent 𝓤 (⋆ 𝓛 (Had new rest)) (Post vunit)
  exits e f new rest told =
      qed 𝓛 (Had new rest) ∵ suffices ! _ (ends_at 𝓛 (ended E) (stayed E) (spec E 𝓛) bound vunit tt (new, (rest, tt)) (tt, (tt, tt))) $ says ! told $
      nothing ! $ move ! (6 ∷ 0 ∷ []) $ join ! $ move ! (3 ∷ 0 ∷ []) $ join ! $ frame ! $ feq_i ! (List Val) ps (vptr rb ro ∷ []) e $ fjoin3 ! $
      move ! (1 ∷ 2 ∷ []) $ feq_i ! (List Val) us (vptr sb so ∷ []) f $ fjoin3 ! $ nothing ! $ move ! (1 ∷ 0 ∷ []) $ fjoin ! $ move ! (1 ∷ 0 ∷ []) $ fjoin ! $
      feq_i ! (List Val) (vunit ∷ []) (vunit ∷ []) refl $ move ! (1 ∷ 0 ∷ []) $ done !

  walk : ps ≡ vptr rb ro ∷ [] → us ≡ vptr sb so ∷ [] → Asks E d c → ent 𝓤 (⋆ 𝓛 (Had d c)) (WpFn 𝓤 H C Λ (function E) (vptr rb ro ∷ vptr sb so ∷ []) Post)
  walk passed handed asked =
      let ok = d.ok in
      let fine = c.ok in
      let fits : d.count < 2 ^ 64 = omega arith in
      let small : c.count < 2 ^ 64 = omega arith in
      let sum : d.count + c.count < 2 ^ 64 = omega arith in
      let ns = unsnoc d.blocks (omega arith) in
      let xs = unsnoc d.items (omega arith) in
      let m = ns.1 in
      let long = ap length ns.2 ∙ length-append ns.0 (m ∷ []) in
      let many = ap length xs.2 ∙ length-append xs.0 (xs.1 ∷ []) in
      let alike : length ns.0 ≡ length xs.0 = omega arith in
      let linked : IsChained d.head d.tail (links_of ns.0 ++ m.0 ∷ []) = subst (IsChained d.head d.tail) (ap links_of ns.2 ∙ map-append (λ n. n.0) ns.0 (m ∷ [])) (IsChained-had _ _ _ d.chained) in
      let last = IsChained-last d.head d.tail (links_of ns.0) m.0 linked in
      let ks = uncons c.blocks (omega arith) in
      let k = ks.0 in
      let p : Ptr = c.head in
      let tied : IsChained p c.tail (k.0 ∷ links_of ks.1) = subst (λ js. IsChained p c.tail (links_of js)) ks.2 (IsChained-had _ _ _ c.chained) in
      let rest : D E = record { head = c.head; tail = c.tail; count = 0; items = []; blocks = []; ok = (refl, refl); small = lit< tt; chained = ∣ (tt, tt) ∣₁ } in
      qed 𝓛 (Had d c) ∵ enter ! C Λ (function E) (vptr rb ro ∷ vptr sb so ∷ []) _ $ alloc_all ! (λ l. pass_all ! refl ((tt, tt), ((tt, tt), tt)) $
      let En : Env 𝓤 H = env (function E).locals l in
      nodes_opens E ! tt d rb ro $ move ! (5 ∷ 6 ∷ 7 ∷ []) $ nodes_opens E ! tt c sb so $ move ! (5 ∷ []) $
      rewrite ! 0 (λ (js : List (Link × Hd E)). ‵ (Held E js d.items)) ns.2 refl $ rewrite ! 0 (λ (zs : List (X E)). ‵ (Held E (ns.0 ++ m ∷ []) zs)) xs.2 refl $
      use1 𝓛 (‵ (One E m xs.1) ⊛ ‵ (Held E ns.0 xs.0)) (snoc_out E 𝓛 ns.0 m xs.0 xs.1 alike) $ split ! $ one_opens E ! m.0 m.1 xs.1 (λ mb mo e.
      let a : Ptr = block_ptr mb mo in
      let was : Link × Hd E = ((a, p), m.1) in
      let front = ns.0 ++ was ∷ [] in
      let zs = xs.0 ++ xs.1 ∷ [] in
      let still = length-append ns.0 (was ∷ []) in
      let same = length-append xs.0 (xs.1 ∷ []) in
      let before : IsChained d.head d.tail (links_of ns.0 ++ (a, m.0.1) ∷ []) = subst (λ z. IsChained d.head d.tail (links_of ns.0 ++ (z, m.0.1) ∷ [])) e linked in
      let links : (links_of ns.0 ++ was.0 ∷ []) ++ links_of (k ∷ ks.1) ≡ links_of (front ++ c.blocks) =
      ap (λ ls. ls ++ links_of (k ∷ ks.1)) (sym (map-append (λ n. n.0) ns.0 (was ∷ []))) ∙ sym (map-append (λ n. n.0) front (k ∷ ks.1)) ∙ ap (λ js. links_of (front ++ js)) (sym ks.2) in
      let new : D E = record {
        head = d.head;
        tail = c.tail;
        count = d.count + c.count;
        items = zs ++ c.items;
        blocks = front ++ c.blocks;
        ok = (omega (arith, length-append zs c.items), omega (arith, length-append front c.blocks));
        small = asked.2;
        chained = ∣ subst (IsChained d.head c.tail) links (IsChained-join d.head d.tail p c.tail (links_of ns.0) (a, m.0.1) k.0 (links_of ks.1) before tied) ∣₁;
      } in
      -- [the last node, in three; those before it; the other's nodes, words, borrow, obs and auth; this one's words, borrow, obs and auth]
      sets ! (is ! (of_opd ! (load ! (through ! refl (fld ! refl (stop !))) (look_in ! 9 (sub ! 1 refl (whole !))))) (ap ptr_val (last ∙ e))) refl (tt, tt) $ sets ! (of_opd ! (get ! refl)) refl (tt, tt) $
      sets ! (of_opd ! (load ! (through ! refl (fld ! refl (stop !))) (look_in ! 5 (sub ! 0 refl (whole !))))) refl (Ptr-Good c.head) $ first ! $ blocks ! $
      assigns_last ! (of_opd ! (get ! refl)) (through ! refl (fld ! refl (stop !))) (store ! 1 refl (Ptr-Good c.head)) $ exec ! C Λ En (after 4 (function E).body) (at_ret En Post) $
      sets ! (of_opd ! (load ! (through ! refl (fld ! refl (stop !))) (look_in ! 5 (sub ! 1 refl (whole !))))) refl (Ptr-Good c.tail) $
      assigns ! (of_opd ! (get ! refl)) (through ! refl (fld ! refl (stop !))) (store_in ! 9 (sub ! 1 refl (whole !)) (Ptr-Good c.tail)) $
      sets ! (of_opd ! (load ! (through ! refl (fld ! refl (stop !))) (look_in ! 9 (sub ! 2 refl (whole !))))) refl (tt, record { fits = fits }) $
      sets ! (of_opd ! (load ! (through ! refl (fld ! refl (stop !))) (look_in ! 5 (sub ! 2 refl (whole !))))) refl (tt, record { fits = small }) $
      sets ! (bin ! (get ! refl) (get ! refl) (record { fits = sum })) refl (tt, record { fits = sum }) $
      assigns ! (of_opd ! (get ! refl)) (through ! refl (fld ! refl (stop !))) (store_in ! 9 (sub ! 2 refl (whole !)) (tt, record { fits = sum })) $
      assigns ! (of_opd ! (lit ! tt)) (through ! refl (fld ! refl (stop !))) (store_in ! 5 (sub ! 2 refl (whole !)) (tt, record { fits = lit< tt })) $
      sets ! (of_opd ! (unit_lit !)) refl (tt, tt) $
      one_closes E ! mb mo p m.1 xs.1 $ use2 𝓛 (‵ (Held E front zs)) (snoc_in E 𝓛 ns.0 was xs.0 xs.1 alike) $
      use2 𝓛 (‵ (Held E new.blocks new.items)) (append_in E 𝓛 front c.blocks zs c.items (omega arith)) $
      nothing ! $ move ! (0 ∷ 2 ∷ 3 ∷ 4 ∷ 5 ∷ []) $ nodes_closes E ! tt rest sb so $ move ! (3 ∷ 4 ∷ 5 ∷ 6 ∷ 7 ∷ []) $ nodes_closes E ! tt new rb ro $
      returns ! (look_at ! 0 refl) $ free_all ! refl $ keep ! (0 ∷ 1 ∷ 2 ∷ 3 ∷ 4 ∷ 5 ∷ []) $ by ! (exits passed handed new rest (ap (λ ys. ys ++ c.items) (sym xs.2), refl))))

  entry : Asks E d c → ent 𝓤 (on_entry 𝓛 (ended E).signature (κ, (μ, tt)) (q, (s, tt)) (self, (other, tt)) (ps, (us, tt))) (WpFn 𝓤 H C Λ (function E) (ps ++ (us ++ [])) Post)
  entry asked =
      qed 𝓛 ((‵ (flft κ q) ⊛ ‵ (flft μ s) ⊛ ‵ ftrue) ∷ ‵ (owns (MutRef (named 0) κ (Nr E) ∷ MutRef (named 1) μ (Nr E) ∷ []) (self, (other, tt)) (ps, (us, tt))) ∷ []) ∵ split3 ! $ move ! (3 ∷ []) $ fsplit3 ! $ fsplit3 ! $ feq_l ! (λ e.
      move ! (2 ∷ []) $ fsplit3 ! $ feq_l ! (λ f. keep ! (2 ∷ 3 ∷ 5 ∷ 0 ∷ 1 ∷ 6 ∷ []) $
      by ! (subst (λ (ws : List Val × List Val). ent 𝓤 (⋆ 𝓛 (Had d c)) (WpFn 𝓤 H C Λ (function E) (ws.0 ++ (ws.1 ++ [])) Post)) (λ j. (sym e j, sym f j)) (walk e f asked))))

meets : (E : Bx) {M : Type 1} {𝓤 : Ura M} (𝓛 : Logic 𝓤) (𝓣 : Tables 𝓤 𝓛.H)
    → Meets 𝓛 (ended E).signature (WpFn 𝓤 𝓛.H 𝓣.C 𝓣.Λ (function E)) (closing 𝓛 (ended E) (spec E 𝓛))
meets E {𝓤 = 𝓤} 𝓛 𝓣 =
    walk_Meets 𝓛 (ended E) (stayed E) (Goes-ref 𝓛 2 0 tt (plain (λ _. Nr E)), (Goes-ref 𝓛 2 1 tt (plain (λ _. Nr E)), tt)) (spec E 𝓛) (WpFn 𝓤 𝓛.H 𝓣.C 𝓣.Λ (function E)) (WpFn-mono 𝓤 𝓛.H 𝓛.laws 𝓣 (function E))
    (λ z. let a = z.0.3.0 in let c = z.0.3.1.0 in needs 𝓤 (Asks E a.now c.now) _
    (entry E 𝓛 𝓣.C 𝓣.Λ z.0.0.0 z.0.0.1.0 z.0.1.0 z.0.1.1.0 a.ref_ptr.0 a.ref_ptr.1 c.ref_ptr.0 c.ref_ptr.1 a.ghost_name c.ghost_name a.now c.now z.0.4.0 z.0.4.1.0))

pub link_behind_spec : {M : Type 1} → stated.statement M
unfolding tables_of
link_behind_spec 𝓤 𝓛 𝓜 𝓡 wired Y Z L LZ g d dd met md y =
    let E : Bx = record { row = Y; laws = L; al = record { row = Z; laws = LZ; g = g; d = d; drops = dd } } in
    let A = 𝓛.A in
    let 𝓣 : Tables 𝓤 𝓛.H = tables_of 𝓤 𝓛.H 𝓜 (tables 𝓤 𝓛.H 𝓜 𝓡 𝓡.env) in
    spared 𝓛 (ended E).signature (𝓡.run (𝓡.env (#self (args E)))) (run_framed 𝓤 𝓛.H 𝓜 𝓡 (𝓡.env (#self (args E)))) 2 (Y.lives, (Z.lives, tt)) (closing 𝓛 (ended E) (spec E 𝓛))
    (entered 𝓤 𝓛.H (triple_of 𝓛 (ended E).signature (closing 𝓛 (ended E) (spec E 𝓛))) 𝓣.C 𝓣.Λ (#self (args E)) (function E) (code.unfolded 𝓤 𝓛.H 𝓜 𝓡 wired (Y, (Z, tt)) d dd) (meets E 𝓛 𝓣))
    ((y.0.0, y.0.1, tt, y.0.3, y.0.4), y.1)
