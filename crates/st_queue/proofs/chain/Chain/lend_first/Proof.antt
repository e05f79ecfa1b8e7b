-- `lend_first` shows the element of the first node. Assumes `Logic`.
use mathlib.Core.Path.{◌≡◌, refl, sym, ap, subst, ◌∙◌}
use Prim.Native.Nat.{ℕ, ◌+◌, ◌<◌}
use native.Mathlib.Omega.{arith}
use mathlib.Core.List.{List, [], ◌∷◌, ◌++◌}
use lib.ListN.{get_or}
use seplogic.Ra.Ura.{Ura}
use mir.Syntax.{Fn, named, ty_ptr}
use mir.MapTy.{inst_fn}
use mir.Val.{Val, vptr}
use base.Logic.{SProp, ent, never, fst∗}
use base.Fml.{Lft, Share, ftrue, flft, fat}
use prog.Wp.{Env, Calls, Loops, WpFn, Tables}
use types.Logic.{Logic, sem}
use contract.Monad.{fact}
use contract.Running.{tables, tables_of}
use sound.WpLaws.{WpFn-mono}
use types.Kit.{Item, ⋆, ‵, ◌⊛◌, at_ret, ◌$◌, ◌∵◌, !, qed, by, move, keep, drop, split, join, rewrite, fsplit, fjoin, feq_i, feq_l, suffices, done}
use types.Run.{look, stop, fld, hop, of_opd, addr, first, blocks, exec, returns, enter}
use types.ByLocal.{alloc_all, pass_all, free_all, look_at, get, through, sets, sets_last, env}
use denote.Exit.{yes}
use denote.RattleType.{owns}
use denote.Memory.{shared_of, hidden_shr}
use denote.RawPtr.{Ptr, block_ptr, ptr_val, in_a_block, ◌+ₚ◌}
use denote.Ref.{Bor, ShrRef}
use denote.Builtin.{RefOf}
use denote.Signature.{plain}
use denote.Steps.{nothing}
use denote.Opens.{hide}
use denote.Struct.Lending.{lent_at}
use denote.Triple.Carry.{spared}
use denote.Triple.Clauses.{Clauses, Ended, closing}
use denote.Triple.Entry.{on_entry}
use denote.Triple.Spec.{Meets, triple_of}
use denote.Triple.Table.{entered, run_framed}
use denote.Triple.Walked.{says, needs, Stays, stay_dropped, walk_of, ends_at, Goes-dropped, walk_Meets}
use Rattle.std_alloc.proofs.VecSteps.Shapes.{after}
use Rattle.std_alloc.proofs.BoxSteps.Form.{Bx, args, X, R}
use Rattle.st_queue.specs.Links.{Link, links_of, IsChained}
use Rattle.st_queue.specs.Ownership.{first_lent}
use Rattle.st_queue.proofs.Chained.{IsChained-had}
use Rattle.st_queue.proofs.NodeSteps.{uncons, eo, Hd, D, Nr}
use Rattle.st_queue.proofs.Seen.{chain_Seen, pointer_in, pointer_out}
use Rattle.st_queue.specs.contracts.chain.Chain.lend_first.Key.{name as #self}
use Rattle.st_queue.proofs.chain.Chain.lend_first.Statement as stated
use Rattle.st_queue.proofs.chain.Chain.lend_first.Code as code

module _ (E : Bx) where
  abbrev function : Fn
  function = inst_fn (args E) code.function

  abbrev ended : Ended
  ended = record { signature = record { lifetimes = 1; outlives = []; params = RefOf (0 ∷ []) tt (plain (λ _. Nr E)) (λ _. tt) ∷ []; result = RefOf (0 ∷ []) tt (plain (λ _. R E)) (λ _. tt) }; kept = (yes, tt) }

  abbrev stayed : Stays ended.signature.params ended.kept
  stayed = (stay_dropped (RefOf (0 ∷ []) tt (plain (λ _. Nr E)) (λ _. tt)) yes, tt)

  abbrev Asks : D E → Type 0
  Asks d = 0 < d.count

  abbrev spec : {M : Type 1} {𝓤 : Ura M} (𝓛 : Logic 𝓤) → Clauses 𝓤 ended
  spec {𝓤 = 𝓤} 𝓛 κs a = record { ghost = Unit {0}; requires = λ _. fact 𝓤 (Asks a.0.now); ensures = λ _ r _. fact 𝓤 (r.now ≡ get_or a.0.now.items 0 r.now) }

module _ (E : Bx) {M : Type 1} {𝓤 : Ura M} (𝓛 : Logic 𝓤) (C : Calls 𝓤 𝓛.H) (Λ : Loops 𝓤 𝓛.H) (κ : Lft) (q : Share) (b o : ℕ) (d : D E) (ps : List Val) where
  open 𝓛 use {H}

  abbrev self : Bor (D E)
  self = record { ref_ptr = (b, o); now = d }

  abbrev bound : (walk_of 𝓛 (ended E) (stayed E) (spec E 𝓛)).Ghost
  bound = (((κ, tt), (q, tt), tt, (self, tt), (ps, tt)), tt)

  abbrev Post : Val → SProp 𝓤
  Post = (walk_of 𝓛 (ended E) (stayed E) (spec E 𝓛)).post bound

  abbrev Had : List (Item 𝓤)
  Had = ‵ (hidden_shr (Nr E) κ d b o) ∷ ‵ (flft κ q) ∷ []

  walk : Asks E d → ent 𝓤 (⋆ 𝓛 Had) (WpFn 𝓤 H C Λ (function E) (vptr b o ∷ []) Post)
  walk asked =
      let ok = d.ok in
      let ns = uncons d.blocks (omega arith) in
      let xs = uncons d.items (omega arith) in
      let m = ns.0 in
      let x = xs.0 in
      let k : ℕ = eo E in
      let linked : IsChained d.head d.tail (m.0 ∷ links_of ns.1) = subst (λ ks. IsChained d.head d.tail (links_of ks)) ns.2 (IsChained-had _ _ _ d.chained) in
      qed 𝓛 Had ∵ enter ! C Λ (function E) (vptr b o ∷ []) _ $ alloc_all ! (λ l. pass_all ! refl ((tt, tt), tt) $
      let En : Env 𝓤 H = env (function E).locals l in
      chain_Seen E ! d b o $ move ! (3 ∷ []) $
      rewrite ! 0 (λ (ks : List (Link × Hd E)). ‵ (first_lent (R E) ks d.items κ)) ns.2 refl $ rewrite ! 0 (λ (ys : List (X E)). ‵ (first_lent (R E) (m ∷ ns.1) ys κ)) xs.2 refl $
      in_a_block ! m.0.0 (λ p. lent_at (R E) (p +ₚ k) x κ) (fst∗ 𝓤 (never 𝓤) (sem 𝓛 (shared_of (R E) x 0 0 κ))) (λ nb no e. fsplit ! $ drop ! $ hide ! $
      -- [the element; head; tail; count; the token]
      let at : d.head ≡ block_ptr nb no = linked.0.0 ∙ e in
      let r : Val = vptr nb (no + k) in
      move ! (1 ∷ 4 ∷ []) $ pointer_in ! tt d.head b (o + 0) (λ s.
      rewrite ! 0 (λ (p : Ptr). ‵ (fat s ty_ptr b (o + 0) (ptr_val p))) at refl $
      first ! $ blocks ! $ sets_last ! (addr ! (through ! refl (fld ! refl (hop ! (look ! 0 refl) (fld ! refl (stop !)))))) refl (tt, tt) $
      exec ! C Λ En (after 1 (function E).body) (at_ret En Post) $ sets ! (of_opd ! (get ! refl)) refl (tt, tt) $
      rewrite ! 0 (λ (p : Ptr). ‵ (fat s ty_ptr b (o + 0) (ptr_val p))) (sym at) refl $ pointer_out ! tt d.head b (o + 0) $
      move ! (1 ∷ 0 ∷ []) $ feq_i ! (List Val) (r ∷ []) (r ∷ []) refl $ fjoin ! $ returns ! (look_at ! 0 refl) $ free_all ! refl $ keep ! (0 ∷ 1 ∷ []) $
      suffices ! _ (ends_at 𝓛 (ended E) (stayed E) (spec E 𝓛) bound r (record { ref_ptr = (nb, no + k); now = x }) (tt, tt) (tt, tt)) $ says ! (sym (ap (λ ys. get_or ys 0 x) xs.2)) $
      nothing ! $ nothing ! $ fjoin ! $ join ! $ nothing ! $ move ! (2 ∷ 0 ∷ []) $ join ! $ join ! $ done !)))

  entry : Asks E d → ent 𝓤 (on_entry 𝓛 (ended E).signature (κ, tt) (q, tt) (self, tt) (ps, tt)) (WpFn 𝓤 H C Λ (function E) (ps ++ []) Post)
  entry asked =
      qed 𝓛 ((‵ (flft κ q) ⊛ ‵ ftrue) ∷ ‵ (owns (ShrRef (named 0) κ (Nr E) ∷ []) (self, tt) (ps, tt)) ∷ []) ∵ split ! $ move ! (2 ∷ []) $ fsplit ! $ fsplit ! $ feq_l ! (λ e. keep ! (0 ∷ 2 ∷ []) $
      by ! (subst (λ (ws : List Val). ent 𝓤 (⋆ 𝓛 Had) (WpFn 𝓤 H C Λ (function E) (ws ++ []) Post)) (sym e) (walk asked)))

meets : (E : Bx) {M : Type 1} {𝓤 : Ura M} (𝓛 : Logic 𝓤) (𝓣 : Tables 𝓤 𝓛.H)
    → Meets 𝓛 (ended E).signature (WpFn 𝓤 𝓛.H 𝓣.C 𝓣.Λ (function E)) (closing 𝓛 (ended E) (spec E 𝓛))
meets E {𝓤 = 𝓤} 𝓛 𝓣 =
    walk_Meets 𝓛 (ended E) (stayed E) (Goes-dropped 𝓛 1 (RefOf (0 ∷ []) tt (plain (λ _. Nr E)) (λ _. tt)) yes (λ κs x f. refl), tt) (spec E 𝓛) (WpFn 𝓤 𝓛.H 𝓣.C 𝓣.Λ (function E)) (WpFn-mono 𝓤 𝓛.H 𝓛.laws 𝓣 (function E))
    (λ z. let a = z.0.3.0 in needs 𝓤 (Asks E a.now) _ (entry E 𝓛 𝓣.C 𝓣.Λ z.0.0.0 z.0.1.0 a.ref_ptr.0 a.ref_ptr.1 a.now z.0.4.0))

pub lend_first_spec : {M : Type 1} → stated.statement M
unfolding tables_of
lend_first_spec 𝓤 𝓛 𝓜 𝓡 wired Y Z L LZ g d dd met md y =
    let E : Bx = record { row = Y; laws = L; al = record { row = Z; laws = LZ; g = g; d = d; drops = dd } } in
    let A = 𝓛.A in
    let 𝓣 : Tables 𝓤 𝓛.H = tables_of 𝓤 𝓛.H 𝓜 (tables 𝓤 𝓛.H 𝓜 𝓡 𝓡.env) in
    spared 𝓛 (ended E).signature (𝓡.run (𝓡.env (#self (args E)))) (run_framed 𝓤 𝓛.H 𝓜 𝓡 (𝓡.env (#self (args E)))) 2 (Y.lives, (Z.lives, tt)) (closing 𝓛 (ended E) (spec E 𝓛))
    (entered 𝓤 𝓛.H (triple_of 𝓛 (ended E).signature (closing 𝓛 (ended E) (spec E 𝓛))) 𝓣.C 𝓣.Λ (#self (args E)) (function E) (code.unfolded 𝓤 𝓛.H 𝓜 𝓡 wired (Y, (Z, tt)) d dd) (meets E 𝓛 𝓣))
    ((y.0.0, y.0.1, tt, y.0.3, y.0.4), y.1)
