-- The call that takes a box apart, the call that makes one, and what each gives. Assumes `Logic`.
--     Params                    the two type parameters of a function over a box, with what its statement says of them
--     args, unbox_key, box_key  what `of` and `into_box` are called with, and what they call
--     Row, al, TheBox, box_laws the value's row, the allocator, and the box of both
--     Tokens, Outlive           that both lifetimes run, and that the types outlive them
--     Unboxes, at_unbox         the contract of `into_raw_with_allocator`, and at a box
--     Unboxed, unbox_gives      what that call gives
--     Boxes, at_box, box_goes   the contract of `from_raw`, at the parts of a box, and what is handed in
--     Boxed, box_gives          what that call gives
use Rattle.std.proofs.Common.{◌≡◌, ℕ, List, [], ◌∷◌, refl, ap, ◌∙◌}
use seplogic.Ra.Ura.{Ura}
use mir.Syntax.{Args, Callee, Dict, Dicts, a_type, dcons, dnil}
use mir.Val.{Val, vptr}
use base.Fml.{ftrue, flft}
use base.Logic.{SProp, ent, id⊢}
use prog.Memory.{Memory}
use prog.Routine.{Routine}
use types.Logic.{Logic}
use types.Kit.{Item, ‵, raw, ◌⊛◌, some, given, later, mean, ◌$◌, ◌∵◌, !, qed, move, keep, drop, use1, split, split3, join, fjoin, group, pick, await, rewrite, updating, now, show, check, feq_i, done}
use contract.BorrowLft.{◌⊑◌}
use contract.Lifetimes.{Lfts, Shares}
use contract.Monad.{Fun, fact}
use denote.RattleType.{RattleType}
use denote.Laws.{Is, shows}
use denote.Builtin.{RawPtr}
use denote.RawPtr.{Ptr, block_ptr, ptr_val}
use denote.Steps.{nothing, only, heard, peeks}
use denote.Param.{param, layout, bounded}
use denote.Param.Laws.{Laws, param_laws}
use denote.Struct.Tuple.{Tuple}
use denote.Triple.Clauses.{Lasts, lasts}
use denote.Triple.Spec.{triple_of}
use denote.Triple.Statement.{Contract}
use Rattle.core.specs.declared.alloc.Allocator.{Ghosts}
use Rattle.core.proofs.alloc.Calls.{Al, Fits}
use Rattle.core.proofs.cell.Inside.{Good}
use Rattle.std_alloc.specs.contracts.boxed.Box as box_type
use Rattle.std_alloc.proofs.boxed.Box.TheLaws as box_type_laws
use Rattle.std_alloc.specs.contracts.boxed.Box.into_raw_with_allocator as unbox
use Rattle.std_alloc.specs.contracts.boxed.Box.into_raw_with_allocator.Key.{name as #unbox}
use Rattle.std_alloc.specs.contracts.boxed.Box.from_raw as box
use Rattle.std_alloc.specs.contracts.boxed.Box.from_raw.Key.{name as #box}
use Rattle.st_loose.proofs.Parts.{two, fields_apart, Owned, owned_in_a_block}

pub record Params : Type 2 where
  pub T : RattleType
  pub A : RattleType
  pub T_laws : Laws T
  pub A_laws : Laws A
  pub ghosts : Ghosts A.Denot
  pub methods : Dict
  pub T_drop : Dict
  pub A_drop : Dict

module _ (P : Params) where
  abbrev at_both : Dicts → Args
  at_both = bounded (a_type ∷ a_type ∷ []) (P.T, (P.A, tt))

  abbrev pub args : Args
  args = at_both (dcons P.methods (dcons P.T_drop (dcons P.A_drop dnil)))

  abbrev pub unbox_key : Callee
  unbox_key = #unbox (at_both (dcons P.methods (dcons P.A_drop (dcons P.T_drop dnil))))

  abbrev pub box_key : Callee
  box_key = #box (at_both (dcons P.methods (dcons P.A_drop dnil)))

  abbrev pub Row : RattleType
  Row = param 0 P.T

  abbrev pub al : Al
  al = record { row = param 1 P.A; laws = param_laws 1 P.A P.A_laws; g = P.ghosts; d = P.methods; drops = P.A_drop }

  abbrev pub TheBox : RattleType
  TheBox = box_type.the_row Row al.row P.ghosts

  abbrev pub box_laws : Laws TheBox
  box_laws = box_type_laws.the_row_laws Row al.row P.ghosts (param_laws 0 P.T P.T_laws) al.laws

module _ (P : Params) {M : Type 1} {𝓤 : Ura M} (𝓛 : Logic 𝓤) (at_mem : Memory → SProp 𝓤) (run : Routine → Fun 𝓤) where
  open 𝓛 use {H}

  abbrev pub Unboxes : Contract 𝓤
  Unboxes = triple_of 𝓛 (unbox.signature P.T P.A P.ghosts P.methods P.A_drop P.T_drop)
      (unbox.spec P.T P.A P.ghosts P.methods P.A_drop P.T_drop 𝓛 at_mem run)

  abbrev pub Boxes : Contract 𝓤
  Boxes = triple_of 𝓛 (box.signature P.T P.A P.ghosts P.methods P.A_drop) (box.spec P.T P.A P.ghosts P.methods P.A_drop 𝓛 at_mem run)

  module _ (κs : Lfts 2) (qs : Shares 2) where
    abbrev pub Tokens : Item 𝓤
    Tokens = ‵ (flft κs.0 qs.0) ⊛ ‵ (flft κs.1.0 qs.1.0) ⊛ ‵ ftrue

    abbrev pub Outlive : Item 𝓤
    Outlive = raw (fact 𝓤 (κs.0 ⊑ P.T.lives)) ⊛ raw (fact 𝓤 (κs.1.0 ⊑ P.A.lives)) ⊛ ‵ ftrue

    -- ---- a box in the word w is taken apart
    abbrev pub at_unbox : (TheBox P).Denot → Val → Unboxes.Ghost
    at_unbox it w = ((κs, qs, tt, (it, tt), (w ∷ [], tt)), tt)

    -- n is an address and the allocator's word, of which the result u is made: [the tokens; what the box owned, now at the address; the allocator]
    abbrev pub Unboxed : (TheBox P).Denot → Val → ℕ × ℕ × Val → Item 𝓤
    Unboxed it u n = given ((u ≡ two (vptr n.0 n.1) n.2) × Fits (al P) n.2)
        (Tokens ⊛ ‵ (Owned (Row P) (al P) it.alloc (block_ptr n.0 n.1) it.value) ⊛ ‵ ((al P).row.own_val it.alloc (n.2 ∷ [])))

    pub unbox_gives : (it : (TheBox P).Denot) (w u : Val) → ent 𝓤 (Unboxes.post (at_unbox it w) u) (H.⇛ (mean 𝓛 (some (Unboxed it u))))
    unbox_gives it w u =
        let Pair = Tuple (RawPtr ∷ (al P).row ∷ []) in let y = at_unbox it w in
        let ended = unbox.ended P.T P.A P.ghosts P.methods P.A_drop P.T_drop in
        qed 𝓛 (raw (Unboxes.post y u) ∷ []) ∵ updating ! $
        -- the contract, written out: a pair, and what is owned at its pointer
        use1 𝓛 (later (some (λ (pair : Ptr × P.A.Denot). (Tokens ⊛ ‵ (Pair.own_val pair (u ∷ []))) ⊛ some (λ (ws : Lasts ended κs y.0.3).
        ‵ (lasts ended κs y.0.3 ws) ⊛ (raw (fact 𝓤 (pair.1 ≡ it.alloc)) ⊛ ‵ (Owned (Row P) (al P) it.alloc pair.0 it.value)))))) (id⊢ 𝓤 _) $
        await ! tt $ pick ! (λ pair. split ! $ move ! (1 ∷ []) $ pick ! (λ ws. split3 ! $ drop ! $
        -- [that the allocator is the box's; what the box owned; the tokens with the pair]
        heard ! (pair.1 ≡ it.alloc) (λ same. owned_in_a_block (Row P) (al P) ! it.alloc pair.0 it.value (λ b o at.
        move ! (1 ∷ []) $ split ! $ move ! (1 ∷ []) $
        -- [the pair; the tokens; what the box owned]
        rewrite ! 0 (λ (a : P.A.Denot). ‵ (Pair.own_val (pair.0, a) (u ∷ []))) same refl $
        fields_apart (al P) ! pair.0 it.alloc (u ∷ []) (λ h word fits.
        -- [the allocator; the tokens; what the box owned]
        now ! $ show ! (λ (n : ℕ × ℕ × Val). mean 𝓛 (Unboxed it u n)) (b, o, h) $
        check ! (ap only word ∙ ap (λ (p : Ptr). two (ptr_val p) h) at, fits) $ move ! (1 ∷ 2 ∷ 0 ∷ []) $ done !)))))

    -- ---- a box of the value x is made of a pointer and an allocator, which is in the word h
    abbrev pub at_box : (al P).row.Denot → ℕ → ℕ → Val → (Row P).Denot → Boxes.Ghost
    at_box a b o h x = ((κs, qs, tt, (a, (block_ptr b o, tt)), (h ∷ [], (vptr b o ∷ [], tt))), x)

    pub box_goes : (a : (al P).row.Denot) (b o : ℕ) (h : Val) (x : (Row P).Denot)
        → ent 𝓤 (mean 𝓛 (Tokens ⊛ Outlive ⊛ ‵ (Owned (Row P) (al P) a (block_ptr b o) x) ⊛ ‵ ((al P).row.own_val a (h ∷ [])))) (Boxes.pre (at_box a b o h x))
    box_goes a b o h x =
        qed 𝓛 (Tokens ∷ Outlive ∷ ‵ (Owned (Row P) (al P) a (block_ptr b o) x) ∷ ‵ ((al P).row.own_val a (h ∷ [])) ∷ []) ∵
        -- what the call requires: that the types outlive the lifetimes, and what a box owns
        move ! (1 ∷ []) $ split3 ! $ keep ! (0 ∷ 1 ∷ 4 ∷ 3 ∷ 5 ∷ []) $ group ! 3 $
        -- what its arguments own: what the allocator owns, and nothing of the pointer
        nothing ! $ feq_i ! (List Val) (vptr b o ∷ []) (vptr b o ∷ []) refl $ fjoin ! $ move ! (3 ∷ 0 ∷ []) $ fjoin ! $
        -- [what the arguments own; what is required; the tokens]
        move ! (2 ∷ 0 ∷ []) $ join ! $ join ! $ done !

    -- a box of the value x in the word u, which has its type: [the tokens; the box]
    abbrev pub Boxed : (Row P).Denot → Val → (TheBox P).Denot → Item 𝓤
    Boxed x u it = given ((it.value ≡ x) × Good (layout (TheBox P)) u) (Tokens ⊛ ‵ ((TheBox P).own_val it (u ∷ [])))

    pub box_gives : (a : (al P).row.Denot) (b o : ℕ) (h : Val) (x : (Row P).Denot) (u : Val)
        → ent 𝓤 (Boxes.post (at_box a b o h x) u) (H.⇛ (mean 𝓛 (some (Boxed x u))))
    box_gives a b o h x u =
        let B = TheBox P in let y = at_box a b o h x in let ended = box.ended P.T P.A P.ghosts P.methods P.A_drop in
        qed 𝓛 (raw (Boxes.post y u) ∷ []) ∵ updating ! $
        -- the contract, written out: a box, its value and its allocator
        use1 𝓛 (later (some (λ (it : B.Denot). (Tokens ⊛ ‵ (B.own_val it (u ∷ []))) ⊛ some (λ (ws : Lasts ended κs y.0.3).
        ‵ (lasts ended κs y.0.3 ws) ⊛ (raw (fact 𝓤 (it.value ≡ x)) ⊛ raw (fact 𝓤 (it.alloc ≡ a))))))) (id⊢ 𝓤 _) $
        await ! tt $ pick ! (λ it. split ! $ move ! (1 ∷ []) $ pick ! (λ ws. split3 ! $ drop ! $
        heard ! (it.value ≡ x) (λ same. drop ! $ split ! $ move ! (1 ∷ []) $
        -- [the box; the tokens]
        peeks ! B (Is B) (shows 𝓛 B) it (u ∷ []) (λ is.
        now ! $ show ! (λ (b : B.Denot). mean 𝓛 (Boxed x u b)) it $ check ! (same, (((box_laws P).lawful 𝓛).typed it (u ∷ []) is).0) $
        move ! (1 ∷ 0 ∷ []) $ done !))))
