-- What stays linked where a node comes or goes.
use mathlib.Core.Path.{◌≡◌, refl}
use mathlib.Core.Logic.{∥∥₁_elim}
use mathlib.Core.List.{List, [], ◌∷◌, ◌++◌}
use base.Stored.{Coded-set}
use denote.RawPtr.{Ptr, coded_ptr}
use Rattle.st_queue.specs.Links.{Link, LeadsForward, EndsFrom, EndsAt, IsChained}

LeadsForward-prop : (h : Ptr) (ls : List Link) → IsProp (LeadsForward h ls)
LeadsForward-prop h [] = λ p q. refl
LeadsForward-prop h (l ∷ ls) = λ p q i. (Coded-set coded_ptr h l.0 p.0 q.0 i, LeadsForward-prop l.1 ls p.1 q.1 i)

EndsFrom-prop : (a : Ptr) (ls : List Link) (t : Ptr) → IsProp (EndsFrom a ls t)
EndsFrom-prop a [] t = Coded-set coded_ptr t a
EndsFrom-prop a (l ∷ ls) t = EndsFrom-prop l.0 ls t

EndsAt-prop : (ls : List Link) (t : Ptr) → IsProp (EndsAt ls t)
EndsAt-prop [] t = λ p q. refl
EndsAt-prop (l ∷ ls) t = EndsFrom-prop l.0 ls t

pub IsChained-had : (h t : Ptr) (ls : List Link) → ∥ IsChained h t ls ∥₁ → IsChained h t ls
IsChained-had h t ls c = ∥∥₁_elim c (λ p q i. (LeadsForward-prop h ls p.0 q.0 i, EndsAt-prop ls t p.1 q.1 i)) (λ p. p)

-- ---- at the front
pub IsChained-tail : (h t : Ptr) (l : Link) (ls : List Link) → IsChained h t (l ∷ ls) → IsChained l.1 t ls
IsChained-tail h t l [] c = (tt, tt)
IsChained-tail h t l (m ∷ ls) c = (c.0.1, c.1)

pub IsChained-cons : (h t p : Ptr) (l : Link) (ls : List Link) → IsChained h t (l ∷ ls) → IsChained p t ((p, h) ∷ l ∷ ls)
IsChained-cons h t p l ls c = ((refl, c.0), c.1)

-- ---- at the back
EndsFrom-last : (a t : Ptr) (ls : List Link) (l : Link) → EndsFrom a (ls ++ l ∷ []) t → t ≡ l.0
EndsFrom-last a t [] l c = c
EndsFrom-last a t (m ∷ ls) l c = EndsFrom-last m.0 t ls l c

pub IsChained-last : (h t : Ptr) (ls : List Link) (l : Link) → IsChained h t (ls ++ l ∷ []) → t ≡ l.0
IsChained-last h t [] l c = c.1
IsChained-last h t (m ∷ ls) l c = EndsFrom-last m.0 t ls l c.1

-- ---- two chains are joined: the last node of the first gets a new `next`
LeadsForward-join : (h p : Ptr) (ls : List Link) (l : Link) (ms : List Link) → LeadsForward h (ls ++ l ∷ []) → LeadsForward p ms → LeadsForward h ((ls ++ (l.0, p) ∷ []) ++ ms)
LeadsForward-join h p [] l ms c d = (c.0, d)
LeadsForward-join h p (k ∷ ls) l ms c d = (c.0, LeadsForward-join k.1 p ls l ms c.1 d)

EndsFrom-join : (a u : Ptr) (ls : List Link) (l m : Link) (ms : List Link) → EndsFrom m.0 ms u → EndsFrom a ((ls ++ l ∷ []) ++ m ∷ ms) u
EndsFrom-join a u [] l m ms d = d
EndsFrom-join a u (k ∷ ls) l m ms d = EndsFrom-join k.0 u ls l m ms d

pub IsChained-join : (h t p u : Ptr) (ls : List Link) (l m : Link) (ms : List Link) → IsChained h t (ls ++ l ∷ []) → IsChained p u (m ∷ ms)
    → IsChained h u ((ls ++ (l.0, p) ∷ []) ++ m ∷ ms)
IsChained-join h t p u [] l m ms c d = ((c.0.0, d.0), d.1)
IsChained-join h t p u (k ∷ ls) l m ms c d = (LeadsForward-join h p (k ∷ ls) l (m ∷ ms) c.0 d.0, EndsFrom-join k.0 u ls (l.0, p) m ms d.1)
