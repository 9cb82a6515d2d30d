-- What a history says, when one item comes at its end.
use Rattle.std.proofs.Common.{ℕ, ◌+◌, ◌≡◌, ◌==◌, Bool, true, false, cond, List, [], ◌∷◌, ◌++◌, refl, sym, ap, arith, zero-add}
use Rattle.block_store.specs.declared.Config.{Config}
use Rattle.block_store.specs.declared.Width.{Width}
use Rattle.never_heap.specs.declared.Entry.{Entry}
use Rattle.never_heap.specs.Graphs.{Graph, start_graph}
use Rattle.never_heap.specs.Histories.{HistoryItem, Started, Did, after, replay_from, IsAnswered, Legal, LegalFrom, replay, part, starts_in, work_in}
use Rattle.never_heap.specs.Taken.{taken_in}

-- replay goes on by the item
pub replay_more : (g : Graph) (h : List HistoryItem) (i : HistoryItem)
    → replay_from g (h ++ i ∷ []) ≡ after (replay_from g h) i
replay_more g [] i = refl
replay_more g (x ∷ h) i = replay_more (after g x) h i

-- a legal history stays legal where the item is answered on its replay
pub legal_more : (g : Graph) (h : List HistoryItem) (i : HistoryItem) → LegalFrom g h
    → IsAnswered (replay_from g h) i → LegalFrom g (h ++ i ∷ [])
legal_more g [] i l a = (a, tt)
legal_more g (x ∷ h) i l a = (l.0, legal_more (after g x) h i l.1 a)

pub legal_history_more : (c : Config) (h : List HistoryItem) (i : HistoryItem) → Legal c h
    → IsAnswered (replay c h) i → Legal c (h ++ i ∷ [])
legal_history_more c [] i l a = absurd l
legal_history_more c (Started ∷ h) i l a = legal_more (start_graph c) h i l a
legal_history_more c (Did e ∷ h) i l a = absurd l

-- a prefix of a legal history is legal
pub legal_front : (g : Graph) (h k : List HistoryItem) → LegalFrom g (h ++ k) → LegalFrom g h
legal_front g [] k l = tt
legal_front g (x ∷ h) k l = (l.0, legal_front (after g x) h k l.1)

part_cons : (b : Bool) (e : Entry) (xs ys zs : List Entry) → xs ≡ ys ++ zs
    → cond b (e ∷ xs) xs ≡ cond b (e ∷ ys) ys ++ zs
part_cons true e xs ys zs h = ap (λ r. e ∷ r) h
part_cons false e xs ys zs h = h

-- a part goes on by the part of what comes
pub part_append : (t : ℕ) (h k : List HistoryItem) → part t (h ++ k) ≡ part t h ++ part t k
part_append t [] k = refl
part_append t (Started ∷ h) k = part_append t h k
part_append t (Did e ∷ h) k = part_cons (e.thread == t) e _ _ _ (part_append t h k)

-- the counts of starts and of units go on by those of the item
pub starts_append : (h k : List HistoryItem) → starts_in (h ++ k) ≡ starts_in h + starts_in k
starts_append [] k = sym (zero-add (starts_in k))
starts_append (Started ∷ h) k = omega (arith, starts_append h k)
starts_append (Did e ∷ h) k = starts_append h k

pub work_append : (h k : List HistoryItem) → work_in (h ++ k) ≡ work_in h + work_in k
work_append [] k = sym (zero-add (work_in k))
work_append (Started ∷ h) k = work_append h k
work_append (Did e ∷ h) k = omega (arith, work_append h k)

pub taken_append : (w : Width) (h k : List HistoryItem)
    → taken_in w (h ++ k) ≡ taken_in w h + taken_in w k
taken_append w [] k = sym (zero-add (taken_in w k))
taken_append w (Started ∷ h) k = taken_append w h k
taken_append w (Did e ∷ h) k = omega (arith, taken_append w h k)

-- a replay goes on by what comes
pub replay_append : (g : Graph) (h k : List HistoryItem)
    → replay_from g (h ++ k) ≡ replay_from (replay_from g h) k
replay_append g [] k = refl
replay_append g (x ∷ h) k = replay_append (after g x) h k

-- the legal items after some of them
pub legal_back : (g : Graph) (h k : List HistoryItem) → LegalFrom g (h ++ k)
    → LegalFrom (replay_from g h) k
legal_back g [] k l = l
legal_back g (x ∷ h) k l = legal_back (after g x) h k l.1

pub legal_from : (c : Config) (h : List HistoryItem) → Legal c h → LegalFrom (start_graph c) h
legal_from c [] l = absurd l
legal_from c (Started ∷ h) l = (tt, l)
legal_from c (Did e ∷ h) l = absurd l
