-- The entry of a command comes after what was seen when the command began.
use Rattle.std.proofs.Common.{◌≡◌, ℕ, cond, eqb, eqb-true, List, [], ◌∷◌, ◌++◌, append-nil, append_assoc, get_or, refl, sym, ap, ◌∙◌, subst, inl, inr, length, arith}
use Rattle.std.proofs.lemmas.Bool.{cases_Bool}
use Rattle.std.proofs.lemmas.List.{append_cancel_right}
use Rattle.never_heap.specs.declared.Command.{Command}
use Rattle.never_heap.specs.declared.Entry.{Entry}
use Rattle.never_heap.specs.declared.Reply.{Reply}
use Rattle.never_heap.specs.Histories.{HistoryItem, Started, Did, part}
use Rattle.never_heap.proofs.Lemmas.{part_append}
use Rattle.shared_heap.specs.EntryPlaces.{StandsBehind, StandsBehindAll}
use Rattle.shared_heap.specs.Shared.{IsStartOf}
use Rattle.shared_heap.specs.Workers.{AllStart, HasAnswered, WorkerState}

-- ---- entries of one thread

-- each of these entries is of thread t
abbrev AllOf : ℕ → List Entry → Type 0
AllOf t [] = Unit {0}
AllOf t (e ∷ es) = (e.thread ≡ t) × AllOf t es

part_own : (t : ℕ) (h : List HistoryItem) → AllOf t (part t h)
part_own t [] = tt
part_own t (Started ∷ h) = part_own t h
part_own t (Did e ∷ h) = elim (cases_Bool (eqb e.thread t)) [
  | inl is ↦ subst (λ es. AllOf t es) (sym (ap (λ b. cond b (e ∷ part t h) (part t h)) is)) (eqb-true e.thread t is, part_own t h)
  | inr is ↦ subst (λ es. AllOf t es) (sym (ap (λ b. cond b (e ∷ part t h) (part t h)) is)) (part_own t h)
]

last_own : (t : ℕ) (es : List Entry) (e : Entry) → AllOf t (es ++ e ∷ []) → e.thread ≡ t
last_own t [] e all = all.0
last_own t (x ∷ es) e all = last_own t es e all.1

-- the last entry of a thread's part is of that thread
own_last : (t : ℕ) (h : List HistoryItem) (es : List Entry) (e : Entry) → part t h ≡ es ++ e ∷ [] → e.thread ≡ t
own_last t h es e is = last_own t es e (subst (λ xs. AllOf t xs) is (part_own t h))

-- ---- the place of a command's entry

-- the one entry of thread t among these items
record IsAmong (t : ℕ) (e : Entry) (items : List HistoryItem) : Type 0 where
  before : List HistoryItem
  later : List HistoryItem
  place : items ≡ before ++ Did e ∷ later
  thread : e.thread ≡ t
  none : part t before ≡ []

further : (t : ℕ) (i : HistoryItem) (e : Entry) (items : List HistoryItem) → part t (i ∷ []) ≡ [] → IsAmong t e items → IsAmong t e (i ∷ items)
further t i e items other a = record {
  before = i ∷ a.before;
  later = a.later;
  place = ap (λ is. i ∷ is) a.place;
  thread = a.thread;
  none = part_append t (i ∷ []) a.before ∙ (λ j. other j ++ a.none j);
}

among : (t : ℕ) (e : Entry) (items : List HistoryItem) → part t items ≡ e ∷ [] → IsAmong t e items
among t e [] own = absurd (let z : 0 ≡ 1 = ap length own in omega (arith, z))
among t e (Started ∷ items) own = further t Started e items refl (among t e items own)
among t e (Did d ∷ items) own = elim (cases_Bool (eqb d.thread t)) [
  | inl is ↦
      let all : d ∷ part t items ≡ e ∷ [] = sym (ap (λ b. cond b (d ∷ part t items) (part t items)) is) ∙ own in
      let same : d ≡ e = ap (λ es. get_or es 0 d) all in
      record {
        before = [];
        later = items;
        place = ap (λ x. Did x ∷ items) same;
        thread = ap (λ (x : Entry). x.thread) (sym same) ∙ eqb-true d.thread t is;
        none = refl;
      }
  | inr is ↦ further t (Did d) e items (ap (λ b. cond b (d ∷ []) []) is) (among t e items (sym (ap (λ b. cond b (d ∷ part t items) (part t items)) is) ∙ own))
]

-- an item among those after `start` comes after each prefix of `start`
stands : (t : ℕ) (first start items h : List HistoryItem) (log : List Entry) (e : Entry) → IsStartOf first start → part t start ≡ log → h ≡ start ++ items → IsAmong t e items → StandsBehind first log e h
stands t first start items h log e is had whole a = record {
  before = start ++ a.before;
  later = a.later;
  place = whole ∙ ap (λ is. start ++ is) a.place ∙ sym (append_assoc start a.before (Did e ∷ a.later));
  own = ap (λ u. part u (start ++ a.before)) a.thread ∙ part_append t start a.before ∙ (λ j. had j ++ a.none j) ∙ append-nil log;
  behind = (is.0 ++ a.before, ap (λ s. s ++ a.before) is.1 ∙ append_assoc first is.0 a.before);
}

module _ (old new : WorkerState) (k : Command) (a : Reply) (is : HasAnswered old k a new) where
  abbrev t : ℕ
  t = old.thread.thread

  placed : IsAmong t is.entry is.items
  placed = among t is.entry is.items is.own

  -- it is still the same thread
  pub still_thread : new.thread.thread ≡ t
  still_thread = sym (own_last new.thread.thread new.seen old.thread.log is.entry (is.sound.its ∙ is.told)) ∙ placed.thread

  -- its part of the history at which the command began is its log
  pub part_before : part t is.start ≡ old.thread.log
  part_before =
      let whole : part t is.start ++ is.entry ∷ [] ≡ old.thread.log ++ is.entry ∷ [] =
      ap (λ l. part t is.start ++ l) (sym is.own)
      ∙ sym (part_append t is.start is.items)
      ∙ ap (part t) (sym is.seen)
      ∙ ap (λ u. part u new.seen) (sym still_thread)
      ∙ is.sound.its ∙ is.told in
      append_cancel_right (part t is.start) old.thread.log (is.entry ∷ []) whole

  -- the entry of a command comes after each prefix of the history at which the command began
  pub stands_after : (first : List HistoryItem) → IsStartOf first is.start → StandsBehind first old.thread.log is.entry new.seen
  stands_after first begun = stands t first is.start is.items new.seen old.thread.log is.entry begun part_before is.seen placed

  pub stands_behind : StandsBehind old.seen old.thread.log is.entry new.seen
  stands_behind = stands_after old.seen is.before

  all_stand : (ns : List (List HistoryItem)) → AllStart ns is.start → StandsBehindAll ns old.thread.log is.entry new.seen
  all_stand [] all = tt
  all_stand (n ∷ ns) all = (stands_after n all.0, all_stand ns all.1)

  pub stands_behind_all : StandsBehindAll old.notes old.thread.log is.entry new.seen
  stands_behind_all = all_stand old.notes is.noted

-- it has this place in each history of which this one is a prefix
pub stands_still : (first h order : List HistoryItem) (log : List Entry) (e : Entry) → StandsBehind first log e h → IsStartOf h order → StandsBehind first log e order
stands_still first h order log e is more = record {
  before = is.before;
  later = is.later ++ more.0;
  place = more.1 ∙ ap (λ x. x ++ more.0) is.place ∙ append_assoc is.before (Did e ∷ is.later) more.0;
  own = is.own;
  behind = is.behind;
}
