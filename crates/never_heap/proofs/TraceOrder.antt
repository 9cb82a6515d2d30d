-- A thread's commands are in the history in the order of its trace.
use Rattle.std.proofs.Common.{ℕ, ◌≡◌, cond, List, [], ◌∷◌, ◌++◌, map, ap, sym, ◌∙◌, refl, inl, inr, eq-eqb, ne_eqb, slice_index_or}
use Rattle.std.proofs.lemmas.Bool.{cases_eq}
use Rattle.never_heap.specs.declared.Command.{Command}
use Rattle.never_heap.specs.declared.Entry.{Entry}
use Rattle.never_heap.specs.Histories.{HistoryItem, Started, Did, HasTraces, part}
use Rattle.never_heap.specs.Readback.{StandsIn, commands_in}

-- the commands of a thread from its entry on, and from that of another
own_entry : (t : ℕ) (e : Entry) (h : List HistoryItem) → e.thread ≡ t
    → commands_in t (Did e ∷ h) ≡ e.command ∷ commands_in t h
own_entry t e h is =
    ap (λ b. map (λ (x : Entry). x.command) (cond b (e ∷ part t h) (part t h)))
    (eq-eqb e.thread t is)

other_entry : (t : ℕ) (e : Entry) (h : List HistoryItem) → (e.thread ≡ t → ⊥)
    → commands_in t (Did e ∷ h) ≡ commands_in t h
other_entry t e h n =
    ap (λ b. map (λ (x : Entry). x.command) (cond b (e ∷ part t h) (part t h)))
    (ne_eqb e.thread t n)

-- one item in front, of which the thread has these commands
stands_behind : (h : List HistoryItem) (t : ℕ) (i : HistoryItem) (xs zs : List Command)
    (x : Command) (ys : List Command)
    → ((k : List HistoryItem) → commands_in t k ≡ xs → commands_in t (i ∷ k) ≡ zs)
    → StandsIn h t xs x ys → StandsIn (i ∷ h) t zs x ys
stands_behind h t i xs zs x ys front p = record {
  before = i ∷ p.before;
  entry = p.entry;
  since = p.since;
  history = ap (λ k. i ∷ k) p.history;
  thread = p.thread;
  command = p.command;
  earlier = front p.before p.earlier;
  later = p.later;
}

stands : (h : List HistoryItem) (t : ℕ) (xs : List Command) (x : Command) (ys : List Command)
    → commands_in t h ≡ xs ++ x ∷ ys → StandsIn h t xs x ys
stands [] t [] x ys e = cc
stands [] t (z ∷ xs) x ys e = cc
stands (Started ∷ h) t xs x ys e =
    stands_behind h t Started xs xs x ys (λ k is. is) (stands h t xs x ys e)
stands (Did d ∷ h) t [] x ys e = elim (cases_eq d.thread t) [
  | inr n ↦ stands_behind h t (Did d) [] [] x ys (λ k is. other_entry t d k n ∙ is)
      (stands h t [] x ys (sym (other_entry t d h n) ∙ e))
  | inl is ↦
      let both : d.command ∷ commands_in t h ≡ x ∷ ys = sym (own_entry t d h is) ∙ e in
      let head : d.command ≡ x = cc in
      let tail : commands_in t h ≡ ys = cc in
      record {
        before = [];
        entry = d;
        since = h;
        history = refl;
        thread = is;
        command = head;
        earlier = refl;
        later = tail;
      }
]
stands (Did d ∷ h) t (z ∷ xs) x ys e = elim (cases_eq d.thread t) [
  | inr n ↦ stands_behind h t (Did d) (z ∷ xs) (z ∷ xs) x ys (λ k is. other_entry t d k n ∙ is)
      (stands h t (z ∷ xs) x ys (sym (other_entry t d h n) ∙ e))
  | inl own ↦
      let both : d.command ∷ commands_in t h ≡ z ∷ (xs ++ x ∷ ys) = sym (own_entry t d h own) ∙ e in
      let head : d.command ≡ z = cc in
      let tail : commands_in t h ≡ xs ++ x ∷ ys = cc in
      stands_behind h t (Did d) xs (z ∷ xs) x ys
      (λ k is. own_entry t d k own ∙ ap (λ c. c ∷ commands_in t k) head ∙ ap (λ cs. z ∷ cs) is)
      (stands h t xs x ys tail)
]

pub stands_in_trace : (traces : List (List Command)) (h : List HistoryItem) (t : ℕ)
    (xs : List Command) (x : Command) (ys : List Command) → HasTraces traces h
    → slice_index_or traces t [] ≡ xs ++ x ∷ ys → StandsIn h t xs x ys
stands_in_trace traces h t xs x ys whole is = stands h t xs x ys (whole t ∙ is)
