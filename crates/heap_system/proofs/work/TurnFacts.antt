-- What the code of a turn and of a finish meets, in a state that some list of turns reaches.
use Rattle.std.proofs.Common.{◌≡◌, ℕ, zero, suc, ◌+◌, ◌<◌, Bool, true, false, cond, lt-ltb, eqb, eq-eqb, Option, List, [], ◌∷◌, ◌++◌, length, get_or, set, map, refl, sym, ap, ◌∙◌, subst, arith, inl, inr, eqb-true}
use Rattle.std.proofs.lemmas.Bool.{cases_lt, and_parts}
use Rattle.std.proofs.lemmas.List.{get_or_default}
use Rattle.block_store.specs.declared.Config.{Config}
use Rattle.block_store.specs.declared.Width.{Width}
use Rattle.block_store.specs.Places.{extent, words_count}
use Rattle.rate_plan.specs.Rates.{IsRate}
use Rattle.rate_plan.proofs.Rates.{one_rate}
use Rattle.never_heap.specs.declared.Command.{Command}
use Rattle.never_heap.specs.Histories.{HistoryItem, Started, Did, part, parts_from}
use Rattle.never_heap.specs.RightWork.{RightWork, units_owed}
use Rattle.heap_machine.specs.Operations.{op_at, op_place, words_after, SumFits}
use Rattle.heap_machine.specs.declared.op.Op.{Op}
use Rattle.heap_system.specs.Parts.{Part, Rest}
use Rattle.heap_system.specs.declared.Turn.{Turn}
use Rattle.heap_system.specs.Locals.{LocalState, is_rest, is_done, part_want, part_step, turn_of, local_got, LocalReads}
use Rattle.heap_system.specs.Machines.{State, no_local, local_at, word_read, event_done, has_event, turned, answer, Run, next, after_turns, IsJob, opened, IsRunOf}
use Rattle.heap_system.specs.Systems.{Ordered, Whole, traces_of, IsReached}
use Rattle.heap_system.specs.Units.{IsRight}
use Rattle.heap_system.proofs.invariant.InvariantHolds.{run_kept}
use Rattle.heap_system.proofs.accounting.ThreadAccounts.{local_reads}
use Rattle.heap_system.proofs.invariant.Invariant.{Kept}
use Rattle.heap_system.proofs.step_rows.LawsOfParts.{laws_of}
use Rattle.heap_system.proofs.invariant.InvariantByTurns.{cell, sums}

-- what is kept of a reached state
pub reached_kept : (c : Config) (s : State) (k : IsReached c s) → Kept c (traces_of s) (record { state = s; order = k.run.order; names = k.run.names })
reached_kept c s k = subst (λ x. Kept c (traces_of s) (record { state = x; order = k.run.order; names = k.run.names })) (sym k.state) (run_kept c (traces_of s) (laws_of c) k.job k.turns k.run k.by_turns)

-- a place of the configuration's heap has a word
pub place_low : (c : Config) (s : State) (o : Option Ordered) → IsReached c s → (w : Whole) → record { config = c; state = s; ordered = o } ≡ w → (place : ℕ) → place < words_count (extent w.config) → place < length s.words
place_low c s o k w is place low = let all : place < words_count (extent c) = subst (λ (v : Whole). place < words_count (extent v.config)) (sym is) low in omega (arith, all, (reached_kept c s k).long)

-- what the next event of a thread reads
reached_reads : (c : Config) (s : State) → IsReached c s → (t : ℕ) → t < c.threads → LocalReads c (local_at c s t) (word_read c s (local_at c s t))
reached_reads c s k t tl = subst (λ x. LocalReads c (local_at c x t) (word_read c x (local_at c x t))) (sym k.state) (local_reads c (traces_of s) k.job k.turns k.run k.by_turns t tl)

-- what the code of a turn reads of its thread
pub record TurnFacts (c : Config) (s : State) (t : ℕ) (l : LocalState) : Type 0 where
  pub same : l ≡ local_at c s t
  pub config : l.config ≡ c
  pub cell : op_place (op_at (extent l.config) (part_want l.config l.part)) < length s.words
  pub sums : SumFits (op_at (extent l.config) (part_want l.config l.part)) (get_or s.words (op_place (op_at (extent l.config) (part_want l.config l.part))) 0)
  pub reads : LocalReads l.config l (get_or s.words (op_place (op_at (extent l.config) (part_want l.config l.part))) 0)

pub turn_facts : (c : Config) (s : State) (t : ℕ) (l : LocalState) → IsReached c s → t < c.threads → l ≡ get_or s.locals t l → TurnFacts c s t l
turn_facts c s t l k tl is =
    let kept = reached_kept c s k in
    let same : l ≡ local_at c s t = is ∙ get_or_default s.locals t l (no_local c) (omega (arith, kept.threads)) in
    let config : l.config ≡ c = ap (λ (x : LocalState). x.config) same ∙ (kept.locals t tl).config in
    record {
      same = same;
      config = config;
      cell = rw config (rw same (cell c (traces_of s) (laws_of c) k.job.bounds.config k.job.plan (record { state = s; order = k.run.order; names = k.run.names }) kept t tl));
      sums = rw config (rw same (sums c (traces_of s) (laws_of c) k.job.bounds.config k.job.plan (record { state = s; order = k.run.order; names = k.run.names }) kept t tl));
      reads = rw config (rw same (reached_reads c s k t tl));
    }

-- the traces stay
traces_stay : (ls : List LocalState) (t : ℕ) (l d : LocalState) → l.trace ≡ (get_or ls t d).trace → map (λ (x : LocalState). x.trace) (set ls t l) ≡ map (λ (x : LocalState). x.trace) ls
traces_stay [] t l d e = refl
traces_stay (x ∷ ls) zero l d e = ap (λ k. k ∷ map (λ (x : LocalState). x.trace) ls) e
traces_stay (x ∷ ls) (suc t) l d e = ap (λ ks. x.trace ∷ ks) (traces_stay ls t l d e)

pub turned_traces : (c : Config) (t : ℕ) (s : State) → traces_of (turned c t s) ≡ traces_of s
turned_traces c t s = by (has_event c t s)
  where
    by : (b : Bool) → traces_of (cond b (event_done c t s) s) ≡ traces_of s
    by true = traces_stay s.locals t (local_got (local_at c s t) (word_read c s (local_at c s t))) (no_local c) refl
    by false = refl

pub after_last : (c : Config) (r : Run) (ts : List ℕ) (t : ℕ) → after_turns c r (ts ++ t ∷ []) ≡ next c t (after_turns c r ts)
after_last c r [] t = refl
after_last c r (u ∷ ts) t = after_last c (next c u r) ts t

-- one turn more
abbrev pub turned_reached : (c : Config) (s : State) (t : ℕ) → IsReached c s → IsReached c (turned c t s)
turned_reached c s t k = record {
  job = subst (λ x. IsJob c x) (sym (turned_traces c t s)) k.job;
  turns = k.turns ++ t ∷ [];
  run = next c t k.run;
  by_turns = subst (λ x. IsRunOf c x (k.turns ++ t ∷ []) (next c t k.run)) (sym (turned_traces c t s)) (record {
    first = k.by_turns.first;
    opening = k.by_turns.opening;
    turns = ap (next c t) k.by_turns.turns ∙ sym (after_last c (opened c k.by_turns.first) k.turns t);
  });
  state = ap (turned c t) k.state;
}

-- what the code of a turn has done
pub record TurnMade (c : Config) (s : State) (t : ℕ) (ws : List ℕ) (l : LocalState) (a : Turn) : Type 0 where
  pub state : record { words = ws; locals = set s.locals t l } ≡ turned c t s
  pub reached : IsReached c (record { words = ws; locals = set s.locals t l })
  pub answered : a ≡ answer c t s

module _ (c : Config) (s : State) (t : ℕ) (l : LocalState) (k : IsReached c s) (tl : t < c.threads) (is : l ≡ get_or s.locals t l) (op : Op) (wants : op ≡ op_at (extent l.config) (part_want l.config l.part)) where
  pub cell_here : op_place op < length s.words
  cell_here = rw wants (turn_facts c s t l k tl is).cell

  pub sum_here : SumFits op (get_or s.words (op_place op) 0)
  sum_here = rw wants (turn_facts c s t l k tl is).sums

  module _ (word : ℕ) (read : word ≡ get_or s.words (op_place op) 0) where
    pub reads_here : LocalReads l.config l word
    reads_here = rw (read, wants) (turn_facts c s t l k tl is).reads

    word_is : word ≡ word_read c s (local_at c s t)
    word_is = let f = turn_facts c s t l k tl is in read ∙ ap (λ o. get_or s.words (op_place o) 0) wants ∙ ap (λ (x : Config). get_or s.words (op_place (op_at (extent x) (part_want x l.part))) 0) f.config ∙ ap (λ (x : LocalState). get_or s.words (op_place (op_at (extent c) (part_want c x.part))) 0) f.same

    pub turn_made : (going : is_done l ≡ false) (ws : List ℕ) (new : LocalState) (a : Turn) → ws ≡ words_after op s.words → new ≡ local_got l word → a ≡ turn_of (part_step l.config l.part word) → TurnMade c s t ws new a
    turn_made going ws new a acts gets answers =
        let f = turn_facts c s t l k tl is in
        let undone : is_done (local_at c s t) ≡ false = ap is_done (sym f.same) ∙ going in
        let some : has_event c t s ≡ true = rw (lt-ltb t c.threads tl, undone) refl in
        let words : ws ≡ words_after (op_at (extent c) (part_want c (local_at c s t).part)) s.words =
        acts ∙ ap (λ o. words_after o s.words) wants ∙ ap (λ (x : Config). words_after (op_at (extent x) (part_want x l.part)) s.words) f.config ∙ ap (λ (x : LocalState). words_after (op_at (extent c) (part_want c x.part)) s.words) f.same in
        let moved : new ≡ local_got (local_at c s t) (word_read c s (local_at c s t)) = gets ∙ ap (λ x. local_got x word) f.same ∙ ap (local_got (local_at c s t)) word_is in
        let state : record { words = ws; locals = set s.locals t new } ≡ turned c t s =
        ap (λ w. let x : State = record { words = w; locals = set s.locals t new } in x) words
        ∙ ap (λ y. let x : State = record { words = words_after (op_at (extent c) (part_want c (local_at c s t).part)) s.words; locals = set s.locals t y } in x) moved
        ∙ sym (ap (λ b. cond b (event_done c t s) s) some) in
        record {
          state = state;
          reached = subst (λ x. IsReached c x) (sym state) (turned_reached c s t k);
          answered = answers ∙ ap (λ x. turn_of (part_step l.config l.part x)) word_is ∙ ap (λ (x : Config). turn_of (part_step x l.part (word_read c s (local_at c s t)))) f.config ∙ ap (λ (x : LocalState). turn_of (part_step c x.part (word_read c s (local_at c s t)))) f.same ∙ rw undone refl;
        }

-- a thread that is done is at rest, with its whole trace in its log
pub rest_is : (p : Part) → is_rest p ≡ true → p ≡ Rest
rest_is Rest e = refl
rest_is _ e = absurd cc

pub logs_are : (ls : List LocalState) (t : ℕ) (order : List HistoryItem) (d : LocalState) → ((i : ℕ) → i < length ls → part (t + i) order ≡ (get_or ls i d).log) → map (λ (l : LocalState). l.log) ls ≡ parts_from t (length ls) order
logs_are [] t order d each = refl
logs_are (l ∷ ls) t order d each =
    let first : t + 0 ≡ t = omega arith in
    ap (λ x. x ∷ map (λ (l : LocalState). l.log) ls) (sym (each 0 (omega arith)) ∙ ap (λ u. part u order) first)
    ∙ ap (λ xs. part t order ∷ xs) (logs_are ls (t + 1) order d (λ i low. (let e : t + 1 + i ≡ t + suc i = omega arith in ap (λ u. part u order) e ∙ each (suc i) (omega arith))))

pub log_at : (ls : List LocalState) (t : ℕ) (d : LocalState) → get_or (map (λ (l : LocalState). l.log) ls) t d.log ≡ (get_or ls t d).log
log_at [] t d = refl
log_at (l ∷ ls) zero d = refl
log_at (l ∷ ls) (suc t) d = log_at ls t d

-- what each thread's part of an order owes, the order owes
right_parts : (w : Width) (rate : ℕ) (order : List HistoryItem) → ((t : ℕ) → IsRight w rate (part t order)) → RightWork w rate order
right_parts w rate [] each = tt
right_parts w rate (Started ∷ order) each = (tt, right_parts w rate order each)
right_parts w rate (Did e ∷ order) each = (first, right_parts w rate order (λ t. rest t (eqb e.thread t) refl))
  where
    first : e.work ≡ units_owed w rate e.command
    first = (subst (λ b. IsRight w rate (cond b (e ∷ part e.thread order) (part e.thread order))) (eq-eqb e.thread e.thread refl) (each e.thread)).0

    rest : (t : ℕ) (b : Bool) → eqb e.thread t ≡ b → IsRight w rate (part t order)
    rest t true is = (subst (λ b. IsRight w rate (cond b (e ∷ part t order) (part t order))) is (each t)).1
    rest t false is = subst (λ b. IsRight w rate (cond b (e ∷ part t order) (part t order))) is (each t)

-- each entry of the order has right work
pub right_work : (c : Config) (traces : List (List Command)) (r : Run) → Kept c traces r → (rate : ℕ) → IsRate c rate → RightWork c.width rate r.order
right_work c traces r kept rate is = right_parts c.width rate r.order (λ t. elim (cases_lt t c.threads) [
  | inl tl ↦
      let mine : IsRate c (local_at c r.state t).rate = subst (λ x. IsRate x (local_at c r.state t).rate) (kept.locals t tl).config (kept.locals t tl).fits.rate in
      subst (λ n. IsRight c.width n (part t r.order)) (one_rate c (local_at c r.state t).rate rate mine is) (kept.locals t tl).right
  | inr out ↦ subst (λ es. IsRight c.width rate es) (sym (kept.foreign t (omega arith))) tt
])

-- a thread that is done is at rest, with as many entries as commands
pub at_rest : (l : LocalState) → is_done l ≡ true → is_rest l.part ≡ true
at_rest l done = (and_parts (is_rest l.part) (eqb (length l.log) (length l.trace)) done).0

pub as_long : (l : LocalState) → is_done l ≡ true → length l.log ≡ length l.trace
as_long l done = eqb-true (length l.log) (length l.trace) (and_parts (is_rest l.part) (eqb (length l.log) (length l.trace)) done).1
