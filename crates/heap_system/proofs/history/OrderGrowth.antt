-- What an event adds to the order, and what it leaves of other threads.
use Rattle.std.proofs.Common.{zero, suc, ◌≡◌, ℕ, ◌+◌, ◌<◌, cond, eq-eqb, ne_eqb, List, [], ◌∷◌, ◌++◌, length, get_or, append-nil, length-append, set, refl, sym, ap, ◌∙◌, arith, map, take, ◌-◌}
use Rattle.std.proofs.Math.Seq.{take-suc}
use Rattle.std.proofs.lemmas.List.{map-append}
use Rattle.block_store.specs.declared.Config.{Config}
use Rattle.block_store.specs.declared.Width.{Width}
use Rattle.never_heap.specs.declared.Command.{Command}
use Rattle.never_heap.specs.declared.Command.TheVariants as commands
use Rattle.never_heap.specs.declared.Entry.{Entry}
use Rattle.never_heap.specs.Graphs.{Graph, register_of, count_of}
use Rattle.never_heap.specs.Histories.{HistoryItem, replay, part, work_in, starts_in}
use Rattle.never_heap.specs.RightWork.{units_owed}
use Rattle.never_heap.specs.Steps.{step}
use Rattle.never_heap.proofs.Lemmas.{part_append, starts_append, step_counts, step_register, work_append}
use Rattle.heap_system.specs.Locals.{LocalState, Verdict, Open, AsStep, Refused, entry_of, works}
use Rattle.heap_system.specs.Machines.{entries_by, starts_by}
use Rattle.heap_system.specs.Naming.{Naming, Begun}
use Rattle.heap_system.specs.Systems.{units_of}
use Rattle.heap_system.specs.Units.{IsRight}
use Rattle.heap_system.proofs.accounting.OwedAndPaid.{works_append}
use Rattle.heap_system.proofs.invariant.SeenAndKept.{graph_decided, told_by, items_told, IsDecided}

-- a start is no thread's, and has no work
pub part_starts : (u : ℕ) (n : Naming) → part u (starts_by n) ≡ []
part_starts u Begun = refl
part_starts u _ = refl

work_starts : (n : Naming) → work_in (starts_by n) ≡ 0
work_starts Begun = refl
work_starts _ = refl

module _ (c : Config) (order : List HistoryItem) (t : ℕ) (k : Command) (work : ℕ) where
  -- what an event of thread t in command k adds, by its verdict and what it changes of the names
  abbrev pub items : Verdict → Naming → List HistoryItem
  items v n = entries_by c t k work order v ++ starts_by n

  abbrev pub order_after : Verdict → Naming → List HistoryItem
  order_after v n = order ++ items v n

  pub items_are : (v : Verdict) (n : Naming) → items_told (replay c order) t k work v ++ starts_by n ≡ items v n
  items_are Open n = refl
  items_are AsStep n = refl
  items_are (Refused r) n = refl

  pub entries_told : (v : Verdict) → part t (entries_by c t k work order v) ≡ told_by (replay c order) t k work v
  entries_told Open = refl
  entries_told AsStep = ap (λ x. cond x (entry_of t k work (step (replay c order) t k).1 ∷ []) []) (eq-eqb t t refl)
  entries_told (Refused r) = ap (λ x. cond x (entry_of t k work r ∷ []) []) (eq-eqb t t refl)

  pub part_grows : (v : Verdict) (n : Naming) → part t (order_after v n) ≡ part t order ++ told_by (replay c order) t k work v
  part_grows v n =
      part_append t order (items v n)
      ∙ ap (λ x. part t order ++ x) (part_append t (entries_by c t k work order v) (starts_by n)
      ∙ ap (λ x. part t (entries_by c t k work order v) ++ x) (part_starts t n) ∙ append-nil _ ∙ entries_told v)

  pub entries_away : (v : Verdict) (u : ℕ) → (t ≡ u → ⊥) → part u (entries_by c t k work order v) ≡ []
  entries_away Open u other = refl
  entries_away AsStep u other = ap (λ x. cond x (entry_of t k work (step (replay c order) t k).1 ∷ []) []) (ne_eqb t u other)
  entries_away (Refused r) u other = ap (λ x. cond x (entry_of t k work r ∷ []) []) (ne_eqb t u other)

  pub part_stays : (v : Verdict) (n : Naming) (u : ℕ) → (t ≡ u → ⊥) → part u (order_after v n) ≡ part u order
  part_stays v n u other =
      part_append u order (items v n)
      ∙ ap (λ x. part u order ++ x) (part_append u (entries_by c t k work order v) (starts_by n)
      ∙ ap (λ x. x ++ part u (starts_by n)) (entries_away v u other) ∙ part_starts u n)
      ∙ append-nil (part u order)

  entries_work : (v : Verdict) → work_in (entries_by c t k work order v) ≡ works (told_by (replay c order) t k work v)
  entries_work Open = refl
  entries_work AsStep = refl
  entries_work (Refused r) = refl

  -- the work grows by that of the entry
  pub work_grows : (v : Verdict) (n : Naming) → work_in (order_after v n) ≡ work_in order + works (told_by (replay c order) t k work v)
  work_grows v n = omega (arith, work_append order (items v n), work_append (entries_by c t k work order v) (starts_by n), work_starts n, entries_work v)

-- a step leaves the registers and the objects of other threads
pub registers_stay : (g : Graph) (t : ℕ) (k : Command) (v : Verdict) (u q : ℕ) → t < length g.mutators → (t ≡ u → ⊥) → register_of (graph_decided g t k v) u q ≡ register_of g u q
registers_stay g t k Open u q there other = refl
registers_stay g t k AsStep u q there other = step_register g t k u q (λ same. absurd (other same))
registers_stay g t k (Refused r) u q there other = refl

pub counts_stay : (g : Graph) (t : ℕ) (k : Command) (v : Verdict) (u : ℕ) → t < length g.mutators → (t ≡ u → ⊥) → count_of (graph_decided g t k v) u ≡ count_of g u
counts_stay g t k Open u there other = refl
counts_stay g t k AsStep u there other = step_counts g t k u (λ same. absurd (other same))
counts_stay g t k (Refused r) u there other = refl

-- the logs of all threads grow by what is put in one
pub units_grow : (ls : List LocalState) (t : ℕ) (new d : LocalState) (es : List Entry) → t < length ls → new.log ≡ (get_or ls t d).log ++ es → units_of (map (λ (l : LocalState). l.log) (set ls t new)) ≡ units_of (map (λ (l : LocalState). l.log) ls) + works es
units_grow [] t new d es low e = absurd (omega arith)
units_grow (l ∷ ls) zero new d es low e = omega (arith, ap works e, works_append l.log es)
units_grow (l ∷ ls) (suc t) new d es low e = omega (arith, units_grow ls t new d es (omega arith) e)

-- one command more is said
pub said_more : (log : List Entry) (trace : List Command) (e : Entry) (k : Command) → e.command ≡ k → k ≡ get_or trace (length log) (commands.Nil 0) → length log < length trace → map (λ (x : Entry). x.command) log ≡ take (length log) trace
    → map (λ (x : Entry). x.command) (log ++ e ∷ []) ≡ take (length (log ++ e ∷ [])) trace
said_more log trace e k is following low said =
    let longer : length (log ++ e ∷ []) ≡ suc (length log) = length-append log (e ∷ []) ∙ omega arith in
    map-append (λ (x : Entry). x.command) log (e ∷ []) ∙ ap (λ ks. ks ++ e.command ∷ []) said ∙ ap (λ x. take (length log) trace ++ x ∷ []) (is ∙ following)
    ∙ sym (take-suc trace (length log) (commands.Nil 0) low) ∙ ap (λ n. take n trace) (sym longer)

-- one entry more with the work that it owes, or none
pub right_more : (w : Width) (rate : ℕ) (es : List Entry) (g : Graph) (t : ℕ) (k : Command) (work : ℕ) (v : Verdict) → IsRight w rate es → (IsDecided v → work ≡ units_owed w rate k) → IsRight w rate (es ++ told_by g t k work v)
right_more w rate [] g t k work Open is all = tt
right_more w rate [] g t k work AsStep is all = (all tt, tt)
right_more w rate [] g t k work (Refused r) is all = (all tt, tt)
right_more w rate (x ∷ es) g t k work v is all = (is.0, right_more w rate es g t k work v is.1 all)

-- how many starts an event adds to the order
pub told_starts : (g : Graph) (t : ℕ) (k : Command) (work : ℕ) (v : Verdict) → starts_in (items_told g t k work v) ≡ 0
told_starts g t k work Open = refl
told_starts g t k work AsStep = refl
told_starts g t k work (Refused r) = refl

pub starts_after : (g : Graph) (t : ℕ) (k : Command) (work : ℕ) (v : Verdict) (order starts : List HistoryItem) → starts_in (order ++ (items_told g t k work v ++ starts)) ≡ starts_in order + starts_in starts
starts_after g t k work v order starts = omega (arith, starts_append order (items_told g t k work v ++ starts), starts_append (items_told g t k work v) starts, told_starts g t k work v)

-- an event adds no start before the one that it begins
pub entries_start_none : (c : Config) (t : ℕ) (k : Command) (work : ℕ) (order : List HistoryItem) (v : Verdict)
    → starts_in (entries_by c t k work order v) ≡ 0
entries_start_none c t k work order Open = refl
entries_start_none c t k work order AsStep = refl
entries_start_none c t k work order (Refused r) = refl
