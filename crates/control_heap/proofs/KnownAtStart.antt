-- What was reachable at the last start is known since.
use Rattle.std.proofs.Common.{◌≡◌, ℕ, ◌≤◌, Bool, true, false, cond, List, [], ◌∷◌, ◌++◌, append-nil, refl, sym, ap, ◌∙◌, subst, arith}
use Rattle.std.proofs.lemmas.Bool.{or_right}
use Rattle.block_store.specs.declared.Config.{Config}
use Rattle.block_store.specs.declared.Name.{Name}
use Rattle.block_store.specs.Heaps.{Heap}
use Rattle.never_heap.specs.declared.Command.{Command}
use Rattle.never_heap.specs.Cycles.{graph_at}
use Rattle.never_heap.specs.Graphs.{Graph, next_name, same_name}
use Rattle.never_heap.specs.Histories.{HistoryItem, Started, replay, starts_in}
use Rattle.never_heap.specs.Reach.{reachable}
use Rattle.never_heap.proofs.Lemmas.{graph_at_more, graph_at_next, starts_append}
use Rattle.heap_invariant.specs.name_invariant.Pictures.{Names}
use Rattle.heap_invariant.specs.cycle_tally.InUse.{graph_then}
use Rattle.build_steps.specs.LinearizationPoints.{is_publishing}
use Rattle.heap_system.specs.Parts.{Part, Rest, Enter, Access, Mark, Sweep, Build, Retry, LeaveToChangePhase, PhaseChange, Leave}
use Rattle.heap_system.specs.Locals.{Effect, Verdict, Open, command_of, effect}
use Rattle.heap_system.specs.Machines.{Run, IsAfterTurns, IsJob, after_turns, entries_by, has_event, heap_in, items_by, local_at, next, next_effect, opened, starts_by}
use Rattle.heap_system.specs.Naming.{Naming, Same, Lost, Begun, Shaded, Made, renamed}
use Rattle.heap_system.proofs.Lemmas.{Kept, entries_start_none, laws_of, opening_kept, turn_kept}

-- over an order and the names that are known
abbrev pub KnowsThen : Config → List HistoryItem → (Name → Bool) → Type 0
KnowsThen c order known = (a : Name) → reachable (graph_then c order) a ≡ true → known a ≡ true

abbrev pub KnowsStart : Config → Run → Type 0
KnowsStart c r = KnowsThen c r.order r.names.known

abbrev is_begun : Naming → Bool
is_begun Begun = true
is_begun _ = false

begun_builds : (b : Bool) (blocks : ℕ → ℕ) → is_begun (cond b (Made blocks) Same) ≡ false
begun_builds true blocks = refl
begun_builds false blocks = refl

not_begun : (n : Naming) (v : Verdict) → is_begun n ≡ false → is_begun n ≡ true → v ≡ Open
not_begun n v none is = absurd (let z : false ≡ true = sym none ∙ is in cc)

-- an event that starts a cycle decides nothing
begun_open : (c : Config) (p : Part) (w : ℕ) → is_begun (effect c p w).naming ≡ true → (effect c p w).verdict ≡ Open
begun_open c Rest w is = refl
begun_open c (Enter g) w is = refl
begun_open c (Access f) w is = not_begun Same (effect c (Access f) w).verdict refl is
begun_open c (Mark m) w is = refl
begun_open c (Sweep s) w is = refl
begun_open c (Build b) w is = not_begun (effect c (Build b) w).naming (effect c (Build b) w).verdict (begun_builds (is_publishing b.row) _) is
begun_open c Retry w is = refl
begun_open c LeaveToChangePhase w is = refl
begun_open c (PhaseChange g) w is = refl
begun_open c Leave w is = refl

module _ (c : Config) (order : List HistoryItem) (some : 1 ≤ starts_in order) where
  -- items without a start leave the graph at the last one
  same_then : (k : List HistoryItem) → starts_in k ≡ 0 → graph_then c (order ++ k) ≡ graph_then c order
  same_then k none =
      let e : starts_in (order ++ k) ≡ starts_in order = (let s = starts_append order k in omega (arith, s, none)) in
      ap (graph_at c (order ++ k)) e ∙ graph_at_more c order k (starts_in order) some (omega arith)

  still : (known : Name → Bool) (k : List HistoryItem) → starts_in k ≡ 0 → KnowsThen c order known → KnowsThen c (order ++ (k ++ [])) known
  still known k none is a reached =
      let e : order ++ (k ++ []) ≡ order ++ k = ap (λ x. order ++ x) (append-nil k) in
      is a (ap (λ (g : Graph). reachable g a) (sym (same_then k none)) ∙ ap (λ h. reachable (graph_then c h) a) (sym e) ∙ reached)

  then_next : graph_then c (order ++ Started ∷ []) ≡ replay c order
  then_next = ap (graph_at c (order ++ Started ∷ [])) (starts_append order (Started ∷ [])) ∙ graph_at_next c order []

moved : (c : Config) (order : List HistoryItem) → 1 ≤ starts_in order → (t : ℕ) (h : Heap) (ns : Names) (k : List HistoryItem) (n : Naming) → starts_in k ≡ 0 → (is_begun n ≡ true → k ≡ [])
    → KnowsThen c order ns.known → KnowsThen c (order ++ (k ++ starts_by n)) (renamed t (replay c order) h n ns).known
moved c order some t h ns k Same none first is = still c order some ns.known k none is
moved c order some t h ns k Lost none first is = still c order some ns.known k none is
moved c order some t h ns k (Shaded u) none first is = still c order some ns.known k none is
moved c order some t h ns k (Made blocks) none first is =
    λ a reached. or_right (same_name (next_name (replay c order) t) a) (ns.known a) (still c order some ns.known k none is a reached)
moved c order some t h ns k Begun none first is =
    λ a reached.
    let e : order ++ (k ++ Started ∷ []) ≡ order ++ Started ∷ [] = ap (λ x. order ++ (x ++ Started ∷ [])) (first refl) in
    ap (λ (g : Graph). reachable g a) (sym (then_next c order some)) ∙ ap (λ x. reachable (graph_then c x) a) (sym e) ∙ reached

module _ (c : Config) (traces : List (List Command)) (job : IsJob c traces) where
  one_turn : (r : Run) → Kept c traces r → (t : ℕ) → KnowsStart c r → KnowsStart c (next c t r)
  one_turn r kept t is = by (has_event c t r.state)
    where
      some : 1 ≤ starts_in r.order
      some = (let o = kept.names.ordered in omega (arith, o.some, o.started))

      e : Effect
      e = next_effect c r.state t

      items : List HistoryItem
      items = items_by c t (command_of (local_at c r.state t)) (local_at c r.state t).spent r.order e

      entries : List HistoryItem
      entries = entries_by c t (command_of (local_at c r.state t)) (local_at c r.state t).spent r.order e.verdict

      by : (b : Bool) → KnowsThen c (r.order ++ cond b items []) (cond b (renamed t (replay c r.order) (heap_in c r.state) e.naming r.names) r.names).known
      by true = moved c r.order some t (heap_in c r.state) r.names entries e.naming (entries_start_none c t _ _ r.order e.verdict)
          (λ begun. ap (entries_by c t (command_of (local_at c r.state t)) (local_at c r.state t).spent r.order) (begun_open c (local_at c r.state t).part _ begun)) is
      by false = still c r.order some r.names.known [] refl is

  all_turns : (ts : List ℕ) (r : Run) → Kept c traces r → KnowsStart c r → KnowsStart c (after_turns c r ts)
  all_turns [] r kept is = is
  all_turns (t ∷ ts) r kept is = all_turns ts (next c t r) (turn_kept c traces (laws_of c) job r kept t) (one_turn r kept t is)

pub knows_start : (c : Config) (r : Run) → IsAfterTurns c r → KnowsStart c r
knows_start c r is =
    let s = is.by_turns.first in
    subst (λ x. KnowsStart c x) (sym is.by_turns.turns)
    (all_turns c is.traces is.job is.turns (opened c s) (opening_kept c is.traces is.job s is.by_turns.opening) (λ a reached. reached))
