-- No record has more blocks than the largest object, and no array more elements than the longest.
use Rattle.std.proofs.Common.{ℕ, zero, suc, ◌-◌, ◌≡◌, ◌<◌, ◌≤◌, Bool, true, false, cond, eqb, eq-eqb, List, [], ◌∷◌, length, get_or, map, take, replicate, Option, Some, None, ◌++◌, sym, ◌∙◌, refl, subst, arith, inl, inr}
use Rattle.std.proofs.lemmas.Bool.{cases_lt, cases_Bool}
use Rattle.std.proofs.lemmas.List.{length-set, length-replicate}
use Rattle.std.specs.List.{AllByRecursion}
use Rattle.block_store.specs.declared.Config.{Config}
use Rattle.block_store.specs.declared.Name.{Name}
use Rattle.block_store.specs.declared.Value.{Value}
use Rattle.block_store.specs.declared.Value.TheVariants.{Nil, Ref}
use Rattle.block_store.specs.declared.Width.{Width}
use Rattle.block_store.specs.declared.Width.TheVariants.{Four, Eight}
use Rattle.block_store.specs.Configs.{IsInBounds}
use Rattle.rate_plan.specs.Rates.{IsAdmitted}
use Rattle.object_lists.specs.Records.{record_blocks}
use Rattle.never_heap.specs.declared.Command.{Command}
use Rattle.never_heap.specs.declared.Command.TheVariants as commands
use Rattle.never_heap.specs.declared.Entry.{Entry}
use Rattle.never_heap.specs.Graphs.{Graph, Object, Record, Array, nil_object, no_object, start_graph, start_mutator, object_of, same_name, register_of, field_of, with_field, with_object, set_field, next_name, no_mutator}
use Rattle.never_heap.specs.Histories.{HistoryItem, Started, Did, is_full, after, part, replay, replay_from}
use Rattle.never_heap.specs.Steps.{step, made, blocks_of}
use Rattle.never_heap.specs.declared.Reply.{Reply}
use Rattle.never_heap.specs.Bounds.{IsCommandInBounds}
use Rattle.never_heap.proofs.Lemmas.{Change, blocks_low, bounds_at, change_of, has_field, make, none, object_with_field, object_with_object, object_with_register, put, step_past, store, swap, threads_put, with_object_threads}
use Rattle.heap_system.specs.Alone.{longest_array}
use Rattle.heap_system.specs.Locals.{LocalState, command_of, entries_of}
use Rattle.heap_system.specs.Machines.{Run, local_at}
use Rattle.heap_system.specs.Pictures.{waiting, entries_waiting}
use Rattle.heap_system.proofs.invariant.Invariant.{Kept}
use Rattle.heap_system.proofs.alone.FieldsLeft.{array_short}

abbrev pub IsLow : Config → Object → Type 0
IsLow c o = (o.kind ≡ Record → record_blocks c.width (length o.fields) ≤ c.object)
    × (o.kind ≡ Array → length o.fields ≤ longest_array c)

abbrev pub ObjectsAreLow : Config → Graph → Type 0
ObjectsAreLow c g = (a : Name) → IsLow c (object_of g a)

-- no command of the history allocates more blocks than the largest object has
abbrev pub AsksFew : Config → Entry → Type 0
AsksFew c e = blocks_of c.width e.command ≤ c.object

abbrev pub CommandsAskFew : Config → List HistoryItem → Type 0
CommandsAskFew c [] = Unit {0}
CommandsAskFew c (Started ∷ h) = CommandsAskFew c h
CommandsAskFew c (Did e ∷ h) = AsksFew c e × CommandsAskFew c h

cond_low : (c : Config) (x : Bool) (o p : Object) → IsLow c o → IsLow c p → IsLow c (cond x o p)
cond_low c true o p f g = f
cond_low c false o p f g = g

set_low : (c : Config) (i : ℕ) (v : Value) (o : Object) → IsLow c o → IsLow c (set_field o i v)
set_low c i v o low = (
  λ q. subst (λ n. record_blocks c.width n ≤ c.object) (sym (length-set o.fields i v)) (low.0 q),
  λ q. subst (λ n. n ≤ longest_array c) (sym (length-set o.fields i v)) (low.1 q),
)

module _ (c : Config) (g : Graph) (low : ObjectsAreLow c g) (t : ℕ) where
  -- a step that makes no object
  stays : (new : Bool) (h : Graph) → t < length g.mutators → new ≡ false → Change g t new h → ObjectsAreLow c h
  stays new _ there not_new none a = low a
  stays new _ there not_new (store d v s) a = subst (IsLow c) (sym (object_with_register g t d v a there)) (low a)
  stays new _ there not_new (put s i v x e l) a =
      subst (IsLow c) (sym (object_with_field g x i (register_of g t v) (has_field g x i l) a))
      (cond_low c (same_name x a) (set_field (object_of g x) i (register_of g t v)) (object_of g a) (set_low c i (register_of g t v) (object_of g x) (low x)) (low a))
  stays new _ there not_new (swap s i v x e l) a =
      subst (IsLow c) (sym (object_with_register (with_field g x i (register_of g t v)) t v (field_of (object_of g x) i) a (omega (arith, there, threads_put g x i (register_of g t v) l)) ∙ object_with_field g x i (register_of g t v) (has_field g x i l) a))
      (cond_low c (same_name x a) (set_field (object_of g x) i (register_of g t v)) (object_of g a) (set_low c i (register_of g t v) (object_of g x) (low x)) (low a))
  stays new _ there not_new (make d o n e y) a = absurd (let z : true ≡ false = sym y ∙ not_new in cc)

  -- a new object
  makes : (d : ℕ) (o : Object) → t < length g.mutators → IsLow c o → ObjectsAreLow c (made g t d o).0
  makes d o there new a =
      subst (IsLow c) (sym (object_with_register (with_object g t o) t d (Ref (next_name g t)) a (omega (arith, with_object_threads g t o)) ∙ object_with_object g t o there a))
      (cond_low c (same_name (next_name g t) a) o (object_of g a) new (low a))

  there_low : (k : Command) → t < length g.mutators → blocks_of c.width k ≤ c.object → ObjectsAreLow c (step g t k).0
  there_low (commands.New d f) there few = makes d (nil_object Record f) there
      (λ q. subst (λ n. record_blocks c.width n ≤ c.object) (sym (length-replicate f Nil)) few, λ q. (let z : Record ≡ Array = q in absurd cc))
  there_low (commands.Arr d e) there few = makes d (nil_object Array e) there
      (λ q. (let z : Array ≡ Record = q in absurd cc), λ q. subst (λ n. n ≤ longest_array c) (sym (length-replicate e Nil)) (array_short c e few))
  there_low k there few = stays _ _ there refl (change_of g t k)

  step_low : (k : Command) → blocks_of c.width k ≤ c.object → ObjectsAreLow c (step g t k).0
  step_low k few = elim (cases_lt t (length g.mutators)) [
    | inl there ↦ there_low k there few
    | inr past ↦ subst (ObjectsAreLow c) (sym (step_past g t k past)) low
  ]

replay_low : (c : Config) (h : List HistoryItem) (g : Graph) → CommandsAskFew c h → ObjectsAreLow c g → ObjectsAreLow c (replay_from g h)
replay_low c [] g few low = low
replay_low c (Started ∷ h) g few low = replay_low c h g few low
replay_low c (Did e ∷ h) g few low = replay_low c h (after g (Did e)) few.1 (elim (cases_Bool (is_full e.reply)) [
  | inl y ↦ subst (λ x. ObjectsAreLow c (cond x g (step g e.thread e.command).0)) (sym y) low
  | inr n ↦ subst (λ x. ObjectsAreLow c (cond x g (step g e.thread e.command).0)) (sym n) (step_low c g low e.thread e.command few.0)
])

-- the start: an array, and no other object
empty_low : (w : Width) (b : ℕ) → 0 < b → record_blocks w 0 ≤ b
empty_low Four b pos = omega arith
empty_low Eight b pos = omega arith

start_objects : (n k u : ℕ) → (get_or (replicate k (start_mutator n)) u no_mutator).objects ≡ []
start_objects n zero u = refl
start_objects n (suc k) zero = refl
start_objects n (suc k) (suc u) = start_objects n k u

shared_low : (c : Config) → IsLow c (nil_object Array c.shared)
shared_low c = (
  λ q. (let z : Array ≡ Record = q in absurd cc),
  λ q. subst (λ n. n ≤ longest_array c) (sym (length-replicate c.shared Nil)) (omega arith),
)

none_low : (c : Config) → 0 < c.object → IsLow c no_object
none_low c pos = (λ q. empty_low c.width c.object pos, λ q. omega arith)

start_low : (c : Config) → 0 < c.object → ObjectsAreLow c (start_graph c)
start_low c pos a = cond_low c (eqb a.serial 0) _ _
    (cond_low c (eqb a.thread (length (start_graph c).mutators)) (start_graph c).shared no_object (shared_low c) (none_low c pos))
    (subst (λ (os : List Object). IsLow c (get_or os (a.serial - 1) no_object)) (sym (start_objects c.threads c.threads a.thread)) (none_low c pos))

-- so no object of the replay is larger
replay_objects : (c : Config) (h : List HistoryItem) → 0 < c.object → CommandsAskFew c h → ObjectsAreLow c (replay c h)
replay_objects c h pos few = replay_low c h (start_graph c) few (start_low c pos)

-- what holds of the parts of all threads holds of the order
pub parts_ask_few : (c : Config) (h : List HistoryItem) → ((t : ℕ) → AllByRecursion (AsksFew c) (part t h)) → CommandsAskFew c h
parts_ask_few c [] all = tt
parts_ask_few c (Started ∷ h) all = parts_ask_few c h all
parts_ask_few c (Did e ∷ h) all =
    let own : AllByRecursion (AsksFew c) (e ∷ part e.thread h) = subst (λ x. AllByRecursion (AsksFew c) (cond x (e ∷ part e.thread h) (part e.thread h))) (eq-eqb e.thread e.thread refl) (all e.thread) in
    (own.0, parts_ask_few c h (λ t. tail t (eqb e.thread t) (all t))) where
      tail : (t : ℕ) (x : Bool) → AllByRecursion (AsksFew c) (cond x (e ∷ part t h) (part t h)) → AllByRecursion (AsksFew c) (part t h)
      tail t true a = a.1
      tail t false a = a

-- entries whose commands are in bounds
all_take : {A : Type 0} (P : A → Type 0) (n : ℕ) (xs : List A) → AllByRecursion P xs → AllByRecursion P (take n xs)
all_take P zero xs all = tt
all_take P (suc n) [] all = tt
all_take P (suc n) (x ∷ xs) all = (all.0, all_take P n xs all.1)

all_append : {A : Type 0} (P : A → Type 0) (xs ys : List A) → AllByRecursion P xs → AllByRecursion P ys → AllByRecursion P (xs ++ ys)
all_append P [] ys all more = more
all_append P (x ∷ xs) ys all more = (all.0, all_append P xs ys all.1 more)

log_asks_few : (c : Config) (log : List Entry) → AllByRecursion (IsCommandInBounds c) (map (λ (e : Entry). e.command) log) → AllByRecursion (AsksFew c) log
log_asks_few c [] all = tt
log_asks_few c (e ∷ log) all = (blocks_low c e.command all.0, log_asks_few c log all.1)

waiting_asks_few : (c : Config) (t : ℕ) (k : Command) (paid : ℕ) (o : Option Reply) → blocks_of c.width k ≤ c.object → AllByRecursion (AsksFew c) (entries_of t k paid o)
waiting_asks_few c t k paid None low = tt
waiting_asks_few c t k paid (Some r) low = (low, tt)

module _ (c : Config) (traces : List (List Command)) (bounds : IsInBounds c) (plan : IsAdmitted c) (r : Run) (kept : Kept c traces r) where
  thread_asks_few : (t : ℕ) → t < c.threads → AllByRecursion (AsksFew c) (part t r.order)
  thread_asks_few t tl =
      let k = kept.locals t tl in
      let l : LocalState = local_at c r.state t in
      let trace : AllByRecursion (IsCommandInBounds c) l.trace = subst (λ x. AllByRecursion (IsCommandInBounds x) l.trace) k.config k.fits.trace.commands in
      let here : blocks_of c.width (command_of l) ≤ c.object = blocks_low c (command_of l) (bounds_at c l.trace (length l.log) trace) in
      subst (AllByRecursion (AsksFew c)) (sym k.told) (all_append (AsksFew c) l.log (entries_waiting (replay c r.order) l)
      (log_asks_few c l.log (subst (AllByRecursion (IsCommandInBounds c)) (sym k.said) (all_take (IsCommandInBounds c) (length l.log) l.trace trace)))
      (waiting_asks_few c l.thread (command_of l) l.spent (waiting (replay c r.order) l.part) here))

  order_asks_few : CommandsAskFew c r.order
  order_asks_few = parts_ask_few c r.order (λ t. elim (cases_lt t c.threads) [
    | inl tl ↦ thread_asks_few t tl
    | inr past ↦ subst (AllByRecursion (AsksFew c)) (sym (kept.foreign t past)) tt
  ])

  pub order_objects : ObjectsAreLow c (replay c r.order)
  order_objects = replay_objects c r.order (let p = bounds.some_object in omega arith) order_asks_few
