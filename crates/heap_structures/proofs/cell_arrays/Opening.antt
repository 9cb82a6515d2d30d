-- A new array, whatever is known of the heap.
use Rattle.std.proofs.Common.{◌≡◌, ◌≢◌, ℕ, ◌+◌, ◌*◌, ◌<◌, ◌≤◌, ◌⊎◌, ◌||◌, Result, Ok, Err, true, false, inl, inr, List, [], ◌∷◌, length, sym, refl, ap, ◌∙◌, subst, arith}
use Rattle.std.specs.Prelude.{MatchResult, OnOk, replicate}
use Rattle.std.proofs.lemmas.Bool.{both_ways}
use Rattle.block_store.specs.declared.Name.{Name}
use Rattle.block_store.specs.declared.Value.TheVariants.{Nil, Ref}
use Rattle.block_store.specs.declared.Width.{Width}
use Rattle.array_trees.specs.Trees.{array_blocks}
use Rattle.never_heap.specs.declared.Command.{Command}
use Rattle.never_heap.specs.declared.Command.TheVariants.{Arr}
use Rattle.never_heap.specs.declared.Reply.{Reply}
use Rattle.never_heap.specs.declared.Reply.TheVariants as replies
use Rattle.never_heap.specs.Bounds.{IsCommandInBounds}
use Rattle.never_heap.specs.Graphs.{Array, Graph, has_name, next_name, nil_object}
use Rattle.never_heap.specs.Histories.{Legal, is_full}
use Rattle.never_heap.specs.Licensed.{Licensed}
use Rattle.never_heap.specs.LiveBlocks.{live_blocks}
use Rattle.never_heap.specs.Steps.{blocks_of, makes_object, made, step}
use Rattle.never_heap.proofs.Lemmas.{has_name_with_object, has_name_with_register, same_from, with_object_threads}
use Rattle.heap_machine.specs.Memories.{Acts}
use Rattle.heap_system.specs.Machines.{Run}
use Rattle.control_heap.specs.Calls.{HasAsked, HasReturned}
use Rattle.control_heap.specs.Controls.{Control, HasLeft, Stands, units}
use Rattle.control_heap.specs.declared.faults.Fault.{Fault}
use Rattle.control_heap.specs.declared.faults.Fault.TheVariants as faults
use Rattle.control_heap.specs.graph_view.RunsOfCommands.{HasDone, HasDoneAll, HasUsed}
use Rattle.control_heap.specs.graph_view.ShownGraph.{Follows, Goes, HasMetNoFull, IsSmall, Leaves, Shows, graph_told}
use Rattle.control_heap.proofs.graph_view.GraphAnswers.{follows_ok, goes_ok, never_ok}
use Rattle.saved_heap.specs.heap_pictures.Following.{HasOneThread}
use Rattle.heap_structures.specs.declared.cells.Cells.{Cells}
use Rattle.heap_structures.specs.Cells.{IsCells, IsPlaced, Spares}
use Rattle.heap_structures.specs.Heaps.{Any, Small, Always, Has, Sight}
use Rattle.heap_structures.specs.Opened.{FullOf, MayOpen, NotOpened, Opens, StaysSmall}
use Rattle.heap_structures.proofs.cell_arrays.CellMoves.{Made, makes_cells}
use Rattle.heap_structures.proofs.cell_arrays.NoAllocation.{lone_of, run_of, stands_of}

-- the new name is there
pub new_named : (g : Graph) (b n : ℕ) → HasOneThread g
    → has_name (made g 0 b (nil_object Array n)).0 (next_name g 0) ≡ true
new_named g b n lone =
    has_name_with_register (Rattle.never_heap.specs.Graphs.with_object g 0 (nil_object Array n)) 0 b
    (Ref (next_name g 0)) (next_name g 0)
    (omega (arith, lone.threads, with_object_threads g 0 (nil_object Array n)))
    ∙ has_name_with_object g 0 (nil_object Array n) (omega (arith, lone.threads)) (next_name g 0)
    ∙ ap (λ t. t || has_name g (next_name g 0))
    (same_from (next_name g 0) (next_name g 0) refl refl)

abbrev name_in : Reply → Name → Name
name_in (replies.New a) d = a
name_in _ d = d

new_is : (a b : Name) → replies.New a ≡ replies.New b → a ≡ b
new_is a b e = ap (λ r. name_in r b) e

full_new : (c : ℕ) (a : Name) → replies.Full c ≡ replies.New a → ⊥
full_new c a e = both_ways (is_full (replies.New a)) refl (ap is_full (sym e))

module _ (legal : (h : Control) (r : Run) → Stands h r → Legal h.config r.order)
    (licensed : (h : Control) (r : Run) → Stands h r → Licensed h.config r.order)
    (grows : (w : Width) (g : Graph) (t : ℕ) (k : Command)
    → live_blocks w (step g t k).0 ≤ live_blocks w g + blocks_of w k)
    (used : (h z : Control) (ks : List Command) (r : Run) → Stands h r → HasDoneAll h ks z
    → HasUsed h ks z)
    (h z : Control) (g : Graph) (b n : ℕ)
    (same : z.config ≡ h.config) where
  abbrev k : Command
  k = Arr b n

  abbrev done_of : {acts : Acts (List ℕ) (Unit {0})} (a : Reply) → HasAsked acts h k a z
      → HasDone h k z
  done_of a x = record {
    config = same;
    can = (x.bounds, x.left);
    count = x.one_more;
    objects = x.objects;
    reply = a;
    answered = x.answered;
  }

  still_small : live_blocks h.config.width g + array_blocks h.config.width n ≤ h.config.live
      → IsSmall h.config (step g 0 k).0
  still_small few =
      let more : live_blocks h.config.width (step g 0 k).0
      ≤ live_blocks h.config.width g + array_blocks h.config.width n =
      grows h.config.width g 0 k in
      omega (arith, more, few)

  pub grown : (s : Sight) → Has s h g → MayOpen s h.config g n → StaysSmall s h.config g b n
  grown Any has may = tt
  grown Small has may = still_small may
  grown Always has may = still_small may

  small_reply : {acts : Acts (List ℕ) (Unit {0})} (s : Sight) → Has s h g
      → StaysSmall s h.config g b n → (a : Reply)
      → HasAsked acts h k a z
      → ((a ≡ replies.New (next_name g 0)) × Has s z (step g 0 k).0)
      ⊎ ((is_full a ≡ true) × FullOf s z g)
  small_reply Any has may a x =
      let by : Goes h k a z = goes_ok legal licensed h z k (Ok a) same x.answered in
      by_graph (by g has).0 (by g has).1
    where
      by_graph : (a ≡ (step g 0 k).1) ⊎ ((is_full a ≡ true) × (makes_object k ≡ true))
          → Leaves z (graph_told g k a)
          → ((a ≡ replies.New (next_name g 0)) × Leaves z (step g 0 k).0)
          ⊎ ((is_full a ≡ true) × Leaves z g)
      by_graph (inl is) left = inl (is, subst (λ r. Leaves z (graph_told g k r)) is left)
      by_graph (inr full) left =
          inr (full.0, subst (λ t. Leaves z (Rattle.std.proofs.Common.cond t g (step g 0 k).0)) full.0 left)
  small_reply Small has may a x =
      let by : Follows Shows h k a z = follows_ok legal licensed h z k (Ok a) same x.answered in
      inl (by g has may)
  small_reply Always has may a x =
      let by : Follows HasMetNoFull h k a z = never_ok legal licensed h z k (Ok a) same x.answered in
      inl (by g has may)

  opened : {acts : Acts (List ℕ) (Unit {0})} (s : Sight) (has : Has s h g) (c : Cells) → Has s z (step g 0 k).0
      → (a : Reply) → HasAsked acts h k a z → c.array ≡ next_name g 0 → c.base ≡ b → c.size ≡ n
      → IsPlaced c → Opens s h z c g (λ y. IsCells y c (replicate n Nil))
  opened s has c later a x array base size placed =
      let lone = lone_of s h g has in
      let m : Made g (step g 0 k).0 b n =
      makes_cells g b n lone x.bounds.range.0 (new_named g b n lone) in
      let u : HasUsed h (k ∷ []) z =
      used h z (k ∷ []) (run_of s h g has) (stands_of s h g has) (z, done_of a x, refl) in
      record {
        graph = (step g 0 k).0;
        has = later;
        spares = subst (λ q. Spares (c.base ∷ []) q g (step g 0 k).0) (sym array)
            (subst (λ q. Spares (q ∷ []) (next_name g 0) g (step g 0 k).0) (sym base) m.spares);
        fresh = ap (has_name g) array ∙ m.fresh;
        holds = m.cells c array base size placed;
        config = same;
        commands = x.one_more;
        objects = x.objects;
        units = λ rate planned.
            let e : units z
            ≡ units h + ((rate * array_blocks h.config.width n + 0) + 0) =
            u.units rate planned in
            let o : rate * array_blocks h.config.width n ≡ rate * array_blocks h.config.width c.size =
            ap (λ q. rate * array_blocks h.config.width q) (sym size) in
            omega (arith, e, o);
        live = subst (λ q. live_blocks h.config.width (step g 0 k).0
            ≤ live_blocks h.config.width g + array_blocks h.config.width q) (sym size)
            (grows h.config.width g 0 k);
      }

  -- what the call returns
  pub opens : (acts : Acts (List ℕ) (Unit {0})) (spare : ℕ) (s : Sight) → Has s h g → StaysSmall s h.config g b n
      → (x : Result Name Fault) → HasReturned replies.New acts h k z x
      → MatchResult x
      (λ a. (c : Cells) → c.array ≡ a → c.base ≡ b → c.size ≡ n → IsPlaced c
      → Opens s h z c g (λ y. IsCells y c (replicate n Nil)))
      (λ f. NotOpened s h z b spare n g f)
  opens acts spare s has may (Ok a) told = by (small_reply s has may (replies.New a) told)
    where
      by : ((replies.New a ≡ replies.New (next_name g 0)) × Has s z (step g 0 k).0)
          ⊎ ((is_full (replies.New a) ≡ true) × FullOf s z g)
          → (c : Cells) → c.array ≡ a → c.base ≡ b → c.size ≡ n → IsPlaced c
          → Opens s h z c g (λ y. IsCells y c (replicate n Nil))
      by (inl p) c array base size placed =
          opened s has c p.1 (replies.New a) told (array ∙ new_is a (next_name g 0) p.0) base size
          placed
      by (inr p) c array base size placed = absurd (both_ways (is_full (replies.New a)) refl p.0)
  opens acts spare s has may (Err (faults.Full c)) told =
      by (small_reply s has may (replies.Full c) told.1)
    where
      by : ((replies.Full c ≡ replies.New (next_name g 0)) × Has s z (step g 0 k).0)
          ⊎ ((is_full (replies.Full c) ≡ true) × FullOf s z g) → FullOf s z g
      by (inl p) = absurd (full_new c (next_name g 0) p.0)
      by (inr p) = p.1
  opens acts spare s has may (Err faults.Null) told =
      absurd (both_ways false refl told.0)
  opens acts spare s has may (Err faults.Kind) told =
      absurd (both_ways false refl told.0)
  opens acts spare s has may (Err faults.Range) told =
      absurd (both_ways false refl told.0)
  opens acts spare s has may (Err faults.OutOfBounds) told = (inr (inr (inr told.0)), told.1)
  opens acts spare s has may (Err faults.NoLifeLeft) told = (told.0.1, told.1)

pub left_of : (acts : Acts (List ℕ) (Unit {0})) (h z : Control) (b n : ℕ)
    (x : Result Name Fault) → HasReturned replies.New acts h (Arr b n) z x → OnOk x (HasLeft h (Arr b n))
left_of acts h z b n (Ok a) told = told.left
left_of acts h z b n (Err f) told = tt

pub range_of : (acts : Acts (List ℕ) (Unit {0})) (h z : Control) (b n : ℕ)
    (x : Result Name Fault) → HasReturned replies.New acts h (Arr b n) z x
    → OnOk x ((b < 16) × (n ≤ 65535))
range_of acts h z b n (Ok a) told = told.bounds.range
range_of acts h z b n (Err f) told = tt

-- more may be said of the graph
pub opens_as : (s : Sight) (h z : Control) (c : Cells) (g : Graph) (P Q : Graph → Type 0)
    (o : Opens s h z c g P) → (P o.graph → Q o.graph) → Opens s h z c g Q
opens_as s h z c g P Q o f = record {
  graph = o.graph;
  has = o.has;
  spares = o.spares;
  fresh = o.fresh;
  holds = f o.holds;
  config = o.config;
  commands = o.commands;
  objects = o.objects;
  units = o.units;
  live = o.live;
}

-- it is made where a thread can be given one, and the life has room
pub not_refused : (h z : Control) (base spare n : ℕ) (g : Graph) (f : Fault) → spare < 16
    → spare ≢ base → 1 ≤ n → IsCommandInBounds h.config (Arr base n) → HasLeft h (Arr base n)
    → NotOpened Always h z base spare n g f → ⊥
not_refused h z base spare n g faults.OutOfBounds low apart some bounds left why = elim why.0 [
  | inl past ↦ absurd (omega (arith, past, low))
  | inr (inl same) ↦ apart same
  | inr (inr (inl none)) ↦ absurd (omega (arith, some, none))
  | inr (inr (inr out)) ↦ out bounds
]
not_refused h z base spare n g faults.NoLifeLeft low apart some bounds left why = why.0 left
not_refused h z base spare n g (faults.Full c) low apart some bounds left why = why
not_refused h z base spare n g faults.Null low apart some bounds left why = why
not_refused h z base spare n g faults.Kind low apart some bounds left why = why
not_refused h z base spare n g faults.Range low apart some bounds left why = why
