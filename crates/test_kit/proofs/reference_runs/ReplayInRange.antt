-- The replay of a history in its ranges can be followed.
use Rattle.std.proofs.Common.{◌≡◌, ℕ, zero, suc, ◌+◌, ◌<◌, ◌≤◌, ◌^◌, Bool, true, false, cond, List, [], ◌∷◌, ◌++◌, length, take, drop, get_or, ap, sym, ◌∙◌, subst, refl, arith}
use Rattle.std.proofs.lemmas.List.{take_more}
use Rattle.std.specs.List.{AllByRecursion}
use Rattle.block_store.specs.declared.Config.{Config}
use Rattle.never_heap.specs.declared.Entry.{Entry}
use Rattle.never_heap.specs.Graphs.{Graph, WideGraph, with_graph, start_graph, count_of}
use Rattle.never_heap.specs.Histories.{HistoryItem, Started, Did, is_full, after, replay_from, replay}
use Rattle.never_heap.specs.Steps.{step}
use Rattle.never_heap.proofs.Lemmas.{count_of_start, in_range, replay_more, step_counts_one, step_threads, threads_of_start}
use Rattle.test_kit.specs.declared.reference_runs.Happened.{Happened}
use Rattle.test_kit.specs.reference_runs.Happenings.{item, history}
use Rattle.test_kit.specs.reference_runs.HistoryBounds.{IsHistoryInBounds, IsItemInBounds, CanFollow}

-- each item is in its ranges
pub each_at : (P : HistoryItem → Type 0) (h : List Happened) (i : ℕ) (d : Happened) → i < length h
    → AllByRecursion P (history h) → P (item (get_or h i d))
each_at P [] i d there each = absurd (omega arith)
each_at P (x ∷ h) zero d there each = each.0
each_at P (x ∷ h) (suc i) d there each = each_at P h i d (omega arith) each.1

-- what an item leaves has the same threads, and one object more of a thread at most
after_threads : (g : Graph) (i : HistoryItem)
    → length (after g i).mutators ≡ length g.mutators
after_threads g Started = refl
after_threads g (Did e) = chosen (is_full e.reply)
  where
    chosen : (b : Bool) → length (cond b g (step g e.thread e.command).0).mutators
        ≡ length g.mutators
    chosen true = refl
    chosen false = step_threads g e.thread e.command

after_counts : (c : Config) (g : Graph) (i : HistoryItem) (t : ℕ) → IsItemInBounds c i
    → length g.mutators ≡ c.threads → count_of (after g i) t ≤ count_of g t + 1
after_counts c g Started t fits threads = omega arith
after_counts c g (Did e) t fits threads = chosen (is_full e.reply)
  where
    chosen : (b : Bool) → count_of (cond b g (step g e.thread e.command).0) t ≤ count_of g t + 1
    chosen true = omega arith
    chosen false = step_counts_one g e.thread e.command t (omega (arith, fits.0))

-- a graph of these threads, each of which has made at most so many objects
record IsSmall (c : Config) (g : Graph) (k : ℕ) : Type 0 where
  threads : length g.mutators ≡ c.threads
  counts : (t : ℕ) → count_of g t ≤ k

small_after : (c : Config) (g : Graph) (k : ℕ) (i : HistoryItem) → IsItemInBounds c i
    → IsSmall c g k → IsSmall c (after g i) (k + 1)
small_after c g k i fits s = record {
  threads = after_threads g i ∙ s.threads;
  counts = λ t. (let more = after_counts c g i t fits s.threads in omega (arith, s.counts t));
}

can_now : (c : Config) (g : Graph) (k : ℕ) (i : HistoryItem) → IsItemInBounds c i
    → IsSmall c g k → k < 131072 → CanFollow g i
can_now c g k Started fits s few = tt
can_now c g k (Did e) fits s few = (
  omega (arith, fits.0, s.threads),
  in_range c e.command fits.1,
  omega (arith, s.counts e.thread),
)

can_from : (c : Config) (g : Graph) (k : ℕ) (h : List Happened) (i : ℕ) (d : Happened)
    → i < length h → AllByRecursion (IsItemInBounds c) (history h) → IsSmall c g k
    → k + length h ≤ 131072
    → CanFollow (replay_from g (history (take i h))) (item (get_or h i d))
can_from c g k [] i d there each s few = absurd (omega arith)
can_from c g k (x ∷ h) zero d there each s few =
    can_now c g k (item x) each.0 s (omega arith)
can_from c g k (x ∷ h) (suc i) d there each s few =
    can_from c (after g (item x)) (k + 1) h i d (omega arith) each.1
    (small_after c g k (item x) each.0 s) (omega arith)

pub history_length : (h : List Happened) → length (history h) ≡ length h
history_length [] = refl
history_length (x ∷ h) = omega (arith, history_length h)

-- the graph that the items before one leave can be followed by it
pub can_follow : (c : Config) (h : List Happened) (i : ℕ) (d : Happened) → i < length h
    → IsHistoryInBounds c (history h)
    → CanFollow (replay c (history (take i h))) (item (get_or h i d))
can_follow c h i d there b =
    let long = history_length h in
    can_from c (start_graph c) 0 h i d there b.each
    (record {
      threads = threads_of_start c;
      counts = λ t. (let none = count_of_start c t in omega arith);
    }) (omega (arith, b.few))

pub history_more : (h : List Happened) (x : Happened)
    → history (h ++ x ∷ []) ≡ history h ++ item x ∷ []
history_more [] x = refl
history_more (y ∷ h) x = ap (λ k. item y ∷ k) (history_more h x)

-- the items so far, and the next
pub taken_more : (h : List Happened) (i : ℕ) (d : Happened) → i < length h
    → history (take (i + 1) h) ≡ history (take i h) ++ item (get_or h i d) ∷ []
taken_more h i d there = ap history (take_more h i d there) ∙ history_more (take i h) (get_or h i d)

-- the graph goes on by the next item
pub replay_next : (c : Config) (h : List Happened) (i : ℕ) (d : Happened) → i < length h
    → replay c (history (take (i + 1) h))
    ≡ after (replay c (history (take i h))) (item (get_or h i d))
replay_next c h i d there =
    ap (replay c) (taken_more h i d there)
    ∙ replay_more (start_graph c) (history (take i h)) (item (get_or h i d))

-- a loop that goes over a history with the graph of the items so far
pub can_go : (c : Config) (g : Graph) (h : List Happened) (i : ℕ) (d : Happened)
    → g ≡ replay c (history (take i h)) → i < length h → IsHistoryInBounds c (history h)
    → CanFollow g (item (get_or h i d))
can_go c g h i d is there b =
    subst (λ (k : Graph). CanFollow k (item (get_or h i d))) (sym is) (can_follow c h i d there b)

pub has_gone : (c : Config) (g k : WideGraph) (h : List Happened) (i : ℕ) (d : Happened)
    → g.graph ≡ replay c (history (take i h)) → i < length h
    → k ≡ with_graph g (after g.graph (item (get_or h i d)))
    → k.graph ≡ replay c (history (take (i + 1) h))
has_gone c g k h i d is there next =
    ap (λ (w : WideGraph). w.graph) next
    ∙ ap (λ (w : Graph). after w (item (get_or h i d))) is
    ∙ sym (replay_next c h i d there)
