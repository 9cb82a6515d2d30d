-- Stamps of operations: when a worker had done so many, and begun no other.
use Rattle.std.specs.Prelude.{ℕ, ◌≤◌, ◌≡◌, ◌++◌, ◌^◌, ◌⊎◌, ◌∷◌, [], List, length, slice_index_or, take}
use Rattle.block_store.specs.declared.Config.{Config}
use Rattle.never_heap.specs.Histories.{part}
use Rattle.shared_heap.specs.declared.rules.Moment.{Moment}
use Rattle.shared_heap.specs.declared.rules.Moment.TheVariants as moments
use Rattle.shared_heap.specs.Shared.{IsCountUnlessWrapped, IsStartOf, history_of, invoked_in, stamps_in}
use Rattle.live_tables.specs.rows.Orders.{HaveOneOrder}
use Rattle.live_tables.specs.rows.RealTime.{ComeBefore}
use Rattle.live_tables.specs.rows.Rows.{Rows, commands_of}
use Rattle.live_tables.specs.rows.Workers.{RowWorkerState}

module _ {Op Row Answer S : Type 0} (a : Rows Op Row Answer S) where
  -- A stamp of this timeline has this number, unless 2^64 were drawn before it. Before it thread t
  -- has as many entries, and as many invocations, as these operations have commands. So if they are
  -- the first of its script, they are complete there, and the thread has begun no other.
  pub record IsStampAfter (timeline : List Moment) (t : ℕ) (ops : List Op) (n : ℕ) : Type 0 where
    pub past : List Moment
    pub drawn : IsStartOf (past ++ moments.Stamped ∷ []) timeline
    pub counts : IsCountUnlessWrapped n (stamps_in past)
    pub complete : length (part t (history_of past)) ≡ length (commands_of a ops)
    pub begun : length (invoked_in t past) ≡ length (commands_of a ops)

  -- In a closed table, a thread had done its first n operations at a stamp, and another its first m
  -- at one that is no less. Then the first n operations of the one come before all but the first m
  -- of the other. Or 2^64 stamps were drawn.
  abbrev pub StampsKeepOrder : Type 0
  StampsKeepOrder =
      (c : Config) (ws : List (RowWorkerState Op Answer)) (cycles : ℕ)
      (is : HaveOneOrder a c ws cycles) (t n u m i j : ℕ)
      → IsStampAfter is.timeline t (take n (slice_index_or is.scripts t [])) i
      → IsStampAfter is.timeline u (take m (slice_index_or is.scripts u [])) j → i ≤ j
      → ComeBefore is.scripts is.order t n u m ⊎ (2 ^ 64 ≤ stamps_in is.timeline)
