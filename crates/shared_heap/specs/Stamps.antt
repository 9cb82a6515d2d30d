-- Stamps: numbers that workers compare, to know which of them has seen more of a heap's timeline.
use Rattle.std.specs.Prelude.{ℕ, ◌≤◌, ◌≡◌, ◌↔◌, ◌++◌, Bool, IsTrue, List, [], ◌∷◌}
use Rattle.shared_heap.specs.declared.rules.Moment.{Moment}
use Rattle.shared_heap.specs.declared.rules.Moment.TheVariants as moments
use Rattle.shared_heap.specs.Shared.{IsCountUnlessWrapped, IsStartOf, stamps_in}
use Rattle.shared_heap.specs.Workers.{HasSeenIts, WorkerState}

-- The worker drew a stamp with this number, and executed nothing. The timeline that it has seen now
-- ends with the stamp. What it had seen is a prefix of `past`, the timeline before that, and the
-- number counts the stamps of `past`, unless they exceed a word.
pub record HasDrawn (old : WorkerState) (n : ℕ) (new : WorkerState) : Type 0 where
  pub heap : new.heap ≡ old.heap
  pub thread : new.thread ≡ old.thread
  pub notes : new.notes ≡ old.notes
  pub events : new.span.own ≡ old.span.own
  pub past : List Moment
  pub timeline : new.timeline ≡ past ++ moments.Stamped ∷ []
  pub before : IsStartOf old.timeline past
  pub counts : IsCountUnlessWrapped n (stamps_in past)
  pub sound : HasSeenIts new

-- The worker drew a stamp of its own, and the answer is whether that is no less than this number.
pub record HasFollowed (old : WorkerState) (n : ℕ) (reached : Bool) (new : WorkerState) : Type 0
  where
    pub own : ℕ
    pub drawn : HasDrawn old own new
    pub told : IsTrue reached ↔ n ≤ own
