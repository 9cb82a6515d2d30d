-- Commands that a heap does one after the other: their replies, what they use of its life, and
-- where it stops.
use Rattle.std.specs.Prelude.{ℕ, ◌+◌, ◌≤◌, ◌≡◌, ◌⊎◌, List, [], ◌∷◌, length}
use Rattle.std.specs.List.{AllByRecursion}
use Rattle.rate_plan.specs.Rates.{IsRate}
use Rattle.never_heap.specs.declared.Command.{Command}
use Rattle.never_heap.specs.declared.Reply.{Reply}
use Rattle.never_heap.specs.declared.Reply.TheVariants.{Stored}
use Rattle.never_heap.specs.Bounds.{IsCommandInBounds}
use Rattle.never_heap.specs.RightWork.{units_owed}
use Rattle.heap_system.specs.Lives.{sum_after, objects_of, most_commands, most_objects, most_units}
use Rattle.control_heap.specs.declared.control.Refused.{Refused}
use Rattle.control_heap.specs.Controls.{Control, HasLeft, HasAnswered, asked, units}
use Rattle.control_heap.specs.Refusals.{IsRefused}
use Rattle.control_heap.specs.WayBack.{AllDone}

-- The heap did a command and is then n. The command was in bounds, and the life had room for it.
pub record HasDone (h : Control) (k : Command) (n : Control) : Type 0 where
  pub config : n.config ≡ h.config
  pub can : IsCommandInBounds h.config k × HasLeft h k
  pub count : asked n ≡ asked h + 1
  pub objects : n.objects ≡ h.objects + objects_of k
  pub reply : Reply
  pub answered : HasAnswered h k reply n

-- it did these commands in their order and is then z
abbrev pub HasDoneAll : Control → List Command → Control → Type 0
HasDoneAll h [] z = h ≡ z
HasDoneAll h (k ∷ ks) z = (n : Control) × HasDone h k n × HasDoneAll n ks z

-- the last of some replies, or this one where there is none
abbrev pub last_told : Reply → List Reply → Reply
last_told a [] = a
last_told a (y ∷ ys) = last_told y ys

-- it did these commands in their order, the last of their replies is this one, and it is then z
abbrev pub HasReplied : Control → List Command → Reply → Control → Type 0
HasReplied h ks reply z =
    (ys : List Reply) × AllDone h ks ys z × (reply ≡ last_told Stored ys)

-- It stopped at one of these commands and is then z: it refused the first for this reason, or did
-- it and stopped at one of the others.
abbrev pub RefusesOne : Control → List Command → Refused → Control → Type 0
RefusesOne h [] r z = ⊥
RefusesOne h (k ∷ ks) r z =
    ((h ≡ z) × IsRefused h k r) ⊎ ((n : Control) × HasDone h k n × RefusesOne n ks r z)

-- each of these commands is in bounds, and the life has room for all of them
pub record HasRoomFor (h : Control) (ks : List Command) : Type 0 where
  pub bounds : AllByRecursion (IsCommandInBounds h.config) ks
  pub count : asked h + length ks ≤ most_commands
  pub objects : h.objects + sum_after objects_of 0 ks ≤ most_objects
  pub units : (rate : ℕ) → IsRate h.config rate
      → units h + sum_after (units_owed h.config.width rate) 0 ks ≤ most_units

-- what these commands used of the life
pub record HasUsed (h : Control) (ks : List Command) (z : Control) : Type 0 where
  pub config : z.config ≡ h.config
  pub count : asked z ≡ asked h + length ks
  pub objects : z.objects ≡ h.objects + sum_after objects_of 0 ks
  pub units : (rate : ℕ) → IsRate h.config rate
      → units z ≡ units h + sum_after (units_owed h.config.width rate) 0 ks
