-- A command that is told of units is at its look, which decides it and has its reply.
use Rattle.std.proofs.Common.{◌⊎◌, ◌≡◌, ℕ, true, Some, None, refl, inl, inr}
use Rattle.block_store.specs.declared.Config.{Config}
use Rattle.block_store.specs.Places.{Extent, extent}
use Rattle.never_heap.specs.declared.Command.{Command}
use Rattle.never_heap.specs.declared.Command.TheVariants.{Idle}
use Rattle.never_heap.specs.declared.Reply.{Reply}
use Rattle.never_heap.specs.declared.Reply.TheVariants as replies
use Rattle.never_heap.specs.RightWork.{requested_units}
use Rattle.heap_machine.specs.declared.pass.Pass.{Pass}
use Rattle.barrier_steps.specs.declared.rows.FieldRow.{FieldRow}
use Rattle.barrier_steps.specs.declared.rows.FieldRow.TheVariants as rows
use Rattle.barrier_steps.specs.declared.rows.FieldStore.{FieldStore}
use Rattle.barrier_steps.specs.declared.rows.FieldStore.TheVariants as stores
use Rattle.barrier_steps.specs.declared.rows.Purpose.{Purpose}
use Rattle.barrier_steps.specs.declared.rows.Purpose.TheVariants as wants
use Rattle.barrier_steps.specs.Deciding.{is_deciding}
use Rattle.barrier_steps.specs.Fits.{is_store_of, is_wanted_by, is_row_of}
use Rattle.barrier_steps.specs.Rows.{field_reply, field_decided, row_got}

pub record Looks (e : Extent) (p : Pass) (k : Command) (r : FieldRow) (w : ℕ) : Type 0 where
  pub decides : is_deciding k r w ≡ true
  pub reply : Reply
  pub replied : field_reply (row_got e p k r w) ≡ Some reply

-- it loads no register, and stores nothing
loads_none : (u : ℕ) (wanted : Purpose) → is_wanted_by (Idle u) wanted ≡ true → ⊥
loads_none u wants.Copied own = cc
loads_none u _ own = cc

stores_none : (u : ℕ) (store : FieldStore) → is_store_of (Idle u) store ≡ true → ⊥
stores_none u (stores.Moved word) own = cc
stores_none u _ own = cc

pub looks : (c : Config) (p : Pass) (k : Command) (r : FieldRow) (w : ℕ)
    → is_row_of c p k r ≡ true → field_reply r ≡ None → (requested_units k ≡ 0) ⊎ Looks (extent c) p k r w
looks c p (Idle u) rows.IdleLook w own going = inr (record { decides = refl; reply = replies.Idle; replied = refl })
looks c p (Idle u) (rows.Answered reply) w own going = absurd cc
looks c p (Idle u) (rows.LoadRegister wanted) w own going = absurd (loads_none u wanted own)
looks c p (Idle u) (rows.Shade r store) w own going = absurd (stores_none u store own)
looks c p (Idle u) (rows.Store store) w own going = absurd (stores_none u store own)
looks c p (Idle u) _ w own going = absurd cc
looks c p _ r w own going = inl refl

-- once decided it has its reply
pub decided_untold : (c : Config) (p : Pass) (k : Command) (r : FieldRow) → is_row_of c p k r ≡ true
    → field_decided r ≡ true → field_reply r ≡ None → requested_units k ≡ 0
decided_untold c p (Idle u) (rows.Answered reply) own decided going = absurd cc
decided_untold c p (Idle u) (rows.Shade r store) own decided going = absurd (stores_none u store own)
decided_untold c p (Idle u) (rows.Store store) own decided going = absurd (stores_none u store own)
decided_untold c p (Idle u) _ own decided going = absurd cc
decided_untold c p _ r own decided going = refl
