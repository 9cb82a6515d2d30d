use Rattle.std.proofs.Common.{◌≡◌, ℕ, ◌<◌, length, slice_index_or}
use Rattle.rt_mail.specs.mail_post.NumberRows.{no_row, rows_of}
use Rattle.rt_mail.proofs.mail_post.rows.make_room.Given as goal

abbrev pub invariant-loop-t : goal.invariant-loop-t
invariant-loop-t l = (rows_of l.rows.items ≡ rows_of l.fn.rows.items) × (length l.rows.items
    ≡ length l.fn.rows.items)
    × ((k : ℕ) → k < l.t → 0 < (slice_index_or l.rows.items k no_row).room)
